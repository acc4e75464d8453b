-- Taking each symbol that is finished from an origin, once.
-- Assumes nothing.
use Rattle.std.proofs.Common.{◌≡◌, ◌≢◌, ℕ, ◌+◌, ◌*◌, ◌%◌, ◌^◌, ◌<◌, List, get_or, refl, sym, arith, bit_or, Fits, w64}
use lib.Count.{ones}
use Rattle.paper.specs.Bits.{bit_at}
use Rattle.paper.specs.Grammar.{IsGrammar}
use Rattle.paper.specs.Image.{grammar_of}
use Rattle.paper.specs.Entry.Found.{complete}
use Rattle.paper.proofs.Bits.{bit_zero, zero_ones}
use Rattle.paper.proofs.Universe.{found_possible}
use Rattle.sheet.specs.Growing.{FinishedFrom, Reaches, Advanced, Completed}
use Rattle.sheet.specs.Grown.{cells_of, IsState, IsGrowth}
use Rattle.sheet.specs.declared.grow.Lists.{Lists}
use Rattle.sheet.proofs.Growth.{grown_none, grown_more, advanced_still}
use Rattle.sheet.proofs.Choosing.{ones_more, zero_not_done, one_done}

-- Each symbol that is done was taken from the entries of list i.
pub record Completing (image row : List ℕ) (i done stage : ℕ) (old : List ℕ) (before : Lists) (new : List ℕ) (after : Lists) : Type 0 where
  pub grown : IsGrowth image row 0 i old before new after
  pub stage_is : stage ≡ ones done
  pub zero_not : bit_at 0 done ≡ 0
  pub advanced : (x : ℕ) → bit_at x done ≡ 1 → Advanced (grammar_of image) row i x (cells_of new after)

pub completing_none : {image row words : List ℕ} {lists : Lists} (i : ℕ) → IsState image row words lists → Completing image row i 0 0 words lists words lists
completing_none i s = record { grown = grown_none 0 i s; stage_is = sym ((zero_ones 0).1 refl); zero_not = bit_zero 0; advanced = λ x e. absurd (let z : ⊥ = omega (arith, bit_zero x) in z) }

-- a symbol that is finished from origin i reaches to the list that grows
pub finished_reaches : {image row words : List ℕ} {lists : Lists} {i x : ℕ} → IsState image row words lists → FinishedFrom (grammar_of image) (cells_of words lists) i x
    → Reaches (grammar_of image) row i lists.place x
finished_reaches {image} {row} {lists = lists} s f = record {
  found = λ e h m. rw (← f.left_is) (complete {e = e} {f = f.entry} (rw f.origin_is h) (s.growing.sound f.entry f.stands) f.is_finished (rw f.left_is m));
}

module _ {image row old new : List ℕ} {before after : Lists} {i done stage : ℕ} (v : Completing image row i done stage old before new after) (earlier : i < before.place) {from : ℕ} (same : from ≡ i) where
  still_earlier : i < after.place
  still_earlier = omega (arith, v.grown.place_is)

  pub next_finished : {x : ℕ} → bit_at x (get_or after.found from 0) ≡ 1 → FinishedFrom (grammar_of image) (cells_of new after) i x
  next_finished {x} e = (v.grown.state.growing.found_is i x still_earlier).0 (rw same at e)

  pub next_reaches : {x : ℕ} → bit_at x (get_or after.found from 0) ≡ 1 → Reaches (grammar_of image) row i after.place x
  next_reaches {x} e = finished_reaches v.grown.state (next_finished e)

  -- no terminal is finished
  pub next_some : IsGrammar (grammar_of image) → {x : ℕ} → bit_at x (get_or after.found from 0) ≡ 1 → x ≢ 0
  next_some is {x} e z =
      let f = next_finished e in
      let k = found_possible (v.grown.state.growing.sound f.entry f.stands) in
      let n = is.left_is f.entry.rule k.is_rule in
      omega (arith, n.above, f.left_is, is.a_terminal)

  -- all that is finished is done
  pub completed_all : ((x : ℕ) → bit_at x (get_or after.found from 0) ≡ 1 → bit_at x done ≡ 1) → Completed (grammar_of image) row i (cells_of new after)
  completed_all all = record { each = λ x f. v.advanced x (all x (rw same ((v.grown.state.growing.found_is i x still_earlier).1 f))) }

-- one more symbol is taken
pub completing_more : {image row old mid new : List ℕ} {before between after : Lists} {i done stage x : ℕ} → Completing image row i done stage old before mid between
    → Fits w64 done → x < 64 → bit_at x done ≡ 0 → x ≢ 0
    → IsGrowth image row 0 i mid between new after → Advanced (grammar_of image) row i x (cells_of new after)
    → Completing image row i (bit_or done (1 * 2 ^ x % 18446744073709551616)) (stage + 1) old before new after
completing_more {x = x} v fits small fresh some w a = record {
  grown = grown_more v.grown (omega arith) (omega arith) w;
  stage_is = omega (arith, v.stage_is, ones_more fits small fresh);
  zero_not = zero_not_done fits small fresh v.zero_not some;
  advanced = one_done fits small fresh v.advanced (λ y b. advanced_still w.grew b) a;
}
