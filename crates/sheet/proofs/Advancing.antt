-- Taking a symbol from the entries of a list before, one cell after the other.
-- Assumes nothing.
use Rattle.std.proofs.Common.{◌≡◌, ℕ, suc, ◌+◌, ◌-◌, ◌*◌, ◌≤◌, ◌<◌, ◌⊎◌, inl, inr, true, false, List, length, get_or, sym, ◌∙◌, ap, subst, arith}
use Rattle.std.proofs.Math.Seq.{slice, length-slice}
use Rattle.std.proofs.lemmas.Bool.{cases_lt}
use Rattle.paper.specs.Grammar.{Grammar, IsGrammar, rule_count, members}
use Rattle.paper.specs.Image.{grammar_of}
use Rattle.paper.specs.Entry.{Entry, Found, may_take, taking}
use Rattle.paper.specs.Sheet.{word, list_at, mask}
use Rattle.paper.specs.Building.{sheet_of}
use Rattle.paper.specs.Demands.{IsFit}
use Rattle.paper.proofs.Universe.{found_possible}
use Rattle.tables.specs.Machine.{IsByte, Leaves, may_be_taken}
use Rattle.tables.specs.Masks.{entry_with}
use Rattle.tables.proofs.Masks.{found_byte, proper_byte}
use Rattle.sheet.specs.Cells.{key}
use Rattle.sheet.specs.Growing.{Holds, IsListOf, Reaches, Advanced}
use Rattle.sheet.specs.Grown.{start_of, cells_of, IsState, IsGrowth}
use Rattle.sheet.specs.declared.grow.Lists.{Lists}
use Rattle.sheet.proofs.Inserting.{at_place}
use Rattle.sheet.proofs.Growth.{grown_none, grown_more, list_within, entry_at, list_length, cell_word, found_place, entry_found}

-- The cell at `at`, of list i, says rule h, origin o and byte m, and so the entry that stands at this place of the list.
pub record IsRead (image row : List ℕ) (lists : Lists) (i at h o m : ℕ) : Type 0 where
  pub start_le : start_of lists i ≤ at
  pub is_rule : h < rule_count (grammar_of image)
  pub byte : IsByte (grammar_of image) h m
  pub origin_le : o ≤ i
  pub entry_is : entry_with (grammar_of image) h o m ≡ entry_at (grammar_of image) row i (at - start_of lists i)
  pub found : Found (grammar_of image) row i (entry_with (grammar_of image) h o m)

entry_read : {image row : List ℕ} {lists : Lists} {i at h o m : ℕ} → IsGrammar (grammar_of image) → i ≤ 64 → start_of lists i ≤ at
    → Found (grammar_of image) row i (entry_at (grammar_of image) row i (at - start_of lists i)) → o < 256 → m < 256
    → word (grammar_of image) (entry_at (grammar_of image) row i (at - start_of lists i)) ≡ h * 65536 + o * 256 + m → IsRead image row lists i at h o m
entry_read {image} {row} {lists} {i} {at} {h} {o} {m} is few low f p q w =
    let e : Entry = entry_at (grammar_of image) row i (at - start_of lists i) in
    let b = found_byte f in
    let k = found_possible f in
    let n : ℕ = mask (members (grammar_of image) e.rule) e.rest in
    let small : n < 256 = proper_byte (grammar_of image) is k.is_rule b.proper in
    let same : h * 65536 + o * 256 + m ≡ e.rule * 65536 + e.origin * 256 + n = sym w ∙ b.is_word in
    let origin_le : e.origin ≤ i = k.origin_le in
    let rule : h ≡ e.rule = omega arith in
    let origin : o ≡ e.origin = omega arith in
    let byte : m ≡ n = omega arith in
    let is_entry : entry_with (grammar_of image) h o m ≡ e = rw (rule, origin, byte) b.is_entry in
    record { start_le = low; is_rule = rw rule k.is_rule; byte = rw (rule, byte) b.proper; origin_le = rw origin k.origin_le; entry_is = is_entry; found = rw is_entry f }

-- what is left when a symbol is taken is what the byte says that is left
leaves_is : {g : Grammar} {row : List ℕ} {i j h o m x n : ℕ} → Found g row i (entry_with g h o m) → Reaches g row i j x → Leaves g h x m n
    → entry_with g h o n ≡ taking x (entry_with g h o m)
leaves_is f r l = rw (← l.becomes) (found_byte (r.found _ f l.may)).is_entry

-- ## The cells before `at` are done

pub record Advancing (image row : List ℕ) (i x at : ℕ) (old : List ℕ) (before : Lists) (new : List ℕ) (after : Lists) : Type 0 where
  pub grown : IsGrowth image row 0 i old before new after
  pub taken : (k : ℕ) → start_of before i + k < at → may_take (grammar_of image) x (entry_at (grammar_of image) row i k).rest ≡ true
      → Holds (grammar_of image) (cells_of new after) (taking x (entry_at (grammar_of image) row i k))

pub advancing_none : {image row words : List ℕ} {lists : Lists} (i x : ℕ) → IsState image row words lists → Advancing image row i x (start_of lists i) words lists words lists
advancing_none i x s = record { grown = grown_none 0 i s; taken = λ k l. absurd (omega arith) }

module _ {image row old new : List ℕ} {before after : Lists} {i x at from : ℕ} (fit : IsFit image row) (v : Advancing image row i x at old before new after) (earlier : i < before.place) (same : from ≡ i) where
  starts_same : (k : ℕ) → start_of after k ≡ start_of before k
  starts_same k = ap (λ s. get_or s k 0) v.grown.starts_are

  still_earlier : i < after.place
  still_earlier = omega (arith, v.grown.place_is)

  done : IsListOf (grammar_of image) row i (slice (start_of before i) (start_of before (suc i)) new)
  done = rw (← starts_same i, ← starts_same (suc i)) (v.grown.state.done i still_earlier)

  within : start_of before (suc i) ≤ length new
  within = omega (arith, list_within v.grown.state i still_earlier, starts_same (suc i))

  long : length (slice (start_of before i) (start_of before (suc i)) new) ≡ start_of before (suc i) - start_of before i
  long = length-slice (start_of before i) (start_of before (suc i)) new within

  end_is : get_or before.starts (from + 1) 0 ≡ start_of before (suc i)
  end_is = let e : from + 1 ≡ suc i = omega arith in ap (start_of before) e

  -- all of the list is done
  pub advanced_all : get_or before.starts (from + 1) 0 ≤ at → Advanced (grammar_of image) row i x (cells_of new after)
  advanced_all end_le = record { has = λ e f m. all e m (found_place fit f) }
    where
      all : (e : Entry) → may_take (grammar_of image) x e.rest ≡ true
          → (k : ℕ) × (k < length (list_at (sheet_of (grammar_of image) row) i)) × (entry_at (grammar_of image) row i k ≡ e)
          → Holds (grammar_of image) (cells_of new after) (taking x e)
      all e m (k, l, is) = rw (← is) (v.taken k (omega (arith, end_is, long, list_length done)) (rw is m))

  module _ (start_le : get_or before.starts from 0 ≤ at) (end_lt : at < get_or before.starts (from + 1) 0) where
    low : start_of before i ≤ at
    low = rw same at start_le

    pub at_within : at < length new
    at_within = omega (arith, end_is, within)

    -- what the cell says
    pub cell_read : {h o m : ℕ} → o < 256 → m < 256 → key (get_or new at 0) ≡ h * 65536 + o * 256 + m → IsRead image row before i at h o m
    cell_read p q w =
        let k : ℕ = at - start_of before i in
        let e : start_of before i + k ≡ at = omega (arith, low) in
        let l : k < length (slice (start_of before i) (start_of before (suc i)) new) = omega (arith, low, end_is, long) in
        let here = at_place (start_of before i) k (start_of before (suc i)) new (omega (arith, end_is)) in
        entry_read fit.is_grammar (omega (arith, v.grown.state.place_le, fit.short, still_earlier)) low (entry_found fit k (omega (arith, list_length done))) p q
        (sym (cell_word done k l) ∙ (ap key (here ∙ ap (λ n. get_or new n 0) e) ∙ w))

module _ {image row old new : List ℕ} {before after : Lists} {i x at h o m : ℕ} (v : Advancing image row i x at old before new after) (r : IsRead image row before i at h o m) where
  -- the cells before this one are done, and this one
  step : {newer : List ℕ} {later : Lists} → IsGrowth image row 0 i old before newer later
      → ((e : Entry) → Holds (grammar_of image) (cells_of new after) e → Holds (grammar_of image) (cells_of newer later) e)
      → (may_be_taken (grammar_of image) h m x ≡ true → Holds (grammar_of image) (cells_of newer later) (taking x (entry_with (grammar_of image) h o m)))
      → Advancing image row i x (at + 1) old before newer later
  step {newer} {later} grown keeps taken = record { grown = grown; taken = λ k l. go k l (cases_lt (start_of before i + k) at) }
    where
      go : (k : ℕ) → start_of before i + k < at + 1 → (start_of before i + k < at) ⊎ (at ≤ start_of before i + k)
          → may_take (grammar_of image) x (entry_at (grammar_of image) row i k).rest ≡ true
          → Holds (grammar_of image) (cells_of newer later) (taking x (entry_at (grammar_of image) row i k))
      go k l (inl d) may = keeps _ (v.taken k d may)
      go k l (inr d) may =
          let e : k ≡ at - start_of before i = omega (arith, r.start_le) in
          let here : entry_at (grammar_of image) row i k ≡ entry_with (grammar_of image) h o m = ap (entry_at (grammar_of image) row i) e ∙ sym r.entry_is in
          rw here (taken (subst (λ e. may_take (grammar_of image) x e.rest ≡ true) here may))

  -- the symbol may not be taken from this one
  pub advancing_past : may_be_taken (grammar_of image) h m x ≡ false → Advancing image row i x (at + 1) old before new after
  advancing_past not = step v.grown (λ e n. n) (λ may. let z : ⊥ = cc in absurd z)

  -- it may be, and is
  module _ {n : ℕ} (reaches : Reaches (grammar_of image) row i before.place x) (l : Leaves (grammar_of image) h x m n) where
    pub taken_found : Found (grammar_of image) row after.place (entry_with (grammar_of image) h o n)
    taken_found = rw (v.grown.place_is, leaves_is r.found reaches l) (reaches.found _ r.found l.may)

    pub advancing_more : {newer : List ℕ} {later : Lists} → IsGrowth image row o o new after newer later
        → Holds (grammar_of image) (cells_of newer later) (entry_with (grammar_of image) h o n) → Advancing image row i x (at + 1) old before newer later
    advancing_more grown has =
        step (grown_more v.grown (omega arith) r.origin_le grown) grown.grew.keeps (λ may. rw (← leaves_is r.found reaches l) has)
