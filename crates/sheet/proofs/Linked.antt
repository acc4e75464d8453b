-- Causes from list to list, while the sheet is built.
-- Assumes nothing.
use Rattle.std.proofs.Common.{◌≡◌, ◌⊎◌, inl, inr, ℕ, suc, ◌+◌, ◌≤◌, ◌<◌, List, [], length, set, take, sym, ap, ◌∙◌, subst, arith}
use Rattle.std.proofs.lemmas.Bool.{cases_lt}
use mathlib.Core.List.{Memᴰ}
use Rattle.paper.specs.Grammar.{Grammar}
use Rattle.paper.specs.Image.{grammar_of}
use Rattle.paper.specs.Demands.{IsFit}
use Rattle.sheet.specs.Causes.{Cause}
use Rattle.sheet.specs.Grown.{start_of, base_of, cells_of}
use Rattle.sheet.specs.Stages.{list_in, starts_with, IsCausedList}
use Rattle.sheet.specs.declared.grow.Lists.{Lists}
use Rattle.sheet.proofs.Arriving.{list_same}
use Rattle.sheet.proofs.Growth.{entries_rise}
use Rattle.sheet.proofs.Ongoing.{list_before}
use Rattle.sheet.proofs.Opening.{IsLaying}

-- ---- causes stay while the lists up to theirs do

module _ {lists now : ℕ → List ℕ} {e : ℕ} (same : (k : ℕ) → k ≤ e → now k ≡ lists k) where
  here : {k c : ℕ} → k ≤ e → Memᴰ c (lists k) → Memᴰ c (now k)
  here {k} {c} l n = subst (Memᴰ c) (sym (same k l)) n

  cause_still : {g : Grammar} {row : List ℕ} {c : ℕ} → Cause g row lists e c → Cause g row now e c
  cause_still (Cause.token before p s l n b) = Cause.token before p s l (here (omega arith) n) b
  cause_still (Cause.part x h p f l m n b o z u v) = Cause.part x h p f l m (here m n) b (here (omega arith) o) z u v

  pub caused_still : {g : Grammar} {row : List ℕ} → IsCausedList g row lists e → IsCausedList g row now e
  caused_still v = record {
    caused = record { each = λ c n some. cause_still (v.caused.each c (subst (Memᴰ c) (same e (omega arith)) n) some) };
    small = λ c n. v.small c (subst (Memᴰ c) (same e (omega arith)) n);
  }

-- ---- from list to list

-- The lists before list j are caused, and list j has no cells yet.
pub record IsLinked (image row : List ℕ) (j : ℕ) (words : List ℕ) (lists : Lists) : Type 0 where
  pub caused : (e : ℕ) → e < j → IsCausedList (grammar_of image) row (list_in lists.starts words) e
  pub none : cells_of words lists ≡ []

pub linked_first : {image row words : List ℕ} {lists : Lists} → cells_of words lists ≡ [] → IsLinked image row 0 words lists
linked_first none = record { caused = λ e l. absurd (let z : ⊥ = omega arith in z); none = none }

-- List j has grown.
module _ {image row old : List ℕ} {lists : Lists} {j : ℕ} (new : List ℕ) (grown : Lists) (fit : IsFit image row) (so : IsLaying image row j old lists) (linked : IsLinked image row j old lists)
    (place : grown.place ≡ lists.place) (starts : grown.starts ≡ lists.starts) (earlier : take (base_of lists) new ≡ take (base_of lists) old)
    (caused : IsCausedList (grammar_of image) row (list_in (starts_with grown) new) grown.place) where
  linked_with : (e : ℕ) → e ≤ j → (e < j) ⊎ (j ≤ e) → IsCausedList (grammar_of image) row (list_in (starts_with grown) new) e
  linked_with e l (inr m) = let same : grown.place ≡ e = let p = so.place in omega arith in subst (IsCausedList (grammar_of image) row (list_in (starts_with grown) new)) same caused
  linked_with e l (inl m) = caused_still same (linked.caused e m)
    where
      same : (k : ℕ) → k ≤ e → list_in (starts_with grown) new k ≡ list_in lists.starts old k
      same k n =
          let p = so.place in
          let state = so.state in
          let room : suc grown.place < length grown.starts = omega (arith, so.long, ap length starts, state.place_le, fit.short) in
          let rises : start_of lists (suc k) ≤ base_of lists
          = omega (arith, state.starts_are (suc k) (omega arith), state.starts_are lists.place (omega arith), entries_rise (grammar_of image) row (suc k) lists.place (omega arith)) in
          list_before new grown room k (omega arith) ∙ (ap (λ t. list_in t new k) starts ∙ list_same lists.starts (base_of lists) k old new earlier rises)

  pub linked_next : {next : Lists} → next.place ≡ grown.place + 1 → next.starts ≡ set grown.starts next.place grown.end → cells_of new next ≡ [] → IsLinked image row (j + 1) new next
  linked_next {next} next_place next_starts none =
      let at : next.place ≡ suc grown.place = omega arith in
      let with : next.starts ≡ starts_with grown = next_starts ∙ ap (λ n. set grown.starts n grown.end) at in
      record {
        caused = λ e l. subst (λ t. IsCausedList (grammar_of image) row (list_in t new) e) (sym with) (linked_with e (omega arith) (cases_lt e j));
        none = none;
      }

  pub linked_end : length row ≤ j → (e : ℕ) → e ≤ length row → IsCausedList (grammar_of image) row (list_in (set grown.starts (length row + 1) grown.end) new) e
  linked_end last e l =
      let p = so.place in
      let state = so.state in
      let at : suc grown.place ≡ length row + 1 = omega (arith, state.place_le) in
      subst (λ n. IsCausedList (grammar_of image) row (list_in (set grown.starts n grown.end) new) e) at (linked_with e (omega arith) (cases_lt e j))
