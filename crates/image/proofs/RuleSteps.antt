-- The tests of a record, against what the library's tests of its members answer.
use Rattle.std.proofs.Common.{◌≡◌, ℕ, zero, suc, Some, None, ◌+◌, ◌-◌, ◌<◌, ◌≤◌, Bool, true, false, not, ◌&&◌, cond, List, [], ◌∷◌, length, get_or, drop, take, leb, ltb, eqb, refl, sym, arith, add-one, length-drop}
use Rattle.std.specs.Bool.{MatchBool}
use Rattle.std.specs.Cmp.Lexicographic.{slice_partial_cmp}
use Rattle.std.specs.List.{list_all, IsAllAdjacentAnswer}
use Rattle.std.specs.List.Sorted.{IsNonDecreasing}
use Rattle.std.specs.Ordering.{is_some_and, is_le, is_ge, nat_cmp}
use Rattle.std.proofs.lemmas.Bool.{and_from, and_left, and_right, le-leb, lt-leb, not-true, not-false}
use Rattle.std.proofs.lemmas.Bool.Decides.{nat_tests}
use Rattle.std.proofs.lemmas.Cmp.{same_from_slice_cmp_tested}
use Rattle.std.proofs.Math.Nat.{sub-zero}
use Rattle.std.proofs.lemmas.List.{take_all}
use Rattle.std.proofs.lemmas.List.Recursion.{same_from_clauses}
use Rattle.std.proofs.lemmas.List.Sorted.{non_decreasing_from_is_sorted}
use Rattle.paper.specs.Image.{byte, ascends, all_below, record_before, record_right, record_of, record_size, record_fault, rules_fault}
use Rattle.paper.proofs.Records.{spot_on, spot_here, record_on, record_stop, record_right_lem}

-- a list that does not decrease ascends from any number that its first is no less than
from_sorted : (least : ℕ) (s : List ℕ) → ((k : ℕ) → k < length s → least ≤ get_or s k 0) → IsNonDecreasing s → ascends least s ≡ true
unfolding ascends
from_sorted least [] first up = refl
from_sorted least (a ∷ s) first up =
    and_from (leb least a) (ascends a s) (le-leb least a (first 0 (omega arith)))
    (from_sorted a s (λ k l. up 0 (suc k) 0 (omega arith) (omega arith)) (λ i j d l m. up (suc i) (suc j) d (omega arith) (omega arith)))

-- one that falls somewhere does not
falls_at : (least : ℕ) (s : List ℕ) (k : ℕ) → suc k < length s → get_or s (suc k) 0 < get_or s k 0 → ascends least s ≡ false
unfolding ascends
falls_at least [] k l h = absurd (let z : ⊥ = omega arith in z)
falls_at least (a ∷ []) k l h = absurd (let z : ⊥ = omega arith in z)
falls_at least (a ∷ b ∷ s) zero l h = and_right (leb least a) (leb a b && ascends b s) (and_left (leb a b) (ascends b s) (lt-leb a b h))
falls_at least (a ∷ b ∷ s) (suc k) l h = and_right (leb least a) (ascends a (b ∷ s)) (falls_at a (b ∷ s) k (omega arith) h)

-- what `is_sorted` answers
pub ascends_is : (s : List ℕ) (r : Bool) → IsAllAdjacentAnswer (λ x y b. is_some_and is_le (Some (nat_cmp x y)) ≡ b) s r → r ≡ ascends 0 s
ascends_is s r h = go r (non_decreasing_from_is_sorted s r h)
  where
    go : (r : Bool) → MatchBool r (IsNonDecreasing s) ((k : ℕ) × (k + 1 < length s) × ((d : ℕ) → get_or s (k + 1) d < get_or s k d)) → r ≡ ascends 0 s
    go true up = sym (from_sorted 0 s (λ k l. omega arith) up)
    go false w = sym (falls_at 0 s w.0 (rw add-one at w.1) (rw add-one at (w.2 0)))

-- what `all` answers
pub all_below_is : (limit : ℕ) (s : List ℕ) → list_all (λ a. ltb a limit) s ≡ all_below limit s
unfolding all_below
all_below_is limit = same_from_clauses (list_all (λ a. ltb a limit)) (all_below limit) (λ a r. ltb a limit && r) refl (λ _ _. refl) (λ _ _. refl)

-- what `>=` answers of two records
pub before_is : (s t : List ℕ) (r : Bool) → r ≡ is_some_and is_ge (slice_partial_cmp (λ x y. Some (nat_cmp x y)) s t) → r ≡ not (record_before s t)
unfolding record_before
before_is =
    same_from_slice_cmp_tested nat_cmp is_ge (λ s t. not (record_before s t)) refl (λ _ _. refl) (λ _ _. refl) (λ x y xs ys o h. grind (arith, nat_tests))

-- One step of the search for the first rule at fault, where h of so many records are passed.

module _ (terminals symbols : ℕ) where
  pub rules_start : (r : List ℕ) → 1 ≤ length r → byte r 0 ≤ 96
      → rules_fault terminals symbols r ≡ record_fault terminals symbols (byte r 0 - 0) 0 [] (take (length r - 1) (drop 1 r))
  unfolding rules_fault
  rules_start r l m =
      rw (sub-zero (byte r 0), take_all (length r - 1) (drop 1 r) (omega (arith, length-drop 1 r)))
      (spot_on (leb 1 (length r) && leb (byte r 0) 96) 0 (record_fault terminals symbols (byte r 0) 0 [] (drop 1 r))
      (and_from (leb 1 (length r)) (leb (byte r 0) 96) (le-leb 1 (length r) l) (le-leb (byte r 0) 96 m)))

  pub rules_empty : (r : List ℕ) → length r ≡ 0 → rules_fault terminals symbols r ≡ Some 0
  unfolding rules_fault
  rules_empty r e =
      spot_here (leb 1 (length r) && leb (byte r 0) 96) 0 (record_fault terminals symbols (byte r 0) 0 [] (drop 1 r))
      (and_left (leb 1 (length r)) (leb (byte r 0) 96) (lt-leb 1 (length r) (omega arith)))

  pub rules_many : (r : List ℕ) → 96 < byte r 0 → rules_fault terminals symbols r ≡ Some 0
  unfolding rules_fault
  rules_many r l =
      spot_here (leb 1 (length r) && leb (byte r 0) 96) 0 (record_fault terminals symbols (byte r 0) 0 [] (drop 1 r))
      (and_right (leb 1 (length r)) (leb (byte r 0) 96) (lt-leb (byte r 0) 96 l))

  pub rules_on : (count h : ℕ) (last r : List ℕ) → h < count → record_right terminals symbols r ≡ true → not (record_before last (record_of r)) ≡ false
      → record_fault terminals symbols (count - h) h last r ≡ record_fault terminals symbols (count - (h + 1)) (h + 1) (record_of r) (drop (record_size r) r)
  rules_on count h last r l right before =
      let e : count - h ≡ suc (count - (h + 1)) = omega arith in
      rw (e, add-one h) (record_on terminals symbols (count - suc h) h last r right (not-false (record_before last (record_of r)) before))

  rules_stop : (count h : ℕ) (last r : List ℕ) → h < count → (record_right terminals symbols r && record_before last (record_of r)) ≡ false
      → record_fault terminals symbols (count - h) h last r ≡ Some h
  rules_stop count h last r l wrong =
      let e : count - h ≡ suc (count - (h + 1)) = omega arith in
      rw e (record_stop terminals symbols (count - (h + 1)) h last r wrong)

  pub rules_wrong : (count h : ℕ) (last r : List ℕ) → h < count → record_right terminals symbols r ≡ false → record_fault terminals symbols (count - h) h last r ≡ Some h
  rules_wrong count h last r l e = rules_stop count h last r l (and_left (record_right terminals symbols r) (record_before last (record_of r)) e)

  pub rules_early : (count h : ℕ) (last r : List ℕ) → h < count → not (record_before last (record_of r)) ≡ true → record_fault terminals symbols (count - h) h last r ≡ Some h
  rules_early count h last r l e =
      rules_stop count h last r l (and_right (record_right terminals symbols r) (record_before last (record_of r)) (not-true (record_before last (record_of r)) e))

  pub rules_end : (count h : ℕ) (last r : List ℕ) → h ≡ count → record_fault terminals symbols (count - h) h last r ≡ cond (eqb (length r) 0) None (Some count)
  unfolding record_fault
  rules_end count h last r e = let f : count - h ≡ 0 = omega arith in rw (f, e)

-- a right record stands there whole
pub record_fits : (terminals symbols : ℕ) (r : List ℕ) → record_right terminals symbols r ≡ true → record_size r ≤ length r
record_fits terminals symbols r h = (record_right_lem terminals symbols r h).fits

pub ruleset rule_steps = (nat_tests, rules_start, rules_empty, rules_many, rules_on, rules_wrong, rules_early, rules_end, record_fits, before_is)
