-- The tests of the order body, from what is left of its bytes.
use Rattle.std.proofs.Common.{◌≡◌, ℕ, suc, Some, None, ◌≢◌, sym, ◌+◌, ◌*◌, ◌/◌, ◌%◌, ◌<◌, ◌≤◌, false, ◌&&◌, List, [], ◌∷◌, length, get_or, drop, leb, ltb, refl, ◌∙◌, ap, arith, add-one}
use Rattle.std.proofs.lemmas.Bool.{and_parts, and_left, and_right, lt-leb, le-ltb, ltb-true, leb-true}
use Rattle.std.proofs.lemmas.List.{drop_more, drop_all}
use Rattle.paper.specs.Image.{pair_fault}
use Rattle.paper.proofs.Records.{goes_on}
use Rattle.paper.proofs.Order.{pair_on, pair_stop}

two_more : (s : List ℕ) (k : ℕ) → k < length s / 2 → drop (2 * k) s ≡ get_or s (2 * k) 0 ∷ get_or s (2 * k + 1) 0 ∷ drop (2 * (k + 1)) s
two_more s k l =
    let e : 2 * (k + 1) ≡ 2 * k + 1 + 1 = omega arith in
    rw e (drop_more s (2 * k) 0 (omega arith) ∙ ap (λ (t : List ℕ). get_or s (2 * k) 0 ∷ t) (drop_more s (2 * k + 1) 0 (omega arith)))

module _ (symbols k least : ℕ) (s : List ℕ) where
  abbrev earlier : ℕ
  earlier = get_or s (2 * k) 0

  abbrev later : ℕ
  later = get_or s (2 * k + 1) 0

  pub pairs_on : k < length s / 2 → earlier < symbols → later < symbols → least ≤ earlier * 256 + later
      → pair_fault symbols k least (drop (2 * k) s) ≡ pair_fault symbols (k + 1) (earlier * 256 + later + 1) (drop (2 * (k + 1)) s)
  pairs_on l p q h =
      let rest = drop (2 * (k + 1)) s in
      ap (pair_fault symbols k least) (two_more s k l) ∙ pair_on symbols k least earlier later rest p q h
      ∙ ap (λ (n : ℕ). pair_fault symbols n (suc (earlier * 256 + later)) rest) (sym (add-one k))
      ∙ ap (λ (n : ℕ). pair_fault symbols (k + 1) n rest) (sym (add-one (earlier * 256 + later)))

  pairs_stop : k < length s / 2 → (ltb earlier symbols && (ltb later symbols && leb least (earlier * 256 + later))) ≡ false
      → pair_fault symbols k least (drop (2 * k) s) ≡ Some k
  pairs_stop l wrong = ap (pair_fault symbols k least) (two_more s k l) ∙ pair_stop symbols k least earlier later (drop (2 * (k + 1)) s) wrong

  pub earlier_strange : k < length s / 2 → symbols ≤ earlier → pair_fault symbols k least (drop (2 * k) s) ≡ Some k
  earlier_strange l h = pairs_stop l (and_left (ltb earlier symbols) (ltb later symbols && leb least (earlier * 256 + later)) (le-ltb earlier symbols h))

  pub later_strange : k < length s / 2 → symbols ≤ later → pair_fault symbols k least (drop (2 * k) s) ≡ Some k
  later_strange l h =
      pairs_stop l
      (and_right (ltb earlier symbols) (ltb later symbols && leb least (earlier * 256 + later))
      (and_left (ltb later symbols) (leb least (earlier * 256 + later)) (le-ltb later symbols h)))

  pub pair_early : k < length s / 2 → earlier * 256 + later < least → pair_fault symbols k least (drop (2 * k) s) ≡ Some k
  pair_early l h =
      pairs_stop l
      (and_right (ltb earlier symbols) (ltb later symbols && leb least (earlier * 256 + later))
      (and_right (ltb later symbols) (leb least (earlier * 256 + later)) (lt-leb least (earlier * 256 + later) h)))

  pub pairs_even : length s / 2 ≤ k → length s % 2 ≡ 0 → pair_fault symbols k least (drop (2 * k) s) ≡ None
  unfolding pair_fault
  pairs_even l e = ap (pair_fault symbols k least) (drop_all (2 * k) s (omega arith))

  pub pairs_odd : length s / 2 ≡ k → length s % 2 ≢ 0 → pair_fault symbols k least (drop (2 * k) s) ≡ Some k
  unfolding pair_fault
  pairs_odd l e =
      ap (pair_fault symbols k least)
      (drop_more s (2 * k) 0 (omega arith) ∙ ap (λ (t : List ℕ). earlier ∷ t) (drop_all (2 * k + 1) s (omega arith)))

pub ruleset pair_steps = (pairs_on, earlier_strange, later_strange, pair_early, pairs_even, pairs_odd)

-- what is sound for few symbols is sound for more
pub pair_fault_wider : (symbols wider k least : ℕ) (s : List ℕ) → symbols ≤ wider → pair_fault symbols k least s ≡ None → pair_fault wider k least s ≡ None
unfolding pair_fault
pair_fault_wider symbols wider k least [] w h = refl
pair_fault_wider symbols wider k least (a ∷ []) w h = h
pair_fault_wider symbols wider k least (a ∷ b ∷ s) w h =
    let e = goes_on (ltb a symbols && (ltb b symbols && leb least (a * 256 + b))) k (pair_fault symbols (suc k) (suc (a * 256 + b)) s) h in
    let t = and_parts (ltb a symbols) (ltb b symbols && leb least (a * 256 + b)) e.0 in
    let u = and_parts (ltb b symbols) (leb least (a * 256 + b)) t.1 in
    pair_on wider k least a b s (omega (arith, ltb-true a symbols t.0)) (omega (arith, ltb-true b symbols u.0)) (leb-true least (a * 256 + b) u.1)
    ∙ pair_fault_wider symbols wider (suc k) (suc (a * 256 + b)) s w e.1
