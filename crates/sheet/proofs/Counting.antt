-- What is counted over the lists, and that it is few enough for a number of 64 bits.
-- Assumes nothing.
use Rattle.std.proofs.Common.{◌≡◌, ◌↔◌, ℕ, zero, suc, ◌+◌, ◌-◌, ◌*◌, ◌/◌, ◌%◌, ◌^◌, ◌≤◌, ◌<◌, ◌⊎◌, inl, inr, Bool, true, false, eqb, ltb, List, [], ◌∷◌, map, length, get_or, set, bit_and, refl, sym, ap, ◌∙◌, arith, length-append}
use Rattle.std.proofs.lemmas.Bool.{cases_lt, ne_eqb}
use Rattle.std.proofs.lemmas.Bool.Decides.{nat_tests}
use Rattle.std.proofs.lemmas.List.{length-map}
use borrow.Author.Tests.{eq-eqb}
use native.Mathlib.Decide.{ℕ_discrete}
use native.Mathlib.Nat.{pow-le-pow_right}
use mathlib.Core.List.{Memᴰ}
use Rattle.paper.specs.Bits.{bit_at}
use Rattle.paper.specs.Multiset.{bit, keep, sub_multisets, count}
use Rattle.paper.specs.Grammar.{Rule, Grammar, IsGrammar, IsNonterminal, rule_count, left, members}
use Rattle.paper.specs.Image.{grammar_of}
use Rattle.paper.specs.Entry.{Entry, may_take, finished}
use Rattle.paper.specs.Sheet.{Sheet, sum, many, sum_below, entries, list_at, start_steps, scan_steps, predict_steps, waiting, complete_steps, steps}
use Rattle.paper.specs.Price.{rests, entries_bound}
use Rattle.paper.specs.Building.{sheet_of}
use Rattle.paper.specs.Demands.{IsFit}
use Rattle.paper.proofs.Bits.{bit_zero, clear_here, clear_other, and_set}
use Rattle.paper.proofs.Building.{sheet_lists, sheet_found}
use Rattle.paper.proofs.Demands.{sheet_exists}
use Rattle.paper.proofs.Lists.{keep_mem}
use Rattle.paper.proofs.Multiset.{bit_le}
use Rattle.paper.proofs.SheetBounds.{entries_bound_lem}
use Rattle.paper.proofs.Sums.{sum_le, sum_at_most, sum_places, sum_map, many_le, length_keep}
use Rattle.paper.proofs.Universe.{found_possible}
use Rattle.sheet.specs.Counting.{completed_by, rules_with, predictions_of, predict_at, waiting_at, ends, ended_at, complete_at, scan_at, steps_at}
use Rattle.sheet.specs.Growing.{IsListOf}
use Rattle.sheet.proofs.Growth.{mem_place, entry_at, list_length}
use Rattle.sheet.proofs.Tally.{below_same, below_add, below_rises, below_at_most, below_between, sum_same, sum_add, sum_none, sum_by_number}

-- ---- few enough

mul_few : (a b m n : ℕ) → a ≤ m → b ≤ n → a * b ≤ m * n
mul_few a b m n l k = grind arith

subs_few : (s : List ℕ) → length (sub_multisets s) ≤ 2 ^ length s
unfolding sub_multisets
subs_few [] = omega arith
subs_few (a ∷ s) =
    let p : List ℕ → Bool = λ r. eqb (count a r) (count a s) in
    let more : List (List ℕ) = keep p (sub_multisets s) in
    let e : 2 ^ suc (length s) ≡ 2 * 2 ^ length s = grind arith in
    rw e (omega (arith, length-append (sub_multisets s) (map (a ∷◌) more), length-map more (a ∷◌), length_keep p (sub_multisets s), many_le p (sub_multisets s), subs_few s))

rests_few : (g : Grammar) → IsGrammar g → rests g ≤ 96 * 256
unfolding rests
rests_few g is =
    omega (
      arith,
      sum_le (λ r. length (sub_multisets r.members)) (λ r. 256) g.rules (λ r m. one r (mem_place (record { left = 0; members = [] }) g.rules m)),
      sum_at_most (λ (r : Rule). 256) 256 g.rules (λ r. omega arith),
      is.few_rules,
    )
  where
    one : (r : Rule) → (k : ℕ) × (k < length g.rules) × (get_or g.rules k (record { left = 0; members = [] }) ≡ r) → length (sub_multisets r.members) ≤ 256
    one r (k, l, e) = rw (← e) (let few = is.few_members k l in let powers : 2 ^ length (members g k) ≤ 2 ^ 8 = grind (arith, pow-le-pow_right) in omega (arith, subs_few (members g k), powers))

entries_few : {image row : List ℕ} → IsFit image row → entries (sheet_of (grammar_of image) row) < 67108864
unfolding entries_bound
entries_few {image} {row} fit =
    let g = grammar_of image in
    let n : ℕ = length row in
    let short : n ≤ 64 = fit.short in
    let a = mul_few (rests g) (n + 1) 24576 65 (omega (arith, rests_few g fit.is_grammar)) (omega arith) in
    let b = mul_few (rests g * (n + 1)) (n + 2) 1597440 66 (omega arith) (omega arith) in
    omega (arith, entries_bound_lem (sheet_exists g row fit.is_grammar fit.short))

list_le : (s : Sheet) (i : ℕ) → length (get_or s i []) ≤ sum length s
unfolding sum
list_le [] i = omega arith
list_le (list ∷ s) zero = omega arith
list_le (list ∷ s) (suc i) = omega (arith, list_le s i)

pub list_few : {image row : List ℕ} → IsFit image row → (i : ℕ) → length (list_at (sheet_of (grammar_of image) row) i) < 67108864
unfolding entries
list_few {image} {row} fit i = omega (arith, entries_few fit, list_le (sheet_of (grammar_of image) row) i)

-- ---- rules

-- the next symbol has no earlier first
firsts_rise : (g : Grammar) {x from to : ℕ} → ((h : ℕ) → h < from → left g h < x) → ((h : ℕ) → to ≤ h → h < rule_count g → x + 1 ≤ left g h) → from ≤ rule_count g → from ≤ to
firsts_rise g {x} {from} {to} low beyond k = go (cases_lt to from)
  where
    go : (to < from) ⊎ (from ≤ to) → from ≤ to
    go (inl o) = absurd (let z : ⊥ = omega (arith, low to o, beyond to (omega arith) (omega arith)) in z)
    go (inr o) = o

-- the rules of x stand from its first to the first of the next symbol
pub rules_between : (g : Grammar) {x from to : ℕ} → ((h : ℕ) → h < from → left g h < x) → ((h : ℕ) → from ≤ h → h < rule_count g → x ≤ left g h)
    → ((h : ℕ) → h < to → left g h < x + 1) → ((h : ℕ) → to ≤ h → h < rule_count g → x + 1 ≤ left g h) → from ≤ rule_count g → to ≤ rule_count g → to - from ≡ rules_with g x
unfolding rules_with
rules_between g {x} {from} {to} low since high beyond k l =
    let rise = firsts_rise g low beyond k in
    sym (sum_places (λ r. bit (eqb r.left x)) (record { left = 0; members = [] }) g.rules
    ∙ below_between (rule_count g) from to (λ h. bit (eqb (left g h) x)) rise
    (λ h p. ap bit (ne_eqb (left g h) x (λ e. omega (arith, low h p))))
    (λ h p q. ap bit (eq-eqb (left g h) x (omega (arith, since h p (omega arith), high h q))))
    (λ h p q. ap bit (ne_eqb (left g h) x (λ e. omega (arith, beyond h q p)))) l)

-- the rules whose left symbol is in the set
abbrev pub rules_in : Grammar → ℕ → ℕ
rules_in g set = many (λ r. eqb (bit_at r.left set) 1) g.rules

same_test : (b : ℕ) (t : Bool) → (b ≡ 1) ↔ (t ≡ true) → eqb b 1 ≡ t
same_test b true h = eq-eqb b 1 (h.1 refl)
same_test b false h = ne_eqb b 1 (λ e. let z = h.0 e in cc)

pub rules_taken : (g : Grammar) → IsGrammar g → (rest : List ℕ) (taken nonterminals : ℕ) → ((x : ℕ) → (bit_at x taken ≡ 1) ↔ (may_take g x rest ≡ true))
    → ((x : ℕ) → (bit_at x nonterminals ≡ 1) ↔ IsNonterminal g x) → rules_in g (bit_and taken nonterminals) ≡ predictions_of g rest
unfolding predictions_of
rules_taken g is rest taken nonterminals may are =
    sum_same (λ r. bit (eqb (bit_at r.left (bit_and taken nonterminals)) 1)) (λ r. bit (may_take g r.left rest)) g.rules
    (λ r m. ap bit (one r (mem_place (record { left = 0; members = [] }) g.rules m)))
  where
    one : (r : Rule) → (k : ℕ) × (k < length g.rules) × (get_or g.rules k (record { left = 0; members = [] }) ≡ r)
        → eqb (bit_at r.left (bit_and taken nonterminals)) 1 ≡ may_take g r.left rest
    one r (k, l, e) =
        let in_set = (are r.left).1 (rw (← e) (is.left_is k l)) in
        same_test (bit_at r.left (bit_and taken nonterminals)) (may_take g r.left rest)
        (λ h. (may r.left).0 ((and_set r.left taken nonterminals).0 h).0, λ h. (and_set r.left taken nonterminals).1 ((may r.left).1 h, in_set))

pub rules_one : (g : Grammar) (set x : ℕ) → bit_at x set ≡ 1 → rules_in g set ≡ rules_with g x + rules_in g (set - 2 ^ x)
unfolding rules_with
rules_one g set x is =
    sum_same (λ r. bit (eqb (bit_at r.left set) 1)) (λ r. bit (eqb r.left x) + bit (eqb (bit_at r.left (set - 2 ^ x)) 1)) g.rules (λ r m. one r.left (ℕ_discrete r.left x))
    ∙ sum_add (λ r. bit (eqb r.left x)) (λ r. bit (eqb (bit_at r.left (set - 2 ^ x)) 1)) g.rules
  where
    one : (a : ℕ) → Dec (a ≡ x) → bit (eqb (bit_at a set) 1) ≡ bit (eqb a x) + bit (eqb (bit_at a (set - 2 ^ x)) 1)
    one a (yes e) = rw e (rw (is, eq-eqb x x refl, clear_here x set is) refl)
    one a (no ne) = rw (clear_other x a set is ne, ne_eqb a x ne) (omega arith)

pub rules_none : (g : Grammar) → rules_in g 0 ≡ 0
rules_none g = sum_none (λ r. bit (eqb (bit_at r.left 0) 1)) g.rules (λ r. rw (bit_zero r.left) refl)

pub predictions_few : (g : Grammar) → IsGrammar g → (rest : List ℕ) → predictions_of g rest ≤ 96
unfolding predictions_of
predictions_few g is rest = omega (arith, many_le (λ r. may_take g r.left rest) g.rules, is.few_rules)

-- ---- one list

-- a sum over all cells is one over the list
pub list_sum : {g : Grammar} {row cells : List ℕ} {j n : ℕ} → IsListOf g row j cells → n ≡ length cells → (f : Entry → ℕ)
    → sum_below n (λ k. f (entry_at g row j k)) ≡ sum f (list_at (sheet_of g row) j)
list_sum {g} {row} {cells} {j} is e f = rw (e ∙ list_length is) (sym (sum_places f (record { rule = 0; origin = 0; rest = [] }) (list_at (sheet_of g row) j)))

-- as many as are counted are no more than were looked at
pub counted_few : (n : ℕ) (p : ℕ → Bool) → sum_below n (λ k. bit (p k)) ≤ n
counted_few n p = omega (arith, below_at_most 1 n (λ k. bit (p k)) (λ j l. bit_le (p j)))

-- how many complete steps the finished entries with this number give

module _ {image row : List ℕ} (fit : IsFit image row) where
  abbrev g : Grammar
  g = grammar_of image

  pub waiting_few : (i x : ℕ) → waiting_at g row i x < 67108864
  unfolding waiting_at
  waiting_few i x = omega (arith, many_le (λ e. may_take g x e.rest) (list_at (sheet_of g row) i), list_few fit i)

  pub predict_few : (j : ℕ) → predict_at g row j ≤ 67108864 * 96
  unfolding predict_at
  predict_few j =
      omega (arith, sum_at_most (λ e. predictions_of g e.rest) 96 (list_at (sheet_of g row) j) (λ e. predictions_few g fit.is_grammar e.rest), list_few fit j)

  pub complete_few : (j : ℕ) → complete_at g row j ≤ 67108864 * 67108864
  unfolding complete_at waiting
  complete_few j =
      let completions : Entry → ℕ = λ f. length (keep (λ e. may_take g (left g f.rule) e.rest) (list_at (sheet_of g row) f.origin)) in
      let few = sum_at_most completions 67108864 (keep finished (list_at (sheet_of g row) j)) (λ f. one (left g f.rule) f.origin) in
      let kept : length (keep finished (list_at (sheet_of g row) j)) ≤ 67108864 = omega (arith, length_keep finished (list_at (sheet_of g row) j), many_le finished (list_at (sheet_of g row) j), list_few fit j) in
      omega (arith, few, mul_few _ 67108864 _ 67108864 kept (omega arith))
    where
      one : (x i : ℕ) → length (keep (λ e. may_take g x e.rest) (list_at (sheet_of g row) i)) ≤ 67108864
      one x i =
          omega (arith, length_keep (λ e. may_take g x e.rest) (list_at (sheet_of g row) i), many_le (λ e. may_take g x e.rest) (list_at (sheet_of g row) i), list_few fit i)

  -- ---- the complete steps by origin and left symbol

  pub complete_is : (j : ℕ) → sum_below (64 * (j + 1)) (completed_by g row j) ≡ complete_at g row j
  unfolding complete_at ended_at ends waiting_at waiting
  complete_is j =
      let list : List Entry = list_at (sheet_of g row) j in
      let number : Entry → ℕ = λ f. 64 * f.origin + left g f.rule in
      let waits : ℕ → ℕ = λ c. many (λ e. may_take g (c % 64) e.rest) (list_at (sheet_of g row) (c / 64)) in
      let completions : Entry → ℕ = λ f. length (keep (λ e. may_take g (left g f.rule) e.rest) (list_at (sheet_of g row) f.origin)) in
      sym (sum_same completions (λ f. waits (number f)) (keep finished list) (λ f m. one f (keep_mem finished list m).0)
      ∙ sum_by_number finished number waits (64 * (j + 1)) list (λ f m. small f m))
    where
      possible : (f : Entry) → Memᴰ f (list_at (sheet_of g row) j) → (f.origin ≤ j) × (left g f.rule < 64)
      possible f m =
          let p = found_possible ((sheet_found g row fit.is_grammar fit.short j f).0 m) in
          let n = fit.is_grammar.left_is f.rule p.is_rule in
          (p.origin_le, omega (arith, n.below, fit.is_grammar.few_symbols))

      small : (f : Entry) → Memᴰ f (list_at (sheet_of g row) j) → 64 * f.origin + left g f.rule < 64 * (j + 1)
      small f m = let p = possible f m in omega (arith, p.0, p.1)

      one : (f : Entry) → Memᴰ f (list_at (sheet_of g row) j)
          → length (keep (λ e. may_take g (left g f.rule) e.rest) (list_at (sheet_of g row) f.origin))
          ≡ many (λ e. may_take g ((64 * f.origin + left g f.rule) % 64) e.rest) (list_at (sheet_of g row) ((64 * f.origin + left g f.rule) / 64))
      one f m =
          let p = possible f m in
          let under : left g f.rule < 64 = p.1 in
          let a : (64 * f.origin + left g f.rule) % 64 ≡ left g f.rule = omega arith in
          let b : (64 * f.origin + left g f.rule) / 64 ≡ f.origin = omega arith in
          rw (a, b) (length_keep (λ e. may_take g (left g f.rule) e.rest) (list_at (sheet_of g row) f.origin))

  pub partly_few : (j c : ℕ) → c ≤ 64 * (j + 1) → sum_below c (completed_by g row j) ≤ 67108864 * 67108864
  partly_few j c l = omega (arith, below_rises c (64 * (j + 1)) (completed_by g row j) l, complete_is j, complete_few j)

  -- ---- all lists

  pub scan_here : (j : ℕ) → j < length row → scan_at g row j ≡ waiting_at g row j (get_or row j 0)
  unfolding scan_at
  scan_here j l = let t : ltb j (length row) ≡ true = grind (arith, nat_tests) in rw t refl

  pub scan_past : (j : ℕ) → length row ≤ j → scan_at g row j ≡ 0
  unfolding scan_at
  scan_past j l = let t : ltb j (length row) ≡ false = grind (arith, nat_tests) in rw t refl

  pub steps_few : (j : ℕ) → steps_at g row j ≤ 9007199254740992
  unfolding steps_at
  steps_few j = omega (arith, predict_few j, complete_few j, scan (cases_lt j (length row)))
    where
      scan : (j < length row) ⊎ (length row ≤ j) → scan_at g row j ≤ 67108864
      scan (inl l) = omega (arith, scan_here j l, waiting_few j (get_or row j 0))
      scan (inr l) = omega (arith, scan_past j l)

  pub partial_few : (n : ℕ) → n ≤ length row + 1 → sum_below n (steps_at g row) ≤ 65 * 9007199254740992
  partial_few n l = omega (arith, below_at_most 9007199254740992 n (steps_at g row) (λ j m. steps_few j), mul_few n 9007199254740992 65 9007199254740992 (omega (arith, fit.short)) (omega arith))

  scan_all : sum_below (suc (length row)) (scan_at g row) ≡ scan_steps g row (sheet_of g row)
  unfolding scan_steps sum_below waiting_at
  scan_all = omega (arith, scan_past (length row) (omega arith), below_same (length row) (scan_at g row) (λ j. many (λ e. may_take g (get_or row j 0) e.rest) (list_at (sheet_of g row) j)) scan_here)

  over_lists : (f : List Entry → ℕ) → sum_below (suc (length row)) (λ j. f (list_at (sheet_of g row) j)) ≡ sum f (sheet_of g row)
  over_lists f = rw (← sheet_lists g row) (sym (sum_places f [] (sheet_of g row)))

  pub steps_are : rules_with g g.start + sum_below (length row + 1) (steps_at g row) ≡ steps g row (sheet_of g row)
  unfolding steps_at steps start_steps predict_steps complete_steps rules_with predict_at predictions_of complete_at
  steps_are =
      let predict : List Entry → ℕ = sum (λ e. many (λ r. may_take g r.left e.rest) g.rules) in
      let completions : Entry → ℕ = λ f. length (waiting g (left g f.rule) (list_at (sheet_of g row) f.origin)) in
      let complete : List Entry → ℕ = λ list. sum completions (keep finished list) in
      let p = over_lists predict in
      let c = over_lists complete ∙ sym (sum_map (sum completions) (keep finished) (sheet_of g row)) in
      let e : length row + 1 ≡ suc (length row) = omega arith in
      rw e (omega (
        arith,
        p,
        c,
        scan_all,
        below_add (suc (length row)) (λ j. predict (list_at (sheet_of g row) j) + complete (list_at (sheet_of g row) j)) (scan_at g row),
        below_add (suc (length row)) (λ j. predict (list_at (sheet_of g row) j)) (λ j. complete (list_at (sheet_of g row) j)),
      ))
