-- How many entries a sheet has at the most, and how many steps: the two bounds of S6.
-- Assumes nothing.
use mathlib.Core.Path.{◌≡◌, refl, sym, ◌∙◌, ap}
use mathlib.Core.Bool.{true}
use mathlib.Core.List.Memᴰ
use mathlib.Core.List.{List, [], ◌∷◌, Memᴰ, flat_map}
use Prim.Native.Nat.{ℕ, zero, suc, ◌+◌, ◌*◌, ◌/◌, ◌≤◌, ◌<◌}
use native.Mathlib.Omega.{arith}
use native.Mathlib.Nat.{mul_assoc, mul_left_comm, mul-le-mul_right, div-eq_of_eq-mul_right}
use lib.Dec.{eqb}
use lib.ListN.{length, get_or}
use Rattle.paper.specs.Multiset.{keep}
use Rattle.paper.specs.Grammar.{Grammar, rule_count, left}
use Rattle.paper.specs.Entry.{Entry, may_take, finished}
use Rattle.paper.specs.Sheet.{Sheet, list_at, word, IsSheet, sum, many, sum_below, entries, start_steps, scan_steps, predict_steps, waiting, complete_steps, steps}
use Rattle.paper.specs.Price.{rests, entries_bound, steps_bound}
use Rattle.paper.specs.Building.{below}
use Rattle.paper.proofs.Sums.{sum_le, sum_mul, sum_at_most, sum_places, sum_map, sum_flat_map, many_le, length_keep, sum_below_le, sum_below_mul, triangle, pyramid, triangle_closed, pyramid_closed}
use Rattle.paper.proofs.Lists.{keep_mem, mem_flat_map, mem_below, Distinct, pigeonhole_sum, distinct_keep}
use Rattle.paper.proofs.Closure.{climbs_distinct}
use Rattle.paper.proofs.Theorem7.{finished_rest}
use Rattle.paper.proofs.Universe.{stands_possible, possible_few, entry, with_origins, with_origins_has}
use Rattle.paper.proofs.Unique.{sheet_climbs}

-- ---- the divisions are exact

exact_division : (c k t x : ℕ) → 0 < k → k * t ≡ x → c * x / k ≡ c * t
exact_division c k t x l e = div-eq_of_eq-mul_right l (ap (c *◌) (sym e) ∙ mul_left_comm c k t)

-- D(n+1)(n+2)/2 is D times the sum of 1 to n+1
entries_bound_exact : (g : Grammar) (n : ℕ) → entries_bound g n ≡ rests g * triangle (suc n)
unfolding entries_bound
entries_bound_exact g n = grind (arith, mul_assoc, exact_division, triangle_closed)

-- R·D·(n+1)(n+2)(n+3)/6 is R·D times the sum of these sums
complete_bound_exact : (c n : ℕ) → c * (n + 1) * (n + 2) * (n + 3) / 6 ≡ c * pyramid (suc n)
complete_bound_exact c n = grind (arith, mul_assoc, exact_division, pyramid_closed)

-- ---- start steps, at most one per rule

start_few : (g : Grammar) → start_steps g ≤ rule_count g
unfolding start_steps
start_few g = many_le (λ r. eqb r.left g.start) g.rules

-- ---- the finished entries there can be on a list

-- each rule with nothing left and each origin below n
finished_below : ℕ → ℕ → List Entry
finished_below rules n = flat_map (λ h. with_origins h ([] ∷ []) n) (below rules)

-- a weight for each origin
sum_with_origins : (weight : ℕ → ℕ) (h n : ℕ) → sum (λ e. weight e.origin) (with_origins h ([] ∷ []) n) ≡ sum_below n weight
unfolding with_origins sum sum_below
sum_with_origins weight h zero = omega arith
sum_with_origins weight h (suc n) = omega (arith, sum_with_origins weight h n)

length_below : (n : ℕ) → length (below n) ≡ n
unfolding below
length_below zero = omega arith
length_below (suc n) = ap suc (length_below n)

sum_finished_below : (weight : ℕ → ℕ) (rules n : ℕ) → sum (λ e. weight e.origin) (finished_below rules n) ≤ rules * sum_below n weight
unfolding finished_below
sum_finished_below weight rules n =
    omega (
      arith,
      sum_flat_map (λ e. weight e.origin) (λ h. with_origins h ([] ∷ []) n) (below rules),
      sum_at_most (λ h. sum (λ e. weight e.origin) (with_origins h ([] ∷ []) n)) (sum_below n weight) (below rules) (λ h. omega (arith, sum_with_origins weight h n)),
      ap (◌* sum_below n weight) (length_below rules),
    )

-- a finished entry is its rule and its origin
finished_below_lem : (e : Entry) (rules n : ℕ) → e.rule < rules → e.origin < n → finished e ≡ true → Memᴰ e (finished_below rules n)
unfolding finished_below
finished_below_lem e rules n l k f =
    Memᴰ.cast (ap (entry e.rule e.origin) (finished_rest e f))
    (mem_flat_map (λ h. with_origins h ([] ∷ []) n) (below rules) (mem_below e.rule rules l) (with_origins_has e.rule e.origin ([] ∷ []) n k (Memᴰ.head refl)))

-- how many complete steps a finished entry gives: one per entry that waits for its left symbol on the list of its origin
abbrev completions : Grammar → Sheet → Entry → ℕ
completions g sheet f = length (waiting g (left g f.rule) (list_at sheet f.origin))

module _ {g : Grammar} {row : List ℕ} {sheet : Sheet} (is : IsSheet g row sheet) where
  -- ---- entries

  list_distinct : (j : ℕ) → Distinct (list_at sheet j)
  list_distinct j = climbs_distinct (word g) 0 (list_at sheet j) (sheet_climbs is j)

  -- list j has at most D(j+1) entries
  list_few : (j : ℕ) → length (list_at sheet j) ≤ rests g * suc j
  list_few j = grind (arith, possible_few, list_distinct, stands_possible)

  -- Every list has its bound, and so the sheet has the sum of them.
  sum_lists : (f : List Entry → ℕ) (bound : ℕ → ℕ) → ((j : ℕ) → f (list_at sheet j) ≤ bound j) → sum f sheet ≤ sum_below (suc (length row)) bound
  sum_lists f bound h =
      omega (arith, sum_places f [] sheet, ap (λ n. sum_below n (λ j. f (list_at sheet j))) is.lists, sum_below_le (suc (length row)) (λ j. f (list_at sheet j)) bound (λ j l. h j))

  -- the bound on entries (S6)
  pub entries_bound_lem : entries sheet ≤ entries_bound g (length row)
  unfolding entries triangle
  entries_bound_lem =
      omega (arith, sum_lists length (λ j. rests g * suc j) list_few, sum_below_mul (rests g) (suc (length row)) suc, entries_bound_exact g (length row))

  -- ---- the other steps, kind by kind

  -- scan: at most one per entry
  scan_few : scan_steps g row sheet ≤ entries sheet
  unfolding scan_steps entries sum_below
  scan_few =
      omega (
        arith,
        sum_below_le (length row) (λ j. many (λ e. may_take g (get_or row j 0) e.rest) (list_at sheet j)) (λ j. length (list_at sheet j))
            (λ j l. many_le (λ e. may_take g (get_or row j 0) e.rest) (list_at sheet j)),
        sum_places length [] sheet,
        ap (λ n. sum_below n (λ j. length (list_at sheet j))) is.lists,
      )

  -- predict: at most one per entry and rule
  predict_few : predict_steps g sheet ≤ entries sheet * rule_count g
  unfolding predict_steps entries
  predict_few =
      omega (
        arith,
        sum_mul length (rule_count g) sheet,
        sum_le (sum (λ e. many (λ r. may_take g r.left e.rest) g.rules)) (λ list. length list * rule_count g) sheet
            (λ list m. sum_at_most (λ e. many (λ r. may_take g r.left e.rest) g.rules) (rule_count g) list (λ e. many_le (λ r. may_take g r.left e.rest) g.rules)),
      )

  -- complete: for a finished entry of origin i, at most the D(i+1) entries of list i
  waiting_few : (f : Entry) → completions g sheet f ≤ rests g * suc f.origin
  unfolding waiting
  waiting_few f = grind (arith, length_keep, many_le, list_few)

  -- the finished entries of list j are among the rules with an origin up to j
  finished_inside : (j : ℕ) (e : Entry) → Memᴰ e (keep finished (list_at sheet j)) → Memᴰ e (finished_below (rule_count g) (suc j))
  finished_inside j e m = grind (arith, keep_mem, finished_below_lem)

  complete_list : (j : ℕ) → sum (completions g sheet) (keep finished (list_at sheet j)) ≤ rule_count g * rests g * triangle (suc j)
  unfolding triangle
  complete_list j =
      omega (
        arith,
        sum_le (completions g sheet) (λ f. rests g * suc f.origin) (keep finished (list_at sheet j)) (λ f m. waiting_few f),
        pigeonhole_sum (λ f. rests g * suc f.origin) (keep finished (list_at sheet j)) (finished_below (rule_count g) (suc j)) (distinct_keep finished (list_at sheet j) (list_distinct j)) (finished_inside j),
        sum_finished_below (λ i. rests g * suc i) (rule_count g) (suc j),
        ap (rule_count g *◌) (sum_below_mul (rests g) (suc j) suc),
        mul_assoc (rule_count g) (rests g) (sum_below (suc j) suc),
      )

  -- in all at most R·D·(n+1)(n+2)(n+3)/6
  complete_few : complete_steps g sheet ≤ rule_count g * rests g * pyramid (suc (length row))
  unfolding complete_steps pyramid
  complete_few =
      omega (
        arith,
        sum_map (sum (completions g sheet)) (keep finished) sheet,
        sum_lists (λ list. sum (completions g sheet) (keep finished list)) (λ j. rule_count g * rests g * triangle (suc j)) complete_list,
        sum_below_mul (rule_count g * rests g) (suc (length row)) (λ j. triangle (suc j)),
      )

  -- the bound on steps (S6)
  pub steps_bound_lem : steps g row sheet ≤ steps_bound g (length row) (entries sheet)
  unfolding steps steps_bound
  steps_bound_lem = grind (arith, start_few, scan_few, predict_few, complete_few, complete_bound_exact)

-- the more entries, the more steps there can be
steps_bound_more : (g : Grammar) (n k m : ℕ) → k ≤ m → steps_bound g n k ≤ steps_bound g n m
unfolding steps_bound
steps_bound_more g n k m l = omega (arith, mul-le-mul_right (rule_count g) l)

-- the bound on the steps for a grammar and a row length alone
pub steps_price : {g : Grammar} {row : List ℕ} {sheet : Sheet} → IsSheet g row sheet → steps g row sheet ≤ steps_bound g (length row) (entries_bound g (length row))
steps_price {g} {row} {sheet} is = grind (arith, steps_bound_lem, steps_bound_more, entries_bound_lem)
