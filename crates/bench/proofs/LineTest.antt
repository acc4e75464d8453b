-- A test of derivation lines that computes: lines that pass it are valid.
-- Assumes nothing.
use mathlib.Core.Path.{◌≡◌, refl, subst}
use mathlib.Core.Bool.{Bool, true, false, not, ◌&&◌, ◌||◌, and-eq-true_iff, false≢true}
use mathlib.Core.List.{List, [], ◌∷◌, append-nil}
use Prim.Native.Nat.{ℕ, zero, suc, ◌-◌, ◌%◌, ◌≤◌, ◌<◌}
use native.Mathlib.Omega.{arith}
use lib.Dec.{eqb, leb, ltb}
use lib.ListN.{length, get_or}
use borrow.Author.Tests.{eqb-true, ltb-true, leb-true}
use Rattle.std.proofs.lemmas.List.{nil_from_length}
use Rattle.paper.specs.Multiset.{Arrangement, minus}
use Rattle.paper.specs.Grammar.{Grammar, rule_count, members}
use Rattle.paper.specs.Derivation.{Acceptable}
use Rattle.paper.specs.Image.{every}
use Rattle.paper.specs.Lines.{line_size, line_count, line_rule, line_from, line_to, line_parts, line_slot, part_slots, line_symbol, Joins, LineRight, Uses, WholeRight, Valid}
use Rattle.paper.specs.Lines.Joins.{end, token, part}
use Rattle.paper.proofs.Multiset.{arranged_refl}
use Rattle.paper.proofs.Machine.{may_take_all, acceptable_nil, all_taken_arranged, all_taken_acceptable}

-- ---- tests of all numbers below a bound, and of some

unfoldable pub every_below : ℕ → (ℕ → Bool) → Bool
every_below zero p = true
every_below (suc n) p = p n && every_below n p

every_below_lem : (n : ℕ) (p : ℕ → Bool) → every_below n p ≡ true → (k : ℕ) → k < n → p k ≡ true
unfolding every_below
every_below_lem zero p h k l = absurd (omega arith)
every_below_lem (suc n) p h k l = grind (arith, every_below_lem n p)

unfoldable pub some_below : ℕ → (ℕ → Bool) → Bool
some_below zero p = false
some_below (suc n) p = p n || some_below n p

some_below_lem : (n : ℕ) (p : ℕ → Bool) → some_below n p ≡ true → (k : ℕ) × (k < n) × (p k ≡ true)
unfolding some_below
some_below_lem zero p h = absurd (false≢true h)
some_below_lem (suc n) p h = grind (arith, some_below_lem n p)

-- ---- one line

-- the symbols of the parts in these slots, the first at place i
unfoldable pub part_symbols : Grammar → List ℕ → List ℕ → List ℕ → ℕ → List ℕ
part_symbols g row ns [] i = []
part_symbols g row ns (zero ∷ slots) i = get_or row i 0 ∷ part_symbols g row ns slots (suc i)
part_symbols g row ns (suc earlier ∷ slots) i = line_symbol g ns earlier ∷ part_symbols g row ns slots (line_to ns earlier)

-- as slots of line k these join from place i to place j
unfoldable pub joined : List ℕ → List ℕ → ℕ → List ℕ → ℕ → ℕ → Bool
joined row ns k [] i j = eqb i j
joined row ns k (zero ∷ slots) i j = ltb i (length row) && joined row ns k slots (suc i) j
joined row ns k (suc earlier ∷ slots) i j = ltb earlier k && (eqb (line_from ns earlier) i && joined row ns k slots (line_to ns earlier) j)

module _ (g : Grammar) (row ns : List ℕ) (k : ℕ) where
  joins_end : (i j : ℕ) → eqb i j ≡ true → Joins g row ns k [] i j []
  joins_end i j h = subst (λ (x : ℕ). Joins g row ns k [] i x []) (eqb-true i j h) end

  joins_right : (slots : List ℕ) (i j : ℕ) → joined row ns k slots i j ≡ true → Joins g row ns k slots i j (part_symbols g row ns slots i)
  unfolding joined part_symbols
  joins_right [] i j h = joins_end i j h
  joins_right (zero ∷ slots) i j h =
      let both = (and-eq-true_iff (ltb i (length row)) (joined row ns k slots (suc i) j)).0 h in
      token (ltb-true i (length row) both.0) refl (joins_right slots (suc i) j both.1)
  joins_right (suc earlier ∷ slots) i j h =
      let both = (and-eq-true_iff (ltb earlier k) (eqb (line_from ns earlier) i && joined row ns k slots (line_to ns earlier) j)).0 h in
      let more = (and-eq-true_iff (eqb (line_from ns earlier) i) (joined row ns k slots (line_to ns earlier) j)).0 both.1 in
      part earlier (ltb-true earlier k both.0) (eqb-true (line_from ns earlier) i more.0) refl refl (joins_right slots (line_to ns earlier) j more.1)

-- symbols that may be taken in turn from the members, and leave none, are an acceptable arrangement of them
unfoldable pub arranges : Grammar → List ℕ → List ℕ → Bool
arranges g symbols rest = may_take_all g symbols rest && eqb (length (minus rest symbols)) 0

arranges_right : (g : Grammar) (s rest : List ℕ) → arranges g s rest ≡ true → Arrangement s rest × Acceptable g s
unfolding arranges
arranges_right g s rest h =
    let both = (and-eq-true_iff (may_take_all g s rest) (eqb (length (minus rest s)) 0)).0 h in
    let k : Arrangement [] (minus rest s) = rw (nil_from_length (minus rest s) (eqb-true (length (minus rest s)) 0 both.1)) (arranged_refl []) in
    (rw (append-nil s) at (all_taken_arranged g s rest both.0 k), rw (append-nil s) at (all_taken_acceptable g s rest both.0 k (acceptable_nil g)))

-- slot x of line k is past its parts only if it is 0
unfoldable pub past_right : List ℕ → ℕ → ℕ → Bool
past_right ns k x = ltb x (line_parts ns k) || eqb (line_slot ns k x) 0

past_right_lem : (ns : List ℕ) (k x : ℕ) → past_right ns k x ≡ true → line_parts ns k ≤ x → line_slot ns k x ≡ 0
unfolding past_right
past_right_lem ns k x h l = grind arith

-- lines i and k share left symbol and span
unfoldable pub shared : Grammar → List ℕ → ℕ → ℕ → Bool
shared g ns i k = eqb (line_symbol g ns i) (line_symbol g ns k) && (eqb (line_from ns i) (line_from ns k) && eqb (line_to ns i) (line_to ns k))

not_shared : (g : Grammar) (ns : List ℕ) (i k : ℕ) → not (shared g ns i k) ≡ true → line_symbol g ns i ≡ line_symbol g ns k → line_from ns i ≡ line_from ns k → line_to ns i ≡ line_to ns k → ⊥
unfolding shared
not_shared g ns i k h a b c = grind arith

unfoldable pub line_test : Grammar → List ℕ → List ℕ → ℕ → Bool
line_test g row ns k =
    every
    (ltb (line_rule ns k) (rule_count g)
    ∷ eqb (line_parts ns k) (length (members g (line_rule ns k)))
    ∷ leb (line_from ns k) (line_to ns k)
    ∷ leb (line_to ns k) (length row)
    ∷ every_below 8 (past_right ns k)
    ∷ joined row ns k (part_slots ns k) (line_from ns k) (line_to ns k)
    ∷ arranges g (part_symbols g row ns (part_slots ns k) (line_from ns k)) (members g (line_rule ns k))
    ∷ every_below k (λ i. not (shared g ns i k))
    ∷ [])

line_right : (g : Grammar) (row ns : List ℕ) (k : ℕ) → line_test g row ns k ≡ true → LineRight g row ns k
unfolding line_test
line_right g row ns k h =
    let (rule, t) = simp and-eq-true_iff at h in
    let (parts, t) = t in
    let (span, t) = t in
    let (within, t) = t in
    let (past, t) = t in
    let (joins, t) = t in
    let (arranged, t) = t in
    let arrangement = arranges_right g (part_symbols g row ns (part_slots ns k) (line_from ns k)) (members g (line_rule ns k)) arranged in
    record {
      rule_is = ltb-true (line_rule ns k) (rule_count g) rule;
      parts_are = eqb-true (line_parts ns k) (length (members g (line_rule ns k))) parts;
      span = leb-true (line_from ns k) (line_to ns k) span;
      within = leb-true (line_to ns k) (length row) within;
      past = λ x l m. past_right_lem ns k x (every_below_lem 8 (past_right ns k) past x m) l;
      symbols = part_symbols g row ns (part_slots ns k) (line_from ns k);
      joins = joins_right g row ns k (part_slots ns k) (line_from ns k) (line_to ns k) joins;
      arranged = arrangement.0;
      acceptable = arrangement.1;
      unshared = λ i l. not_shared g ns i k (every_below_lem k (λ x. not (shared g ns x k)) t.0 i l);
    }

-- ---- the whole

-- line k is used by line i
unfoldable pub used_by : List ℕ → ℕ → ℕ → Bool
used_by ns k i = ltb k i && some_below (line_parts ns i) (λ x. eqb (line_slot ns i x) (suc k))

used_right : (ns : List ℕ) (n k : ℕ) → some_below n (used_by ns k) ≡ true → (i : ℕ) × (k < i) × (i < n) × Uses ns i k
unfolding used_by
used_right ns n k h = grind (arith, some_below_lem)

unfoldable pub whole_test : Grammar → List ℕ → List ℕ → ℕ → Bool
whole_test g row ns last =
    every
    (eqb (line_symbol g ns last) g.start
    ∷ eqb (line_from ns last) 0
    ∷ eqb (line_to ns last) (length row)
    ∷ every_below last (λ k. some_below (line_count ns) (used_by ns k))
    ∷ [])

whole_right : (g : Grammar) (row ns : List ℕ) → 1 ≤ line_count ns → whole_test g row ns (line_count ns - 1) ≡ true → WholeRight g row ns
unfolding whole_test
whole_right g row ns some h =
    let last = line_count ns - 1 in
    let (top, t) = simp and-eq-true_iff at h in
    let (from, t) = t in
    let (to, t) = t in
    record {
      some_line = some;
      top = eqb-true (line_symbol g ns last) g.start top;
      top_from = eqb-true (line_from ns last) 0 from;
      top_to = eqb-true (line_to ns last) (length row) to;
      used = λ k l. used_right ns (line_count ns) k (every_below_lem last (λ x. some_below (line_count ns) (used_by ns x)) t.0 k (omega arith));
    }

unfoldable pub lines_test : Grammar → List ℕ → List ℕ → Bool
lines_test g row ns =
    every
    (eqb (length ns % line_size) 0
    ∷ leb 1 (line_count ns)
    ∷ every_below (line_count ns) (line_test g row ns)
    ∷ whole_test g row ns (line_count ns - 1)
    ∷ [])

-- Lines that pass the test are valid.
pub lines_valid : (g : Grammar) (row ns : List ℕ) → lines_test g row ns ≡ true → Valid g row ns
unfolding lines_test
lines_valid g row ns h =
    let (whole, t) = simp and-eq-true_iff at h in
    let (some, t) = t in
    let (each, t) = t in
    record {
      whole_lines = eqb-true (length ns % line_size) 0 whole;
      each = λ k l. line_right g row ns k (every_below_lem (line_count ns) (line_test g row ns) each k l);
      whole = whole_right g row ns (leb-true 1 (line_count ns) some) t.0;
    }
