-- The rows, filled from the records of an admitted image.
-- Assumes nothing.
use Rattle.std.proofs.Common.{◌≡◌, ◌↔◌, ◌⊎◌, inl, inr, ℕ, suc, None, ◌+◌, ◌-◌, ◌*◌, ◌<◌, ◌≤◌, List, [], ◌∷◌, length, get_or, take, drop, set, arith, Bool, true, false, ◌&&◌, ◌||◌, eqb, ltb, refl, sym, subst, ◌∙◌, ap, get_or-set_same, get_or-set_other, length-set, length-drop}
use native.Mathlib.Decide.{ℕ_discrete}
use Rattle.std.proofs.lemmas.Bool.{or_cases, eq-eqb, eqb-true, ltb-true, and_parts}
use Rattle.std.proofs.lemmas.List.{get_or-take, get_or-drop, take_all}
use Rattle.paper.specs.Bits.{bit_at}
use Rattle.paper.specs.Multiset.{bit}
use Rattle.paper.specs.Grammar.{Rule, Grammar, rule_at, rule_count, left, members}
use Rattle.paper.specs.Image.{byte, body, rule_of, record_of, record_size, record_before, image_fault, image_terminals, image_symbols, grammar_of, pairs_of, paired, pair_fault}
use Rattle.paper.specs.Records.{record_at}
use Rattle.paper.proofs.Image.{admitted, symbols_right_lem, image_grammar, image_count, image_rule}
use Rattle.paper.proofs.Records.{RightRules, rules_right, record_is, record_before_lem, members_count, record_after}
use Rattle.image.proofs.PairSteps.{pair_fault_wider}
use Rattle.tables.specs.declared.Row.{Row}
use Rattle.tables.specs.Rows.{IsRecord, alone, member_of, AreSmall, LeftsAscend}
use Rattle.tables.specs.Table.{bar_bits, bars_of, row_at, IsRowOf}

-- ## One row

bars_same : (g h : Grammar) (a k x : ℕ) (s : List ℕ) → ((j : ℕ) → j < length s → g.precedes (get_or s j 0) a ≡ h.precedes (get_or s j 0) a)
    → bar_bits g a k x s ≡ bar_bits h a k x s
unfolding bar_bits
bars_same g h a k x [] same = refl
bars_same g h a k x (b ∷ s) same =
    ap (λ p. bit (p || (ltb x k && eqb b a)) + 2 * bar_bits g a k (suc x) s) (same 0 (omega arith))
    ∙ ap (λ n. bit (h.precedes b a || (ltb x k && eqb b a)) + 2 * n) (bars_same g h a k (suc x) s (λ j l. same (suc j) (omega arith)))

-- the row of the record at the front of these bytes
pub row_filled : (later r : List ℕ) (row : Row) → IsRecord r → row.left ≡ byte r 0 → row.size ≡ byte r 1
    → (s : List ℕ) → s ≡ (rule_of r).members
    → ((k : ℕ) → k < length s → member_of row k ≡ get_or s k 0)
    → ((k : ℕ) → k < length s → get_or row.bars k 0 ≡ bars_of (alone later (record { left = 0; members = s })) s k)
    → IsRowOf (alone later (rule_of r)) 0 row
row_filled later r row is l n s e members bars = record {
  left_is = l;
  size_is = n ∙ sym (members_count r is.fits);
  member_is = rw (← e) members;
  bars_are = λ k h. (rw e at bars) k h ∙ bars_same (alone later (record { left = 0; members = (rule_of r).members })) (alone later (rule_of r)) (get_or (rule_of r).members k 0) k 0 (rule_of r).members (λ j i. refl);
}

-- each member of a record is below 64
pub record_members : {r : List ℕ} → IsRecord r → (k : ℕ) → k < length (rule_of r).members → get_or (rule_of r).members k 0 < 64
record_members {r} is k l =
    let m : k < byte r 1 = omega (arith, members_count r is.fits) in
    rw (get_or-take (byte r 1) (drop 2 r) k 0 m, get_or-drop 2 r k 0) (is.below k m)

-- the rows tell of the first h records
pub record RowsTo (later rules : List ℕ) (h : ℕ) (rows : List Row) : Type 0 where
  pub size : length rows ≡ 96
  pub filled : (i : ℕ) → i < h → IsRowOf (alone later (rule_of (record_at i (drop 1 rules)))) 0 (row_at rows i)

pub no_rows : (later rules : List ℕ) (rows : List Row) → length rows ≡ 96 → RowsTo later rules 0 rows
no_rows later rules rows e = record { size = e; filled = λ i l. absurd (let z : ⊥ = omega arith in z) }

pub one_row : {later rules : List ℕ} {h : ℕ} {rows : List Row} (row : Row) → RowsTo later rules h rows → h < 96
    → IsRowOf (alone later (rule_of (record_at h (drop 1 rules)))) 0 row → RowsTo later rules (h + 1) (set rows h row)
one_row {later} {rules} {h} {rows} row f few is = record { size = length-set rows h row ∙ f.size; filled = λ i l. go i l (ℕ_discrete i h) }
  where
    go : (i : ℕ) → i < h + 1 → Dec (i ≡ h) → IsRowOf (alone later (rule_of (record_at i (drop 1 rules)))) 0 (row_at (set rows h row) i)
    go i l (yes e) = rw (e, get_or-set_same rows h row (record { left = 0; size = 0; members = []; bars = [] }) (omega (arith, f.size))) is
    go i l (no ne) = rw (get_or-set_other rows h i row (record { left = 0; size = 0; members = []; bars = [] }) ne) (f.filled i (omega arith))

-- the records go on
pub next_records : (rules records : List ℕ) (h n : ℕ) → records ≡ record_at h (drop 1 rules) → n ≡ byte records 1
    → take (length records - (2 + n)) (drop (2 + n) records) ≡ record_at (h + 1) (drop 1 rules)
next_records rules records h n e f =
    take_all (length records - (2 + n)) (drop (2 + n) records) (omega (arith, length-drop (2 + n) records))
    ∙ (ap (λ m. drop (2 + m) records) f ∙ (ap (λ r. drop (record_size r) r) e ∙ (sym (record_after h (drop 1 rules)) ∙ ap (λ i. record_at i (drop 1 rules)) (let z : suc h ≡ h + 1 = omega arith in z))))

pub first_record : (rules : List ℕ) → take (length rules - 1) (drop 1 rules) ≡ record_at 0 (drop 1 rules)
unfolding record_at
first_record rules = take_all (length rules - 1) (drop 1 rules) (omega (arith, length-drop 1 rules))

-- ## The rows of an image

-- the rows of bits tell the order
pub record IsLater (g : Grammar) (later : List ℕ) : Type 0 where
  pub bits : (a b : ℕ) → a < 64 → b < 64 → (bit_at b (get_or later a 0) ≡ 1) ↔ (g.precedes a b ≡ true)

same_test : {n : ℕ} {t : Bool} → (n ≡ 1) ↔ (t ≡ true) → eqb n 1 ≡ t
same_test {n} {t} h = go (eqb n 1) refl t refl
  where
    go : (x : Bool) → eqb n 1 ≡ x → (y : Bool) → t ≡ y → x ≡ y
    go true e true f = refl
    go true e false f = sym (h.0 (eqb-true n 1 e)) ∙ f
    go false e true f = sym e ∙ eq-eqb n 1 (h.1 f)
    go false e false f = refl

-- a row that tells a record tells the rule that it means
pub row_means : {g : Grammar} {later : List ℕ} {rule : Rule} {row : Row} (h : ℕ) → IsLater g later → rule_at g h ≡ rule
    → ((k : ℕ) → k < length rule.members → get_or rule.members k 0 < 64) → IsRowOf (alone later rule) 0 row → IsRowOf g h row
row_means {g} {later} {rule} {row} h order e below is = record {
  left_is = is.left_is ∙ ap (λ r. r.left) (sym e);
  size_is = is.size_is ∙ ap (λ r. length r.members) (sym e);
  member_is = subst (λ r. (k : ℕ) → k < length r.members → member_of row k ≡ get_or r.members k 0) (sym e) is.member_is;
  bars_are = subst (λ r. (k : ℕ) → k < length r.members → get_or row.bars k 0 ≡ bars_of g r.members k) (sym e) (λ k l. is.bars_are k l ∙ bars_same (alone later rule) g (get_or rule.members k 0) k 0 rule.members (λ j i. same_test (order.bits (get_or rule.members j 0) (get_or rule.members k 0) (below j i) (below k l))));
}

before_first : (s t : List ℕ) → record_before s t ≡ true → byte s 0 ≤ byte t 0
unfolding record_before
before_first [] t h = omega arith
before_first (a ∷ s) [] h = absurd (let z : ◌≡◌ {A = ℕ} 0 1 = cc in let l : ⊥ = omega arith in l)
before_first (a ∷ s) (b ∷ t) h = go (or_cases (ltb a b) (eqb a b && record_before s t) h)
  where
    go : (ltb a b ≡ true) ⊎ ((eqb a b && record_before s t) ≡ true) → a ≤ b
    go (inl l) = omega (arith, ltb-true a b l)
    go (inr e) = omega (arith, eqb-true a b (and_parts (eqb a b) (record_before s t) e).0)

module _ (b : List ℕ) (sound : image_fault b ≡ None) where
  pub symbols_few : image_symbols b ≤ 64
  symbols_few = (symbols_right_lem (body b 0) (admitted b sound).symbols).few

  rules : RightRules (image_terminals b) (image_symbols b) (body b 1)
  rules = rules_right (image_terminals b) (image_symbols b) (body b 1) (admitted b sound).rules

  pub order_sound : pair_fault 64 0 0 (body b 2) ≡ None
  order_sound = pair_fault_wider (image_symbols b) 64 0 0 (body b 2) symbols_few (admitted b sound).pairs

  pub rules_counted : 1 ≤ length (body b 1)
  rules_counted = rules.counted

  pub rules_few : byte (body b 1) 0 ≤ 96
  rules_few = rules.few

  pub records_are : (h : ℕ) → h < byte (body b 1) 0 → IsRecord (record_at h (drop 1 (body b 1)))
  records_are h l =
      let r = record_is rules.records h l in
      let count = members_count (record_at h (drop 1 (body b 1))) r.fits in
      record {
        fits = r.fits;
        few = omega (arith, count, r.rule.few);
        below = λ k m.
            omega (arith, get_or-take (byte (record_at h (drop 1 (body b 1))) 1) (drop 2 (record_at h (drop 1 (body b 1)))) k 0 m, get_or-drop 2 (record_at h (drop 1 (body b 1))) k 0, r.rule.below k (omega arith), symbols_few);
      }

  pub later_is : (later : List ℕ) → ((a b' : ℕ) → a < 64 → b' < 64 → (bit_at b' (get_or later a 0) ≡ 1) ↔ (paired (pairs_of (body b 2)) a b' ≡ true)) → IsLater (grammar_of b) later
  unfolding grammar_of
  later_is later h = record { bits = h }

  pub rows_mean : {later : List ℕ} (rows : List Row) → IsLater (grammar_of b) later
      → ((h : ℕ) → h < byte (body b 1) 0 → IsRowOf (alone later (rule_of (record_at h (drop 1 (body b 1))))) 0 (row_at rows h))
      → (h : ℕ) → h < rule_count (grammar_of b) → IsRowOf (grammar_of b) h (row_at rows h)
  rows_mean {later} rows order filled h l =
      let m : h < byte (body b 1) 0 = omega (arith, image_count b) in
      row_means h order (image_rule b h m) (record_members (records_are h m)) (filled h m)

  lefts_up : (h k : ℕ) → h < k → k < byte (body b 1) 0 → left (grammar_of b) h ≤ left (grammar_of b) k
  lefts_up h k l m =
      let r = record_at h (drop 1 (body b 1)) in
      let s = record_at k (drop 1 (body b 1)) in
      let e : left (grammar_of b) h ≡ byte r 0 = ap (λ r. r.left) (image_rule b h (omega arith)) in
      let f : left (grammar_of b) k ≡ byte s 0 = ap (λ r. r.left) (image_rule b k m) in
      omega (arith, e, f, before_first (record_of r) (record_of s) (record_before_lem rules.records h k l m), get_or-take (record_size r) r 0 0 (omega arith), get_or-take (record_size s) s 0 0 (omega arith))

  pub lefts_ascend : (rows : List Row) → length rows ≡ byte (body b 1) 0 → ((h : ℕ) → h < rule_count (grammar_of b) → IsRowOf (grammar_of b) h (row_at rows h)) → LeftsAscend rows
  lefts_ascend rows size are = record { ascend = λ h k l m. omega (arith, lefts_up h k l (omega arith), (are h (omega (arith, image_count b))).left_is, (are k (omega (arith, image_count b))).left_is) }

  pub rows_small : (rows : List Row) → length rows ≡ byte (body b 1) 0 → ((h : ℕ) → h < rule_count (grammar_of b) → IsRowOf (grammar_of b) h (row_at rows h)) → AreSmall rows
  rows_small rows size are h l =
      let m : h < rule_count (grammar_of b) = omega (arith, image_count b) in
      let is = image_grammar b sound in
      let row = are h m in
      record {
        left = omega (arith, row.left_is, (is.left_is h m).below, is.few_symbols);
        few = omega (arith, row.size_is, is.few_members h m);
        below = λ k n. omega (arith, row.member_is k (omega (arith, row.size_is)), is.members_are h k m (omega (arith, row.size_is)), is.few_symbols);
      }

  -- the first `count` rows tell the rules as all do
  pub front_rows : (rows : List Row) (count : ℕ) → count ≡ byte (body b 1) 0 → ((h : ℕ) → h < rule_count (grammar_of b) → IsRowOf (grammar_of b) h (row_at rows h))
      → (h : ℕ) → h < rule_count (grammar_of b) → IsRowOf (grammar_of b) h (row_at (take count rows) h)
  front_rows rows count e are h l = rw (get_or-take count rows h (record { left = 0; size = 0; members = []; bars = [] }) (omega (arith, image_count b))) (are h l)
