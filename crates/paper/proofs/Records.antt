-- Laws of the rules body: the record of rule h, what a sound body says of it, and that no two records are equal.
-- Assumes nothing.
use mathlib.Core.Path.{◌≡◌, refl, sym, ◌∙◌, ap}
use mathlib.Core.Bool.{Bool, true, false, ◌&&◌, and-eq-true_iff}
use Rattle.std.specs.Prelude.{Option, Some, None}
use mathlib.Core.List.{List, [], ◌∷◌}
use Prim.Native.Nat.{ℕ, zero, suc, ◌+◌, ◌-◌, ◌*◌, ◌≤◌, ◌<◌}
use native.Mathlib.Omega.{arith}
use lib.Dec.{eqb, leb}
use lib.ListN.{length, get_or, take, drop, length-drop}
use lib.Seq.{drop-drop, take-add, length-take-le}
use borrow.Author.Tests.{eqb-true, leb-true, ltb-true}
use Rattle.paper.specs.Multiset.{Ascending}
use Rattle.paper.specs.Grammar.{Rule}
use Rattle.paper.specs.Image.{byte, all_below, ascends, record_before, record_size, record_of, rule_of, record_right, record_fault, rules_fault, rules_of}
use Rattle.paper.specs.Records.{record_at, record_place}
use Rattle.paper.specs.Written.{rule_bytes}

-- where nothing is at fault, the test holds and the rest is sound
pub goes_on : (t : Bool) (k : ℕ) (next : Option ℕ) → elim t as (λ x. Option ℕ) [ true ↦ next | false ↦ Some k ] ≡ None → (t ≡ true) × (next ≡ None)
goes_on true k next h = (refl, h)
goes_on false k next h = cc

-- where the test holds the rest decides, and else the fault is here
pub spot_on : (t : Bool) (k : ℕ) (next : Option ℕ) → t ≡ true → elim t as (λ x. Option ℕ) [ true ↦ next | false ↦ Some k ] ≡ next
spot_on true k next e = refl
spot_on false k next e = cc

pub spot_here : (t : Bool) (k : ℕ) (next : Option ℕ) → t ≡ false → elim t as (λ x. Option ℕ) [ true ↦ next | false ↦ Some k ] ≡ Some k
spot_here true k next e = cc
spot_here false k next e = refl

-- One step of the search for a fault: on past a record that is right and in order, or no further.

pub record_on : (terminals symbols more k : ℕ) (last r : List ℕ) → record_right terminals symbols r ≡ true → record_before last (record_of r) ≡ true
    → record_fault terminals symbols (suc more) k last r ≡ record_fault terminals symbols more (suc k) (record_of r) (drop (record_size r) r)
unfolding record_fault
record_on terminals symbols more k last r right before =
    spot_on (record_right terminals symbols r && record_before last (record_of r)) k (record_fault terminals symbols more (suc k) (record_of r) (drop (record_size r) r))
    ((and-eq-true_iff (record_right terminals symbols r) (record_before last (record_of r))).1 (right, before))

pub record_stop : (terminals symbols more k : ℕ) (last r : List ℕ) → (record_right terminals symbols r && record_before last (record_of r)) ≡ false
    → record_fault terminals symbols (suc more) k last r ≡ Some k
unfolding record_fault
record_stop terminals symbols more k last r wrong =
    spot_here (record_right terminals symbols r && record_before last (record_of r)) k (record_fault terminals symbols more (suc k) (record_of r) (drop (record_size r) r)) wrong

-- Rules by number.

pub rules_count : (more : ℕ) (r : List ℕ) → length (rules_of more r) ≡ more
unfolding rules_of
rules_count zero r = refl
rules_count (suc more) r = ap suc (rules_count more (drop (record_size r) r))

-- rule h is the one that record h means
pub rules_at : (more h : ℕ) (r : List ℕ) (none : Rule) → h < more → get_or (rules_of more r) h none ≡ rule_of (record_at h r)
unfolding rules_of record_at
rules_at zero h r none l = absurd (omega arith)
rules_at (suc more) zero r none l = refl
rules_at (suc more) (suc h) r none l = rules_at more h (drop (record_size r) r) none (omega arith)

-- Records by place.

-- the record after record h
pub record_after : (h : ℕ) (r : List ℕ) → record_at (suc h) r ≡ drop (record_size (record_at h r)) (record_at h r)
unfolding record_at
record_after zero r = refl
record_after (suc h) r = record_after h (drop (record_size r) r)

pub record_place_lem : (h : ℕ) (r : List ℕ) → record_at h r ≡ drop (record_place h r) r
unfolding record_at record_place
record_place_lem zero r = refl
record_place_lem (suc h) r = record_place_lem h (drop (record_size r) r) ∙ drop-drop (record_place h (drop (record_size r) r)) (record_size r) r

pub place_after : (h : ℕ) (r : List ℕ) → record_place (suc h) r ≡ record_place h r + record_size (record_at h r)
unfolding record_at record_place
place_after zero r = omega arith
place_after (suc h) r = omega (arith, place_after h (drop (record_size r) r))

-- A record that is right.

pub ascends_from : (least : ℕ) (s : List ℕ) → ascends least s ≡ true → (k : ℕ) → k < length s → least ≤ get_or s k 0
unfolding ascends
ascends_from least [] h k l = absurd (omega arith)
ascends_from least (a ∷ s) h zero l = grind arith
ascends_from least (a ∷ s) h (suc k) l =
    let b = simp and-eq-true_iff at h in omega (arith, leb-true least a b.0, ascends_from a s b.1 k (omega arith))

ascends_all : (least : ℕ) (s : List ℕ) → ascends least s ≡ true → (i j : ℕ) → i < j → j < length s → get_or s i 0 ≤ get_or s j 0
unfolding ascends
ascends_all least [] h i j l m = absurd (omega arith)
ascends_all least (a ∷ s) h i zero l m = absurd (omega arith)
ascends_all least (a ∷ s) h zero (suc j) l m = let b = simp and-eq-true_iff at h in ascends_from a s b.1 j (omega arith)
ascends_all least (a ∷ s) h (suc i) (suc j) l m = let b = simp and-eq-true_iff at h in ascends_all a s b.1 i j (omega arith) (omega arith)

pub all_below_lem : (limit : ℕ) (s : List ℕ) → all_below limit s ≡ true → (k : ℕ) → k < length s → get_or s k 0 < limit
unfolding all_below
all_below_lem limit [] h k l = absurd (omega arith)
all_below_lem limit (a ∷ s) h zero l = grind arith
all_below_lem limit (a ∷ s) h (suc k) l = let b = simp and-eq-true_iff at h in all_below_lem limit s b.1 k (omega arith)

-- a rule has as many members as its record says
pub members_count : (r : List ℕ) → record_size r ≤ length r → length (rule_of r).members ≡ byte r 1
members_count r h = length-take-le (byte r 1) (drop 2 r) (omega (arith, length-drop 2 r))

-- What every rule has (G2, I3).
pub record RightRule (terminals symbols : ℕ) (rule : Rule) : Type 0 where
  pub left_above : terminals ≤ rule.left
  pub left_below : rule.left < symbols
  pub few : length rule.members ≤ 8
  pub ascend : Ascending rule.members
  pub below : (k : ℕ) → k < length rule.members → get_or rule.members k 0 < symbols

-- What `record_right` says: a whole record stands there and its rule is right.
pub record RightRecord (terminals symbols : ℕ) (r : List ℕ) : Type 0 where
  pub fits : record_size r ≤ length r
  pub rule : RightRule terminals symbols (rule_of r)

pub record_right_lem : (terminals symbols : ℕ) (r : List ℕ) → record_right terminals symbols r ≡ true → RightRecord terminals symbols r
unfolding record_right
record_right_lem terminals symbols r h =
    let k = simp and-eq-true_iff at h in
    let fits = leb-true (record_size r) (length r) k.1.1.1.1.0 in
    let few = leb-true (byte r 1) 8 k.1.1.1.0 in
    record {
      fits = fits;
      rule =
          record {
            left_above = leb-true terminals (byte r 0) k.1.0;
            left_below = ltb-true (byte r 0) symbols k.1.1.0;
            few = omega (arith, members_count r fits);
            ascend = record { ascend = ascends_all 0 (rule_of r).members k.1.1.1.1.1.0 };
            below = all_below_lem symbols (rule_of r).members k.1.1.1.1.1.1.0;
          };
    }

-- a whole record is the bytes of its rule
pub record_bytes : (r : List ℕ) → record_size r ≤ length r → record_of r ≡ rule_bytes (rule_of r)
record_bytes [] h = absurd (omega arith)
record_bytes (a ∷ []) h = absurd (omega arith)
record_bytes (a ∷ b ∷ s) h =
    let e : length (take b s) ≡ b = members_count (a ∷ b ∷ s) h in
    take-add 2 b (a ∷ b ∷ s) ∙ ap {B = List ℕ} (λ n. a ∷ n ∷ take b s) (sym e)

-- The order of records.

before_trans : (s t u : List ℕ) → record_before s t ≡ true → record_before t u ≡ true → record_before s u ≡ true
unfolding record_before
before_trans [] [] u h k = cc
before_trans [] (b ∷ t) [] h k = k
before_trans [] (b ∷ t) (c ∷ u) h k = refl
before_trans (a ∷ s) [] u h k = cc
before_trans (a ∷ s) (b ∷ t) [] h k = k
before_trans (a ∷ s) (b ∷ t) (c ∷ u) h k = grind (arith, before_trans s t u)

-- no record is before itself
before_self : (s : List ℕ) → record_before s s ≡ true → ⊥
unfolding record_before
before_self [] h = cc
before_self (a ∷ s) h = grind (arith, before_self s)

-- A sound rules body.

-- What a sound run of records says of each, of its neighbours and of its end; `last` is the record before the first.
pub record RightRecords (terminals symbols more : ℕ) (last r : List ℕ) : Type 0 where
  pub right : (h : ℕ) → h < more → record_right terminals symbols (record_at h r) ≡ true
  pub first : 0 < more → record_before last (record_of r) ≡ true
  pub next : (h : ℕ) → suc h < more → record_before (record_of (record_at h r)) (record_of (record_at (suc h) r)) ≡ true
  pub filled : length (record_at more r) ≡ 0

records_end : (terminals symbols : ℕ) (last r : List ℕ) (k : ℕ) → record_fault terminals symbols 0 k last r ≡ None → RightRecords terminals symbols 0 last r
unfolding record_fault record_at
records_end terminals symbols last r k h = grind arith

records_step : (terminals symbols more : ℕ) (last r : List ℕ) → record_right terminals symbols r ≡ true → record_before last (record_of r) ≡ true
    → RightRecords terminals symbols more (record_of r) (drop (record_size r) r) → RightRecords terminals symbols (suc more) last r
unfolding record_at
records_step terminals symbols more last r right before ih = record { right = each; first = λ l. before; next = pairs; filled = ih.filled }
  where
    each : (h : ℕ) → h < suc more → record_right terminals symbols (record_at h r) ≡ true
    each zero l = right
    each (suc h) l = ih.right h (omega arith)

    pairs : (h : ℕ) → suc h < suc more → record_before (record_of (record_at h r)) (record_of (record_at (suc h) r)) ≡ true
    pairs zero l = ih.first (omega arith)
    pairs (suc h) l = ih.next h (omega arith)

-- what follows the first record is a sound run too
pub records_tail : (terminals symbols more : ℕ) (last r : List ℕ) → RightRecords terminals symbols (suc more) last r
    → RightRecords terminals symbols more (record_of r) (drop (record_size r) r)
unfolding record_at
records_tail terminals symbols more last r run =
    record {
      right = λ h l. run.right (suc h) (omega arith);
      first = λ l. run.next 0 (omega arith);
      next = λ h l. run.next (suc h) (omega arith);
      filled = run.filled;
    }

record_goes_on : (terminals symbols more k : ℕ) (last r : List ℕ) → record_fault terminals symbols (suc more) k last r ≡ None
    → ((record_right terminals symbols r && record_before last (record_of r)) ≡ true) × (record_fault terminals symbols more (suc k) (record_of r) (drop (record_size r) r) ≡ None)
unfolding record_fault
record_goes_on terminals symbols more k last r h = grind arith

pub records_right : (terminals symbols more k : ℕ) (last r : List ℕ) → record_fault terminals symbols more k last r ≡ None
    → RightRecords terminals symbols more last r
records_right terminals symbols zero k last r h = records_end terminals symbols last r k h
records_right terminals symbols (suc more) k last r h =
    let e = record_goes_on terminals symbols more k last r h in
    let b = (and-eq-true_iff (record_right terminals symbols r) (record_before last (record_of r))).0 e.0 in
    records_step terminals symbols more last r b.0 b.1 (records_right terminals symbols more (suc k) (record_of r) (drop (record_size r) r) e.1)

-- What a sound rules body says: a count of at most 96, and so many records that are right, ascend and fill the body.
pub record RightRules (terminals symbols : ℕ) (r : List ℕ) : Type 0 where
  pub counted : 1 ≤ length r
  pub few : byte r 0 ≤ 96
  pub records : RightRecords terminals symbols (byte r 0) [] (drop 1 r)

pub rules_right : (terminals symbols : ℕ) (r : List ℕ) → rules_fault terminals symbols r ≡ None → RightRules terminals symbols r
unfolding rules_fault
rules_right terminals symbols r h =
    let e = goes_on (leb 1 (length r) && leb (byte r 0) 96) 0 (record_fault terminals symbols (byte r 0) 0 [] (drop 1 r)) h in
    let b = (and-eq-true_iff (leb 1 (length r)) (leb (byte r 0) 96)).0 e.0 in
    record {
      counted = leb-true 1 (length r) b.0;
      few = leb-true (byte r 0) 96 b.1;
      records = records_right terminals symbols (byte r 0) 0 [] (drop 1 r) e.1;
    }

module _ {terminals symbols more : ℕ} {last r : List ℕ} (run : RightRecords terminals symbols more last r) where
  pub record_is : (h : ℕ) → h < more → RightRecord terminals symbols (record_at h r)
  record_is h l = record_right_lem terminals symbols (record_at h r) (run.right h l)

  -- the whole of record h lies inside the body
  pub record_inside : (h : ℕ) → h < more → record_place h r + record_size (record_at h r) ≤ length r
  record_inside h l =
      let e : length (record_at h r) ≡ length r - record_place h r = ap length (record_place_lem h r) ∙ length-drop (record_place h r) r in
      let f = (record_is h l).fits in
      omega arith

  pub place_inside : (h : ℕ) → h ≤ more → record_place h r ≤ length r
  unfolding record_place
  place_inside zero l = omega arith
  place_inside (suc h) l = omega (arith, place_after h r, record_inside h l)

  -- the records fill the body exactly
  pub records_fill : record_place more r ≡ length r
  records_fill =
      let e : length (record_at more r) ≡ length r - record_place more r = ap length (record_place_lem more r) ∙ length-drop (record_place more r) r in
      let f = run.filled in
      omega (arith, place_inside more (omega arith))

  -- a record has 10 bytes at the most
  pub place_below : (h : ℕ) → h ≤ more → record_place h r ≤ 10 * h
  unfolding record_place
  place_below zero l = omega arith
  place_below (suc h) l =
      let e = record_is h l in
      omega (arith, place_below h (omega arith), place_after h r, members_count (record_at h r) e.fits, e.rule.few)

  -- an earlier record is before a later one
  pub record_before_lem : (h k : ℕ) → h < k → k < more → record_before (record_of (record_at h r)) (record_of (record_at k r)) ≡ true
  record_before_lem h zero l m = absurd (omega arith)
  record_before_lem h (suc k) l m = go (eqb h k) refl (record_before_lem h k)
    where
      go : (t : Bool) → eqb h k ≡ t → (h < k → k < more → record_before (record_of (record_at h r)) (record_of (record_at k r)) ≡ true)
          → record_before (record_of (record_at h r)) (record_of (record_at (suc k) r)) ≡ true
      go true e ih = rw (eqb-true h k e) (run.next k m)
      go false e ih = grind (arith, before_trans)

  -- no two records mean the same rule
  pub rules_unlike : (h k : ℕ) → h < k → k < more → rule_of (record_at h r) ≡ rule_of (record_at k r) → ⊥
  rules_unlike h k l m e =
      let p = record_bytes (record_at h r) (record_is h (omega arith)).fits in
      let q = record_bytes (record_at k r) (record_is k m).fits in
      let same : record_of (record_at h r) ≡ record_of (record_at k r) = p ∙ (ap rule_bytes e ∙ sym q) in
      before_self (record_of (record_at k r)) (rw same at (record_before_lem h k l m))
