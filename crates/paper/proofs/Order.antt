-- Laws of the order body: its pairs by number, and that the pairs of a closed list are a strict partial order.
-- Assumes nothing.
use mathlib.Core.Path.{◌≡◌, refl, ◌∙◌}
use mathlib.Core.Bool.{Bool, true, false, not, ◌&&◌, ◌||◌, and-eq-true_iff}
use Rattle.std.specs.Prelude.{Some, None}
use mathlib.Core.List.{List, [], ◌∷◌, map}
use Prim.Native.Nat.{ℕ, zero, suc, ◌+◌, ◌*◌, ◌≤◌, ◌<◌}
use native.Mathlib.Omega.{arith}
use lib.Dec.{eqb, leb, ltb}
use lib.ListN.{length, get_or, length-map}
use borrow.Author.Tests.{eq-eqb}
use Rattle.paper.specs.Multiset.{StrictlyAscending}
use Rattle.paper.specs.Grammar.{StrictPartialOrder}
use Rattle.paper.specs.Image.{byte, Pair, pairs_of, pair_fault, paired, chained, closing_fault}
use Rattle.paper.specs.Written.{pair_key}

-- One step of the search for a fault: on past a pair that is right, or no further.

pub pair_on : (symbols k least a b : ℕ) (s : List ℕ) → a < symbols → b < symbols → least ≤ a * 256 + b
    → pair_fault symbols k least (a ∷ b ∷ s) ≡ pair_fault symbols (suc k) (suc (a * 256 + b)) s
unfolding pair_fault
pair_on symbols k least a b s l m h = grind arith

pub pair_stop : (symbols k least a b : ℕ) (s : List ℕ) → (ltb a symbols && (ltb b symbols && leb least (a * 256 + b))) ≡ false
    → pair_fault symbols k least (a ∷ b ∷ s) ≡ Some k
unfolding pair_fault
pair_stop symbols k least a b s wrong = cc

pub closing_on : (pairs : List Pair) (k : ℕ) (p : Pair) (more : List Pair) → (p.earlier ≡ p.later → ⊥) → chained pairs p.earlier p.later pairs ≡ true
    → closing_fault pairs k (p ∷ more) ≡ closing_fault pairs (suc k) more
unfolding closing_fault
closing_on pairs k p more ne h = grind arith

pub closing_stop : (pairs : List Pair) (k : ℕ) (p : Pair) (more : List Pair) → (not (eqb p.earlier p.later) && chained pairs p.earlier p.later pairs) ≡ false
    → closing_fault pairs k (p ∷ more) ≡ Some k
unfolding closing_fault
closing_stop pairs k p more wrong = cc

-- The closing of the order.

-- a pair is written first or among the others
pub written_cases : {P : Type 0} (p : Pair) (more : List Pair) (a b : ℕ) → paired (p ∷ more) a b ≡ true → (p.earlier ≡ a → p.later ≡ b → P) → (paired more a b ≡ true → P) → P
unfolding paired
written_cases {P} p more a b h here there = grind arith

-- What a sound closing says of each pair.
record Closed (pairs : List Pair) (a b : ℕ) : Type 0 where
  apart : a ≡ b → ⊥
  chains : chained pairs a b pairs ≡ true

closing_goes_on : (pairs : List Pair) (k : ℕ) (p : Pair) (more : List Pair) → closing_fault pairs k (p ∷ more) ≡ None
    → Closed pairs p.earlier p.later × (closing_fault pairs (suc k) more ≡ None)
unfolding closing_fault
closing_goes_on pairs k p more h = grind arith

closed_at : (pairs : List Pair) (a b c d : ℕ) → c ≡ a → d ≡ b → Closed pairs c d → Closed pairs a b
closed_at pairs a b c d e f h = rw (← e, ← f) h

closed_each : (pairs : List Pair) (k : ℕ) (more : List Pair) → closing_fault pairs k more ≡ None → (a b : ℕ) → paired more a b ≡ true → Closed pairs a b
unfolding paired
closed_each pairs k [] h a b w = cc
closed_each pairs k (p ∷ more) h a b w =
    let e = closing_goes_on pairs k p more h in
    written_cases p more a b w (λ x y. closed_at pairs a b p.earlier p.later x y e.0) (closed_each pairs (suc k) more e.1 a b)

-- the closing pair of a chain is written
closing : (pairs : List Pair) (a b : ℕ) (more : List Pair) → chained pairs a b more ≡ true → (c : ℕ) → paired more b c ≡ true → paired pairs a c ≡ true
unfolding paired chained
closing pairs a b [] h c w = cc
closing pairs a b (q ∷ more) h c w = written_cases q more b c w here (closing pairs a b more t.1 c)
  where
    t : ((not (eqb q.earlier b) || paired pairs a q.later) ≡ true) × (chained pairs a b more ≡ true)
    t = (and-eq-true_iff (not (eqb q.earlier b) || paired pairs a q.later) (chained pairs a b more)).0 h

    here : q.earlier ≡ b → q.later ≡ c → paired pairs a c ≡ true
    here e f = rw (eq-eqb q.earlier b e, f) at t.0

-- 14 is not the answer: the pairs are a strict partial order
pub closed_order : (pairs : List Pair) → closing_fault pairs 0 pairs ≡ None → StrictPartialOrder (paired pairs)
closed_order pairs h =
    record {
      irreflexive = λ a. go a (paired pairs a a) refl;
      transitive = λ a b c x y. closing pairs a b pairs (closed_each pairs 0 pairs h a b x).chains c y;
    }
  where
    go : (a : ℕ) (t : Bool) → paired pairs a a ≡ t → paired pairs a a ≡ false
    go a true e = absurd ((closed_each pairs 0 pairs h a a e).apart refl)
    go a false e = e

-- The pairs by number.

pair_further : (a b : ℕ) (s : List ℕ) (k : ℕ)
    → ◌≡◌ {A = Pair} (record { earlier = byte s (2 * k); later = byte s (2 * k + 1) }) (record { earlier = byte (a ∷ b ∷ s) (2 * suc k); later = byte (a ∷ b ∷ s) (2 * suc k + 1) })
pair_further a b s k = grind arith

-- pair k is bytes 2k and 2k+1
pub pair_at : (s : List ℕ) (k : ℕ) (none : Pair) → k < length (pairs_of s) → get_or (pairs_of s) k none ≡ record { earlier = byte s (2 * k); later = byte s (2 * k + 1) }
unfolding pairs_of
pair_at [] k none l = absurd (omega arith)
pair_at (a ∷ []) k none l = absurd (omega arith)
pair_at (a ∷ b ∷ s) zero none l = refl
pair_at (a ∷ b ∷ s) (suc k) none l = pair_at s k none (omega arith) ∙ pair_further a b s k

-- What a sound order body says: it has whole pairs of symbols, and they ascend strictly from `least` on.
pub record RightPairs (symbols least : ℕ) (s : List ℕ) : Type 0 where
  pub size : length s ≡ 2 * length (pairs_of s)
  pub below : (a b : ℕ) → paired (pairs_of s) a b ≡ true → (a < symbols) × (b < symbols)
  pub least_is : (k : ℕ) → k < length (pairs_of s) → least ≤ get_or (map pair_key (pairs_of s)) k 0
  pub ascending : StrictlyAscending (map pair_key (pairs_of s))

pair_goes_on : (symbols k least a b : ℕ) (s : List ℕ) → pair_fault symbols k least (a ∷ b ∷ s) ≡ None
    → (a < symbols) × (b < symbols) × (least ≤ a * 256 + b) × (pair_fault symbols (suc k) (suc (a * 256 + b)) s ≡ None)
unfolding pair_fault
pair_goes_on symbols k least a b s h = grind arith

pairs_none : (symbols least : ℕ) → RightPairs symbols least []
unfolding pairs_of paired
pairs_none symbols least = grind arith

pairs_step : (symbols least a b : ℕ) (s : List ℕ) → a < symbols → b < symbols → least ≤ a * 256 + b → RightPairs symbols (suc (a * 256 + b)) s
    → RightPairs symbols least (a ∷ b ∷ s)
unfolding pairs_of
pairs_step symbols least a b s p q f ih =
    record {
      size = let e = ih.size in omega arith;
      below = λ c d w. written_cases (record { earlier = a; later = b }) (pairs_of s) c d w (λ e g. (omega arith, omega arith)) (ih.below c d);
      least_is = from;
      ascending = record { ascend = up };
    }
  where
    from : (k : ℕ) → k < length (pairs_of (a ∷ b ∷ s)) → least ≤ get_or (map pair_key (pairs_of (a ∷ b ∷ s))) k 0
    from zero l = f
    from (suc k) l = omega (arith, ih.least_is k (omega arith))

    up : (i j : ℕ) → i < j → j < length (map pair_key (pairs_of (a ∷ b ∷ s))) → get_or (map pair_key (pairs_of (a ∷ b ∷ s))) i 0 < get_or (map pair_key (pairs_of (a ∷ b ∷ s))) j 0
    up i zero l m = absurd (omega arith)
    up zero (suc j) l m = ih.least_is j (omega (arith, length-map (pairs_of s) pair_key))
    up (suc i) (suc j) l m = ih.ascending.ascend i j (omega arith) (omega arith)

-- 13 is not the answer: the order body is right (I4)
pub pairs_right : (symbols k least : ℕ) (s : List ℕ) → pair_fault symbols k least s ≡ None → RightPairs symbols least s
unfolding pair_fault
pairs_right symbols k least [] h = pairs_none symbols least
pairs_right symbols k least (a ∷ []) h = cc
pairs_right symbols k least (a ∷ b ∷ s) h =
    let e = pair_goes_on symbols k least a b s h in
    pairs_step symbols least a b s e.0 e.1 e.2 (pairs_right symbols (suc k) (suc (a * 256 + b)) s e.3)

-- How many pairs there can be.

ranks_ascend : (a b c d : ℕ) → b < 64 → d < 64 → c * 256 + d < a * 256 + b → c * 64 + d < a * 64 + b
ranks_ascend a b c d l m h = omega arith

-- behind the pair c, d
pairs_left : (symbols k c d : ℕ) (s : List ℕ) → symbols ≤ 64 → c < symbols → d < symbols → pair_fault symbols k (suc (c * 256 + d)) s ≡ None
    → length (pairs_of s) + (c * 64 + d) < 4096
unfolding pairs_of pair_fault
pairs_left symbols k c d [] few l m h = omega arith
pairs_left symbols k c d (a ∷ []) few l m h = cc
pairs_left symbols k c d (a ∷ b ∷ s) few l m h =
    let e = pair_goes_on symbols k (suc (c * 256 + d)) a b s h in
    omega (arith, ranks_ascend a b c d (omega arith) (omega arith) e.2, pairs_left symbols (suc k) a b s few e.0 e.1 e.3)

-- 64 symbols have 4,096 pairs at the most
pub pairs_few : (symbols k : ℕ) (s : List ℕ) → symbols ≤ 64 → pair_fault symbols k 0 s ≡ None → length (pairs_of s) ≤ 4096
unfolding pairs_of pair_fault
pairs_few symbols k [] few h = omega arith
pairs_few symbols k (a ∷ []) few h = omega arith
pairs_few symbols k (a ∷ b ∷ s) few h =
    let e = pair_goes_on symbols k 0 a b s h in
    omega (arith, pairs_left symbols (suc k) a b s few e.0 e.1 e.3)
