-- The highest rank of the members that are found.
-- Assumes nothing.
use Rattle.std.proofs.Common.{◌≡◌, cond, ℕ, zero, suc, ◌+◌, ◌/◌, ◌%◌, ◌^◌, ◌≤◌, ◌<◌, eqb, max, List, [], ◌∷◌, length, get_or, drop, sym, ap, ◌∙◌, arith, add-one}
use Rattle.std.proofs.Math.Seq.{drop-cons}
use Rattle.std.proofs.lemmas.List.{drop_all}
use native.Mathlib.Decide.{ℕ_discrete}
use Rattle.paper.specs.Bits.{bit_at}
use Rattle.paper.specs.Grammar.{Grammar, IsGrammar, members, rule_count}
use Rattle.paper.proofs.Bits.{set_other}
use Rattle.tables.specs.Masks.{Proper, TakenFrom}
use Rattle.tables.specs.Table.{rank, Ranked}
use Rattle.tables.proofs.Masks.{taken_exactly}
use Rattle.sheet.specs.Causes.{highest}

found_rank : (r v : ℕ) → r % 2 ≡ 0 → cond (eqb (r % 2) 0) v 0 ≡ v
found_rank r v e = rw e

left_rank : (r v : ℕ) → r % 2 ≡ 1 → cond (eqb (r % 2) 0) v 0 ≡ 0
left_rank r v e = rw e

module _ (ranks : List ℕ) where
  -- ---- one member after the other

  -- The highest rank of the first k members is `so`, and r is what the byte says of the others.
  pub record Ranking (s : List ℕ) (m k r so : ℕ) : Type 0 where
    pub highest_is : max so (highest ranks (drop k s) r) ≡ highest ranks s m

  pub ranking_none : (s : List ℕ) (m : ℕ) → Ranking s m 0 m 0
  ranking_none s m = record { highest_is = omega arith }

  module _ {s : List ℕ} {m k r so : ℕ} (v : Ranking s m k r so) (within : k < length s) where
    step : max so (max (cond (eqb (r % 2) 0) (rank ranks (get_or s k 0)) 0) (highest ranks (drop (suc k) s) (r / 2))) ≡ highest ranks s m
    unfolding highest
    step = ap (λ t. max so (highest ranks t r)) (sym (drop-cons s k 0 within)) ∙ v.highest_is

    -- the member is left, or its rank is no higher
    pub ranking_passed : (r % 2 ≡ 0 → rank ranks (get_or s k 0) ≤ so) → Ranking s m (k + 1) (r / 2) so
    ranking_passed low = record { highest_is = rw (add-one k) (go (ℕ_discrete (r % 2) 0)) }
      where
        go : Dec (r % 2 ≡ 0) → max so (highest ranks (drop (suc k) s) (r / 2)) ≡ highest ranks s m
        go (yes e) = omega (arith, low e, step, found_rank r (rank ranks (get_or s k 0)) e)
        go (no ne) = let e : r % 2 ≡ 1 = omega (arith, ne) in omega (arith, step, left_rank r (rank ranks (get_or s k 0)) e)

    pub ranking_more : r % 2 ≡ 0 → so < rank ranks (get_or s k 0) → Ranking s m (k + 1) (r / 2) (rank ranks (get_or s k 0))
    ranking_more found more = record { highest_is = rw (add-one k) (omega (arith, more, step, found_rank r (rank ranks (get_or s k 0)) found)) }

  pub ranking_all : {s : List ℕ} {m k r so : ℕ} → Ranking s m k r so → length s ≤ k → so ≡ highest ranks s m
  unfolding highest
  ranking_all {s} {m} {k} {r} {so} v l = let e : max so (highest ranks [] r) ≡ highest ranks s m = rw (drop_all k s l) at v.highest_is in omega (arith, e)

  -- ---- all members

  -- a member that is found has no higher rank
  pub highest_here : (s : List ℕ) (m k : ℕ) → k < length s → bit_at k m ≡ 0 → rank ranks (get_or s k 0) ≤ highest ranks s m
  unfolding highest bit_at
  highest_here [] m k l e = absurd (let z : ⊥ = omega arith in z)
  highest_here (a ∷ s) m zero l e = omega (arith, found_rank m (rank ranks a) e)
  highest_here (a ∷ s) m (suc k) l e = omega (arith, highest_here s (m / 2) k (omega arith) e)

  pub highest_below : (s : List ℕ) (m r : ℕ) → 0 < r → ((k : ℕ) → k < length s → rank ranks (get_or s k 0) < r) → highest ranks s m < r
  unfolding highest
  highest_below [] m r p low = p
  highest_below (a ∷ s) m r p low = go (ℕ_discrete (m % 2) 0) (highest_below s (m / 2) r p (λ k l. low (suc k) (omega arith)))
    where
      go : Dec (m % 2 ≡ 0) → highest ranks s (m / 2) < r → max (cond (eqb (m % 2) 0) (rank ranks a) 0) (highest ranks s (m / 2)) < r
      go (yes e) q = let z : rank ranks a < r = low 0 (omega arith) in omega (arith, q, found_rank m (rank ranks a) e)
      go (no ne) q = let e : m % 2 ≡ 1 = omega (arith, ne) in omega (arith, q, left_rank m (rank ranks a) e)

  -- what is found stays found
  highest_rises : (s : List ℕ) (n m : ℕ) → ((k : ℕ) → bit_at k m ≡ 1 → bit_at k n ≡ 1) → highest ranks s n ≤ highest ranks s m
  unfolding highest bit_at
  highest_rises [] n m up = omega arith
  highest_rises (a ∷ s) n m up = go (ℕ_discrete (n % 2) 0) (highest_rises s (n / 2) (m / 2) (λ k e. up (suc k) e))
    where
      go : Dec (n % 2 ≡ 0) → highest ranks s (n / 2) ≤ highest ranks s (m / 2)
          → max (cond (eqb (n % 2) 0) (rank ranks a) 0) (highest ranks s (n / 2)) ≤ max (cond (eqb (m % 2) 0) (rank ranks a) 0) (highest ranks s (m / 2))
      go (yes e) q =
          let f : m % 2 ≡ 0 = even (ℕ_discrete (m % 2) 0) in
          omega (arith, q, found_rank n (rank ranks a) e, found_rank m (rank ranks a) f)
        where
          even : Dec (m % 2 ≡ 0) → m % 2 ≡ 0
          even (yes f) = f
          even (no ne) = let f : m % 2 ≡ 1 = omega (arith, ne) in absurd (let u = up 0 f in let z : ⊥ = omega arith in z)
      go (no ne) q = let e : n % 2 ≡ 1 = omega (arith, ne) in omega (arith, q, left_rank n (rank ranks a) e)

  module _ {g : Grammar} {s : List ℕ} {a n m : ℕ} (proper : Proper s m) (taken : TakenFrom g s a n m) where
    pub taken_rises : highest ranks s n ≤ highest ranks s m
    taken_rises =
        let (k, last, bars, e) = (taken_exactly g s a n m proper).0 taken in
        highest_rises s n m (λ j b. go k last.is_found e j b (ℕ_discrete j k))
      where
        go : (k : ℕ) → bit_at k m ≡ 0 → n ≡ m + 2 ^ k → (j : ℕ) → bit_at j m ≡ 1 → Dec (j ≡ k) → bit_at j n ≡ 1
        go k z e j b (yes f) = absurd (let y : ⊥ = omega (arith, ap (λ i. bit_at i m) f) in y)
        go k z e j b (no ne) = ap (bit_at j) e ∙ (set_other k j m z ne ∙ b)

    pub taken_below : rank ranks a ≤ highest ranks s m
    taken_below =
        let (k, last, bars, e) = (taken_exactly g s a n m proper).0 taken in
        omega (arith, highest_here s m k last.place last.is_found, ap (rank ranks) last.member)

-- no rank takes more than six bits
pub highest_small : {g : Grammar} {ranks : List ℕ} → IsGrammar g → Ranked g ranks → (h m : ℕ) → h < rule_count g → highest ranks (members g h) m < 64
highest_small {g} {ranks} is r h m l =
    highest_below ranks (members g h) m 64 (omega arith) (λ k p. omega (arith, r.low (get_or (members g h) k 0) (is.members_are h k l p), is.few_symbols, is.a_terminal))
