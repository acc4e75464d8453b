-- Ranks, given one after the other.
-- Assumes nothing.
use Rattle.std.proofs.Common.{◌≡◌, ◌≢◌, ◌⊎◌, inl, inr, ℕ, zero, suc, ◌+◌, ◌<◌, ◌≤◌, List, length, set, replicate, arith, refl, sym, subst, ◌∙◌, ap, ltb, get_or-set_same, get_or-set_other, length-set}
use native.Mathlib.Decide.{ℕ_discrete}
use Rattle.std.proofs.lemmas.Bool.{lt-ltb, le-ltb}
use Rattle.std.proofs.lemmas.List.{length-replicate}
use Rattle.paper.specs.Multiset.{bit}
use Rattle.paper.proofs.Multiset.{bit_le}
use Rattle.tables.specs.declared.Row.{Row}
use Rattle.tables.specs.Rows.{member_of, AreSmall, LeftsWithin, MembersRanked, many_ranked, AreGiven, IsClosed}
use Rattle.tables.specs.Table.{row_at, rank}

-- ## How many have a rank

many_le : (ranks : List ℕ) (t n : ℕ) → many_ranked ranks t n ≤ n
many_le ranks t zero = omega arith
many_le ranks t (suc n) = omega (arith, many_le ranks t n, bit_le (ltb 0 (rank ranks (t + n))))

-- one symbol more has a rank
module _ (ranks : List ℕ) (left v : ℕ) (here : left < length ranks) (none : rank ranks left ≡ 0) (some : 1 ≤ v) where
  rank_here : rank (set ranks left v) left ≡ v
  rank_here = get_or-set_same ranks left v 0 here

  rank_other : (a : ℕ) → a ≢ left → rank (set ranks left v) a ≡ rank ranks a
  rank_other a ne = get_or-set_other ranks left a v 0 ne

  many_other : (t n : ℕ) → (left < t) ⊎ (t + n ≤ left) → many_ranked (set ranks left v) t n ≡ many_ranked ranks t n
  many_other t zero h = refl
  many_other t (suc n) h =
      let ne : t + n ≢ left = λ e. apart h e in
      let less = many_other t n (further h) in
      ap (λ r. bit (ltb 0 r) + many_ranked (set ranks left v) t n) (rank_other (t + n) ne) ∙ ap (λ m. bit (ltb 0 (rank ranks (t + n))) + m) less
    where
      apart : (left < t) ⊎ (t + suc n ≤ left) → t + n ≡ left → ⊥
      apart (inl l) e = omega arith
      apart (inr l) e = omega arith

      further : (left < t) ⊎ (t + suc n ≤ left) → (left < t) ⊎ (t + n ≤ left)
      further (inl l) = inl l
      further (inr l) = inr (omega arith)

  many_more : (t n : ℕ) → t ≤ left → left < t + n → many_ranked (set ranks left v) t n ≡ suc (many_ranked ranks t n)
  many_more t zero l m = absurd (let z : ⊥ = omega arith in z)
  many_more t (suc n) l m = go (ℕ_discrete (t + n) left) (many_more t n l)
    where
      go : Dec (t + n ≡ left) → (left < t + n → many_ranked (set ranks left v) t n ≡ suc (many_ranked ranks t n)) → many_ranked (set ranks left v) t (suc n) ≡ suc (many_ranked ranks t (suc n))
      go (yes e) more =
          let now : bit (ltb 0 (rank (set ranks left v) (t + n))) ≡ 1 = ap (λ a. bit (ltb 0 (rank (set ranks left v) a))) e ∙ (ap (λ r. bit (ltb 0 r)) rank_here ∙ ap bit (lt-ltb 0 v (omega arith))) in
          let before : bit (ltb 0 (rank ranks (t + n))) ≡ 0 = ap (λ a. bit (ltb 0 (rank ranks a))) e ∙ (ap (λ r. bit (ltb 0 r)) none ∙ ap bit (le-ltb 0 0 (omega arith))) in
          omega (arith, now, before, many_other t n (inr (omega arith)))
      go (no ne) more =
          let same = ap (λ r. bit (ltb 0 r)) (rank_other (t + n) ne) in
          omega (arith, same, more (omega arith))

  -- members that had a rank keep it
  members_keep : {row : Row} {r : ℕ} → MembersRanked row ranks r → MembersRanked row (set ranks left v) r
  members_keep {row} {r} h = record { ranked = λ k l. go k (h.ranked k l) }
    where
      go : (k : ℕ) → (1 ≤ rank ranks (member_of row k)) × (rank ranks (member_of row k) < r)
          → (1 ≤ rank (set ranks left v) (member_of row k)) × (rank (set ranks left v) (member_of row k) < r)
      go k w =
          let ne : member_of row k ≢ left = λ e. let z : ⊥ = omega (arith, w.0, ap (rank ranks) e) in z in
          rw (rank_other (member_of row k) ne) w

-- ## Giving

lefts_below : {rows : List Row} → AreSmall rows → LeftsWithin 0 64 rows
lefts_below small = record { above = λ h l. omega arith; below = λ h l. omega (arith, (small h l).left) }

pub given_few : {rows : List Row} {ranks : List ℕ} {given : ℕ} → AreSmall rows → AreGiven rows ranks given → given ≤ 64
given_few {rows} {ranks} small h = omega (arith, h.counted 0 64 (lefts_below small), many_le ranks 0 64)

pub given_within : {rows : List Row} {ranks : List ℕ} {given : ℕ} (t n : ℕ) → LeftsWithin t n rows → AreGiven rows ranks given → given ≤ n
given_within {rows} {ranks} t n within h = omega (arith, h.counted t n within, many_le ranks t n)

rank_zeros : (n a : ℕ) → rank (replicate n 0) a ≡ 0
rank_zeros zero a = refl
rank_zeros (suc n) zero = refl
rank_zeros (suc n) (suc a) = rank_zeros n a

many_zeros : (n t m : ℕ) → many_ranked (replicate n 0) t m ≡ 0
many_zeros n t zero = refl
many_zeros n t (suc m) =
    let e : bit (ltb 0 (rank (replicate n 0) (t + m))) ≡ 0 = ap (λ r. bit (ltb 0 r)) (rank_zeros n (t + m)) ∙ ap bit (le-ltb 0 0 (omega arith)) in
    omega (arith, e, many_zeros n t m)

pub none_given : (rows : List Row) → AreGiven rows (replicate 64 0) 0
none_given rows = record {
  size = length-replicate {A = ℕ} 64 0;
  low = λ a. omega (arith, rank_zeros 64 a);
  because = λ a l. absurd (let z : ⊥ = omega (arith, rank_zeros 64 a) in z);
  counted = λ t n _. many_zeros 64 t n;
}

module _ {rows : List Row} {ranks : List ℕ} {given : ℕ} (small : AreSmall rows) (h : AreGiven rows ranks given) (i : ℕ) (l : i < length rows) where
  abbrev left : ℕ
  left = (row_at rows i).left

  left_here : left < length ranks
  left_here = omega (arith, h.size, (small i l).left)

  pub one_given : rank ranks left ≡ 0 → ((k : ℕ) → k < (row_at rows i).size → 1 ≤ rank ranks (member_of (row_at rows i) k))
      → AreGiven rows (set ranks left (given + 1)) (given + 1)
  one_given none all = record {
    size = length-set ranks left (given + 1) ∙ h.size;
    low = λ a. low a (ℕ_discrete a left);
    because = λ a. because a (ℕ_discrete a left);
    counted = λ t n within. many_more ranks left (given + 1) left_here none (omega arith) t n (within.above i l) (within.below i l) ∙ omega (arith, h.counted t n within);
  }
    where
      low : (a : ℕ) → Dec (a ≡ left) → rank (set ranks left (given + 1)) a ≤ given + 1
      low a (yes e) = rw (e, rank_here ranks left (given + 1) left_here none (omega arith)) (omega arith)
      low a (no ne) = rw (rank_other ranks left (given + 1) left_here none (omega arith) a ne) (omega (arith, h.low a))

      now : MembersRanked (row_at rows i) ranks (given + 1)
      now = record { ranked = λ k m. (all k m, omega (arith, h.low (member_of (row_at rows i) k))) }

      because : (a : ℕ) → Dec (a ≡ left) → 1 ≤ rank (set ranks left (given + 1)) a
          → (j : ℕ) × (j < length rows) × ((row_at rows j).left ≡ a) × MembersRanked (row_at rows j) (set ranks left (given + 1)) (rank (set ranks left (given + 1)) a)
      because a (yes e) m =
          let r : rank (set ranks left (given + 1)) a ≡ given + 1 = ap (rank (set ranks left (given + 1))) e ∙ rank_here ranks left (given + 1) left_here none (omega arith) in
          (i, l, sym e, rw r (members_keep ranks left (given + 1) left_here none (omega arith) now))
      because a (no ne) m =
          let r : rank (set ranks left (given + 1)) a ≡ rank ranks a = rank_other ranks left (given + 1) left_here none (omega arith) a ne in
          let (j, k, e, w) = h.because a (omega arith) in
          (j, k, e, subst (λ r. MembersRanked (row_at rows j) (set ranks left (given + 1)) r) (sym r) (members_keep ranks left (given + 1) left_here none (omega arith) w))

  -- a row that gives none is closed
  pub closed_ranked : rank ranks left ≢ 0 → IsClosed rows ranks i
  closed_ranked ne w = omega (arith, ne)

  pub closed_unranked : (((k : ℕ) → k < (row_at rows i).size → 1 ≤ rank ranks (member_of (row_at rows i) k)) → ⊥) → IsClosed rows ranks i
  closed_unranked not w = absurd (not (λ k m. (w.ranked k m).0))
