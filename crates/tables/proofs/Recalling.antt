-- The ranks, from the bare fact that there are such: a rule that gives a symbol its rank can be searched for.
-- Assumes nothing.
use Rattle.std.proofs.Common.{◌≡◌, ℕ, zero, suc, ◌≤◌, ◌<◌, ◌⊎◌, inl, inr, List, length, get_or, arith}
use Rattle.std.proofs.lemmas.Bool.{cases_lt}
use Rattle.std.proofs.lemmas.Grind.{not_there}
use native.Mathlib.Decide.{ℕ_discrete}
use Rattle.paper.specs.Grammar.{Grammar, rule_count, left, members, symbols}
use Rattle.tables.specs.Table.{rank, Emptied, Ranked}

-- P holds or it does not
abbrev Settled : Type 0 → Type 0
Settled P = P ⊎ (P → ⊥)

-- of finitely many, one is found or there is none
some_below : (P : ℕ → Type 0) → ((k : ℕ) → Settled (P k)) → (n : ℕ) → ((k : ℕ) × (k < n) × P k) ⊎ ((k : ℕ) → k < n → P k → ⊥)
some_below P settled zero = inr (λ k l p. omega arith)
some_below P settled (suc n) = go (settled n) (some_below P settled n)
  where
    below : (P n → ⊥) → ((k : ℕ) → k < n → P k → ⊥) → (k : ℕ) → (k < n) ⊎ (n ≤ k) → k < suc n → P k → ⊥
    below never none k (inl l) m p = none k l p
    below never none k (inr l) m p = let e : k ≡ n = omega arith in never (rw (← e) p)

    go : Settled (P n) → ((k : ℕ) × (k < n) × P k) ⊎ ((k : ℕ) → k < n → P k → ⊥) → ((k : ℕ) × (k < suc n) × P k) ⊎ ((k : ℕ) → k < suc n → P k → ⊥)
    go (inl p) r = inl (n, omega arith, p)
    go (inr never) (inl (k, l, p)) = inl (k, omega arith, p)
    go (inr never) (inr none) = inr (λ k l p. below never none k (cases_lt k n) l p)

module _ (g : Grammar) (ranks : List ℕ) where
  unranked : (h r k : ℕ) → Settled (1 ≤ rank ranks (get_or (members g h) k 0) → rank ranks (get_or (members g h) k 0) < r → ⊥)
  unranked h r k = go (cases_lt (rank ranks (get_or (members g h) k 0)) 1) (cases_lt (rank ranks (get_or (members g h) k 0)) r)
    where
      go : (rank ranks (get_or (members g h) k 0) < 1) ⊎ (1 ≤ rank ranks (get_or (members g h) k 0)) → (rank ranks (get_or (members g h) k 0) < r) ⊎ (r ≤ rank ranks (get_or (members g h) k 0))
          → Settled (1 ≤ rank ranks (get_or (members g h) k 0) → rank ranks (get_or (members g h) k 0) < r → ⊥)
      go (inl l) b = inl (λ m n. omega arith)
      go (inr l) (inl m) = inr (λ never. never l m)
      go (inr l) (inr m) = inl (λ p q. omega arith)

  emptied_settled : (h r : ℕ) → Settled (Emptied g ranks h r)
  emptied_settled h r = go (some_below _ (unranked h r) (length (members g h)))
    where
      at : (k : ℕ) → ((1 ≤ rank ranks (get_or (members g h) k 0) → rank ranks (get_or (members g h) k 0) < r → ⊥) → ⊥)
          → (1 ≤ rank ranks (get_or (members g h) k 0)) × (rank ranks (get_or (members g h) k 0) < r)
      at k h' = both (cases_lt (rank ranks (get_or (members g h) k 0)) 1) (cases_lt (rank ranks (get_or (members g h) k 0)) r)
        where
          both : (rank ranks (get_or (members g h) k 0) < 1) ⊎ (1 ≤ rank ranks (get_or (members g h) k 0)) → (rank ranks (get_or (members g h) k 0) < r) ⊎ (r ≤ rank ranks (get_or (members g h) k 0))
              → (1 ≤ rank ranks (get_or (members g h) k 0)) × (rank ranks (get_or (members g h) k 0) < r)
          both (inl l) b = absurd (h' (λ m n. omega arith))
          both (inr l) (inl m) = (l, m)
          both (inr l) (inr m) = absurd (h' (λ p q. omega arith))

      go : ((k : ℕ) × (k < length (members g h)) × (1 ≤ rank ranks (get_or (members g h) k 0) → rank ranks (get_or (members g h) k 0) < r → ⊥))
          ⊎ ((k : ℕ) → k < length (members g h) → (1 ≤ rank ranks (get_or (members g h) k 0) → rank ranks (get_or (members g h) k 0) < r → ⊥) → ⊥)
          → Settled (Emptied g ranks h r)
      go (inl (k, l, never)) = inr (λ w. let p = w.ranked k l in never p.0 p.1)
      go (inr none) = inl (record { ranked = λ k l. at k (none k l) })

  -- rule h gives a its rank
  abbrev Gives : ℕ → ℕ → Type 0
  Gives a h = (left g h ≡ a) × Emptied g ranks h (rank ranks a)

  gives_settled : (a h : ℕ) → Settled (Gives a h)
  gives_settled a h = go (ℕ_discrete (left g h) a) (emptied_settled h (rank ranks a))
    where
      go : Dec (left g h ≡ a) → Settled (Emptied g ranks h (rank ranks a)) → Settled (Gives a h)
      go (yes e) (inl w) = inl (e, w)
      go (yes e) (inr never) = inr (λ p. never p.1)
      go (no ne) b = inr (λ p. ne p.0)

  pub ranked_again : ∥ Ranked g ranks ∥₁ → Ranked g ranks
  ranked_again t = record {
    low = λ a l. not_above a l (cases_lt g.nonterminals (rank ranks a));
    because = λ a l some. found a l some (some_below (Gives a) (gives_settled a) (rule_count g));
    closed = λ h l w. not_none h l w (cases_lt (rank ranks (left g h)) 1);
  }
    where
      not_above : (a : ℕ) → a < symbols g → (g.nonterminals < rank ranks a) ⊎ (rank ranks a ≤ g.nonterminals) → rank ranks a ≤ g.nonterminals
      not_above a l (inl m) = absurd (not_there t (λ r. let z = r.low a l in omega arith))
      not_above a l (inr m) = m

      found : (a : ℕ) → a < symbols g → 1 ≤ rank ranks a → ((h : ℕ) × (h < rule_count g) × Gives a h) ⊎ ((h : ℕ) → h < rule_count g → Gives a h → ⊥)
          → (h : ℕ) × (h < rule_count g) × (left g h ≡ a) × Emptied g ranks h (rank ranks a)
      found a l some (inl (h, m, w)) = (h, m, w.0, w.1)
      found a l some (inr none) = absurd (not_there t (λ r. let (h, m, e, w) = r.because a l some in none h m (e, w)))

      not_none : (h : ℕ) → h < rule_count g → Emptied g ranks h 65 → (rank ranks (left g h) < 1) ⊎ (1 ≤ rank ranks (left g h)) → 1 ≤ rank ranks (left g h)
      not_none h l w (inl m) = absurd (not_there t (λ r. let z = r.closed h l w in omega arith))
      not_none h l w (inr m) = m
