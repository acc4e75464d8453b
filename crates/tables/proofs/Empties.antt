-- A symbol has a rank exactly if it derives the empty row.
-- Assumes nothing.
use Rattle.std.proofs.Common.{◌≡◌, ◌↔◌, ◌⊎◌, inl, inr, ℕ, zero, suc, ◌<◌, ◌≤◌, List, [], ◌∷◌, length, get_or, arith, true, eqb, sym, subst}
use Rattle.std.proofs.lemmas.Bool.{or_cases, eqb-true, false≢true}
use Rattle.paper.specs.Multiset.{has}
use Rattle.paper.specs.Grammar.{Grammar, IsGrammar, rule_count, left, members, symbols}
use Rattle.paper.specs.Derivation.{Derives, none}
use Rattle.paper.specs.Tree.{Tree, token, node, Parts, done, part}
use Rattle.paper.proofs.Multiset.{arranged_sym}
use Rattle.paper.proofs.Machine.{has_head, has_tail, has_place, has_arranged, arranged_acceptable}
use Rattle.paper.proofs.Rewriting.{derives_yields, derives_append}
use Rattle.paper.proofs.Trees.{derives_tree}
use Rattle.tables.specs.Table.{rank, Ranked}

-- symbols that each derive nothing derive nothing together
all_derive : {g : Grammar} (s : List ℕ) → ((b : ℕ) → has b s ≡ true → Derives g (b ∷ []) []) → Derives g s []
all_derive [] each = none
all_derive (a ∷ s) each =
    derives_append {s = a ∷ []} {t = []} {u = s} {v = []} (each a (has_head a s)) (all_derive s (λ b h. each b (has_tail b a s h)))

has_either : (P : ℕ → Type 0) (a b : ℕ) (s : List ℕ) → P a → (has b s ≡ true → P b) → has b (a ∷ s) ≡ true → P b
unfolding has
has_either P a b s here there h = go (or_cases (eqb b a) (has b s) h)
  where
    go : (eqb b a ≡ true) ⊎ (has b s ≡ true) → P b
    go (inl e) = subst P (sym (eqb-true b a e)) here
    go (inr f) = there f

has_none : (b : ℕ) → has b [] ≡ true → ⊥
unfolding has
has_none b h = false≢true h

-- what holds at each place holds of each symbol of the list
has_at : (P : ℕ → Type 0) (s : List ℕ) → ((k : ℕ) → k < length s → P (get_or s k 0)) → (b : ℕ) → has b s ≡ true → P b
has_at P [] each b h = absurd (has_none b h)
has_at P (a ∷ s) each b h = has_either P a b s (each 0 (omega arith)) (has_at P s (λ k l. each (suc k) (omega arith)) b) h

module _ {g : Grammar} (is : IsGrammar g) {ranks : List ℕ} (r : Ranked g ranks) where
  -- a symbol with a rank derives nothing
  rank_derives : (n a : ℕ) → a < symbols g → 1 ≤ rank ranks a → rank ranks a ≤ n → Derives g (a ∷ []) []
  rank_derives zero a l some few = absurd (let z : ⊥ = omega arith in z)
  rank_derives (suc n) a l some few =
      let (h, m, e, w) = r.because a l some in
      let (t, arranged, acceptable) = arranged_acceptable is.order (members g h) in
      derives_yields (record { rule = h; is_rule = m; left_is = e; arranged = arranged; acceptable = acceptable })
      (all_derive t (λ b i. has_at (λ b. Derives g (b ∷ []) []) (members g h)
      (λ k p. rank_derives n (get_or (members g h) k 0) (is.members_are h k m p) (w.ranked k p).0 (omega (arith, (w.ranked k p).1)))
      b (has_arranged b arranged i)))

  -- a rule whose parts have ranks has a left symbol with one
  node_rank : (h : ℕ) → h < rule_count g → ((b : ℕ) → has b (members g h) ≡ true → 1 ≤ rank ranks b) → 1 ≤ rank ranks (left g h)
  node_rank h l each =
      r.closed h l (record { ranked = λ k p. (each (get_or (members g h) k 0) (has_place (members g h) k p), omega (arith, r.low (get_or (members g h) k 0) (is.members_are h k l p), is.few_symbols, is.a_terminal)) })

  -- a tree over no token
  mutual
    tree_rank : {a i j : ℕ} → Tree g [] a i j → 1 ≤ rank ranks a
    tree_rank (token h e) = absurd (let z : ⊥ = omega arith in z)
    tree_rank (node h l e arranged acceptable p) = rw (← e) (node_rank h l (λ b m. parts_rank p b (has_arranged b (arranged_sym arranged) m)))

    parts_rank : {s : List ℕ} {i j : ℕ} → Parts g [] s i j → (b : ℕ) → has b s ≡ true → 1 ≤ rank ranks b
    parts_rank (done h) b m = absurd (has_none b m)
    parts_rank (part {a = a} {s = s} x p) b m = has_either (λ b. 1 ≤ rank ranks b) a b s (tree_rank x) (parts_rank p b) m

  pub rank_exactly : (a : ℕ) → (1 ≤ rank ranks a → a < symbols g) → (1 ≤ rank ranks a) ↔ Derives g (a ∷ []) []
  rank_exactly a within = (
    λ some. rank_derives (rank ranks a) a (within some) some (omega arith),
    λ d. tree_rank (derives_tree a 0 0 (omega arith) (omega arith) d),
  )
