-- Derivation trees over a row: derivation (G6) told by places, so that each part has a span. Demands.antt (LanguageByTrees) says that both agree.
-- Assumes nothing.
use Rattle.std.specs.Prelude.{◌≡◌, List, [], ◌∷◌, ◌++◌, ℕ, suc, ◌≤◌, ◌<◌, length, get_or}
use Rattle.paper.specs.Multiset.{Arrangement}
use Rattle.paper.specs.Grammar.{Grammar, rule_count, left, members}
use Rattle.paper.specs.Derivation.{Acceptable}

-- `Tree g row a i j` reads the tokens between places i and j as the symbol a: as a token, or by a rule of a whose parts read them.
-- `Parts g row s i j` reads them as the symbols of s, one after the other.
mutual
  pub data Tree (g : Grammar) (row : List ℕ) : ℕ → ℕ → ℕ → Type 0 where
    token : {a i : ℕ} → i < length row → get_or row i 0 ≡ a → Tree g row a i (suc i)
    node : {a i j : ℕ} {s : List ℕ} (h : ℕ) → h < rule_count g → left g h ≡ a → Arrangement s (members g h) → Acceptable g s → Parts g row s i j → Tree g row a i j

  pub data Parts (g : Grammar) (row : List ℕ) : List ℕ → ℕ → ℕ → Type 0 where
    done : {i : ℕ} → i ≤ length row → Parts g row [] i i
    part : {a i k j : ℕ} {s : List ℕ} → Tree g row a i k → Parts g row s k j → Parts g row (a ∷ s) i j

-- The symbol a is looked for at place i: it is the start symbol at place 0, or it follows parts that read up to i in a rule whose left symbol is looked for
-- where these begin. This tells part (b) of S3 by trees.
pub data Sought (g : Grammar) (row : List ℕ) : ℕ → ℕ → Type 0 where
  top : Sought g row g.start 0
  below : {a i k : ℕ} (h : ℕ) (s t : List ℕ) → h < rule_count g → Sought g row (left g h) i → Arrangement (s ++ (a ∷ t)) (members g h) → Acceptable g (s ++ (a ∷ t))
      → Parts g row s i k → Sought g row a k
