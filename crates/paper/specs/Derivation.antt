-- Derivation (docs/RULES.md, "Grammar and derivation"; Shieber, definitions 1 to 6, with multisets for right sides).
-- Assumes nothing.
use Rattle.std.specs.Prelude.{◌≡◌, false, List, [], ◌∷◌, ◌++◌, ℕ, ◌<◌, length, get_or}
use Rattle.paper.specs.Multiset.{Arrangement}
use Rattle.paper.specs.Grammar.{Grammar, rule_count, left, members, IsRow}

-- no two symbols of the sequence, near or far apart, stand against the order (G4; Shieber, definition 1)
pub record Acceptable (g : Grammar) (sequence : List ℕ) : Type 0 where
  pub in_order : (i j : ℕ) → i < j → j < length sequence → g.precedes (get_or sequence j 0) (get_or sequence i 0) ≡ false

-- some rule of the symbol has the sequence as an acceptable arrangement of its members (G6; Shieber, definitions 3 and 4)
pub record Yields (g : Grammar) (symbol : ℕ) (sequence : List ℕ) : Type 0 where
  pub rule : ℕ
  pub is_rule : rule < rule_count g
  pub left_is : left g rule ≡ symbol
  pub arranged : Arrangement sequence (members g rule)
  pub acceptable : Acceptable g sequence

-- one step: a symbol of the whole gives way to a sequence that it yields (G6; Shieber, definition 5)
pub record Step (g : Grammar) (whole next : List ℕ) : Type 0 where
  pub before : List ℕ
  pub symbol : ℕ
  pub behind : List ℕ
  pub sequence : List ℕ
  pub whole_is : whole ≡ before ++ (symbol ∷ behind)
  pub next_is : next ≡ before ++ (sequence ++ behind)
  pub yields : Yields g symbol sequence

-- steps one after another, or none (G6; Shieber, definition 5)
pub data Derives (g : Grammar) : List ℕ → List ℕ → Type 0 where
  none : {s : List ℕ} → Derives g s s
  more : {s t u : List ℕ} → Step g s t → Derives g t u → Derives g s u

-- the row is in the language (G6; Shieber, definition 6)
pub record InLanguage (g : Grammar) (row : List ℕ) : Type 0 where
  pub is_row : IsRow g row
  pub derives : Derives g (g.start ∷ []) row
