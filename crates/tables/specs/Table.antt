-- The table of a grammar: what the layers above ask often, put into one row for each rule once per call.
-- Assumes nothing.
use Rattle.std.specs.Prelude.{◌≡◌, ◌&&◌, ◌||◌, ℕ, suc, ◌+◌, ◌*◌, ◌≤◌, ◌<◌, eqb, ltb, length, get_or}
use mathlib.Core.List.{List, [], ◌∷◌}
use Rattle.paper.specs.Multiset.{bit}
use Rattle.paper.specs.Grammar.{Grammar, rule_count, left, members, symbols}
use Rattle.tables.specs.declared.Row.{Row}

-- The members that bar member k, a symbol a, as bits from member x on: those that must precede a (S4), and the equal members before k,
-- which are found before it (S7).
unfoldable pub bar_bits : Grammar → ℕ → ℕ → ℕ → List ℕ → ℕ
bar_bits g a k x [] = 0
bar_bits g a k x (b ∷ later) = bit (g.precedes b a || (ltb x k && eqb b a)) + 2 * bar_bits g a k (suc x) later

-- the members of the list that bar member k, a bit for each (S4, S7)
abbrev pub bars_of : Grammar → List ℕ → ℕ → ℕ
bars_of g s k = bar_bits g (get_or s k 0) k 0 s

-- row h of the rows; past the last there is none, and a row of zeros stands for it
abbrev pub row_at : List Row → ℕ → Row
row_at rows h = get_or rows h (record { left = 0; size = 0; members = []; bars = [] })

-- Row h says what rule h is.
pub record IsRowOf (g : Grammar) (h : ℕ) (row : Row) : Type 0 where
  pub left_is : row.left ≡ left g h
  pub size_is : row.size ≡ length (members g h)
  pub member_is : (k : ℕ) → k < length (members g h) → get_or row.members k 0 ≡ get_or (members g h) k 0
  pub bars_are : (k : ℕ) → k < length (members g h) → get_or row.bars k 0 ≡ bars_of g (members g h) k

-- The rows are those of the grammar's rules, and the firsts tell where each symbol's rules begin.
pub record Tabled (g : Grammar) (count : ℕ) (rows : List Row) (firsts : List ℕ) : Type 0 where
  pub count_is : count ≡ rule_count g
  pub rows_are : (h : ℕ) → h < rule_count g → IsRowOf g h (row_at rows h)
  -- the rules of a symbol stand together, from its first rule to the first rule of the next symbol
  pub first_le : (a : ℕ) → a ≤ symbols g → get_or firsts a 0 ≤ rule_count g
  pub before : (a h : ℕ) → a ≤ symbols g → h < get_or firsts a 0 → left g h < a
  pub from : (a h : ℕ) → a ≤ symbols g → get_or firsts a 0 ≤ h → h < rule_count g → a ≤ left g h

-- the rank of symbol a, 0 if it has none
abbrev pub rank : List ℕ → ℕ → ℕ
rank ranks a = get_or ranks a 0

-- a rule all of whose members have a rank below r, and not 0
pub record Emptied (g : Grammar) (ranks : List ℕ) (h r : ℕ) : Type 0 where
  pub ranked : (k : ℕ) → k < length (members g h) → (1 ≤ rank ranks (get_or (members g h) k 0)) × (rank ranks (get_or (members g h) k 0) < r)

-- A symbol has a rank, and not 0, exactly if it derives the empty row: one of its rules has only members of lower rank.
-- No rank is above N, which is below 65, so `Emptied g ranks h 65` asks for members of any rank but 0.
pub record Ranked (g : Grammar) (ranks : List ℕ) : Type 0 where
  pub low : (a : ℕ) → a < symbols g → rank ranks a ≤ g.nonterminals
  pub because : (a : ℕ) → a < symbols g → 1 ≤ rank ranks a → (h : ℕ) × (h < rule_count g) × (left g h ≡ a) × Emptied g ranks h (rank ranks a)
  pub closed : (h : ℕ) → h < rule_count g → Emptied g ranks h 65 → 1 ≤ rank ranks (left g h)
