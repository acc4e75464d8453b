-- What is said of the rows while they are filled, and of the ranks over them.
-- Assumes nothing.
use Rattle.std.specs.Prelude.{◌≡◌, List, [], ◌∷◌, ℕ, zero, suc, ◌+◌, ◌≤◌, ◌<◌, ltb, eqb, length, get_or}
use Rattle.paper.specs.Bits.{bit_at}
use Rattle.paper.specs.Multiset.{bit}
use Rattle.paper.specs.Grammar.{Rule, Grammar}
use Rattle.paper.specs.Image.{byte, record_size}
use Rattle.tables.specs.declared.Row.{Row}
use Rattle.tables.specs.Table.{row_at, rank}

-- A whole record stands at the front of these bytes, of at most 8 members, each a symbol below 64.
pub record IsRecord (r : List ℕ) : Type 0 where
  pub fits : record_size r ≤ length r
  pub few : byte r 1 ≤ 8
  pub below : (k : ℕ) → k < byte r 1 → byte r (2 + k) < 64

-- the grammar of one rule, where a precedes b if bit b of row a is set
abbrev pub alone : List ℕ → Rule → Grammar
alone later rule =
    record { terminals = 0; nonterminals = 0; start = 0; rules = rule ∷ []; precedes = λ a b. eqb (bit_at b (get_or later a 0)) 1 }

-- member k of a row
abbrev pub member_of : Row → ℕ → ℕ
member_of row k = get_or row.members k 0

-- Each member of the row is a symbol below 64, and there are at most 8; so is its left symbol.
pub record IsSmall (row : Row) : Type 0 where
  pub left : row.left < 64
  pub few : row.size ≤ 8
  pub below : (k : ℕ) → k < row.size → member_of row k < 64

abbrev pub AreSmall : List Row → Type 0
AreSmall rows = (h : ℕ) → h < length rows → IsSmall (row_at rows h)

-- the left symbols ascend, equals allowed
pub record LeftsAscend (rows : List Row) : Type 0 where
  pub ascend : (h k : ℕ) → h < k → k < length rows → (row_at rows h).left ≤ (row_at rows k).left

-- the left symbols are among the n symbols from t on
pub record LeftsWithin (t n : ℕ) (rows : List Row) : Type 0 where
  pub above : (h : ℕ) → h < length rows → t ≤ (row_at rows h).left
  pub below : (h : ℕ) → h < length rows → (row_at rows h).left < t + n

-- all members of the row have a rank below r, and not 0
pub record MembersRanked (row : Row) (ranks : List ℕ) (r : ℕ) : Type 0 where
  pub ranked : (k : ℕ) → k < row.size → (1 ≤ rank ranks (member_of row k)) × (rank ranks (member_of row k) < r)

-- how many of the n symbols from t on have a rank
abbrev pub many_ranked : List ℕ → ℕ → ℕ → ℕ
many_ranked ranks t zero = 0
many_ranked ranks t (suc n) = bit (ltb 0 (rank ranks (t + n))) + many_ranked ranks t n

-- The ranks from 1 to `given` are given, each to the left symbol of a row all of whose members have lower ranks.
pub record AreGiven (rows : List Row) (ranks : List ℕ) (given : ℕ) : Type 0 where
  pub size : length ranks ≡ 64
  pub low : (a : ℕ) → rank ranks a ≤ given
  pub because : (a : ℕ) → 1 ≤ rank ranks a → (h : ℕ) × (h < length rows) × ((row_at rows h).left ≡ a) × MembersRanked (row_at rows h) ranks (rank ranks a)
  pub counted : (t n : ℕ) → LeftsWithin t n rows → many_ranked ranks t n ≡ given

-- a row all of whose members have a rank has a left symbol with one
abbrev pub IsClosed : List Row → List ℕ → ℕ → Type 0
IsClosed rows ranks h = MembersRanked (row_at rows h) ranks 256 → 1 ≤ rank ranks (row_at rows h).left
