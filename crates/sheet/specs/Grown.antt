-- The state of the sheet while it is built, before and after an operation.
-- Assumes nothing.
use Rattle.std.specs.Prelude.{◌≡◌, List, map, ℕ, suc, ◌≤◌, ◌<◌, length, get_or, take}
use Rattle.std.proofs.Math.Seq.{slice}
use Rattle.paper.specs.Image.{grammar_of}
use Rattle.paper.specs.Sheet.{entries}
use Rattle.paper.specs.Building.{first_lists, sheet_of}
use Rattle.paper.specs.Outcome.{sheet_words, starts_from, padded}
use Rattle.sheet.specs.Cells.{key}
use Rattle.sheet.specs.Growing.{IsListOf, IsGrowing, Grew}
use Rattle.sheet.specs.declared.grow.Lists.{Lists}

-- where list i starts
abbrev pub start_of : Lists → ℕ → ℕ
start_of lists i = get_or lists.starts i 0

-- where the list that grows starts
abbrev pub base_of : Lists → ℕ
base_of lists = start_of lists lists.place

-- the cells of the list that grows
abbrev pub cells_of : List ℕ → Lists → List ℕ
cells_of words lists = slice (base_of lists) lists.end words

-- The lists before stand among the words, and the list that grows stands behind them.
pub record IsState (image row words : List ℕ) (lists : Lists) : Type 0 where
  pub place_le : lists.place ≤ length row
  pub starts_are : (i : ℕ) → i ≤ lists.place → start_of lists i ≡ entries (first_lists (grammar_of image) row i)
  pub done : (i : ℕ) → i < lists.place → IsListOf (grammar_of image) row i (slice (start_of lists i) (start_of lists (suc i)) words)
  pub base_le : base_of lists ≤ lists.end
  pub end_le : lists.end ≤ length words
  pub growing : IsGrowing (grammar_of image) row lists.place (cells_of words lists) lists.found lists.want

-- What an operation does that puts in entries of origins from `low` to `high`.
pub record IsGrowth (image row : List ℕ) (low high : ℕ) (old : List ℕ) (before : Lists) (new : List ℕ) (after : Lists) : Type 0 where
  pub state : IsState image row new after
  pub place_is : after.place ≡ before.place
  pub starts_are : after.starts ≡ before.starts
  pub grew : Grew (grammar_of image) low high (cells_of old before) (cells_of new after)

-- the sheet has more entries than so many words
abbrev pub IsTooMany : List ℕ → List ℕ → ℕ → Type 0
IsTooMany image row words = words < entries (sheet_of (grammar_of image) row)

-- The lists of the sheet stand among the words, one behind the other, and the starts bound them.
pub record IsBuilt (image row words starts : List ℕ) : Type 0 where
  pub fits : entries (sheet_of (grammar_of image) row) ≤ length words
  pub words_are : map key (take (entries (sheet_of (grammar_of image) row)) words) ≡ sheet_words (grammar_of image) (sheet_of (grammar_of image) row)
  pub starts_are : starts ≡ padded (starts_from 0 (sheet_of (grammar_of image) row)) 66
