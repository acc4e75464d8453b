-- The list that grows: what holds of its cells, and what each operation does to them.
-- Assumes nothing.
use Rattle.std.specs.Prelude.{◌≡◌, ◌↔◌, ◌⊎◌, true, List, [], ◌∷◌, map, ℕ, ◌≤◌, ◌<◌, get_or}
use mathlib.Core.List.{Memᴰ}
use Rattle.paper.specs.Bits.{bit_at}
use Rattle.paper.specs.Grammar.{Grammar, IsNonterminal, rule_count, left}
use Rattle.paper.specs.Derivation.{Derives}
use Rattle.paper.specs.Entry.{Entry, may_take, taking, fresh, finished, Found}
use Rattle.paper.specs.Sheet.{word, entry_of, list_at}
use Rattle.paper.specs.Building.{sheet_of}
use Rattle.sheet.specs.Cells.{key, Ascends}

-- the entry in a cell
abbrev pub entry_in : Grammar → ℕ → Entry
entry_in g cell = entry_of g (key cell)

-- the entry stands in one of the cells
abbrev pub Holds : Grammar → List ℕ → Entry → Type 0
Holds g cells e = Memᴰ e (map (entry_in g) cells)

-- The cells are those of list j of the sheet.
pub record IsListOf (g : Grammar) (row : List ℕ) (j : ℕ) (cells : List ℕ) : Type 0 where
  pub keys_are : map key cells ≡ map (word g) (list_at (sheet_of g row) j)

-- a symbol that derives the empty row
abbrev pub DerivesNothing : Grammar → ℕ → Type 0
DerivesNothing g x = Derives g (x ∷ []) []

-- some finished entry of origin i has the left symbol x
pub record FinishedFrom (g : Grammar) (cells : List ℕ) (i x : ℕ) : Type 0 where
  pub entry : Entry
  pub stands : Holds g cells entry
  pub is_finished : finished entry ≡ true
  pub origin_is : entry.origin ≡ i
  pub left_is : left g entry.rule ≡ x

-- x may be taken from some entry
pub record Awaited (g : Grammar) (cells : List ℕ) (x : ℕ) : Type 0 where
  pub entry : Entry
  pub stands : Holds g cells entry
  pub may : may_take g x entry.rest ≡ true

-- x is looked for at place j: it is the start symbol and j is 0, or it may be taken from some entry of the list
abbrev pub LookedFor : Grammar → ℕ → List ℕ → ℕ → Type 0
LookedFor g j cells x = ((j ≡ 0) × (x ≡ g.start)) ⊎ Awaited g cells x

-- What holds of the cells of list j while it grows: the keys ascend and are words of entries that the steps find; the sets tell which symbols are finished
-- from which origin, and which are looked for; and wherever an empty part may be taken, it has been.
pub record IsGrowing (g : Grammar) (row : List ℕ) (j : ℕ) (cells found : List ℕ) (want : ℕ) : Type 0 where
  pub ascends : Ascends cells
  pub words_are : (cell : ℕ) → Memᴰ cell cells → word g (entry_in g cell) ≡ key cell
  pub sound : (e : Entry) → Holds g cells e → Found g row j e
  pub found_is : (i x : ℕ) → i < j → (bit_at x (get_or found i 0) ≡ 1) ↔ FinishedFrom g cells i x
  pub want_is : (x : ℕ) → (bit_at x want ≡ 1) ↔ (IsNonterminal g x × LookedFor g j cells x)
  pub emptied : (e : Entry) (x : ℕ) → Holds g cells e → DerivesNothing g x → may_take g x e.rest ≡ true → Holds g cells (taking x e)

-- Nothing is lost, and what is new has an origin from `low` to `high`.
pub record Grew (g : Grammar) (low high : ℕ) (old new : List ℕ) : Type 0 where
  pub keeps : (e : Entry) → Holds g old e → Holds g new e
  pub origins : (e : Entry) → Holds g new e → Holds g old e ⊎ ((low ≤ e.origin) × (e.origin ≤ high))

-- x reaches from place i to place j: taken from what the steps find on list i, it gives what they find on list j
pub record Reaches (g : Grammar) (row : List ℕ) (i j x : ℕ) : Type 0 where
  pub found : (e : Entry) → Found g row i e → may_take g x e.rest ≡ true → Found g row j (taking x e)

-- What is taken of x from the entries of list i is in the cells.
pub record Advanced (g : Grammar) (row : List ℕ) (i x : ℕ) (cells : List ℕ) : Type 0 where
  pub has : (e : Entry) → Found g row i e → may_take g x e.rest ≡ true → Holds g cells (taking x e)

-- Each symbol that is finished from origin i is taken from the entries of list i.
pub record Completed (g : Grammar) (row : List ℕ) (i : ℕ) (cells : List ℕ) : Type 0 where
  pub each : (x : ℕ) → FinishedFrom g cells i x → Advanced g row i x cells

-- Each rule whose left symbol is looked for at place j stands there with nothing found.
pub record Predicted (g : Grammar) (j : ℕ) (cells : List ℕ) : Type 0 where
  pub each : (h : ℕ) → h < rule_count g → LookedFor g j cells (left g h) → Holds g cells (fresh g h j)
