-- Why an entry stands: its stage, and what its last found part was taken from. No circle runs through causes.
-- Assumes nothing.
use Rattle.std.specs.Prelude.{◌≡◌, ◌≢◌, cond, List, [], ◌∷◌, ℕ, suc, ◌/◌, ◌%◌, ◌≤◌, ◌<◌, eqb, length, get_or, max}
use mathlib.Core.List.{Memᴰ}
use Rattle.paper.specs.Grammar.{Grammar, left}
use Rattle.tables.specs.Machine.{full_byte, Leaves}
use Rattle.tables.specs.Table.{rank}
use Rattle.sheet.specs.Cells.{key, stage}

-- the parts of the word in a cell
abbrev pub rule_in : ℕ → ℕ
rule_in cell = key cell / 65536

abbrev pub origin_in : ℕ → ℕ
origin_in cell = key cell / 256 % 256

abbrev pub byte_in : ℕ → ℕ
byte_in cell = key cell % 256

-- the highest rank of the members that are found: those whose bit is not set
unfoldable pub highest : List ℕ → List ℕ → ℕ → ℕ
highest ranks [] m = 0
highest ranks (a ∷ s) m = max (cond (eqb (m % 2) 0) (rank ranks a) 0) (highest ranks s (m / 2))

-- p is the cell of the same rule and origin from which taking x leaves the one in the cell
pub record IsBefore (g : Grammar) (x p cell : ℕ) : Type 0 where
  pub rule_is : rule_in p ≡ rule_in cell
  pub origin_is : origin_in p ≡ origin_in cell
  pub leaves : Leaves g (rule_in cell) x (byte_in p) (byte_in cell)

-- f is a finished entry of x with origin h
pub record IsFinishedOf (g : Grammar) (x h f : ℕ) : Type 0 where
  pub nothing_left : byte_in f ≡ 0
  pub origin_is : origin_in f ≡ h
  pub left_is : left g (rule_in f) ≡ x

-- The cause of a cell of list e, where `cells h` are the cells of list h: the token before e, taken from list e - 1; or a symbol x that is finished from h to e,
-- taken from list h. Over the very span of the entry, x must have a lower stage than the entry; and behind an empty last part the stage does not rise.
pub data Cause (g : Grammar) (row : List ℕ) (cells : ℕ → List ℕ) (e cell : ℕ) : Type 0 where
  token : (before p : ℕ) → e ≡ suc before → before < length row → Memᴰ p (cells before) → IsBefore g (get_or row before 0) p cell → Cause g row cells e cell
  part : (x h p f : ℕ) → origin_in cell ≤ h → h ≤ e → Memᴰ p (cells h) → IsBefore g x p cell → Memᴰ f (cells e) → IsFinishedOf g x h f
      → (h ≡ origin_in cell → stage f < stage cell) → (h ≡ e → stage p ≤ stage cell) → Cause g row cells e cell

-- Every cell of list e in which something is found has a cause.
pub record IsCaused (g : Grammar) (row : List ℕ) (cells : ℕ → List ℕ) (e : ℕ) : Type 0 where
  pub each : (cell : ℕ) → Memᴰ cell (cells e) → byte_in cell ≢ full_byte g (rule_in cell) → Cause g row cells e cell
