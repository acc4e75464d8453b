-- Why each cell of a list stands while the list grows, what its stage is, and what an operation leaves of it.
-- Assumes nothing.
use Rattle.std.specs.Prelude.{◌≡◌, ◌⊎◌, cond, List, ℕ, suc, ◌≤◌, ◌<◌, eqb, length, get_or, take, slice_set}
use Rattle.std.proofs.Math.Seq.{slice}
use mathlib.Core.List.{Memᴰ}
use Rattle.paper.specs.Grammar.{Grammar, members}
use Rattle.paper.specs.Image.{grammar_of}
use Rattle.tables.specs.Machine.{full_byte, Leaves}
use Rattle.sheet.specs.Cells.{stage}
use Rattle.sheet.specs.Causes.{rule_in, origin_in, byte_in, highest, IsFinishedOf, IsCaused}
use Rattle.sheet.specs.Growing.{DerivesNothing}
use Rattle.sheet.specs.Grown.{base_of, cells_of}
use Rattle.sheet.specs.declared.grow.Lists.{Lists}

-- the stage with which the entry of rule h, origin i and byte m comes into list j, if it is put in with stage s: over an empty span it has the highest rank
-- of the members that are found
unfoldable pub stage_at : Grammar → List ℕ → ℕ → ℕ → ℕ → ℕ → ℕ → ℕ
stage_at g ranks j h i m s = cond (eqb i j) (highest ranks (members g h) m) s

-- p is a cell of rule h and origin i from which taking x leaves the byte m
pub record GivesByte (g : Grammar) (x p h i m : ℕ) : Type 0 where
  pub rule_is : rule_in p ≡ h
  pub origin_is : origin_in p ≡ i
  pub leaves : Leaves g h x (byte_in p) m

-- Why the entry of rule h, origin i and byte m stands, with stage s, among the cells of list j while it grows; `lists k` are the cells of list k before it.
-- Nothing of it is found; or the token before j was taken; or a symbol that is finished from a list before; or, from an entry of list j, an empty part.
pub data Reason (g : Grammar) (row : List ℕ) (j : ℕ) (lists : ℕ → List ℕ) (cells : List ℕ) (h i m s : ℕ) : Type 0 where
  fresh : m ≡ full_byte g h → Reason g row j lists cells h i m s
  token : (before p : ℕ) → j ≡ suc before → before < length row → Memᴰ p (lists before) → GivesByte g (get_or row before 0) p h i m → Reason g row j lists cells h i m s
  part : (x k p f : ℕ) → i ≤ k → k < j → Memᴰ p (lists k) → GivesByte g x p h i m → Memᴰ f cells → IsFinishedOf g x k f → (k ≡ i → stage f < s)
      → Reason g row j lists cells h i m s
  empty : (x p : ℕ) → DerivesNothing g x → Memᴰ p cells → GivesByte g x p h i m → stage p ≤ s → Reason g row j lists cells h i m s

-- Why symbol x may be taken from list i, and gives stage s to what has origin i: it is the token before list j; or it is finished from i with a lower stage.
pub data IsSource (g : Grammar) (row : List ℕ) (j : ℕ) (cells : List ℕ) (i x s : ℕ) : Type 0 where
  token : j ≡ suc i → x ≡ get_or row i 0 → IsSource g row j cells i x s
  fact : (f : ℕ) → Memᴰ f cells → IsFinishedOf g x i f → stage f < s → IsSource g row j cells i x s

-- Each cell has a reason, over an empty span the highest rank of what is found, and a stage of six bits.
pub record IsStaged (g : Grammar) (row ranks : List ℕ) (j : ℕ) (lists : ℕ → List ℕ) (cells : List ℕ) : Type 0 where
  pub reasons : (c : ℕ) → Memᴰ c cells → Reason g row j lists cells (rule_in c) (origin_in c) (byte_in c) (stage c)
  pub ranked : (c : ℕ) → Memᴰ c cells → origin_in c ≡ j → stage c ≡ highest ranks (members g (rule_in c)) (byte_in c)
  pub small : (c : ℕ) → Memᴰ c cells → stage c < 64

-- No cell of origin i has a stage above s, and none of an earlier origin a stage above 0.
pub record IsLow (i s : ℕ) (cells : List ℕ) : Type 0 where
  pub before : (c : ℕ) → Memᴰ c cells → origin_in c < i → stage c ≡ 0
  pub here : (c : ℕ) → Memᴰ c cells → origin_in c ≡ i → stage c ≤ s

-- the cells of list k, as the starts bound them
abbrev pub list_in : List ℕ → List ℕ → ℕ → List ℕ
list_in starts words k = slice (get_or starts k 0) (get_or starts (suc k) 0) words

abbrev pub AreStaged : List ℕ → List ℕ → List ℕ → List ℕ → Lists → Type 0
AreStaged image row ranks words lists = IsStaged (grammar_of image) row ranks lists.place (list_in lists.starts words) (cells_of words lists)

-- The lists before are as they were, and each cell of the list that grows stays.
pub record Stays (old : List ℕ) (before : Lists) (new : List ℕ) (after : Lists) : Type 0 where
  pub earlier : take (base_of before) new ≡ take (base_of before) old
  pub cells : (c : ℕ) → Memᴰ c (cells_of old before) → Memᴰ c (cells_of new after)

-- The cell has origin i and, unless j is that place, stage s.
pub record IsPut (i s j c : ℕ) : Type 0 where
  pub origin_is : origin_in c ≡ i
  pub stage_is : i < j → stage c ≡ s

-- Each cell of the list that grows was there, or has origin i and stage s.
pub record Puts (i s : ℕ) (old : List ℕ) (before : Lists) (new : List ℕ) (after : Lists) : Type 0 where
  pub each : (c : ℕ) → Memᴰ c (cells_of new after) → Memᴰ c (cells_of old before) ⊎ IsPut i s after.place c

-- List e is done: each of its cells in which something is found has a cause, and all are of 29 bits.
pub record IsCausedList (g : Grammar) (row : List ℕ) (lists : ℕ → List ℕ) (e : ℕ) : Type 0 where
  pub caused : IsCaused g row lists e
  pub small : (c : ℕ) → Memᴰ c (lists e) → c < 536870912

-- the starts, with the end of the list that grows
abbrev pub starts_with : Lists → List ℕ
starts_with lists = slice_set lists.starts (suc lists.place) lists.end
