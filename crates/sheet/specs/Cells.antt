-- The cells of the sheet while it is built. A cell is the word of an entry, which is its key, and above that a stage.
-- Assumes nothing.
use Rattle.std.specs.Prelude.{◌≡◌, Result, Ok, Err, Bool, true, false, List, ◌++◌, map, ℕ, suc, ◌-◌, ◌/◌, ◌%◌, ◌<◌, length, take, drop}
use Rattle.std.proofs.Math.Seq.{slice}
use Rattle.paper.specs.Multiset.{StrictlyAscending}
use Rattle.paper.specs.Building.{insert}
use Rattle.paper.specs.declared.Refusal.{Refusal}

-- the word of the entry in a cell: its lowest 23 bits
abbrev pub key : ℕ → ℕ
key cell = cell % 8388608

-- the stage of a cell: what stands above the word
abbrev pub stage : ℕ → ℕ
stage cell = cell / 8388608

-- the keys of a list of cells ascend, each once
abbrev pub Ascends : List ℕ → Type 0
Ascends list = StrictlyAscending (map key list)

-- What placing a cell in the list from `base` to `end` of the words may answer, and what the words then are. Where the cell's key stands in the list,
-- nothing changes; where it does not, the cell comes to its place, if there is one word more.
pub data Placed (base end cell : ℕ) (old new : List ℕ) (answer : Result Bool Refusal) : Type 0 where
  placed : end < length old → length (insert key cell (slice base end old)) ≡ suc (end - base)
      → new ≡ take base old ++ (insert key cell (slice base end old) ++ drop (suc end) old) → answer ≡ Ok true → Placed base end cell old new answer
  there : insert key cell (slice base end old) ≡ slice base end old → new ≡ old → answer ≡ Ok false → Placed base end cell old new answer
  full : length old ≡ end → length (insert key cell (slice base end old)) ≡ suc (end - base) → new ≡ old → answer ≡ Err Refusal.FewWords
      → Placed base end cell old new answer
