-- The words under a line as the part of the row between two places.
-- Assumes nothing.
use Rattle.std.specs.Prelude.{Option, Some, None, Result, Ok, Err, List, [], ℕ, ◌+◌}
use Rattle.std.proofs.Math.Seq.{slice}
use Rattle.paper.specs.Lines.{line_from}
use Rattle.paper.specs.declared.Place.{Place}
use Rattle.paper.specs.declared.Refusal.{Refusal}

-- the part of the row between two places, and the empty part where there are none
abbrev pub part_between : List ℕ → Result (Place × Place) Refusal → List ℕ
part_between row (Ok places) = slice places.0.0 places.1.0 row
part_between row (Err why) = []

-- the place where the view of line k begins: 0 if it is refused
abbrev pub view_from : List ℕ → ℕ → Option Refusal → ℕ
view_from lines k None = line_from lines k
view_from lines k (Some why) = 0

-- so many bytes behind this address, in the same block of memory
abbrev pub bytes_on : ℕ × ℕ → ℕ → ℕ × ℕ
bytes_on address n = (address.0, n + address.1)
