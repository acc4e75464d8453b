use Rattle.std.proofs.Common.{◌≡◌, ◌++◌, map, take, drop}
use Rattle.sheet.specs.Cells.{key}
use Rattle.sheet.proofs.finish.wipe.Given as goal

abbrev pub invariant-loop-at : goal.invariant-loop-at
invariant-loop-at l = l.words ≡ map key (take l.at l.fn.words) ++ drop l.at l.fn.words
