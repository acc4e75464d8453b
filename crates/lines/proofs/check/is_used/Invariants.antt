use Rattle.std.proofs.Common.{ℕ, ◌<◌}
use Rattle.paper.specs.Lines.{Uses}
use Rattle.lines.proofs.check.is_used.Given as goal

abbrev pub invariant-loop-i : goal.invariant-loop-i
invariant-loop-i l = (i : ℕ) → l.k < i → i < l.i → ¬ Uses l.lines i l.k
