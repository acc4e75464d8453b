use Rattle.std.proofs.Common.{ℕ, ◌<◌}
use Rattle.paper.specs.Lines.{line_count, Uses}
use Rattle.lines.proofs.check.is_whole_right.Given as goal

abbrev pub invariant-loop-k : goal.invariant-loop-k
invariant-loop-k l = (k : ℕ) → k < l.k → (i : ℕ) × (k < i) × (i < line_count l.lines) × Uses l.lines i k
