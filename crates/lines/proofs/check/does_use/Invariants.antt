use Rattle.std.proofs.Common.{◌≡◌, ℕ, suc, ◌<◌}
use Rattle.paper.specs.Lines.{line_slot}
use Rattle.lines.proofs.check.does_use.Given as goal

abbrev pub invariant-loop-x : goal.invariant-loop-x
invariant-loop-x l = (x : ℕ) → x < l.x → ¬ (line_slot l.lines l.i x ≡ suc l.k)
