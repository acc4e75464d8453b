use Rattle.std.proofs.Common.{◌≡◌, ℕ, ◌<◌, ◌≤◌}
use Rattle.paper.specs.Lines.{line_slot}
use Rattle.lines.proofs.check.are_slots_clear.Given as goal

abbrev pub invariant-loop-y : goal.invariant-loop-y
invariant-loop-y l = (y : ℕ) → l.x ≤ y → y < l.y → line_slot l.lines l.k y ≡ 0
