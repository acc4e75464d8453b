use Rattle.std.proofs.Common.{List, ℕ}
use Rattle.lines.proofs.Writing.{IsPut}
use Rattle.lines.proofs.Decimals.{Led}
use Rattle.lines.proofs.bracket.put_number.Given as goal

abbrev pub invariant-loop-power : goal.invariant-loop-power
invariant-loop-power l = record { done : List ℕ; put : IsPut l.limit l.fn.buffer l.fn.at done l.at l.buffer; led : Led l.number l.power done }

abbrev pub decreases-loop-power : goal.decreases-loop-power
decreases-loop-power l = l.power
