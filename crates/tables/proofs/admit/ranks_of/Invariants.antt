use Rattle.std.proofs.Common.{◌-◌}
use Rattle.tables.specs.Rows.{AreGiven}
use Rattle.tables.proofs.admit.ranks_of.Given as goal

abbrev pub invariant-loop-given : goal.invariant-loop-given
invariant-loop-given l = AreGiven l.rows l.ranks l.given

abbrev pub decreases-loop-given : goal.decreases-loop-given
decreases-loop-given l = 64 - l.given
