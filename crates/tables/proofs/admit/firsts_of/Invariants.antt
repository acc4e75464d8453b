use Rattle.tables.proofs.Firsts.{FirstsTo}
use Rattle.tables.proofs.admit.firsts_of.Given as goal

abbrev pub invariant-loop-a : goal.invariant-loop-a
invariant-loop-a l = FirstsTo l.rows l.firsts l.a l.first
