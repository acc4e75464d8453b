use Rattle.tables.proofs.Bars.{SetTo}
use Rattle.tables.proofs.admit.ranked_set.Given as goal

abbrev pub invariant-loop-x : goal.invariant-loop-x
invariant-loop-x l = SetTo l.ranks l.x l.set
