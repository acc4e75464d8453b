use Rattle.tables.specs.Rows.{alone}
use Rattle.tables.proofs.Bars.{BarsTo}
use Rattle.tables.proofs.admit.bars_of_member.Given as goal

abbrev pub invariant-loop-x : goal.invariant-loop-x
invariant-loop-x l = BarsTo (alone l.later (record { left = 0; members = l.members })) l.members l.k l.x l.bars
