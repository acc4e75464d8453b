use Rattle.std.proofs.Common.{arith}
use Rattle.tables.proofs.Bars.{set_none, set_passed, set_more}
use Rattle.tables.proofs.admit.ranked_set.Goals as goal
use Rattle.tables.proofs.admit.ranked_set.Goals.{then-ranks-x-ne0, else-ranks-x-ne0}

pub loop-x-init : goal.loop-x-init
loop-x-init c = set_none c.args.ranks.now

pub loop-x-preserved : goal.loop-x-preserved
loop-x-preserved c =
    elim c.if-ranks-x-ne0.branch [
      | then-ranks-x-ne0 w ↦ rw w.set-is (set_more c.args.ranks.now c.loop-x.x c.loop-x.set c.loop-x.invariant (omega arith) w.if-ranks-x-ne0.true)
      | else-ranks-x-ne0 w ↦ rw w.set-is (set_passed c.args.ranks.now c.loop-x.x c.loop-x.set c.loop-x.invariant (omega arith))
    ]
