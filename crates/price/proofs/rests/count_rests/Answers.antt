use Rattle.std.proofs.Common.{arith}
use Rattle.price.proofs.Counting.{summed_none, summed_more, summed_all}
use Rattle.price.proofs.rests.count_rests.Goals as goal

pub loop-h-init : goal.loop-h-init
loop-h-init c = summed_none _

pub overflow_add-sum : goal.overflow_add-sum
overflow_add-sum c = omega (arith, c.loop-h.invariant.few)

pub loop-h-preserved : goal.loop-h-preserved
loop-h-preserved c = summed_more c.loop-h.invariant c.count_of_rule-sum.ensures.exact c.count_of_rule-sum.ensures.few (omega arith)

pub returns-clause-exact : goal.returns-clause-exact
returns-clause-exact c = summed_all c.loop-h.invariant (omega arith)

pub returns-clause-few : goal.returns-clause-few
returns-clause-few c = omega (arith, c.loop-h.invariant.few)
