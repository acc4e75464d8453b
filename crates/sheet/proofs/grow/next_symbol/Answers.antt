use Rattle.sheet.proofs.Choosing.{none_next, next_in, next_new}
use Rattle.sheet.proofs.grow.next_symbol.Goals as goal

pub returns-then-left-eq0-clause-next : goal.returns-then-left-eq0-clause-next
returns-then-left-eq0-clause-next c = none_next c.ranges.set.fits c.ranges.done.fits c.if-left-eq0.true

pub returns-clause-next : goal.returns-clause-next
returns-clause-next c = next_in c.ranges.set.fits c.ranges.done.fits c.if-left-eq0.false

pub returns-clause-new : goal.returns-clause-new
returns-clause-new c = next_new c.ranges.set.fits c.ranges.done.fits c.if-left-eq0.false
