use Rattle.std.proofs.Common.{arith, ◌≡◌, ◌∙◌, ◌+◌, ◌*◌}
use Rattle.sheet.proofs.Counted.{completed_none}
use Rattle.sheet.proofs.Counting.{complete_is, partly_few}
use Rattle.sheet.proofs.count.complete_steps.Goals as goal

pub loop-i-init : goal.loop-i-init
loop-i-init c = completed_none _ _ _

pub overflow_add-steps : goal.overflow_add-steps
overflow_add-steps c = omega (arith, c.loop-i.invariant, c.completions_from-steps.ensures, partly_few c.args.input.now.fits c.args.j (64 * (c.loop-i.i + 1)) (omega (arith, c.loop-i-test.true)))

pub returns : goal.returns
returns c = let e : c.loop-i.i ≡ c.args.j + 1 = omega arith in c.loop-i.invariant ∙ (rw e (complete_is c.args.input.now.fits c.args.j))
