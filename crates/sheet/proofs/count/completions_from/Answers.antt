use Rattle.std.proofs.Common.{arith, ◌≡◌, ◌∙◌, ◌+◌, ◌*◌}
use Rattle.sheet.proofs.Counted.{completed_more, completed_past}
use Rattle.sheet.proofs.Counting.{partly_few}
use Rattle.sheet.proofs.count.completions_from.Goals as goal
use Rattle.sheet.proofs.count.completions_from.Goals.{then-ended-x-gt0, else-ended-x-gt0}

pub overflow_mul-steps : goal.overflow_mul-steps
overflow_mul-steps c =
    let more = completed_more _ _ _ _ c.loop-x.x _ c.loop-x-test.true c.loop-x.invariant (c.from.ensures ∙ c.count_ended-ended.ensures c.loop-x.x c.loop-x-test.true) c.waiting.ensures in
    omega (arith, more, partly_few c.args.input.now.fits c.args.j (64 * c.args.i + (c.loop-x.x + 1)) (omega (arith, c.requires.earlier)))

pub overflow_add-steps : goal.overflow_add-steps
overflow_add-steps c =
    let more = completed_more _ _ _ _ c.loop-x.x _ c.loop-x-test.true c.loop-x.invariant (c.from.ensures ∙ c.count_ended-ended.ensures c.loop-x.x c.loop-x-test.true) c.waiting.ensures in
    omega (arith, more, partly_few c.args.input.now.fits c.args.j (64 * c.args.i + (c.loop-x.x + 1)) (omega (arith, c.requires.earlier)))

pub loop-x-preserved : goal.loop-x-preserved
loop-x-preserved c =
    let count = c.count_ended-ended.ensures c.loop-x.x c.loop-x-test.true in
    elim c.if-ended-x-gt0.branch [
      | then-ended-x-gt0 w ↦ rw w.steps-is (completed_more _ _ _ _ c.loop-x.x _ c.loop-x-test.true c.loop-x.invariant (w.from.ensures ∙ count) w.waiting.ensures)
      | else-ended-x-gt0 w ↦ rw w.steps-is (completed_past _ _ _ _ c.loop-x.x _ c.loop-x-test.true c.loop-x.invariant count (omega (arith, w.if-ended-x-gt0.false)))
    ]

pub returns : goal.returns
returns c =
    let e : 64 * c.args.i + c.loop-x.x ≡ 64 * (c.args.i + 1) = omega arith in
    rw e at c.loop-x.invariant
