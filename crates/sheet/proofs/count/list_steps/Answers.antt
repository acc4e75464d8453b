use Rattle.std.proofs.Common.{arith, get_or}
use Rattle.paper.specs.Image.{grammar_of}
use Rattle.sheet.proofs.Counted.{steps_sum}
use Rattle.sheet.proofs.Counting.{predict_few, complete_few, waiting_few, scan_here, scan_past}
use Rattle.sheet.proofs.count.list_steps.Goals as goal

pub overflow_add-steps : goal.overflow_add-steps
overflow_add-steps c =
    let fit = c.args.input.now.fits in
    omega (arith, c.predict_steps.ensures, c.complete_steps.ensures, predict_few fit c.args.j, complete_few fit c.args.j)

pub returns-then-j-input : goal.returns-then-j-input
returns-then-j-input c =
    let fit = c.args.input.now.fits in
    omega (arith, c.predict_steps.ensures, c.complete_steps.ensures, steps_sum (grammar_of c.args.input.now.grammar.now) c.args.input.now.tokens.now c.args.j, scan_past fit c.args.j (omega (arith, c.if-j-input.true)))

pub overflow_add-result : goal.overflow_add-result
overflow_add-result c =
    let fit = c.args.input.now.fits in
    omega (arith, c.predict_steps.ensures, c.complete_steps.ensures, predict_few fit c.args.j, complete_few fit c.args.j, rw c.from.ensures at c.waiting.ensures, waiting_few fit c.args.j (get_or c.args.input.now.tokens.now c.args.j 0))

pub returns : goal.returns
returns c =
    let fit = c.args.input.now.fits in
    omega (
      arith,
      c.predict_steps.ensures,
      c.complete_steps.ensures,
      rw c.from.ensures at c.waiting.ensures,
      steps_sum (grammar_of c.args.input.now.grammar.now) c.args.input.now.tokens.now c.args.j,
      scan_here fit c.args.j (omega (arith, c.requires.place, c.if-j-input.false)),
    )
