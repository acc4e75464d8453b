use Rattle.std.proofs.Common.{arith, ◌≡◌, ◌+◌, length, ap, ◌∙◌}
use Rattle.paper.specs.Image.{grammar_of}
use Rattle.sheet.specs.Counting.{rules_with}
use Rattle.sheet.proofs.Counted.{steps_none, steps_next, rules_few}
use Rattle.sheet.proofs.Counting.{steps_few, partial_few, steps_are}
use Rattle.sheet.proofs.count.count_steps.Goals as goal

pub loop-j-init : goal.loop-j-init
loop-j-init c =
    let g = grammar_of c.args.input.now.grammar.now in
    omega (arith, c.rules_of-steps.ensures, ap (rules_with g) c.start.ensures, steps_none g c.args.input.now.tokens.now)

pub overflow_add-steps : goal.overflow_add-steps
overflow_add-steps c =
    let fit = c.args.input.now.fits in
    omega (
      arith,
      c.loop-j.invariant,
      c.list_steps-steps.ensures,
      rules_few _ fit.is_grammar (grammar_of c.args.input.now.grammar.now).start,
      partial_few fit c.loop-j.j (omega arith),
      steps_few fit c.loop-j.j,
    )

pub loop-j-preserved : goal.loop-j-preserved
loop-j-preserved c = steps_next _ _ c.loop-j.j _ c.loop-j.invariant c.list_steps-steps.ensures

pub returns : goal.returns
returns c =
    let e : c.loop-j.j ≡ length c.args.input.now.tokens.now + 1 = omega arith in
    c.loop-j.invariant ∙ rw e (steps_are c.args.input.now.fits)
