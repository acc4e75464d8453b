use Rattle.std.proofs.Common.{refl, arith, below_more}
use Rattle.paper.specs.Lines.{line_rule}
use Rattle.lines.proofs.check.is_whole_right.Goals as goal

pub is_used-requires-clause-few : goal.is_used-requires-clause-few
is_used-requires-clause-few c = λ i l.
    let right = c.requires i l in
    omega (arith, right.parts_are, c.args.input.now.fits.is_grammar.few_members (line_rule c.args.lines.now i) right.rule_is)

pub loop-k-preserved : goal.loop-k-preserved
loop-k-preserved c = below_more _ _ c.loop-k.invariant (c.if-not-is_used.ensures.0 refl)
