use Rattle.std.proofs.Common.{sym, ◌∙◌, arith}
use Rattle.std.proofs.lemmas.Bool.{false≢true, eqb-true, eq-eqb}
use Rattle.lines.proofs.Parts.{at_first, at_last, stops, stuck, one_more}
use Rattle.lines.proofs.check.do_parts_join.Goals as goal

pub loop-x-init : goal.loop-x-init
loop-x-init c =
    at_first c.args.input.now.fits.is_grammar c.requires.line c.requires.rule c.requires.parts c.rule.ensures c.from-at.ensures c.full-rest.ensures.value

pub returns-in_default : goal.returns-in_default
returns-in_default c = (λ f. absurd (false≢true f), λ d. absurd (stops c.loop-x.invariant (omega (arith, c.size-x-end.ensures.size)) c.in_default.ensures d))

pub returns-in_default-take : goal.returns-in_default-take
returns-in_default-take c = (
  λ f. absurd (false≢true f),
  λ d. absurd (stuck c.loop-x.invariant (omega (arith, c.size-x-end.ensures.size)) c.in-Some.ensures c.in_default-take.ensures.left d),
)

pub loop-x-preserved : goal.loop-x-preserved
loop-x-preserved c =
    one_more c.loop-x.invariant (omega (arith, c.size-x-end.ensures.size)) c.in-Some.ensures c.in-Some-take.ensures.left c.in-Some-take.ensures.byte

pub returns : goal.returns
returns c =
    let last = at_last c.loop-x.invariant (omega (arith, c.size-x-end.ensures.size)) in
    (λ e. last.1 (eqb-true _ _ e ∙ c.to.ensures), λ d. eq-eqb _ _ (last.0 d ∙ sym c.to.ensures))
