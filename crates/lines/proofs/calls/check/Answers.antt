use Rattle.std.proofs.Common.{ap, ◌∙◌, Err}
use Rattle.std.proofs.lemmas.Result.{err_from_is_err_and}
use Rattle.lines.proofs.Outcomes.{image_refused, row_refused, lines_judged}
use Rattle.lines.proofs.calls.check.Goals as goal

pub returns-in_err-grammar : goal.returns-in_err-grammar
returns-in_err-grammar c =
    let p = err_from_is_err_and c.from_residual.result c.from_residual.ensures.1 in
    image_refused c.in_err-grammar.ensures.refused (p.1 ∙ ap Err p.2)

pub returns-in_err-input : goal.returns-in_err-input
returns-in_err-input c =
    let p = err_from_is_err_and c.from_residual-in_err-input.result c.from_residual-in_err-input.ensures.1 in
    row_refused c.in_ok-grammar.ensures.refused c.in_ok-grammar.ensures.grammar c.in_err-input.ensures.refused (p.1 ∙ ap Err p.2)

pub returns : goal.returns
returns c =
    lines_judged c.in_ok-grammar.ensures.refused c.in_ok-grammar.ensures.grammar c.in_ok-input.ensures.refused c.in_ok-input.ensures.input c.first_fault.ensures
