use Rattle.std.proofs.Common.{Err, refl, ap, sym, ◌∙◌}
use Rattle.std.proofs.lemmas.Result.{err_from_is_err_and}
use Rattle.lines.proofs.Outcomes.{image_refused, row_refused, lines_judged}
use Rattle.lines.proofs.Answering.{bracket_refused, bracket_invalid, bracket_put}
use Rattle.lines.proofs.bracket.bracket.Goals as goal

pub returns-in_err-grammar : goal.returns-in_err-grammar
returns-in_err-grammar c =
    let p = err_from_is_err_and c.from_residual.result c.from_residual.ensures.1 in
    bracket_refused {lines = c.args.lines.now} (image_refused c.in_err-grammar.ensures.refused refl) (p.1 ∙ ap Err p.2)

pub returns-in_err-input : goal.returns-in_err-input
returns-in_err-input c =
    let p = err_from_is_err_and c.from_residual-in_err-input.result c.from_residual-in_err-input.ensures.1 in
    bracket_refused {lines = c.args.lines.now} (row_refused c.in_ok-grammar.ensures.refused c.in_ok-grammar.ensures.grammar c.in_err-input.ensures.refused refl) (p.1 ∙ ap Err p.2)

pub returns-then-is_some : goal.returns-then-is_some
returns-then-is_some c =
    let judged = lines_judged c.in_ok-grammar.ensures.refused c.in_ok-grammar.ensures.grammar c.in_ok-input.ensures.refused c.in_ok-input.ensures.input c.first_fault.ensures in
    bracket_invalid judged (sym c.if-is_some.ensures)

pub returns : goal.returns
returns c =
    let judged = lines_judged c.in_ok-grammar.ensures.refused c.in_ok-grammar.ensures.grammar c.in_ok-input.ensures.refused c.in_ok-input.ensures.input c.first_fault.ensures in
    bracket_put judged (sym c.if-is_some.ensures) c.in_ok-input.ensures.input.1 c.write_last.ensures.end c.write_last.ensures.long c.write_last.ensures.text c.ok_or.ensures.value
