use Rattle.std.proofs.Common.{Err, ap, ◌∙◌}
use Rattle.std.proofs.lemmas.Result.{err_from_is_err_and}
use Rattle.lines.proofs.Answering.{view_refused}
use Rattle.lines.proofs.view.view_places.Goals as goal

pub returns-in_err-check-clause-outcome : goal.returns-in_err-check-clause-outcome
returns-in_err-check-clause-outcome c =
    let p = err_from_is_err_and c.from_residual.result c.from_residual.ensures.1 in
    view_refused c.from_residual.result c.in_err-check.ensures (p.1 ∙ ap Err p.2)
