use Rattle.std.proofs.Common.{arith}
use Rattle.std.proofs.lemmas.Result.{err_from_is_err_and}
use Rattle.price.proofs.Pricing.{refused_image, refused_length, priced}
use Rattle.price.proofs.price.Goals as goal

pub returns-in_err-grammar : goal.returns-in_err-grammar
returns-in_err-grammar c =
    let p = err_from_is_err_and c.from_residual.result c.from_residual.ensures.1 in
    rw (p.1, p.2) (refused_image c.args.image.now c.args.n c.in_err-grammar.field-0.0 c.in_err-grammar.ensures.refused)

pub returns-then-n-gt64 : goal.returns-then-n-gt64
returns-then-n-gt64 c = refused_length c.args.image.now c.args.n c.in_ok-grammar.ensures.refused (omega arith)

pub returns : goal.returns
returns c =
    priced c.in_ok-grammar.ensures.grammar c.in_ok-grammar.ensures.refused (omega arith) c.rule_count.ensures.count (omega arith) c.count_rests-rests.ensures.exact
    c.most_entries-entries.ensures c.most_steps.ensures c.most_lines.ensures
