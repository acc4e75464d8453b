use Rattle.sheet.proofs.Counting.{rules_between}
use Rattle.sheet.proofs.count.rules_of.Goals as goal

pub returns : goal.returns
returns c =
    let first = c.first-first.ensures in
    let end = c.first-end.ensures in
    rules_between _ first.before first.from end.before end.from first.few end.few
