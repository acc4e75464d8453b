use Rattle.tables.proofs.Admitting.{rows_tell}
use Rattle.tables.proofs.admit.rows_of.Goals as goal

pub returns-clause-rows : goal.returns-clause-rows
returns-clause-rows c =
    rows_tell c.args.image.now c.requires c.body-2.result.now c.body.result.now c.later_symbols-later.result c.fill_rows.result c.body-2.ensures c.body.ensures c.later_symbols-later.ensures.bits c.fill_rows.ensures.filled
