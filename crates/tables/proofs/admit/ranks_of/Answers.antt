use Rattle.tables.proofs.Ranks.{none_given}
use Rattle.tables.proofs.admit.ranks_of.Goals as goal

pub loop-given-init : goal.loop-given-init
loop-given-init c = none_given c.args.rows.now
