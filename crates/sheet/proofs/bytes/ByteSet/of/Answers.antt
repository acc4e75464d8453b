use Rattle.sheet.proofs.ByteSets.{the_only, zeros}
use Rattle.sheet.proofs.bytes.ByteSet.of.Goals as goal

pub returns : goal.returns
returns c = the_only zeros c.add.ensures
