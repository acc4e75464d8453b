use Rattle.std.proofs.Common.{arith, ◌%◌}
use Rattle.std.proofs.lemmas.Nat.{one_shl}
use Rattle.sheet.proofs.ByteSets.{added}
use Rattle.sheet.proofs.bytes.ByteSet.add.Goals as goal

pub returns : goal.returns
returns c = rw (c.from.ensures, one_shl (c.args.byte % 64) 64 (omega arith)) (added c.args.self.now.words c.args.byte (omega arith) (omega arith))
