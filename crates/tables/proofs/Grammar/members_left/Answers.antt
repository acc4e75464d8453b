use Rattle.std.proofs.Common.{sym}
use Rattle.tables.proofs.Masks.{rest_length}
use Rattle.tables.proofs.Grammar.members_left.Goals as goal

pub returns : goal.returns
returns c = sym (rest_length c.requires.byte)
