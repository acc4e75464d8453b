use Rattle.std.proofs.Common.{arith}
use Rattle.lines.proofs.check.is_shared.Goals as goal

pub symbol-requires-clause-rule : goal.symbol-requires-clause-rule
symbol-requires-clause-rule c = (c.requires.earlier c.loop-i.i (omega arith)).rule_is
