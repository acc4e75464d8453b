use Rattle.std.proofs.Common.{arith}
use Rattle.tables.proofs.Bars.{set_bits}
use Rattle.tables.proofs.admit.set_from.Goals as goal

pub returns : goal.returns
returns c = set_bits c.args.terminals c.args.nonterminals (omega arith) c.requires.few
