use Rattle.std.proofs.Common.{sym}
use Rattle.paper.specs.Grammar.{members}
use Rattle.paper.specs.Image.{grammar_of}
use Rattle.tables.proofs.Masks.{full_mask, full_proper}
use Rattle.tables.proofs.Trying.{byte_fits}
use Rattle.tables.proofs.Grammar.full.Goals as goal

pub returns-clause-value : goal.returns-clause-value
returns-clause-value c = rw (byte_fits c.size.result c.size.ensures.few, c.size.ensures.size) (sym (full_mask (members (grammar_of c.args.self.now) c.args.h.0)))

pub returns-clause-byte : goal.returns-clause-byte
returns-clause-byte c = rw (byte_fits c.size.result c.size.ensures.few, c.size.ensures.size) (full_proper (members (grammar_of c.args.self.now) c.args.h.0))
