use Rattle.std.proofs.Common.{◌-◌}
use Rattle.paper.specs.Grammar.{members}
use Rattle.paper.specs.Image.{grammar_of}
use Rattle.tables.specs.Machine.{full_byte}
use Rattle.tables.proofs.Trying.{Untried, IsOther}
use Rattle.tables.proofs.Grammar.put_back.Given as goal

abbrev pub invariant-loop-found : goal.invariant-loop-found
invariant-loop-found l = Untried (full_byte (grammar_of l.self) l.h.0 - l.rest) l.found (IsOther (members (grammar_of l.self) l.h.0) l.a.0)

abbrev pub decreases-loop-found : goal.decreases-loop-found
decreases-loop-found l = l.found
