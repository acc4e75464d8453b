use Rattle.paper.specs.Grammar.{members}
use Rattle.paper.specs.Image.{grammar_of}
use Rattle.tables.proofs.Trying.{Untried, IsNot}
use Rattle.tables.proofs.Grammar.take.Given as goal

abbrev pub invariant-loop-untried : goal.invariant-loop-untried
invariant-loop-untried l = Untried l.rest l.untried (IsNot (grammar_of l.self) (members (grammar_of l.self) l.h.0) l.rest l.a.0)

abbrev pub decreases-loop-untried : goal.decreases-loop-untried
decreases-loop-untried l = l.untried
