use Rattle.paper.specs.Grammar.{members}
use Rattle.paper.specs.Image.{grammar_of}
use Rattle.tables.proofs.Trying.{Gathered}
use Rattle.tables.proofs.Grammar.takeable.Given as goal

abbrev pub invariant-loop-untried : goal.invariant-loop-untried
invariant-loop-untried l = Gathered (grammar_of l.self) (members (grammar_of l.self) l.h.0) l.rest l.untried l.symbols

abbrev pub decreases-loop-untried : goal.decreases-loop-untried
decreases-loop-untried l = l.untried
