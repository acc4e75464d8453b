use Rattle.paper.specs.Grammar.{members}
use Rattle.paper.specs.Image.{grammar_of}
use Rattle.price.proofs.Counting.{Counted}
use Rattle.price.proofs.rests.count_of_rule.Given as goal

abbrev pub invariant-loop-k : goal.invariant-loop-k
invariant-loop-k l = Counted (members (grammar_of l.grammar) l.h.0) l.k l.next l.all l.whole
