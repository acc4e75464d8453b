use Rattle.paper.specs.Image.{grammar_of}
use Rattle.lines.proofs.Parts.{Reached}
use Rattle.lines.proofs.check.do_parts_join.Given as goal

abbrev pub invariant-loop-x : goal.invariant-loop-x
invariant-loop-x l = Reached (grammar_of l.input.grammar.now) l.input.tokens.now l.lines l.k l.h.0 l.x l.at l.rest
