use Rattle.paper.specs.Image.{grammar_of}
use Rattle.price.proofs.Counting.{Summed}
use Rattle.price.proofs.rests.count_rests.Given as goal

abbrev pub invariant-loop-h : goal.invariant-loop-h
invariant-loop-h l = Summed (grammar_of l.grammar) l.h l.sum
