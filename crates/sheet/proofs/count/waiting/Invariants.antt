use Rattle.paper.specs.Image.{grammar_of}
use Rattle.sheet.proofs.Counted.{Tallied, waits}
use Rattle.sheet.proofs.count.waiting.Given as goal

abbrev pub invariant-loop-cell : goal.invariant-loop-cell
invariant-loop-cell l = Tallied (grammar_of l.input.grammar.now) l.input.tokens.now l.fn.i (waits (grammar_of l.input.grammar.now) l.x.0) l.cell-index l.waiting
