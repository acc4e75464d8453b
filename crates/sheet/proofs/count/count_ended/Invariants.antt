use Rattle.paper.specs.Image.{grammar_of}
use Rattle.sheet.proofs.Counted.{IsEnding}
use Rattle.sheet.proofs.count.count_ended.Given as goal

abbrev pub invariant-loop-cell : goal.invariant-loop-cell
invariant-loop-cell l = IsEnding (grammar_of l.input.grammar.now) l.input.tokens.now l.fn.j l.fn.i l.cell-index l.ended
