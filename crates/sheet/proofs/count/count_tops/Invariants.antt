use Rattle.std.proofs.Common.{length}
use Rattle.paper.specs.Image.{grammar_of}
use Rattle.sheet.proofs.Counted.{Tallied, topped}
use Rattle.sheet.proofs.count.count_tops.Given as goal

abbrev pub invariant-loop-cell : goal.invariant-loop-cell
invariant-loop-cell l = Tallied (grammar_of l.input.grammar.now) l.input.tokens.now (length l.input.tokens.now) (topped (grammar_of l.input.grammar.now)) l.cell-index l.tops
