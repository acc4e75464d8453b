use Rattle.paper.specs.Image.{grammar_of}
use Rattle.sheet.proofs.Counted.{Tallied, predicts}
use Rattle.sheet.proofs.count.predict_steps.Given as goal

abbrev pub invariant-loop-cell : goal.invariant-loop-cell
invariant-loop-cell l = Tallied (grammar_of l.input.grammar.now) l.input.tokens.now l.fn.j (predicts (grammar_of l.input.grammar.now)) l.cell-index l.steps
