use Rattle.sheet.proofs.Counted.{IsPredicted}
use Rattle.paper.specs.Image.{grammar_of}
use Rattle.sheet.proofs.count.predictions.Given as goal

abbrev pub invariant-loop-symbols : goal.invariant-loop-symbols
invariant-loop-symbols l = IsPredicted (grammar_of l.input.grammar.now) l.fn.entry.rule.0 l.fn.entry.rest l.symbols l.steps

abbrev pub decreases-loop-symbols : goal.decreases-loop-symbols
decreases-loop-symbols l = l.symbols
