use Rattle.paper.specs.Image.{grammar_of}
use Rattle.sheet.proofs.Learning.{Untaken}
use Rattle.sheet.proofs.grow.take_each.Given as goal

abbrev pub invariant-loop-untaken : goal.invariant-loop-untaken
invariant-loop-untaken l = Untaken (grammar_of l.input.grammar.now) l.entry.rule.0 l.entry.rest l.symbols l.untaken l.fn.bytes.words l.bytes.words

abbrev pub decreases-loop-untaken : goal.decreases-loop-untaken
decreases-loop-untaken l = l.untaken
