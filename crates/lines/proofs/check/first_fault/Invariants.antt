use Rattle.std.proofs.Common.{ℕ, ◌<◌}
use Rattle.paper.specs.Image.{grammar_of}
use Rattle.paper.specs.Lines.{LineRight}
use Rattle.lines.proofs.check.first_fault.Given as goal

abbrev pub invariant-loop-k : goal.invariant-loop-k
invariant-loop-k l = (i : ℕ) → i < l.k → LineRight (grammar_of l.input.grammar.now) l.input.tokens.now l.lines i
