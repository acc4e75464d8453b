use Rattle.std.proofs.Common.{ℕ, ◌<◌}
use Rattle.paper.specs.Image.{grammar_of}
use Rattle.lines.specs.Parts.{IsAlike}
use Rattle.lines.proofs.check.is_shared.Given as goal

abbrev pub invariant-loop-i : goal.invariant-loop-i
invariant-loop-i l = (i : ℕ) → i < l.i → ¬ IsAlike (grammar_of l.input.grammar.now) l.lines i l.k
