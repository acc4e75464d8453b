use Rattle.std.proofs.Common.{◌≡◌, ◌+◌, ◌*◌}
use Rattle.paper.specs.Image.{grammar_of}
use Rattle.paper.specs.Sheet.{sum_below}
use Rattle.sheet.specs.Counting.{completed_by}
use Rattle.sheet.proofs.count.completions_from.Given as goal

abbrev pub invariant-loop-x : goal.invariant-loop-x
invariant-loop-x l =
    sum_below (64 * l.i) (completed_by (grammar_of l.input.grammar.now) l.input.tokens.now l.j) + l.steps
    ≡ sum_below (64 * l.i + l.x) (completed_by (grammar_of l.input.grammar.now) l.input.tokens.now l.j)
