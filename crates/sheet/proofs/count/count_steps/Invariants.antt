use Rattle.std.proofs.Common.{◌≡◌, ◌+◌}
use Rattle.paper.specs.Image.{grammar_of}
use Rattle.paper.specs.Sheet.{sum_below}
use Rattle.sheet.specs.Counting.{rules_with, steps_at}
use Rattle.sheet.proofs.count.count_steps.Given as goal

abbrev pub invariant-loop-j : goal.invariant-loop-j
invariant-loop-j l =
    let g = grammar_of l.input.grammar.now in
    l.steps ≡ rules_with g g.start + sum_below l.j (steps_at g l.input.tokens.now)
