use Rattle.std.proofs.Common.{◌-◌}
use lib.Count.{ones}
use Rattle.sheet.proofs.Completing.{Completing}
use Rattle.sheet.proofs.Facts.{IsFacts}
use Rattle.sheet.proofs.grow.complete.Given as goal

abbrev pub invariant-loop-x : goal.invariant-loop-x
invariant-loop-x l = record {
  completing : Completing l.input.grammar.now l.input.tokens.now l.i l.done l.stage l.initial.words l.initial.lists l.words l.lists;
  facts : IsFacts l.input.grammar.now l.input.tokens.now l.input.ranks.now l.i l.stage l.initial.words l.initial.lists l.words l.lists;
}

abbrev pub decreases-loop-x : goal.decreases-loop-x
decreases-loop-x l = 64 - ones l.done
