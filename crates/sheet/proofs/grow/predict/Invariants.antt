use Rattle.std.proofs.Common.{◌-◌}
use lib.Count.{ones}
use Rattle.sheet.proofs.Predicting.{Predicting}
use Rattle.sheet.proofs.Facts.{IsKept}
use Rattle.sheet.proofs.grow.predict.Given as goal

abbrev pub invariant-loop-x : goal.invariant-loop-x
invariant-loop-x l = record {
  predicting : Predicting l.input.grammar.now l.input.tokens.now l.predicted l.initial.words l.initial.lists l.words l.lists;
  kept : IsKept l.input.grammar.now l.input.tokens.now l.input.ranks.now l.initial.words l.initial.lists l.words l.lists;
}

abbrev pub decreases-loop-x : goal.decreases-loop-x
decreases-loop-x l = 64 - ones l.predicted
