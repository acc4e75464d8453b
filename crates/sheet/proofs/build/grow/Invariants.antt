use Rattle.sheet.proofs.Ongoing.{IsOngoing}
use Rattle.sheet.proofs.Underway.{IsUnderway}
use Rattle.sheet.proofs.build.grow.Given as goal

abbrev pub invariant-loop-i : goal.invariant-loop-i
invariant-loop-i l = record {
  underway : IsUnderway l.input.grammar.now l.input.tokens.now l.fn.lists l.i l.words l.lists;
  ongoing : IsOngoing l.input.grammar.now l.input.tokens.now l.input.ranks.now l.i l.fn.words l.fn.lists l.words l.lists;
}
