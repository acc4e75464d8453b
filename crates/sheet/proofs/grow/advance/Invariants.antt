use Rattle.sheet.proofs.Advancing.{Advancing}
use Rattle.sheet.proofs.Sourcing.{IsSourcing}
use Rattle.sheet.proofs.grow.advance.Given as goal

abbrev pub invariant-loop-at : goal.invariant-loop-at
invariant-loop-at l = record {
  advancing : Advancing l.input.grammar.now l.input.tokens.now l.i l.x.0 l.at l.initial.words l.initial.lists l.words l.lists;
  sourcing : IsSourcing l.input.grammar.now l.input.tokens.now l.input.ranks.now l.i l.x.0 l.stage l.initial.words l.initial.lists l.words l.lists;
}
