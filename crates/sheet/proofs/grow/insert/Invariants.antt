use Rattle.sheet.proofs.ByteSets.{top}
use Rattle.sheet.proofs.Arriving.{IsArriving}
use Rattle.sheet.proofs.Filling.{IsFilling}
use Rattle.sheet.proofs.grow.insert.Given as goal

abbrev pub invariant-loop-rest : goal.invariant-loop-rest
invariant-loop-rest l = record {
  filling : IsFilling l.input.grammar.now l.input.tokens.now l.entry.rule.0 l.entry.origin.0 l.entry.rest l.fn.words l.fn.lists l.words l.lists l.pending.words;
  arriving : IsArriving l.input.grammar.now l.input.tokens.now l.input.ranks.now l.entry.rule.0 l.entry.origin.0 l.stage l.fn.words l.fn.lists l.words l.lists l.pending.words;
}

abbrev pub decreases-loop-rest : goal.decreases-loop-rest
decreases-loop-rest l = top l.pending.words
