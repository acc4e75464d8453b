use Rattle.sheet.proofs.Predicting.{PredictingRules}
use Rattle.sheet.proofs.Facts.{IsKept}
use Rattle.sheet.proofs.grow.predict_symbol.Given as goal

abbrev pub invariant-loop-h : goal.invariant-loop-h
invariant-loop-h l = record {
  rules : PredictingRules l.input.grammar.now l.input.tokens.now l.fn.x.0 l.h l.initial.words l.initial.lists l.words l.lists;
  kept : IsKept l.input.grammar.now l.input.tokens.now l.input.ranks.now l.initial.words l.initial.lists l.words l.lists;
}
