use Rattle.sheet.proofs.Linked.{IsLinked}
use Rattle.sheet.proofs.Opening.{IsLaying}
use Rattle.sheet.proofs.build.build.Given as goal

abbrev pub invariant-loop : goal.invariant-loop
invariant-loop l = record {
  laying : IsLaying l.input.grammar.now l.input.tokens.now l.counter l.words l.lists;
  linked : IsLinked l.input.grammar.now l.input.tokens.now l.counter l.words l.lists;
}
