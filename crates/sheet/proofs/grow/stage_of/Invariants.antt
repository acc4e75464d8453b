use Rattle.paper.specs.Grammar.{members}
use Rattle.paper.specs.Image.{grammar_of}
use Rattle.sheet.proofs.Ranking.{Ranking}
use Rattle.sheet.proofs.grow.stage_of.Given as goal

abbrev pub invariant-loop-k : goal.invariant-loop-k
invariant-loop-k l = Ranking l.input.ranks.now (members (grammar_of l.input.grammar.now) l.entry.rule.0) l.entry.rest l.k l.rest l.highest
