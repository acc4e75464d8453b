use Rattle.std.proofs.Common.{◌<◌, arith}
use Rattle.std.proofs.lemmas.Nat.{one_shl}
use Rattle.sheet.proofs.Learning.{noted_finished, noted_other, empty_parts}
use Rattle.sheet.proofs.grow.learn.Goals as goal
use Rattle.sheet.proofs.grow.learn.Goals.{then-entry-eq0+then-entry-from, else-entry-eq0, else-entry-eq0-via-then-entry-eq0+else-entry-from, else-entry-eq0-via-else-entry-eq0}

pub returns-clause-noted : goal.returns-clause-noted
returns-clause-noted c = elim c.if-entry-eq0.branch [
  | then-entry-eq0+then-entry-from w ↦ (
      let low : w.left.result.0 < 64 = let is = c.args.input.now.fits.is_grammar in omega (arith, is.few_symbols, (is.left_is c.args.entry.rule.0 c.requires.rule).below, w.left.ensures) in
      rw (w.lists-is, one_shl w.left.result.0 64 low) (noted_finished _ _ _ _ _ _ _ _ _ c.takeable-symbols.ensures c.nonterminal_set.ensures w.left.result.0 w.if-entry-eq0.true (omega arith) w.left.ensures))
  | else-entry-eq0 w ↦ rw w.lists-is (noted_other _ _ _ _ _ _ _ _ _ c.takeable-symbols.ensures c.nonterminal_set.ensures (λ e l. elim w.else-entry-eq0.branch [
    | else-entry-eq0-via-then-entry-eq0+else-entry-from v ↦ omega arith
    | else-entry-eq0-via-else-entry-eq0 v ↦ v.if-entry-eq0.false e
  ]))
]

pub returns-clause-empty : goal.returns-clause-empty
returns-clause-empty c = empty_parts _ _ _ _ _ c.takeable-symbols.ensures c.empty_set.ensures
