use Rattle.std.proofs.Common.{arith, ap, sym, ◌∙◌}
use Rattle.paper.specs.Image.{grammar_of}
use Rattle.paper.specs.Multiset.{bit}
use Rattle.sheet.proofs.Listed.{cell_says}
use Rattle.sheet.proofs.Counted.{tally_first, tally_more, tally_none, taken_is, waiting_small, waiting_last}
use Rattle.sheet.proofs.count.waiting.Goals as goal
use Rattle.sheet.proofs.count.waiting.Goals.{then-is_some, else-is_some}

pub loop-cell-init : goal.loop-cell-init
loop-cell-init c = tally_first

pub take-requires-clause-rule : goal.take-requires-clause-rule
take-requires-clause-rule c =
    (cell_says c.args.input.now.fits c.requires.place c.list_of-cells.ensures c.loop-cell-test.true (omega (arith, c.of_word-entry.type_inv)) (omega (arith, c.of_word-entry.type_inv))
    c.of_word-entry.ensures).is_rule

pub take-requires-clause-byte : goal.take-requires-clause-byte
take-requires-clause-byte c =
    (cell_says c.args.input.now.fits c.requires.place c.list_of-cells.ensures c.loop-cell-test.true (omega (arith, c.of_word-entry.type_inv)) (omega (arith, c.of_word-entry.type_inv))
    c.of_word-entry.ensures).byte

pub overflow_add-waiting : goal.overflow_add-waiting
overflow_add-waiting c = omega (arith, waiting_small c.args.x.0 c.loop-cell.invariant, c.loop-cell-test.true)

pub loop-cell-preserved : goal.loop-cell-preserved
loop-cell-preserved c =
    let says =
    cell_says c.args.input.now.fits c.requires.place c.list_of-cells.ensures c.loop-cell-test.true (omega (arith, c.of_word-entry.type_inv)) (omega (arith, c.of_word-entry.type_inv))
    c.of_word-entry.ensures in
    let is = taken_is (grammar_of c.args.input.now.grammar.now) c.of_word-entry.result.rule.0 c.of_word-entry.result.rest c.args.x.0 c.take.result c.take.ensures.left c.is_some.ensures in
    elim c.if-is_some.branch [
      | then-is_some w ↦ rw w.waiting-is (tally_more says c.loop-cell.invariant 1 (sym (ap bit (is ∙ w.if-is_some.true))))
      | else-is_some w ↦ rw w.waiting-is (tally_none says c.loop-cell.invariant (ap bit (is ∙ w.if-is_some.false)))
    ]

pub returns : goal.returns
returns c = waiting_last c.args.x.0 c.list_of-cells.ensures (omega arith) c.loop-cell.invariant
