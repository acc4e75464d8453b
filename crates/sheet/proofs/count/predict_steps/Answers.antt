use Rattle.std.proofs.Common.{arith}
use Rattle.sheet.proofs.Listed.{cell_says}
use Rattle.sheet.proofs.Counted.{tally_first, tally_more, predict_small, predict_last}
use Rattle.sheet.proofs.count.predict_steps.Goals as goal

pub loop-cell-init : goal.loop-cell-init
loop-cell-init c = tally_first

pub predictions-steps-requires-clause-rule : goal.predictions-steps-requires-clause-rule
predictions-steps-requires-clause-rule c =
    (cell_says c.args.input.now.fits c.requires.place c.list_of-cells.ensures c.loop-cell-test.true (omega (arith, c.of_word-entry.type_inv)) (omega (arith, c.of_word-entry.type_inv))
    c.of_word-entry.ensures).is_rule

pub predictions-steps-requires-clause-byte : goal.predictions-steps-requires-clause-byte
predictions-steps-requires-clause-byte c =
    (cell_says c.args.input.now.fits c.requires.place c.list_of-cells.ensures c.loop-cell-test.true (omega (arith, c.of_word-entry.type_inv)) (omega (arith, c.of_word-entry.type_inv))
    c.of_word-entry.ensures).byte

pub overflow_add-steps : goal.overflow_add-steps
overflow_add-steps c =
    omega (arith, predict_small _ c.args.input.now.fits c.list_of-cells.ensures c.loop-cell.auto.cell-index-end c.loop-cell.invariant c.predictions-steps.ensures)

pub loop-cell-preserved : goal.loop-cell-preserved
loop-cell-preserved c =
    let says =
    cell_says c.args.input.now.fits c.requires.place c.list_of-cells.ensures c.loop-cell-test.true (omega (arith, c.of_word-entry.type_inv)) (omega (arith, c.of_word-entry.type_inv))
    c.of_word-entry.ensures in
    tally_more says c.loop-cell.invariant c.predictions-steps.result c.predictions-steps.ensures

pub returns : goal.returns
returns c = predict_last c.list_of-cells.ensures (omega arith) c.loop-cell.invariant
