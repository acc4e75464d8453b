use Rattle.std.proofs.Common.{arith, ◌<◌}
use Rattle.sheet.proofs.Listed.{cell_says}
use Rattle.sheet.proofs.Counted.{test_true, test_false, ending_first, ending_more, ending_not, ending_few, ending_last, symbol_small}
use Rattle.sheet.proofs.count.count_ended.Goals as goal
use Rattle.sheet.proofs.count.count_ended.Goals.{then-has_ended, else-has_ended}

pub loop-cell-init : goal.loop-cell-init
loop-cell-init c = ending_first _ _ _ _

pub left-left-requires : goal.left-left-requires
left-left-requires c =
    (cell_says c.args.input.now.fits c.requires.place c.list_of-cells.ensures c.loop-cell-test.true (omega (arith, c.of_word-entry.type_inv)) (omega (arith, c.of_word-entry.type_inv))
    c.of_word-entry.ensures).is_rule

pub bounds-ended-left : goal.bounds-ended-left
bounds-ended-left c =
    let says =
    cell_says c.args.input.now.fits c.requires.place c.list_of-cells.ensures c.loop-cell-test.true (omega (arith, c.of_word-entry.type_inv)) (omega (arith, c.of_word-entry.type_inv))
    c.of_word-entry.ensures in
    omega (arith, symbol_small c.args.input.now.fits c.requires.place says, c.left-left.ensures, c.loop-cell.invariant.long)

pub overflow_add-ended : goal.overflow_add-ended
overflow_add-ended c =
    let says =
    cell_says c.args.input.now.fits c.requires.place c.list_of-cells.ensures c.loop-cell-test.true (omega (arith, c.of_word-entry.type_inv)) (omega (arith, c.of_word-entry.type_inv))
    c.of_word-entry.ensures in
    let small : c.left-left.result.0 < 64 = omega (arith, symbol_small c.args.input.now.fits c.requires.place says, c.left-left.ensures) in
    omega (arith, ending_few c.args.input.now.fits c.list_of-cells.ensures c.loop-cell.auto.cell-index-end c.loop-cell.invariant _ small)

pub loop-cell-preserved : goal.loop-cell-preserved
loop-cell-preserved c =
    let says =
    cell_says c.args.input.now.fits c.requires.place c.list_of-cells.ensures c.loop-cell-test.true (omega (arith, c.of_word-entry.type_inv)) (omega (arith, c.of_word-entry.type_inv))
    c.of_word-entry.ensures in
    elim c.if-has_ended.branch [
      | then-has_ended w ↦
          let ended = test_true c.has_ended.ensures w.if-has_ended.true in
          rw w.ended-is (ending_more c.args.input.now.fits c.requires.place says c.loop-cell.invariant _ ended.0 ended.1 w.left-left.ensures)
      | else-has_ended w ↦
          rw w.ended-is (ending_not c.args.input.now.fits c.requires.place says c.loop-cell.invariant (test_false c.has_ended.ensures w.if-has_ended.false))
    ]

pub returns : goal.returns
returns c = ending_last c.list_of-cells.ensures (omega arith) c.loop-cell.invariant
