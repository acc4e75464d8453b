use Rattle.std.proofs.Common.{arith, sym, refl, ◌∙◌}
use Rattle.sheet.proofs.Listed.{cell_says}
use Rattle.sheet.proofs.Counted.{tally_first, tops_more, tops_unfinished, tops_later, tops_other, tops_small, tops_last}
use Rattle.sheet.proofs.count.count_tops.Goals as goal
use Rattle.sheet.proofs.count.count_tops.Goals.{then-entry-eq0+then-entry-eq0-2+then-eq, else-entry-eq0, else-entry-eq0-via-then-entry-eq0+then-entry-eq0-2+else-eq, else-entry-eq0-via-then-entry-eq0+else-entry-eq0-2, else-entry-eq0-via-else-entry-eq0}

pub loop-cell-init : goal.loop-cell-init
loop-cell-init c = tally_first

pub left-requires : goal.left-requires
left-requires c =
    (cell_says c.args.input.now.fits (omega arith) c.list_of-cells.ensures c.loop-cell-test.true (omega (arith, c.of_word-entry.type_inv)) (omega (arith, c.of_word-entry.type_inv))
    c.of_word-entry.ensures).is_rule

pub overflow_add-tops : goal.overflow_add-tops
overflow_add-tops c = omega (arith, tops_small c.loop-cell.invariant, c.loop-cell-test.true)

pub loop-cell-preserved : goal.loop-cell-preserved
loop-cell-preserved c =
    let says =
    cell_says c.args.input.now.fits (omega arith) c.list_of-cells.ensures c.loop-cell-test.true (omega (arith, c.of_word-entry.type_inv)) (omega (arith, c.of_word-entry.type_inv))
    c.of_word-entry.ensures in
    elim c.if-entry-eq0.branch [
      | then-entry-eq0+then-entry-eq0-2+then-eq w ↦ rw w.tops-is (
          tops_more says c.loop-cell.invariant w.if-entry-eq0.true w.if-entry-eq0-2.true (rw (← w.left.ensures, ← w.start.ensures) (sym w.eq.ensures ∙ w.if-eq.true)))
      | else-entry-eq0 w ↦ rw w.tops-is (elim w.else-entry-eq0.branch [
        | else-entry-eq0-via-then-entry-eq0+then-entry-eq0-2+else-eq u ↦
            tops_other says c.loop-cell.invariant u.if-entry-eq0.true u.if-entry-eq0-2.true (rw (← u.left.ensures, ← u.start.ensures) (sym u.eq.ensures ∙ u.if-eq.false))
        | else-entry-eq0-via-then-entry-eq0+else-entry-eq0-2 u ↦ tops_later says c.loop-cell.invariant u.if-entry-eq0.true u.if-entry-eq0-2.false
        | else-entry-eq0-via-else-entry-eq0 u ↦ tops_unfinished says c.loop-cell.invariant u.if-entry-eq0.false
      ])
    ]

pub returns : goal.returns
returns c = tops_last refl c.list_of-cells.ensures (omega arith) c.loop-cell.invariant
