use Rattle.std.proofs.Common.{arith, refl}
use Rattle.tables.proofs.Filling.{no_rows, one_row, next_records, first_record}
use Rattle.tables.proofs.admit.fill_rows.Goals as goal

pub loop-h-init : goal.loop-h-init
loop-h-init c = record { records_are = first_record c.args.rules.now; rows_are = no_rows c.args.later.now c.args.rules.now _ refl }

pub loop-h-preserved : goal.loop-h-preserved
loop-h-preserved c =
    let e = c.loop-h.invariant.records_are in
    record {
      records_are = next_records c.args.rules.now c.loop-h.records.now c.loop-h.h c.from.result e c.from.ensures;
      rows_are = one_row c.row_of.result c.loop-h.invariant.rows_are (omega arith) (rw e at c.row_of.ensures.row);
    }
