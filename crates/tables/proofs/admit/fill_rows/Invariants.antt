use Rattle.std.proofs.Common.{◌≡◌, drop}
use Rattle.paper.specs.Records.{record_at}
use Rattle.tables.proofs.Filling.{RowsTo}
use Rattle.tables.proofs.admit.fill_rows.Given as goal

abbrev pub invariant-loop-h : goal.invariant-loop-h
invariant-loop-h l = record {
  records_are : l.records ≡ record_at l.h (drop 1 l.rules);
  rows_are : RowsTo l.later l.rules l.h l.rows;
}
