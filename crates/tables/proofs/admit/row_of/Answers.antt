use Rattle.std.proofs.Common.{◌-◌, ◌+◌, arith, refl, ap, take, drop}
use Rattle.tables.proofs.Filling.{row_filled}
use Rattle.tables.proofs.admit.row_of.Goals as goal

pub returns-clause-row : goal.returns-clause-row
returns-clause-row c =
    row_filled c.args.later.now c.args.bytes.now _ c.requires refl refl (take (2 + c.from.result - 2) (drop 2 c.args.bytes.now)) (ap (λ n. take n (drop 2 c.args.bytes.now)) (omega (arith, c.from.ensures)))
    c.symbols_of.ensures c.fill_bars.ensures
