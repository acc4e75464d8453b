use Rattle.std.proofs.Common.{◌≡◌, ℕ, ◌<◌, get_or, length}
use Rattle.tables.specs.Rows.{alone}
use Rattle.tables.specs.Table.{bars_of}
use Rattle.tables.proofs.admit.fill_bars.Given as goal

abbrev pub invariant-loop-k : goal.invariant-loop-k
invariant-loop-k l = record {
  size : length l.bars ≡ 8;
  filled : (i : ℕ) → i < l.k → get_or l.bars i 0 ≡ bars_of (alone l.later (record { left = 0; members = l.members })) l.members i;
}
