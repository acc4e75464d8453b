use Rattle.std.proofs.Common.{◌≡◌, ℕ, ◌<◌, get_or, length}
use Rattle.tables.proofs.admit.symbols_of.Given as goal

abbrev pub invariant-loop-k : goal.invariant-loop-k
invariant-loop-k l = record {
  size : length l.symbols ≡ 8;
  filled : (i : ℕ) → i < l.k → get_or l.symbols i 0 ≡ get_or l.members i 0;
}
