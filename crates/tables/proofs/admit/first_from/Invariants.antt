use Rattle.std.proofs.Common.{ℕ, ◌<◌, ◌≤◌}
use Rattle.tables.specs.Table.{row_at}
use Rattle.tables.proofs.admit.first_from.Given as goal

abbrev pub invariant-loop-first : goal.invariant-loop-first
invariant-loop-first l = (i : ℕ) → l.h ≤ i → i < l.first → (row_at l.rows i).left < l.a
