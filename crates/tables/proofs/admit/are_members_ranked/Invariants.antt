use Rattle.std.proofs.Common.{ℕ, ◌<◌, ◌≤◌}
use Rattle.tables.specs.Rows.{member_of}
use Rattle.tables.specs.Table.{rank}
use Rattle.tables.proofs.admit.are_members_ranked.Given as goal

abbrev pub invariant-loop-k : goal.invariant-loop-k
invariant-loop-k l = (i : ℕ) → i < l.k → 1 ≤ rank l.ranks (member_of l.row i)
