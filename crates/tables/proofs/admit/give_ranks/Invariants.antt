use Rattle.std.proofs.Common.{ℕ, ◌<◌, ◌≤◌, ◌≡◌}
use Rattle.tables.specs.Rows.{AreGiven, IsClosed}
use Rattle.tables.proofs.admit.give_ranks.Given as goal

abbrev pub invariant-loop-row : goal.invariant-loop-row
invariant-loop-row l = record {
  are_given : AreGiven l.rows l.ranks l.last;
  up : l.given ≤ l.last;
  closed : l.last ≡ l.given → (h : ℕ) → h < l.row-index → IsClosed l.rows l.ranks h;
}
