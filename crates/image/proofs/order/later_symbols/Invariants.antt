use Rattle.std.proofs.Common.{drop}
use Rattle.paper.specs.Image.{pairs_of}
use Rattle.image.proofs.Rows.{Marked}
use Rattle.image.proofs.order.later_symbols.Given as goal

abbrev pub invariant-loop-k : goal.invariant-loop-k
invariant-loop-k l = Marked (pairs_of l.order) (drop l.k (pairs_of l.order)) l.later
