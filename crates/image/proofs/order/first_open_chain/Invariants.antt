use Rattle.std.proofs.Common.{◌≡◌, drop}
use Rattle.paper.specs.Image.{pairs_of, closing_fault}
use Rattle.image.proofs.order.first_open_chain.Given as goal

abbrev pub invariant-loop-k : goal.invariant-loop-k
invariant-loop-k l = closing_fault (pairs_of l.order) 0 (pairs_of l.order) ≡ closing_fault (pairs_of l.order) l.k (drop l.k (pairs_of l.order))
