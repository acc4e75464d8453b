use Rattle.std.proofs.Common.{◌≡◌, ◌*◌, drop}
use Rattle.paper.specs.Image.{pair_fault}
use Rattle.image.proofs.order.first_bad_pair.Given as goal

abbrev pub invariant-loop-k : goal.invariant-loop-k
invariant-loop-k l = pair_fault l.symbols 0 0 l.order ≡ pair_fault l.symbols l.k l.least (drop (2 * l.k) l.order)
