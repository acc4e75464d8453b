use Rattle.std.proofs.Common.{drop, ◌+◌, arith}
use Rattle.paper.specs.Image.{pairs_of}
use Rattle.image.proofs.Rows.{pair_of, marked_none, marked_more, marked_all, next_pair, earlier_below, later_below, no_more}
use Rattle.image.proofs.order.later_symbols.Goals as goal

pub loop-k-init : goal.loop-k-init
loop-k-init c = marked_none (pairs_of c.args.order.now)

pub loop-k-preserved : goal.loop-k-preserved
loop-k-preserved c =
    let s = c.args.order.now in
    let k = c.loop-k.k in
    let sound = c.requires.pairs in
    let marked = rw (next_pair s sound k c.loop-k-test.true) at c.loop-k.invariant in
    rw c.from-earlier.ensures (marked_more (pairs_of s) (drop (k + 1) (pairs_of s)) (pair_of s k) c.loop-k.later (earlier_below s sound k c.loop-k-test.true) (later_below s sound k c.loop-k-test.true) marked)

pub returns-clause-bits : goal.returns-clause-bits
returns-clause-bits c =
    let s = c.args.order.now in
    let marked = rw (no_more s c.requires.pairs c.loop-k.k (omega arith)) at c.loop-k.invariant in
    marked_all (pairs_of s) c.loop-k.later marked
