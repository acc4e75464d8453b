use Rattle.std.proofs.Common.{arith}
use Rattle.image.proofs.Rows.{closed_more, self_pair, open_chain, closed_end}
use Rattle.image.proofs.order.first_open_chain.Goals as goal

pub returns-then-a-b : goal.returns-then-a-b
returns-then-a-b c =
    let rows = c.later_symbols-later.ensures in
    let same = self_pair c.args.order.now _ c.requires rows.small rows.bits c.loop-k.k c.loop-k-test.true in
    let open_pair = open_chain c.args.order.now _ c.requires rows.small rows.bits c.loop-k.k c.loop-k-test.true in
    grind arith

pub loop-k-preserved : goal.loop-k-preserved
loop-k-preserved c =
    let rows = c.later_symbols-later.ensures in
    let on = closed_more c.args.order.now _ c.requires rows.small rows.bits c.loop-k.k c.loop-k-test.true in
    grind arith

pub returns : goal.returns
returns c =
    let done = closed_end c.args.order.now c.loop-k.k c.requires (omega arith) in
    grind arith
