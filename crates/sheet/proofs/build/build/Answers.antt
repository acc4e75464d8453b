use Rattle.sheet.proofs.Linked.{linked_first, linked_next, linked_end}
use Rattle.sheet.proofs.Opening.{laying_first, laying_next, laying_end}
use Rattle.sheet.proofs.build.build.Goals as goal

pub loop-init : goal.loop-init
loop-init c =
    let first = c.first_lists-lists.ensures in
    record {
      laying = laying_first (first.state c.args.words.now) first.place first.starts;
      linked = linked_first (first.none c.args.words.now);
    }

pub loop-preserved : goal.loop-preserved
loop-preserved c =
    let fit = c.args.input.now.fits in
    let so = c.loop.invariant in
    let grown = c.in_ok-grow.ensures in
    let next = c.open_next.ensures in
    record {
      laying = laying_next so.laying grown.state grown.place grown.starts next.state next.place next.starts;
      linked = linked_next c.grow.new.words c.grow.new.lists fit so.laying so.linked grown.place grown.starts grown.earlier grown.caused next.place next.starts next.none;
    }

pub returns : goal.returns
returns c =
    let fit = c.args.input.now.fits in
    let so = c.loop.invariant in
    let grown = c.in_ok-grow-2.ensures in
    record {
      built = laying_end so.laying grown.state grown.place grown.starts fit grown.list c.loop-test.false;
      caused = linked_end c.grow-2.new.words c.grow-2.new.lists fit so.laying so.linked grown.place grown.starts grown.earlier grown.caused c.loop-test.false;
      few = tt;
    }
