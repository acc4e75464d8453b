use Rattle.std.proofs.Common.{arith}
use Rattle.sheet.proofs.Listed.{last_end}
use Rattle.sheet.proofs.Finished.{finished}
use Rattle.sheet.proofs.finish.finish.Goals as goal

pub wipe-requires : goal.wipe-requires
wipe-requires c = omega (arith, last_end c.args.input.now.fits c.requires, c.requires.fits)

pub offset_bounds-words-end : goal.offset_bounds-words-end
offset_bounds-words-end c = omega (arith, last_end c.args.input.now.fits c.requires, c.requires.fits)

pub slice_bounds-fill-count : goal.slice_bounds-fill-count
slice_bounds-fill-count c = omega (arith, last_end c.args.input.now.fits c.requires, c.requires.fits, c.wipe.auto.words)

pub slice_bounds-fill-start : goal.slice_bounds-fill-start
slice_bounds-fill-start c = omega (arith, last_end c.args.input.now.fits c.requires, c.requires.fits, c.wipe.auto.words)

pub returns : goal.returns
returns c = finished c.requires _ c.wipe.new.words c.fill.new.self (last_end c.args.input.now.fits c.requires) c.wipe.ensures (c.fill.ensures.after (λ y e. e))
