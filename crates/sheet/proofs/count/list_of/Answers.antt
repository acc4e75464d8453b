use Rattle.std.proofs.Common.{arith}
use Rattle.sheet.proofs.Listed.{rises, within, listed}
use Rattle.sheet.proofs.count.list_of.Goals as goal

pub offset_bounds-words-starts : goal.offset_bounds-words-starts
offset_bounds-words-starts c = omega (arith, rises c.args.input.now.fits c.requires.built c.requires.place, within c.args.input.now.fits c.requires.built c.requires.place)

pub slice_bounds-result-count : goal.slice_bounds-result-count
slice_bounds-result-count c = rises c.args.input.now.fits c.requires.built c.requires.place

pub slice_bounds-result-start : goal.slice_bounds-result-start
slice_bounds-result-start c = rises c.args.input.now.fits c.requires.built c.requires.place

pub slice_bounds-result-end : goal.slice_bounds-result-end
slice_bounds-result-end c = within c.args.input.now.fits c.requires.built c.requires.place

pub returns : goal.returns
returns c = listed c.args.input.now.fits c.requires.built c.requires.place
