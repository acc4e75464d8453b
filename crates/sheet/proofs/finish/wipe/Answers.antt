use Rattle.std.proofs.Common.{get_or, arith}
use Rattle.std.proofs.lemmas.List.{get_or_default}
use Rattle.std.proofs.lemmas.List.Edits.{map_over_more}
use Rattle.sheet.specs.Cells.{key}
use Rattle.sheet.proofs.finish.wipe.Goals as goal

pub loop-at-preserved : goal.loop-at-preserved
loop-at-preserved c =
    let old = get_or c.loop-at.words c.loop-at.at 0 in
    map_over_more key c.args.words.now c.loop-at.words c.loop-at.at old (omega (arith, c.requires, c.loop-at-test.true)) c.loop-at.invariant
    (get_or_default c.loop-at.words c.loop-at.at 0 old (omega (arith, c.requires, c.loop-at-test.true, c.loop-at.auto.words)))
