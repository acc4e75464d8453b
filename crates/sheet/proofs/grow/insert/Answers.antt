use Rattle.std.proofs.Common.{arith}
use Rattle.std.proofs.lemmas.Result.{err_from_is_err_and}
use Rattle.sheet.proofs.ByteSets.{top_falls}
use Rattle.sheet.proofs.Emptying.{all_below, all_less}
use Rattle.sheet.proofs.Filling.{filling_first, answer_true, answer_false, answer_err, cell_taken, filling_there, filling_full, filling_placed}
use Rattle.sheet.proofs.Reasons.{cell_parts}
use Rattle.sheet.proofs.Arriving.{arriving_first, arriving_there, arriving_placed}
use Rattle.sheet.proofs.grow.insert.Goals as goal

pub returns-in_err-place-clause-few : goal.returns-in_err-place-clause-few
returns-in_err-place-clause-few c =
    let is = c.args.input.now.fits.is_grammar in
    let taken = c.in-Some.ensures.taken in
    let cell = cell_taken c.loop-rest.invariant.filling taken is c.stage_of-stage.result c.word.result c.requires.rule (omega arith) c.word.ensures in
    let a = answer_err (rw c.from.ensures at c.in_err-place.ensures) in
    let r = err_from_is_err_and c.from_residual.result c.from_residual.ensures.1 in
    let many = filling_full c.loop-rest.invariant.filling taken cell is c.args.input.now.fits.short a.0 a.1 in
    rw (r.1, r.2) (a.2, omega (arith, many))

pub loop-rest-init : goal.loop-rest-init
loop-rest-init c = record {
  filling = filling_first c.requires.state c.requires.byte c.requires.found c.of-pending.ensures;
  arriving = arriving_first c.requires.staged c.requires.byte c.requires.reason (λ b. (c.of-pending.ensures b).0);
}

pub loop-rest-smaller : goal.loop-rest-smaller
loop-rest-smaller c = let taken = c.in-Some.ensures.taken in top_falls taken.was (all_less c.loop-rest.invariant.filling.emptying taken)

pub loop-rest-preserved : goal.loop-rest-preserved
loop-rest-preserved c =
    let is = c.args.input.now.fits.is_grammar in
    let taken = c.in-Some.ensures.taken in
    let cell = cell_taken c.loop-rest.invariant.filling taken is c.stage_of-stage.result c.word.result c.requires.rule (omega arith) c.word.ensures in
    let a = answer_false (rw (c.from.ensures, c.if-branch.false) at c.in_ok-place.ensures) in
    rw a.1 (record { filling = filling_there c.loop-rest.invariant.filling taken cell a.0; arriving = arriving_there c.loop-rest.invariant.arriving taken })

pub loop-rest-smaller-then-branch : goal.loop-rest-smaller-then-branch
loop-rest-smaller-then-branch c =
    let is = c.args.input.now.fits.is_grammar in
    let taken = c.in-Some.ensures.taken in
    let cell = cell_taken c.loop-rest.invariant.filling taken is c.stage_of-stage.result c.word.result c.requires.rule (omega arith) c.word.ensures in
    let told = c.learn-empty.ensures in
    top_falls taken.was (all_below c.loop-rest.invariant.filling.emptying taken cell is c.loop-rest.invariant.filling.place_le c.learn-empty.result c.take_each.new.bytes.words told.noted told.empty c.take_each.ensures)

pub loop-rest-preserved-then-branch : goal.loop-rest-preserved-then-branch
loop-rest-preserved-then-branch c =
    let is = c.args.input.now.fits.is_grammar in
    let taken = c.in-Some.ensures.taken in
    let cell = cell_taken c.loop-rest.invariant.filling taken is c.stage_of-stage.result c.word.result c.requires.rule (omega arith) c.word.ensures in
    let a = answer_true (rw (c.from.ensures, c.if-branch.true) at c.in_ok-place.ensures) in
    let told = c.learn-empty.ensures in
    let cell_is = cell_parts c.stage_of-stage.result c.word.result (omega (arith, is.few_rules)) (omega arith) (omega arith) c.word.ensures in
    record {
      filling = filling_placed c.loop-rest.invariant.filling taken cell c.learn-empty.result c.take_each.new.bytes.words is a.0 a.1 a.2 told.place told.starts (omega (arith, told.end)) told.noted told.empty c.take_each.ensures;
      arriving = arriving_placed c.loop-rest.invariant.arriving taken c.loop-rest.invariant.filling c.learn-empty.new.lists c.stage_of-stage.ensures.stage c.stage_of-stage.ensures.small cell_is a.0 a.1 a.2 told.place told.starts (omega (arith, told.end)) told.empty c.take_each.ensures;
    }
