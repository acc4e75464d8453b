use Rattle.std.proofs.Common.{suc, ◌<◌, length, ◌∙◌, arith}
use Rattle.tables.proofs.Recalling.{ranked_again}
use Rattle.sheet.proofs.Exact.{token_reaches}
use Rattle.sheet.proofs.Underway.{underway_none, underway_token, underway_more, underway_end, on_ok_both}
use Rattle.sheet.proofs.Ongoing.{ongoing_none, ongoing_token, ongoing_low, ongoing_more, ongoing_end, caused_end, on_ok, on_ok_three}
use Rattle.sheet.proofs.build.grow.Goals as goal
use Rattle.sheet.proofs.build.grow.Goals.{then-j-gt0+in_ok-advance, else-j-gt0}

pub advance-requires-clause-reaches : goal.advance-requires-clause-reaches
advance-requires-clause-reaches c =
    let place = c.requires.state.place_le in
    rw c.from-then-j-gt0.ensures (token_reaches _ c.args.input.now.tokens.now c.args.lists.now.place c.from.result (omega arith) (omega arith) c.from.ensures)

pub loop-i-init : goal.loop-i-init
loop-i-init c =
    elim c.if-j-gt0.branch [
      | then-j-gt0+in_ok-advance w ↦ rw (w.words-is, w.lists-is) (record {
        underway = underway_token w.if-j-gt0.true w.from.ensures w.in_ok-advance.ensures.grown (rw w.from-then-j-gt0.ensures at w.in_ok-advance.ensures.advanced);
        ongoing = ongoing_token w.in_ok-advance.ensures.staged w.in_ok-advance.ensures.stays w.in_ok-advance.ensures.low;
      })
      | else-j-gt0 w ↦ rw (w.words-is, w.lists-is) (record { underway = underway_none w.if-j-gt0.false c.requires.state; ongoing = ongoing_none c.requires.none })
    ]

pub complete-requires-clause-low : goal.complete-requires-clause-low
complete-requires-clause-low c = ongoing_low c.loop-i.invariant.ongoing c.loop-i-test.true

pub loop-i-preserved : goal.loop-i-preserved
loop-i-preserved c = record {
  underway = underway_more c.loop-i.invariant.underway c.loop-i-test.true c.in_ok-complete.ensures.grown c.in_ok-complete.ensures.completed;
  ongoing = ongoing_more c.loop-i.invariant.ongoing c.loop-i.invariant.underway c.in_ok-complete.ensures.staged c.in_ok-complete.ensures.stays c.in_ok-complete.ensures.low;
}

pub returns-clause-list : goal.returns-clause-list
returns-clause-list c =
    on_ok_both _ (underway_end c.loop-i.invariant.underway c.args.input.now.fits c.loop-i-test.false) c.predict.ensures.grown c.predict.ensures.predicted

pub returns-clause-caused : goal.returns-clause-caused
returns-clause-caused c =
    let fit = c.args.input.now.fits in
    let so = c.loop-i.invariant.underway in
    let room : suc c.args.lists.now.place < length c.args.lists.now.starts = let place = c.requires.state.place_le in omega (arith, fit.short) in
    on_ok_three c.predict.result (λ grown list staged. caused_end c.args.lists.now fit (ranked_again _ _ c.args.input.now.ranked) (grown.place_is ∙ so.place) (grown.starts_are ∙ so.starts) room grown.state staged list)
    c.predict.ensures.grown (returns-clause-list c) c.predict.ensures.staged

pub returns-clause-earlier : goal.returns-clause-earlier
returns-clause-earlier c = on_ok c.predict.result (ongoing_end c.loop-i.invariant.ongoing c.loop-i.invariant.underway) c.predict.ensures.stays
