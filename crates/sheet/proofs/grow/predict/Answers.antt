use Rattle.sheet.proofs.Choosing.{fewer}
use Rattle.sheet.proofs.Predicting.{predicting_none, predicting_more, predicted_all}
use Rattle.sheet.proofs.Sourcing.{base_same}
use Rattle.sheet.proofs.Facts.{kept_none, kept_more}
use Rattle.sheet.proofs.grow.predict.Goals as goal

pub loop-x-init : goal.loop-x-init
loop-x-init c = record { predicting = predicting_none c.requires.state; kept = kept_none c.requires.staged }

pub loop-x-smaller : goal.loop-x-smaller
loop-x-smaller c = fewer c.loop-x.auto.predicted-fits c.in-Some.ensures.below c.in-Some.ensures.new

pub loop-x-preserved : goal.loop-x-preserved
loop-x-preserved c =
    let place = c.args.lists.now.place in
    record {
      predicting = predicting_more c.loop-x.invariant.predicting c.loop-x.auto.predicted-fits c.in-Some.ensures.below c.in-Some.ensures.new c.in_ok-predict_symbol.ensures.grown c.in_ok-predict_symbol.ensures.predicted;
      kept = kept_more c.loop-x.invariant.kept (base_same place place c.loop-x.invariant.predicting.grown) c.in_ok-predict_symbol.ensures.staged c.in_ok-predict_symbol.ensures.stays;
    }

pub returns-clause-predicted : goal.returns-clause-predicted
returns-clause-predicted c = predicted_all c.args.input.now.fits.is_grammar c.loop-x.invariant.predicting c.in_default.ensures.next
