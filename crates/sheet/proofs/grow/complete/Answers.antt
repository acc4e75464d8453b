use Rattle.std.proofs.Common.{arith}
use Rattle.sheet.proofs.Choosing.{ones_fewer, zero_fewer, fewer}
use Rattle.sheet.proofs.Completing.{completing_none, next_reaches, next_finished, next_some, completed_all, completing_more}
use Rattle.sheet.proofs.Sourcing.{base_same}
use Rattle.sheet.proofs.Facts.{low_more, fact_source, facts_none, facts_more}
use Rattle.sheet.proofs.grow.complete.Goals as goal

pub loop-x-init : goal.loop-x-init
loop-x-init c = record { completing = completing_none c.args.i c.requires.state; facts = facts_none c.requires.staged c.requires.low }

pub advance-requires-clause-reaches : goal.advance-requires-clause-reaches
advance-requires-clause-reaches c = next_reaches c.loop-x.invariant.completing c.requires.earlier c.from.ensures c.in-Some.ensures.next

pub advance-requires-clause-stage : goal.advance-requires-clause-stage
advance-requires-clause-stage c =
    let some = next_some c.loop-x.invariant.completing c.requires.earlier c.from.ensures c.args.input.now.fits.is_grammar c.in-Some.ensures.next in
    omega (arith, c.loop-x.invariant.completing.stage_is, ones_fewer c.loop-x.auto.done-fits c.in-Some.ensures.below c.in-Some.ensures.new c.loop-x.invariant.completing.zero_not some)

pub advance-requires-clause-source : goal.advance-requires-clause-source
advance-requires-clause-source c =
    fact_source c.args.input.now.fits.is_grammar c.loop-x.invariant.completing.grown.state c.loop-x.invariant.facts.low
    (next_finished c.loop-x.invariant.completing c.requires.earlier c.from.ensures c.in-Some.ensures.next)

pub advance-requires-clause-low : goal.advance-requires-clause-low
advance-requires-clause-low c = low_more (omega arith) c.loop-x.invariant.facts.low

pub returns-clause-low : goal.returns-clause-low
returns-clause-low c =
    low_more (omega (arith, c.loop-x.invariant.completing.stage_is, zero_fewer c.loop-x.auto.done-fits c.loop-x.invariant.completing.zero_not)) c.loop-x.invariant.facts.low

pub loop-x-smaller : goal.loop-x-smaller
loop-x-smaller c = fewer c.loop-x.auto.done-fits c.in-Some.ensures.below c.in-Some.ensures.new

pub loop-x-preserved : goal.loop-x-preserved
loop-x-preserved c =
    let some = next_some c.loop-x.invariant.completing c.requires.earlier c.from.ensures c.args.input.now.fits.is_grammar c.in-Some.ensures.next in
    record {
      completing = completing_more c.loop-x.invariant.completing c.loop-x.auto.done-fits c.in-Some.ensures.below c.in-Some.ensures.new some c.in_ok-advance.ensures.grown c.in_ok-advance.ensures.advanced;
      facts = facts_more c.loop-x.invariant.facts (base_same 0 c.args.i c.loop-x.invariant.completing.grown) c.in_ok-advance.ensures.staged c.in_ok-advance.ensures.stays c.in_ok-advance.ensures.low;
    }

pub returns-clause-completed : goal.returns-clause-completed
returns-clause-completed c = completed_all c.loop-x.invariant.completing c.requires.earlier c.from.ensures c.in_default.ensures.next
