use Rattle.std.proofs.Common.{◌≡◌, ◌<◌, arith}
use Rattle.paper.specs.Grammar.{rule_count, left}
use Rattle.paper.specs.Image.{grammar_of}
use Rattle.sheet.proofs.Predicting.{rules_none, rule_found, rules_more, rules_all}
use Rattle.sheet.specs.Stages.{Reason}
use Rattle.sheet.proofs.Sourcing.{base_same}
use Rattle.sheet.proofs.Facts.{kept_none, kept_more}
use Rattle.sheet.proofs.grow.predict_symbol.Goals as goal

pub loop-h-init : goal.loop-h-init
loop-h-init c = record { rules = rules_none c.requires.state c.first-h.ensures.before; kept = kept_none c.requires.staged }

pub insert-requires-clause-found : goal.insert-requires-clause-found
insert-requires-clause-found c =
    let rule : c.loop-h.h < rule_count (grammar_of c.args.input.now.grammar.now) = omega (arith, c.loop-h-test.true, c.first-h-end.ensures.few) in
    let of_x : left (grammar_of c.args.input.now.grammar.now) c.loop-h.h ≡ c.args.x.0 =
    omega (arith, c.first-h.ensures.from c.loop-h.h c.loop-h.auto.h rule, c.first-h-end.ensures.before c.loop-h.h c.loop-h-test.true) in
    rw (c.from.ensures, c.full.ensures.value) (rule_found c.loop-h.invariant.rules rule c.requires.state c.requires.looked_for of_x)

pub insert-requires-clause-reason : goal.insert-requires-clause-reason
insert-requires-clause-reason c = Reason.fresh c.full.ensures.value

pub loop-h-preserved : goal.loop-h-preserved
loop-h-preserved c =
    let rule : c.loop-h.h < rule_count (grammar_of c.args.input.now.grammar.now) = omega (arith, c.loop-h-test.true, c.first-h-end.ensures.few) in
    let place = c.args.lists.now.place in
    record {
      rules = rules_more c.loop-h.invariant.rules rule (rw c.from.ensures at c.in_ok-insert.ensures.grown) (rw (c.from.ensures, c.full.ensures.value) at c.in_ok-insert.ensures.has);
      kept = kept_more c.loop-h.invariant.kept (base_same place place c.loop-h.invariant.rules.grown) c.in_ok-insert.ensures.staged c.in_ok-insert.ensures.stays;
    }

pub returns-clause-predicted : goal.returns-clause-predicted
returns-clause-predicted c =
    rules_all c.loop-h.invariant.rules (λ h l m. c.first-h-end.ensures.from h (omega (arith, c.loop-h-test.false)) m)
