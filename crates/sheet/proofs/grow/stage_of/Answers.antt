use Rattle.std.proofs.Common.{◌≡◌, ◌<◌, length, get_or, sym, ap, ◌∙◌, arith}
use Rattle.paper.specs.Grammar.{members}
use Rattle.paper.specs.Image.{grammar_of}
use Rattle.tables.specs.Table.{rank}
use Rattle.tables.proofs.Recalling.{ranked_again}
use Rattle.sheet.proofs.Ranking.{ranking_none, ranking_passed, ranking_more, ranking_all, highest_small}
use Rattle.sheet.proofs.Staging.{stage_given, stage_highest}
use Rattle.sheet.proofs.grow.stage_of.Goals as goal
use Rattle.sheet.proofs.grow.stage_of.Goals.{then-rest-eq0+then-highest-rank, else-rest-eq0, else-rest-eq0-via-then-rest-eq0+else-highest-rank, else-rest-eq0-via-else-rest-eq0}

pub returns-then-entry-from-clause-stage : goal.returns-then-entry-from-clause-stage
returns-then-entry-from-clause-stage c = sym (stage_given _ _ _ _ _ _ _ (λ e. c.if-entry-from.true (e ∙ sym c.from.ensures)))

pub loop-k-init : goal.loop-k-init
loop-k-init c = ranking_none _ _ _

pub loop-k-preserved : goal.loop-k-preserved
loop-k-preserved c =
    let s = members (grammar_of c.args.input.now.grammar.now) c.args.entry.rule.0 in
    let within : c.loop-k.k < length s = omega (arith, c.loop-k-test.true, c.size-k-end.ensures.size) in
    let same : get_or c.args.input.now.ranks.now c.member.result.0 0 ≡ rank c.args.input.now.ranks.now (get_or s c.loop-k.k 0)
    = ap (rank c.args.input.now.ranks.now) c.member.ensures in
    elim c.if-rest-eq0.branch [
      | then-rest-eq0+then-highest-rank w ↦ rw (w.highest-is, same) (ranking_more _ c.loop-k.invariant within w.if-rest-eq0.true (omega (arith, w.if-highest-rank.true, same)))
      | else-rest-eq0 w ↦ rw w.highest-is (ranking_passed _ c.loop-k.invariant within (λ e. elim w.else-rest-eq0.branch [
        | else-rest-eq0-via-then-rest-eq0+else-highest-rank v ↦ omega (arith, v.if-highest-rank.false, same)
        | else-rest-eq0-via-else-rest-eq0 v ↦ absurd (v.if-rest-eq0.false e)
      ]))
    ]

pub returns-clause-stage : goal.returns-clause-stage
returns-clause-stage c =
    c.from-2.ensures
    ∙ (ranking_all _ c.loop-k.invariant (omega (arith, c.loop-k-test.false, c.size-k-end.ensures.size))
    ∙ sym (stage_highest _ _ _ _ _ _ _ (c.if-entry-from.false ∙ c.from.ensures)))

pub returns-clause-small : goal.returns-clause-small
returns-clause-small c =
    let all = ranking_all _ c.loop-k.invariant (omega (arith, c.loop-k-test.false, c.size-k-end.ensures.size)) in
    omega (arith, c.from-2.ensures, all, highest_small c.args.input.now.fits.is_grammar (ranked_again _ _ c.args.input.now.ranked) c.args.entry.rule.0 c.args.entry.rest c.requires.rule)
