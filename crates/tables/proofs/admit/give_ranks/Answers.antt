use Rattle.std.proofs.Common.{arith, below_more}
use Rattle.std.proofs.lemmas.Bool.{both_ways}
use Rattle.tables.specs.Rows.{IsClosed}
use Rattle.tables.proofs.Ranks.{given_few, one_given, closed_ranked, closed_unranked}
use Rattle.tables.proofs.admit.give_ranks.Goals.{then-ranks-left-eq0+then-are_members_ranked, else-ranks-left-eq0, else-ranks-left-eq0-via-then-ranks-left-eq0+else-are_members_ranked, else-ranks-left-eq0-via-else-ranks-left-eq0}
use Rattle.tables.proofs.admit.give_ranks.Goals as goal

pub overflow_add-last : goal.overflow_add-last
overflow_add-last c = record { fits = omega (arith, given_few c.requires.small c.loop-row.invariant.are_given) }

pub loop-row-preserved : goal.loop-row-preserved
loop-row-preserved c =
    let i = c.loop-row.row-index in
    let small = c.requires.small in
    let inv = c.loop-row.invariant in
    elim c.if-ranks-left-eq0.branch [
      | then-ranks-left-eq0+then-are_members_ranked w ↦ record {
        are_given = rw (w.ranks-is, w.last-is, c.from-left.ensures) (one_given small inv.are_given i (omega arith) (rw c.from-left.ensures at w.if-ranks-left-eq0.true) (w.are_members_ranked.ensures.0 w.if-are_members_ranked.true));
        up = rw w.last-is (omega (arith, inv.up));
        closed = λ e. absurd (omega (arith, inv.up, w.last-is, e));
      }
      | else-ranks-left-eq0 w ↦ record {
        are_given = rw (w.ranks-is, w.last-is) inv.are_given;
        up = rw w.last-is inv.up;
        closed = rw (w.ranks-is, w.last-is) (λ e. below_more (λ h. IsClosed c.args.rows.now c.loop-row.ranks h) i (inv.closed e) (elim w.else-ranks-left-eq0.branch [
          | else-ranks-left-eq0-via-then-ranks-left-eq0+else-are_members_ranked w' ↦ closed_unranked small inv.are_given i (omega arith) (λ all. both_ways w'.are_members_ranked.result w'.if-are_members_ranked.false (w'.are_members_ranked.ensures.1 all))
          | else-ranks-left-eq0-via-else-ranks-left-eq0 w' ↦ closed_ranked small inv.are_given i (omega arith) (rw c.from-left.ensures at w'.if-ranks-left-eq0.false)
        ]));
      }
    ]

pub returns-clause-few : goal.returns-clause-few
returns-clause-few c = given_few c.requires.small c.loop-row.invariant.are_given
