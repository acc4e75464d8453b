use Rattle.std.proofs.Common.{arith, inl, inr, get_or, sym, ◌∙◌}
use Rattle.std.proofs.lemmas.Bool.{both_ways, eqb-true, eq-eqb, le-ltb}
use Rattle.paper.specs.Grammar.{Rule}
use Rattle.tables.proofs.Bars.{bars_passed, bars_set, bars_all, bars_precede, bars_equal, bars_neither}
use Rattle.tables.proofs.admit.bars_of_member.Goals.{then-precedes, then-precedes-via-then-precedes, then-precedes-via-else-precedes+then-members-x, then-x-k, else-x-k, else-precedes+else-members-x}
use Rattle.tables.proofs.admit.bars_of_member.Goals as goal

pub loop-x-preserved : goal.loop-x-preserved
loop-x-preserved c =
    let rule : Rule = record { left = 0; members = c.args.members.now } in
    elim c.if-precedes.branch [
      | then-precedes w ↦ rw w.bars-is (bars_set c.loop-x.invariant (omega arith) (elim w.then-precedes.branch [
        | then-precedes-via-then-precedes w' ↦ bars_precede c.args.later.now c.args.members.now rule c.args.k c.loop-x.x (rw c.from.ensures at w'.if-precedes.true)
        | then-precedes-via-else-precedes+then-members-x w' ↦ elim w'.if-x-k.branch [
          | then-x-k w'' ↦ bars_equal c.args.later.now c.args.members.now rule c.args.k c.loop-x.x w''.if-x-k.true (eqb-true (get_or c.args.members.now c.loop-x.x 0) (get_or c.args.members.now c.args.k 0) (sym w''.value-is ∙ w'.if-members-x.true))
          | else-x-k w'' ↦ absurd (both_ways w'.if-x-k.value (w''.value-is ∙ le-ltb c.loop-x.x c.args.k w''.if-x-k.false) w'.if-members-x.true)
        ]
      ]))
      | else-precedes+else-members-x w ↦ rw w.bars-is (bars_passed c.loop-x.invariant (bars_neither c.args.later.now c.args.members.now rule c.args.k c.loop-x.x (rw c.from.ensures at w.if-precedes.false) (elim w.if-x-k.branch [
        | then-x-k w' ↦ inr (λ e. both_ways w.if-x-k.value w.if-members-x.false (w'.value-is ∙ eq-eqb (get_or c.args.members.now c.loop-x.x 0) (get_or c.args.members.now c.args.k 0) e))
        | else-x-k w' ↦ inl w'.if-x-k.false
      ])))
    ]

pub returns : goal.returns
returns c = bars_all c.loop-x.invariant (omega arith)
