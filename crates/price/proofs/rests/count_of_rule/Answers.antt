use Rattle.std.proofs.Common.{◌≡◌, ◌+◌, ◌-◌, inl, inr, arith}
use Rattle.paper.specs.Grammar.{members}
use Rattle.paper.specs.Image.{grammar_of}
use Rattle.price.proofs.Counting.{Counted, counted_none, counted_more, counted_few}
use Rattle.price.proofs.rests.count_of_rule.Goals as goal
use Rattle.price.proofs.rests.count_of_rule.Goals.{then-member-next, else-member-next}

pub loop-k-init : goal.loop-k-init
loop-k-init c = rw c.size-k.ensures.size (counted_none _)

counted : (c : goal.After-row_known-1) → Counted (members (grammar_of c.args.grammar.now) c.args.h.0) (c.loop-k.k - 1) c.member-member.result.0 (c.loop-k.all + c.if-member-next.whole) c.if-member-next.whole
counted c =
    counted_more (c.requires.is_grammar.members_ascend c.args.h.0 c.requires.rule) c.loop-k.invariant (omega arith) (omega arith) c.member-member.ensures (elim c.if-member-next.branch [
      | then-member-next w ↦ inr (w.if-member-next.true, w.whole-is)
      | else-member-next w ↦ inl (w.if-member-next.false, w.whole-is)
    ])

pub overflow_add-all : goal.overflow_add-all
overflow_add-all c = omega (arith, counted_few (counted c) (c.requires.is_grammar.few_members c.args.h.0 c.requires.rule))

pub loop-k-preserved : goal.loop-k-preserved
loop-k-preserved c = counted c

pub returns-clause-exact : goal.returns-clause-exact
returns-clause-exact c = let e : c.loop-k.k ≡ 0 = omega arith in rw e at c.loop-k.invariant.all_is

pub returns-clause-few : goal.returns-clause-few
returns-clause-few c = counted_few c.loop-k.invariant (c.requires.is_grammar.few_members c.args.h.0 c.requires.rule)
