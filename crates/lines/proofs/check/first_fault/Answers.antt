use Rattle.std.proofs.Common.{refl, ap, Some, arith, below_more}
use Rattle.std.proofs.lemmas.Bool.{false≢true}
use Rattle.paper.specs.Lines.Judged.{valid, line, whole}
use Rattle.lines.proofs.check.first_fault.Goals as goal

pub returns-then-not-is_line_right : goal.returns-then-not-is_line_right
returns-then-not-is_line_right c =
    line c.loop-k.k (omega arith) (omega arith) c.loop-k.invariant (λ right. false≢true (c.if-not-is_line_right.ensures.1 right)) refl

pub loop-k-preserved : goal.loop-k-preserved
loop-k-preserved c = below_more _ _ c.loop-k.invariant (c.if-not-is_line_right.ensures.0 refl)

pub returns-then-is_whole_right : goal.returns-then-is_whole_right
returns-then-is_whole_right c =
    valid
    (record { whole_lines = omega arith; each = λ k l. c.loop-k.invariant k (omega arith); whole = c.if-is_whole_right.ensures.0 refl })
    refl

pub returns-else-is_whole_right : goal.returns-else-is_whole_right
returns-else-is_whole_right c =
    whole (omega arith) (λ k l. c.loop-k.invariant k (omega arith)) (λ right. false≢true (c.if-is_whole_right.ensures.1 right))
    (ap Some c.count-else-is_whole_right.ensures)
