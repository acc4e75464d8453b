use Rattle.std.proofs.Common.{sym, ◌∙◌, ◌-◌, arith}
use Rattle.lines.proofs.Parts.{token_part, line_part, named_line}
use Rattle.lines.proofs.check.part_at.Goals as goal
use Rattle.lines.proofs.check.part_at.Goals.{then-earlier-k-via-then-earlier-k, then-earlier-k-via-else-earlier-k+then-from-at}

pub returns-then-part-eq0 : goal.returns-then-part-eq0
returns-then-part-eq0 c = rw c.from.ensures (token_part _ _ (omega (arith, c.slot-part.ensures)) (omega arith))

pub returns-then-earlier-k : goal.returns-then-earlier-k
returns-then-earlier-k c = λ e a joins.
    let named = rw (← c.slot-part.ensures) at (named_line (rw (← c.slot-part.ensures) c.if-part-eq0.false) joins) in
    elim c.then-earlier-k.branch [
      | then-earlier-k-via-then-earlier-k w ↦ omega (arith, named.0)
      | then-earlier-k-via-else-earlier-k+then-from-at w ↦ w.if-from-at.true (w.from-else-earlier-k.ensures ∙ named.1)
    ]

pub symbol-requires-clause-rule : goal.symbol-requires-clause-rule
symbol-requires-clause-rule c = (c.requires.earlier (c.slot-part.result - 1) (omega arith)).rule_is

pub returns : goal.returns
returns c =
    rw (c.to.ensures, c.symbol.ensures, ← c.slot-part.ensures)
    (line_part c.slot-part.result c.args.at c.if-part-eq0.false (omega arith) (sym c.from-else-earlier-k.ensures ∙ c.if-from-at.false))
