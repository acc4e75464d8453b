use Rattle.std.proofs.Common.{◌-◌, length, ◌∙◌, arith}
use Rattle.paper.specs.Lines.{bracket_of}
use Rattle.lines.proofs.Writing.{filled, ends_at, end_inside}
use Rattle.lines.proofs.bracket.write_last.Goals as goal

pub returns-clause-text : goal.returns-clause-text
returns-clause-text c =
    let text = bracket_of c.args.input.now.tokens.now c.args.lines.now (c.count-last.result - 1) in
    let end = ends_at (length c.args.buffer.now) 0 c.in_ok-end.end text c.in_ok-end.ensures.end in
    let some = c.put_line-2.ensures.end ∙ end_inside c.in_ok-end.end 0 text (omega (arith, end.0)) in
    let written = rw some at c.put_line-2.ensures.text in
    rw (← c.count-last.ensures) (filled written (omega (arith, end.0)) c.in_ok-end.end c.fill.new.self (omega (arith, end.0)) (c.fill.ensures.after (λ y e. e)))
