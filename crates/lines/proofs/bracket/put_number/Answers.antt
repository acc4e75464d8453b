use Rattle.std.proofs.Common.{◌+◌, ◌/◌, ◌%◌, [], ◌∷◌, ◌++◌, sym, ◌∙◌, arith, length-append}
use Rattle.paper.specs.Lines.{decimal}
use Rattle.lines.proofs.Writing.{nothing_put, put_more, all_put, none_put}
use Rattle.lines.proofs.Decimals.{at_first, digit_put, digit_left, all_led, led_within, decimal_some}
use Rattle.lines.proofs.bracket.put_number.Goals as goal
use Rattle.lines.proofs.bracket.put_number.Goals.{then-number-power+in_ok-at, else-number-power+else-power-eq1}

pub loop-power-init : goal.loop-power-init
loop-power-init c =
    record { done = []; put = nothing_put c.args.limit c.args.at c.args.buffer.now; led = at_first c.args.number (omega arith) }

pub returns-in_err-at-clause-end : goal.returns-in_err-at-clause-end
returns-in_err-at-clause-end c =
    let i = c.loop-power.invariant in
    let last = (48 + c.args.number / c.loop-power.power % 10) ∷ [] in
    let digit = digit_put {n = c.args.number} (omega arith) c.loop-power-test.true i.led c.then-number-power.either in
    let fits = led_within {n = c.args.number} (omega arith) digit in
    c.from_residual.ensures ∙ sym (none_put i.put last (decimal c.args.number) c.in_err-at.ensures.end (omega (arith, length-append i.done last)))

pub loop-power-preserved : goal.loop-power-preserved
loop-power-preserved c =
    let i = c.loop-power.invariant in
    elim c.if-number-power.branch [
      | then-number-power+in_ok-at w ↦
          record {
            done = i.done ++ ((48 + c.args.number / c.loop-power.power % 10) ∷ []);
            put = rw (w.at-is, w.buffer-is) (put_more i.put _ w.in_ok-at.ensures.end w.in_ok-at.ensures.text);
            led = digit_put (omega arith) c.loop-power-test.true i.led w.then-number-power.either;
          }
      | else-number-power+else-power-eq1 w ↦
          record {
            done = i.done;
            put = rw (w.at-is, w.buffer-is) i.put;
            led = digit_left (omega arith) w.if-number-power.false w.if-power-eq1.false i.led;
          }
    ]

pub returns-clause-end : goal.returns-clause-end
returns-clause-end c =
    let i = c.loop-power.invariant in
    let all = all_led (omega arith) i.led in
    rw (← all) (all_put i.put (i.put.fits (rw all (decimal_some c.args.number))))

pub returns-clause-text : goal.returns-clause-text
returns-clause-text c =
    let i = c.loop-power.invariant in
    rw (← all_led (omega arith) i.led) i.put.written
