use Rattle.std.proofs.Common.{◌≡◌, [], ◌∷◌, ◌++◌, ◌-◌, length, get_or, sym, ap, ◌∙◌, arith, length-append}
use Rattle.paper.specs.Lines.{line_rule, decimal, bracket_of}
use Rattle.lines.proofs.Writing.{nothing_put, put_more, all_put, none_put, end_more, written_more, put_within}
use Rattle.lines.proofs.Spelling.{all_parts, whole_text, whole_length, few_parts, none_spelled, all_spelled, spelled_within, token_spelled, line_spelled}
use Rattle.lines.proofs.bracket.+bracket.Goals as goal
use Rattle.lines.proofs.bracket.+bracket.Goals.{put_parts-then-part-eq0+in_ok-at+in_ok-at-2, put_parts-else-part-eq0+in_ok-at-3}

-- ---- one line

pub put_line-returns-in_err-at-clause-end : goal.put_line-returns-in_err-at-clause-end
put_line-returns-in_err-at-clause-end t c =
    let row = c.args.input.now.tokens.now in
    let ns = c.args.lines.now in
    let p = nothing_put c.args.limit c.args.at c.args.buffer.now in
    c.from_residual.ensures ∙ sym (none_put p (40 ∷ []) (bracket_of row ns c.args.k) c.in_err-at.ensures.end (omega (arith, whole_length row ns c.args.k)))

pub put_line-returns-in_err-at-2-clause-end : goal.put_line-returns-in_err-at-2-clause-end
put_line-returns-in_err-at-2-clause-end t c =
    let row = c.args.input.now.tokens.now in
    let ns = c.args.lines.now in
    let p = put_more (nothing_put c.args.limit c.args.at c.args.buffer.now) (40 ∷ []) c.in_ok-at.ensures.end c.in_ok-at.ensures.text in
    c.from_residual-in_err-at-2.ensures
    ∙ sym (none_put p (decimal (line_rule ns c.args.k)) (bracket_of row ns c.args.k) (rw c.rule.ensures at c.in_err-at-2.ensures.end) (omega (arith, whole_length row ns c.args.k)))

pub put_line-returns-in_err-at-3-clause-end : goal.put_line-returns-in_err-at-3-clause-end
put_line-returns-in_err-at-3-clause-end t c =
    let row = c.args.input.now.tokens.now in
    let ns = c.args.lines.now in
    let p = put_more (nothing_put c.args.limit c.args.at c.args.buffer.now) (40 ∷ []) c.in_ok-at.ensures.end c.in_ok-at.ensures.text in
    let q = put_more p (decimal c.rule.result) c.in_ok-at-2.ensures.end c.in_ok-at-2.ensures.text in
    let number : length (decimal c.rule.result) ≡ length (decimal (line_rule ns c.args.k)) = ap (λ n. length (decimal n)) c.rule.ensures in
    c.from_residual-in_err-at-3.ensures
    ∙ sym (none_put q (all_parts row ns c.args.k) (bracket_of row ns c.args.k) c.in_err-at-3.ensures.end (omega (arith, whole_length row ns c.args.k)))

pub put_line-returns-clause-end : goal.put_line-returns-clause-end
put_line-returns-clause-end t c =
    let row = c.args.input.now.tokens.now in
    let ns = c.args.lines.now in
    let p = put_more (nothing_put c.args.limit c.args.at c.args.buffer.now) (40 ∷ []) c.in_ok-at.ensures.end c.in_ok-at.ensures.text in
    let q = put_more p (decimal c.rule.result) c.in_ok-at-2.ensures.end c.in_ok-at-2.ensures.text in
    let r = put_more q (all_parts row ns c.args.k) c.in_ok-at-3.ensures.end c.in_ok-at-3.ensures.text in
    rw (← whole_text row ns c.args.k, ← c.rule.ensures) (c.put-2.ensures.end ∙ end_more r (41 ∷ []))

pub put_line-returns-clause-text : goal.put_line-returns-clause-text
put_line-returns-clause-text t c =
    let row = c.args.input.now.tokens.now in
    let ns = c.args.lines.now in
    let p = put_more (nothing_put c.args.limit c.args.at c.args.buffer.now) (40 ∷ []) c.in_ok-at.ensures.end c.in_ok-at.ensures.text in
    let q = put_more p (decimal c.rule.result) c.in_ok-at-2.ensures.end c.in_ok-at-2.ensures.text in
    let r = put_more q (all_parts row ns c.args.k) c.in_ok-at-3.ensures.end c.in_ok-at-3.ensures.text in
    rw (← whole_text row ns c.args.k, ← c.rule.ensures) (written_more r (41 ∷ []) c.put-2.result c.put-2.new.buffer c.put-2.ensures.text)

-- ---- its parts

pub put_parts-loop-x-init : goal.put_parts-loop-x-init
put_parts-loop-x-init t c = record {
  done = [];
  put = nothing_put c.args.limit c.args.at c.args.buffer.now;
  spelled = rw c.from-place.ensures (none_spelled (c.requires.right c.args.k (omega arith)));
}

pub put_parts-slot-part-requires-clause-slot : goal.put_parts-slot-part-requires-clause-slot
put_parts-slot-part-requires-clause-slot t c =
    omega (arith, few_parts c.args.input.now.fits.is_grammar (c.requires.right c.args.k (omega arith)))

pub put_parts-returns-in_err-at-clause-end : goal.put_parts-returns-in_err-at-clause-end
put_parts-returns-in_err-at-clause-end t c =
    let row = c.args.input.now.tokens.now in
    let i = c.loop-x.invariant in
    let few = few_parts c.args.input.now.fits.is_grammar (c.requires.right c.args.k (omega arith)) in
    let token = token_spelled i.spelled c.requires.line few c.slot-part.result (omega arith) c.slot-part.ensures c.if-part-eq0.true in
    let number = decimal (get_or row c.loop-x.place 0) in
    let fits = spelled_within token.1 in
    c.from_residual.ensures
    ∙ sym (none_put i.put (32 ∷ []) (all_parts row c.args.lines.now c.args.k) c.in_err-at.ensures.end
    (omega (arith, length-append (i.done ++ (32 ∷ [])) number, length-append i.done (32 ∷ []))))

pub put_parts-bounds-input-place : goal.put_parts-bounds-input-place
put_parts-bounds-input-place t c =
    let i = c.loop-x.invariant in
    let few = few_parts c.args.input.now.fits.is_grammar (c.requires.right c.args.k (omega arith)) in
    (token_spelled i.spelled c.requires.line few c.slot-part.result (omega arith) c.slot-part.ensures c.if-part-eq0.true).0

pub put_parts-returns-in_err-at-2-clause-end : goal.put_parts-returns-in_err-at-2-clause-end
put_parts-returns-in_err-at-2-clause-end t c =
    let row = c.args.input.now.tokens.now in
    let i = c.loop-x.invariant in
    let few = few_parts c.args.input.now.fits.is_grammar (c.requires.right c.args.k (omega arith)) in
    let token = token_spelled i.spelled c.requires.line few c.slot-part.result (omega arith) c.slot-part.ensures c.if-part-eq0.true in
    let number = decimal (get_or row c.loop-x.place 0) in
    let fits = spelled_within token.1 in
    let p = put_more i.put (32 ∷ []) c.in_ok-at.ensures.end c.in_ok-at.ensures.text in
    c.from_residual-in_err-at-2.ensures
    ∙ sym (none_put p number (all_parts row c.args.lines.now c.args.k) (rw c.from.ensures at c.in_err-at-2.ensures.end)
    (omega (arith, length-append (i.done ++ (32 ∷ [])) number)))

pub put_parts-overflow_add-place : goal.put_parts-overflow_add-place
put_parts-overflow_add-place t c =
    let i = c.loop-x.invariant in
    let few = few_parts c.args.input.now.fits.is_grammar (c.requires.right c.args.k (omega arith)) in
    let token = token_spelled i.spelled c.requires.line few c.slot-part.result (omega arith) c.slot-part.ensures c.if-part-eq0.true in
    omega (arith, token.0)

pub put_parts-put_line-requires : goal.put_parts-put_line-requires
put_parts-put_line-requires t c =
    let i = c.loop-x.invariant in
    let few = few_parts c.args.input.now.fits.is_grammar (c.requires.right c.args.k (omega arith)) in
    let part = line_spelled i.spelled c.requires.line few c.slot-part.result (omega arith) c.slot-part.ensures c.if-part-eq0.false in
    (omega (arith, part.0), (omega (arith, part.0), λ i l. c.requires.right i (omega (arith, part.0))))

pub put_parts-returns-in_err-at-3-clause-end : goal.put_parts-returns-in_err-at-3-clause-end
put_parts-returns-in_err-at-3-clause-end t c =
    let row = c.args.input.now.tokens.now in
    let ns = c.args.lines.now in
    let i = c.loop-x.invariant in
    let few = few_parts c.args.input.now.fits.is_grammar (c.requires.right c.args.k (omega arith)) in
    let part = line_spelled i.spelled c.requires.line few c.slot-part.result (omega arith) c.slot-part.ensures c.if-part-eq0.false in
    let text = bracket_of row ns (c.slot-part.result - 1) in
    let fits = spelled_within part.1 in
    c.from_residual-in_err-at-3.ensures
    ∙ sym (none_put i.put text (all_parts row ns c.args.k) c.in_err-at-3.ensures.end (omega (arith, length-append i.done text)))

pub put_parts-to-place-requires : goal.put_parts-to-place-requires
put_parts-to-place-requires t c =
    let i = c.loop-x.invariant in
    let few = few_parts c.args.input.now.fits.is_grammar (c.requires.right c.args.k (omega arith)) in
    omega (arith, (line_spelled i.spelled c.requires.line few c.slot-part.result (omega arith) c.slot-part.ensures c.if-part-eq0.false).0)

pub put_parts-loop-x-preserved : goal.put_parts-loop-x-preserved
put_parts-loop-x-preserved t c =
    let row = c.args.input.now.tokens.now in
    let i = c.loop-x.invariant in
    let few = few_parts c.args.input.now.fits.is_grammar (c.requires.right c.args.k (omega arith)) in
    elim c.if-part-eq0.branch [
      | put_parts-then-part-eq0+in_ok-at+in_ok-at-2 w ↦
          record {
            done = (i.done ++ (32 ∷ [])) ++ decimal (get_or row c.loop-x.place 0);
            put = rw (w.at-is, w.buffer-is, ← w.from.ensures)
                (put_more (put_more i.put (32 ∷ []) w.in_ok-at.ensures.end w.in_ok-at.ensures.text) (decimal w.from.result) w.in_ok-at-2.ensures.end w.in_ok-at-2.ensures.text);
            spelled = rw w.place-is (token_spelled i.spelled c.requires.line few c.slot-part.result (omega arith) c.slot-part.ensures w.if-part-eq0.true).1;
          }
      | put_parts-else-part-eq0+in_ok-at-3 w ↦
          record {
            done = i.done ++ bracket_of row c.args.lines.now (c.slot-part.result - 1);
            put = rw (w.at-is, w.buffer-is) (put_more i.put (bracket_of row c.args.lines.now (c.slot-part.result - 1)) w.in_ok-at-3.ensures.end w.in_ok-at-3.ensures.text);
            spelled = rw (w.place-is, w.to-place.ensures) (line_spelled i.spelled c.requires.line few c.slot-part.result (omega arith) c.slot-part.ensures w.if-part-eq0.false).1;
          }
    ]

pub put_parts-returns-clause-end : goal.put_parts-returns-clause-end
put_parts-returns-clause-end t c =
    let i = c.loop-x.invariant in
    let all = all_spelled i.spelled c.requires.line (few_parts c.args.input.now.fits.is_grammar (c.requires.right c.args.k (omega arith))) (omega arith) in
    rw (← all) (all_put i.put (put_within i.put c.requires.within))

pub put_parts-returns-clause-text : goal.put_parts-returns-clause-text
put_parts-returns-clause-text t c =
    let i = c.loop-x.invariant in
    let all = all_spelled i.spelled c.requires.line (few_parts c.args.input.now.fits.is_grammar (c.requires.right c.args.k (omega arith))) (omega arith) in
    rw (← all) i.put.written
