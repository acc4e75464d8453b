use Rattle.std.proofs.Common.{sym, ◌∙◌, arith}
use Rattle.sheet.proofs.Advancing.{advancing_none, advanced_all, at_within, cell_read, advancing_past, taken_found, advancing_more}
use Rattle.sheet.proofs.Sourcing.{sourcing_none, sourcing_reason, sourcing_more, base_same}
use Rattle.sheet.proofs.grow.advance.Goals as goal
use Rattle.sheet.proofs.grow.advance.Goals.{in-Some+in_ok-insert, in_default, then-entry-from, else-entry-from}

pub loop-at-init : goal.loop-at-init
loop-at-init c = record {
  advancing = rw c.from-from.ensures (advancing_none c.args.i c.args.x.0 c.requires.state);
  sourcing = sourcing_none c.requires.staged c.requires.low c.requires.source;
}

pub offset_bounds-words-at : goal.offset_bounds-words-at
offset_bounds-words-at c =
    omega (arith, at_within c.args.input.now.fits c.loop-at.invariant.advancing c.requires.earlier c.from-from.ensures c.loop-at.auto.at c.loop-at-test.true)

pub bounds-words-at : goal.bounds-words-at
bounds-words-at c = at_within c.args.input.now.fits c.loop-at.invariant.advancing c.requires.earlier c.from-from.ensures c.loop-at.auto.at c.loop-at-test.true

pub take-requires-clause-rule : goal.take-requires-clause-rule
take-requires-clause-rule c =
    (cell_read c.args.input.now.fits c.loop-at.invariant.advancing c.requires.earlier c.from-from.ensures c.loop-at.auto.at c.loop-at-test.true
    (omega (arith, c.of_word-entry.type_inv)) (omega (arith, c.of_word-entry.type_inv)) c.of_word-entry.ensures).is_rule

pub take-requires-clause-byte : goal.take-requires-clause-byte
take-requires-clause-byte c =
    (cell_read c.args.input.now.fits c.loop-at.invariant.advancing c.requires.earlier c.from-from.ensures c.loop-at.auto.at c.loop-at-test.true
    (omega (arith, c.of_word-entry.type_inv)) (omega (arith, c.of_word-entry.type_inv)) c.of_word-entry.ensures).byte

pub insert-requires-clause-found : goal.insert-requires-clause-found
insert-requires-clause-found c =
    let read =
    cell_read c.args.input.now.fits c.loop-at.invariant.advancing c.requires.earlier c.from-from.ensures c.loop-at.auto.at c.loop-at-test.true
    (omega (arith, c.of_word-entry.type_inv)) (omega (arith, c.of_word-entry.type_inv)) c.of_word-entry.ensures in
    taken_found c.loop-at.invariant.advancing read c.requires.reaches c.in-Some.ensures.left

pub insert-requires-clause-reason : goal.insert-requires-clause-reason
insert-requires-clause-reason c =
    let read =
    cell_read c.args.input.now.fits c.loop-at.invariant.advancing c.requires.earlier c.from-from.ensures c.loop-at.auto.at c.loop-at-test.true
    (omega (arith, c.of_word-entry.type_inv)) (omega (arith, c.of_word-entry.type_inv)) c.of_word-entry.ensures in
    sourcing_reason c.loop-at.invariant.sourcing c.loop-at.invariant.advancing.grown c.requires.earlier c.from-from.ensures read c.loop-at-test.true
    (omega (arith, c.of_word-entry.type_inv)) (omega (arith, c.of_word-entry.type_inv)) c.of_word-entry.ensures c.in-Some.ensures.left
    (λ e. elim c.if-entry-from.branch [ then-entry-from w ↦ w.stage-is | else-entry-from w ↦ absurd (w.if-entry-from.false (e ∙ sym c.from-from.ensures)) ])

pub loop-at-preserved : goal.loop-at-preserved
loop-at-preserved c =
    let read =
    cell_read c.args.input.now.fits c.loop-at.invariant.advancing c.requires.earlier c.from-from.ensures c.loop-at.auto.at c.loop-at-test.true
    (omega (arith, c.of_word-entry.type_inv)) (omega (arith, c.of_word-entry.type_inv)) c.of_word-entry.ensures in
    elim c.match-take.branch [
      | in-Some+in_ok-insert w ↦ rw (w.words-is, w.lists-is) (
          record {
            sourcing = sourcing_more c.loop-at.invariant.sourcing w.in_ok-insert.ensures.staged w.in_ok-insert.ensures.stays w.in_ok-insert.ensures.puts
                (base_same 0 c.args.i c.loop-at.invariant.advancing.grown) w.in_ok-insert.ensures.grown.place_is (omega (arith, c.loop-at.invariant.advancing.grown.place_is, c.requires.earlier)) read.origin_le
                (λ e. elim w.if-entry-from.branch [ then-entry-from v ↦ v.stage-is | else-entry-from v ↦ absurd (v.if-entry-from.false (e ∙ sym c.from-from.ensures)) ])
                (λ ne. elim w.if-entry-from.branch [ then-entry-from v ↦ absurd (ne (v.if-entry-from.true ∙ c.from-from.ensures)) | else-entry-from v ↦ v.stage-is ]);
            advancing = advancing_more c.loop-at.invariant.advancing read c.requires.reaches w.in-Some.ensures.left
                w.in_ok-insert.ensures.grown w.in_ok-insert.ensures.has;
          })
      | in_default w ↦ rw (w.words-is, w.lists-is) (
          record { advancing = advancing_past c.loop-at.invariant.advancing read w.in_default.ensures.left; sourcing = c.loop-at.invariant.sourcing })
    ]

pub returns-clause-advanced : goal.returns-clause-advanced
returns-clause-advanced c = advanced_all c.args.input.now.fits c.loop-at.invariant.advancing c.requires.earlier c.from-from.ensures c.loop-at-test.false
