use Rattle.std.proofs.Common.{◌-◌, arith}
use lib.Count.{count_leading_zeros}
use Rattle.paper.specs.Grammar.{members}
use Rattle.paper.specs.Image.{grammar_of}
use Rattle.tables.specs.Machine.{full_byte}
use Rattle.tables.proofs.Masks.{full_mask, back_proper}
use Rattle.tables.proofs.Trying.{IsOther, all_untried, highest_found, is_at_most, one_tried, is_a, is_not_a, last, never, back_fits, back, stuck}
use Rattle.tables.proofs.Grammar.put_back.Goals as goal

pub overflow_sub-found : goal.overflow_sub-found
overflow_sub-found c = omega (arith, c.full.ensures.value, full_mask (members (grammar_of c.args.self.now) c.args.h.0))

pub loop-found-init : goal.loop-found-init
loop-found-init c = rw c.full.ensures.value (all_untried (full_byte (grammar_of c.args.self.now) c.args.h.0 - c.args.rest) (IsOther (members (grammar_of c.args.self.now) c.args.h.0) c.args.a.0))

pub member-requires-clause-place : goal.member-requires-clause-place
member-requires-clause-place c = (highest_found c.requires.byte c.loop-found.invariant (omega arith) c.loop-found-test.true).place

pub bars-requires-clause-place : goal.bars-requires-clause-place
bars-requires-clause-place c = (highest_found c.requires.byte c.loop-found.invariant (omega arith) c.loop-found-test.true).place

pub overflow_add-before : goal.overflow_add-before
overflow_add-before c =
    let n = highest_found c.requires.byte c.loop-found.invariant (omega arith) c.loop-found-test.true in
    let l = last c.requires.byte c.loop-found.invariant (omega arith) c.loop-found-test.true (is_a c.member.ensures c.eq.ensures c.if-eq.true) in
    rw n.shifted (record { fits = back_fits c.requires.byte l c.full.ensures.value (omega arith) })

pub returns-then-before-bars-eq0-clause-left : goal.returns-then-before-bars-eq0-clause-left
returns-then-before-bars-eq0-clause-left c =
    let n = highest_found c.requires.byte c.loop-found.invariant (omega arith) c.loop-found-test.true in
    let l = last c.requires.byte c.loop-found.invariant (omega arith) c.loop-found-test.true (is_a c.member.ensures c.eq.ensures c.if-eq.true) in
    rw n.shifted (back c.requires.byte l c.bars.ensures (rw n.shifted at c.if-before-bars-eq0.true))

pub returns-then-before-bars-eq0-clause-byte : goal.returns-then-before-bars-eq0-clause-byte
returns-then-before-bars-eq0-clause-byte c =
    let n = highest_found c.requires.byte c.loop-found.invariant (omega arith) c.loop-found-test.true in
    let l = last c.requires.byte c.loop-found.invariant (omega arith) c.loop-found-test.true (is_a c.member.ensures c.eq.ensures c.if-eq.true) in
    rw n.shifted (back_proper c.requires.byte l)

pub returns-else-before-bars-eq0-clause-left : goal.returns-else-before-bars-eq0-clause-left
returns-else-before-bars-eq0-clause-left c =
    let n = highest_found c.requires.byte c.loop-found.invariant (omega arith) c.loop-found-test.true in
    let l = last c.requires.byte c.loop-found.invariant (omega arith) c.loop-found-test.true (is_a c.member.ensures c.eq.ensures c.if-eq.true) in
    stuck c.requires.byte l c.bars.ensures (rw n.shifted at c.if-before-bars-eq0.false)

pub overflow_sub-found-in-loop-found : goal.overflow_sub-found-in-loop-found
overflow_sub-found-in-loop-found c = is_at_most (highest_found c.requires.byte c.loop-found.invariant (omega arith) c.loop-found-test.true)

pub loop-found-preserved : goal.loop-found-preserved
loop-found-preserved c =
    let n = highest_found c.requires.byte c.loop-found.invariant (omega arith) c.loop-found-test.true in
    rw n.shifted (one_tried c.loop-found.invariant (λ j h. h) (7 - count_leading_zeros 8 c.loop-found.found) n.is_untried (is_not_a c.member.ensures c.eq.ensures c.if-eq.false))

pub returns-clause-left : goal.returns-clause-left
returns-clause-left c = never c.requires.byte c.loop-found.invariant (grammar_of c.args.self.now) c.loop-found-test.false
