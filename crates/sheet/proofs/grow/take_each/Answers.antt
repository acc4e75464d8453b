use Rattle.std.proofs.Common.{◌≡◌, ◌<◌, ℕ, arith}
use Rattle.std.proofs.lemmas.Nat.{one_shl}
use lib.Count.{count_trailing_zeros}
use Rattle.paper.specs.Bits.{bit_at}
use borrow.Author.Numbers.{trailing_lt}
use Rattle.paper.proofs.Bits.{trailing_set, bit_power_le, clear_lt}
use Rattle.sheet.proofs.Learning.{none_taken, all_taken, none_left, one_left}
use Rattle.sheet.proofs.grow.take_each.Goals as goal
use Rattle.sheet.proofs.grow.take_each.Goals.{in-Some, in_default}

pub returns : goal.returns
returns c = all_taken _ _ _ _ _ c.loop-untaken.invariant c.loop-untaken-test.false

pub loop-untaken-init : goal.loop-untaken-init
loop-untaken-init c = none_taken _ _ _ _ _

pub overflow_sub-untaken : goal.overflow_sub-untaken
overflow_sub-untaken c =
    let untaken : ℕ = c.loop-untaken.untaken in
    let low : count_trailing_zeros 64 untaken < 64 = trailing_lt 64 untaken (omega arith) (omega arith) in
    rw (one_shl (count_trailing_zeros 64 untaken) 64 low) (bit_power_le _ _ (trailing_set 64 untaken c.loop-untaken-test.true (omega arith)))

pub loop-untaken-smaller : goal.loop-untaken-smaller
loop-untaken-smaller c =
    let untaken : ℕ = c.loop-untaken.untaken in
    let low : count_trailing_zeros 64 untaken < 64 = trailing_lt 64 untaken (omega arith) (omega arith) in
    rw (one_shl (count_trailing_zeros 64 untaken) 64 low) (clear_lt _ _ (trailing_set 64 untaken c.loop-untaken-test.true (omega arith)))

pub loop-untaken-preserved : goal.loop-untaken-preserved
loop-untaken-preserved c =
    let untaken : ℕ = c.loop-untaken.untaken in
    let low : count_trailing_zeros 64 untaken < 64 = trailing_lt 64 untaken (omega arith) (omega arith) in
    let is : bit_at (count_trailing_zeros 64 untaken) untaken ≡ 1 = trailing_set 64 untaken c.loop-untaken-test.true (omega arith) in
    rw (one_shl (count_trailing_zeros 64 untaken) 64 low) (elim c.match-take.branch [
      | in-Some w ↦ rw w.bytes-is (one_left _ _ _ _ _ c.loop-untaken.invariant _ is w.in-Some.ensures.left w.add.ensures)
      | in_default w ↦ rw w.bytes-is (none_left _ _ _ _ _ c.loop-untaken.invariant _ is w.in_default.ensures.left)
    ])
