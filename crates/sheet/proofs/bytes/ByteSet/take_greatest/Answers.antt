use Rattle.std.proofs.Common.{◌≡◌, ℕ, ◌-◌, ◌<◌, ap, arith, get_or, length}
use Rattle.std.proofs.lemmas.Nat.{one_shl}
use lib.Count.{count_leading_zeros}
use Rattle.paper.proofs.Bits.{bit_power_le}
use Rattle.sheet.specs.declared.bytes.ByteSet.{ByteSet}
use Rattle.sheet.proofs.ByteSets.{none_in, place_set, taken}
use Rattle.sheet.proofs.bytes.ByteSet.take_greatest.Goals as goal

pub overflow_sub-self : goal.overflow_sub-self
overflow_sub-self c =
    let words = c.loop-left.self.words in
    let k : ℕ = c.loop-left.left - 1 in
    let four : length words ≡ 4 = omega (arith, ap (λ (s : ByteSet). length s.words) c.loop-left.invariant.0) in
    let place : ℕ = 63 - count_leading_zeros 64 (get_or words k 0) in
    let low : place < 64 = omega arith in
    rw (one_shl place 64 low) (bit_power_le _ _ (place_set words k four (omega arith) (λ j l. c.loop-left.invariant.2 j (omega arith)) c.if-word-ne0.true (omega arith)))

pub returns-then-word-ne0 : goal.returns-then-word-ne0
returns-then-word-ne0 c =
    let words = c.loop-left.self.words in
    let k : ℕ = c.loop-left.left - 1 in
    let four : length words ≡ 4 = omega (arith, ap (λ (s : ByteSet). length s.words) c.loop-left.invariant.0) in
    let place : ℕ = 63 - count_leading_zeros 64 (get_or words k 0) in
    let low : place < 64 = omega arith in
    rw (one_shl place 64 low, ← c.loop-left.invariant.0) (record { taken = taken words k four (omega arith) (λ j l. c.loop-left.invariant.2 j (omega arith)) c.if-word-ne0.true (omega arith) })

pub returns : goal.returns
returns c = rw (← c.loop-left.invariant.0) (record { taken = none_in (λ k. c.loop-left.invariant.2 k (omega arith)) })
