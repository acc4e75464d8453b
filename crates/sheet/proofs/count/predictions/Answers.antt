use Rattle.std.proofs.Common.{◌≡◌, ◌<◌, ℕ, arith}
use Rattle.std.proofs.lemmas.Nat.{one_shl}
use lib.Count.{count_trailing_zeros}
use Rattle.paper.specs.Bits.{bit_at}
use borrow.Author.Numbers.{trailing_lt}
use Rattle.paper.proofs.Bits.{trailing_set, bit_power_le, clear_lt}
use Rattle.sheet.proofs.Counted.{predicted_first, predicted_more, predicted_few, predicted_last}
use Rattle.sheet.proofs.count.predictions.Goals as goal

pub loop-symbols-init : goal.loop-symbols-init
loop-symbols-init c = predicted_first _ _ _ _ _ c.args.input.now.fits.is_grammar c.takeable.ensures c.nonterminal_set.ensures

pub rules_of-steps-requires : goal.rules_of-steps-requires
rules_of-steps-requires c =
    let symbols : ℕ = c.loop-symbols.symbols in
    c.loop-symbols.invariant.nonterminals _ (trailing_set 64 symbols c.loop-symbols-test.true (omega arith))

pub overflow_add-steps : goal.overflow_add-steps
overflow_add-steps c =
    let symbols : ℕ = c.loop-symbols.symbols in
    let is : bit_at (count_trailing_zeros 64 symbols) symbols ≡ 1 = trailing_set 64 symbols c.loop-symbols-test.true (omega arith) in
    omega (arith, c.rules_of-steps.ensures, predicted_few c.loop-symbols.invariant c.args.input.now.fits.is_grammar _ is)

pub overflow_sub-symbols : goal.overflow_sub-symbols
overflow_sub-symbols c =
    let symbols : ℕ = c.loop-symbols.symbols in
    let low : count_trailing_zeros 64 symbols < 64 = trailing_lt 64 symbols (omega arith) (omega arith) in
    rw (one_shl (count_trailing_zeros 64 symbols) 64 low) (bit_power_le _ _ (trailing_set 64 symbols c.loop-symbols-test.true (omega arith)))

pub loop-symbols-smaller : goal.loop-symbols-smaller
loop-symbols-smaller c =
    let symbols : ℕ = c.loop-symbols.symbols in
    let low : count_trailing_zeros 64 symbols < 64 = trailing_lt 64 symbols (omega arith) (omega arith) in
    rw (one_shl (count_trailing_zeros 64 symbols) 64 low) (clear_lt _ _ (trailing_set 64 symbols c.loop-symbols-test.true (omega arith)))

pub loop-symbols-preserved : goal.loop-symbols-preserved
loop-symbols-preserved c =
    let symbols : ℕ = c.loop-symbols.symbols in
    let low : count_trailing_zeros 64 symbols < 64 = trailing_lt 64 symbols (omega arith) (omega arith) in
    let is : bit_at (count_trailing_zeros 64 symbols) symbols ≡ 1 = trailing_set 64 symbols c.loop-symbols-test.true (omega arith) in
    rw (one_shl (count_trailing_zeros 64 symbols) 64 low, c.rules_of-steps.ensures) (predicted_more c.loop-symbols.invariant _ is)

pub returns : goal.returns
returns c = predicted_last c.loop-symbols.invariant c.loop-symbols-test.false
