-- Going through a set of symbols that may still grow: what is done is noted in another set.
-- Assumes nothing.
use Rattle.std.proofs.Common.{◌≡◌, ◌≢◌, ℕ, suc, ◌+◌, ◌-◌, ◌*◌, ◌%◌, ◌^◌, ◌<◌, ◌⊎◌, inl, inr, sym, ◌∙◌, ap, arith, zero-add, bit_and, bit_or, Fits, w64}
use Rattle.std.specs.Int.Bits.{or_add_and}
use Rattle.std.proofs.lemmas.Nat.{one_shl, ones-le, and_le_l}
use Rattle.std.proofs.lemmas.Nat.Bits.{bit_at_not}
use native.Mathlib.Decide.{ℕ_discrete}
use lib.Count.{ones, count_trailing_zeros}
use Rattle.paper.specs.Bits.{bit_at}
use borrow.Author.Numbers.{trailing_lt}
use Rattle.paper.proofs.Bits.{bit_at_lem, bit_cases, bit_zero, bit_place, and_set, and_none, set_lt, set_other, trailing_set, ones_set}

-- ## The next one

module _ {set done : ℕ} (set_fits : set < 18446744073709551616) (done_fits : done < 18446744073709551616) where
  not_done : (k : ℕ) → k < 64 → bit_at k (18446744073709551615 - done) ≡ 1 - bit_at k done
  not_done k l = bit_at_lem k (18446744073709551615 - done) ∙ (bit_at_not w64 done k done_fits l ∙ ap (λ b. 1 - b) (sym (bit_at_lem k done)))

  -- none is left
  pub none_next : bit_and set (18446744073709551615 - done) ≡ 0 → (x : ℕ) → bit_at x set ≡ 1 → bit_at x done ≡ 1
  none_next e x h = go (bit_cases x done)
    where
      go : (bit_at x done ≡ 0) ⊎ (bit_at x done ≡ 1) → bit_at x done ≡ 1
      go (inl o) = absurd ((and_none set (18446744073709551615 - done)).0 e x h (omega (arith, not_done x (bit_place 64 x set set_fits h))))
      go (inr o) = o

  module _ (some : bit_and set (18446744073709551615 - done) ≢ 0) where
    left_fits : bit_and set (18446744073709551615 - done) < 18446744073709551616
    left_fits = omega (arith, and_le_l set (18446744073709551615 - done))

    abbrev lowest : ℕ
    lowest = count_trailing_zeros 64 (bit_and set (18446744073709551615 - done))

    lowest_in : (bit_at lowest set ≡ 1) × (bit_at lowest (18446744073709551615 - done) ≡ 1)
    lowest_in = (and_set lowest set (18446744073709551615 - done)).0 (trailing_set 64 (bit_and set (18446744073709551615 - done)) some left_fits)

    pub next_in : bit_at lowest set ≡ 1
    next_in = lowest_in.0

    pub next_new : bit_at lowest done ≡ 0
    next_new = omega (arith, lowest_in.1, not_done lowest (trailing_lt 64 (bit_and set (18446744073709551615 - done)) (omega (arith, some)) left_fits))

-- ## One more is done

module _ {done x : ℕ} (range : Fits w64 done) (small : x < 64) (new : bit_at x done ≡ 0) where
  fits : done < 18446744073709551616
  fits = omega (arith, range)

  with_one : bit_or done (1 * 2 ^ x % 18446744073709551616) ≡ done + 2 ^ x
  with_one =
      let apart : bit_and done (2 ^ x) ≡ 0 = (and_none done (2 ^ x)).1 (λ k h p. go k h p (ℕ_discrete k x)) in
      ap (bit_or done) (one_shl x 64 small) ∙ omega (arith, or_add_and done (2 ^ x))
    where
      go : (k : ℕ) → bit_at k done ≡ 1 → bit_at k (2 ^ x) ≡ 1 → Dec (k ≡ x) → ⊥
      go k h p (yes e) = omega (arith, ap (λ n. bit_at n done) e)
      go k h p (no ne) = let e = rw zero-add at (set_other x k 0 (bit_zero x) ne) in omega (arith, bit_zero k)

  pub ones_more : ones (bit_or done (1 * 2 ^ x % 18446744073709551616)) ≡ suc (ones done)
  ones_more = ap ones with_one ∙ ones_set x done new

  -- a number of 64 bits has at most 64 ones
  pub ones_few : ones done < 64
  ones_few = omega (arith, ones-le 64 (done + 2 ^ x) (set_lt 64 x done small fits new), ones_set x done new)

  -- where neither is 0, fewer still
  pub ones_fewer : bit_at 0 done ≡ 0 → x ≢ 0 → suc (ones done) < 64
  ones_fewer none some =
      let other : 0 ≢ x = λ e. some (sym e) in
      let z : bit_at 0 (done + 2 ^ x) ≡ 0 = set_other x 0 done new other ∙ none in
      omega (arith, ones-le 64 (done + 2 ^ x + 2 ^ 0) (set_lt 64 0 (done + 2 ^ x) (omega arith) (set_lt 64 x done small fits new) z), ones_set x done new, ones_set 0 (done + 2 ^ x) z)

  pub zero_not_done : bit_at 0 done ≡ 0 → x ≢ 0 → bit_at 0 (bit_or done (1 * 2 ^ x % 18446744073709551616)) ≡ 0
  zero_not_done none some =
      let other : 0 ≢ x = λ e. some (sym e) in
      ap (bit_at 0) with_one ∙ (set_other x 0 done new other ∙ none)

  -- fewer are left to be done
  pub fewer : 64 - ones (bit_or done (1 * 2 ^ x % 18446744073709551616)) < 64 - ones done
  fewer = omega (arith, ones_few, ones_more)

  -- what holds of each that was done, and of this one, holds of each that is done now
  pub one_done : {So Now : ℕ → Type 0} → ((y : ℕ) → bit_at y done ≡ 1 → So y) → ((y : ℕ) → So y → Now y) → Now x
      → (y : ℕ) → bit_at y (bit_or done (1 * 2 ^ x % 18446744073709551616)) ≡ 1 → Now y
  one_done {So} {Now} each onward here y h = go (ℕ_discrete y x)
    where
      go : Dec (y ≡ x) → Now y
      go (yes e) = rw e here
      go (no ne) = onward y (each y (sym (set_other x y done new ne) ∙ (ap (bit_at y) (sym with_one) ∙ h)))

-- without 0 there are fewer
pub zero_fewer : {done : ℕ} → Fits w64 done → bit_at 0 done ≡ 0 → ones done < 64
zero_fewer range none = ones_few {x = 0} range (omega arith) none
