-- Laws of the bits of a number: setting and clearing one, the bits that two numbers share, the lowest and the highest, how many there are.
-- Assumes nothing.
use mathlib.Core.Path.{◌≡◌, refl, sym, ◌∙◌, ap}
use mathlib.Core.Logic.{◌⊎◌, inl, inr, ◌↔◌, ◌≢◌}
use Prim.Native.Nat.{ℕ, zero, suc, ◌+◌, ◌-◌, ◌/◌, ◌%◌, ◌^◌, ◌≤◌, ◌<◌, min, max}
use native.Mathlib.Omega.{arith}
use native.Mathlib.Nat.{pow-suc, div-one}
use lib.Arith.{bin_ind}
use lib.Pow.{pow_pos, shr-shr}
use lib.Bits.{bit_and, bit_or}
use lib.Count.{ones, count_leading_zeros, count_trailing_zeros, under, ones_step, leading_top}
use Rattle.std.proofs.lemmas.Nat.Bits.{bit_at-zero, bit_at_and, bit_at_or, bit_at_ones, bit_at_above, same_from_bits, same_from_bits_below}
use Rattle.paper.specs.Bits.{bit_at}

-- ## One bit

pub bit_at_lem : (k x : ℕ) → bit_at k x ≡ x / 2 ^ k % 2
unfolding bit_at
bit_at_lem zero x = ap (λ y. y % 2) (sym (div-one x))
bit_at_lem (suc k) x =
    let e : 1 + k ≡ suc k = omega arith in
    bit_at_lem k (x / 2) ∙ ap (λ y. y % 2) (shr-shr x 1 k ∙ ap (λ n. x / 2 ^ n) e)

pub bit_lt : (k x : ℕ) → bit_at k x < 2
bit_lt k x = omega (arith, bit_at_lem k x)

pub bit_cases : (k x : ℕ) → (bit_at k x ≡ 0) ⊎ (bit_at k x ≡ 1)
bit_cases k x = grind (arith, bit_lt)

-- a number below 2 ^ n has no bit from n on
pub bit_high : (n k x : ℕ) → n ≤ k → x < 2 ^ n → bit_at k x ≡ 0
bit_high n k x l h = bit_at_lem k x ∙ bit_at_above x n k h l

pub bit_place : (n k x : ℕ) → x < 2 ^ n → bit_at k x ≡ 1 → k < n
bit_place n k x h e = grind (arith, bit_high)

-- a number with bit k set is at least 2 ^ k
pub bit_power_le : (k x : ℕ) → bit_at k x ≡ 1 → 2 ^ k ≤ x
unfolding bit_at
bit_power_le zero x e = omega arith
bit_power_le (suc k) x e = omega (arith, bit_power_le k (x / 2) e, pow-suc 2 k)

-- bit j of a number from 2 ^ j on and below 2 ^ suc j
pub bit_top : (j x : ℕ) → 2 ^ j ≤ x → x < 2 ^ suc j → bit_at j x ≡ 1
unfolding bit_at
bit_top zero x l h = omega arith
bit_top (suc j) x l h = bit_top j (x / 2) (omega (arith, pow-suc 2 j)) (omega (arith, pow-suc 2 (suc j)))

-- ## All the bits

-- a number with no bit set is 0
pub bits_none : (x : ℕ) → ((k : ℕ) → bit_at k x ≡ 0) → x ≡ 0
bits_none x f = same_from_bits x 0 (λ k. sym (bit_at_lem k x) ∙ (f k ∙ sym (bit_at-zero k)))

pub bit_zero : (k : ℕ) → bit_at k 0 ≡ 0
bit_zero k = bit_at_lem k 0 ∙ bit_at-zero k

-- x is 0 exactly if no bit is set
pub zero_bits : (x : ℕ) → (x ≡ 0) ↔ ((k : ℕ) → bit_at k x ≡ 0)
zero_bits x = (λ e k. ap (bit_at k) e ∙ bit_zero k, bits_none x)

-- numbers below 2 ^ n with equal bits below n are equal
pub bits_same : (n x y : ℕ) → x < 2 ^ n → y < 2 ^ n → ((k : ℕ) → k < n → bit_at k x ≡ bit_at k y) → x ≡ y
bits_same n x y h l f = same_from_bits_below n x y h l (λ k i. sym (bit_at_lem k x) ∙ (f k i ∙ bit_at_lem k y))

-- every bit below n of 2 ^ n - 1 is set
pub bit_ones : (n k : ℕ) → k < n → bit_at k (2 ^ n - 1) ≡ 1
bit_ones n k l = bit_at_lem k (2 ^ n - 1) ∙ bit_at_ones n k l

-- any other number below 2 ^ n has a clear bit there
pub clear_exists : (n x : ℕ) → x < 2 ^ n → x ≢ 2 ^ n - 1 → (k : ℕ) × (k < n) × (bit_at k x ≡ 0)
unfolding bit_at
clear_exists zero x h ne = absurd (ne (omega arith))
clear_exists (suc n) x h ne = go (bit_cases 0 x) (clear_exists n (x / 2))
  where
    go : (bit_at 0 x ≡ 0) ⊎ (bit_at 0 x ≡ 1) → (x / 2 < 2 ^ n → x / 2 ≢ 2 ^ n - 1 → (k : ℕ) × (k < n) × (bit_at k (x / 2) ≡ 0))
        → (k : ℕ) × (k < suc n) × (bit_at k x ≡ 0)
    go (inl e) ih = (0, omega arith, e)
    go (inr e) ih =
        let y = ih (omega (arith, pow-suc 2 n)) (λ f. ne (omega (arith, pow-suc 2 n, pow_pos n))) in
        (suc y.0, omega (arith, y.1), y.2)

-- ## Setting a bit that is clear

pub add_half : (k x : ℕ) → (x + 2 ^ suc k) / 2 ≡ x / 2 + 2 ^ k
add_half k x = omega (arith, pow-suc 2 k)

pub set_here : (k x : ℕ) → bit_at k x ≡ 0 → bit_at k (x + 2 ^ k) ≡ 1
unfolding bit_at
set_here zero x e = omega arith
set_here (suc k) x e = ap (bit_at k) (add_half k x) ∙ set_here k (x / 2) e

pub set_other : (k j x : ℕ) → bit_at k x ≡ 0 → j ≢ k → bit_at j (x + 2 ^ k) ≡ bit_at j x
unfolding bit_at
set_other zero zero x e ne = absurd (ne refl)
set_other zero (suc j) x e ne = grind arith
set_other (suc k) zero x e ne = omega (arith, pow-suc 2 k)
set_other (suc k) (suc j) x e ne = ap (bit_at j) (add_half k x) ∙ set_other k j (x / 2) e (λ f. ne (ap suc f))

-- it stays below 2 ^ n
pub set_lt : (n k x : ℕ) → k < n → x < 2 ^ n → bit_at k x ≡ 0 → x + 2 ^ k < 2 ^ n
unfolding bit_at
set_lt zero k x l h e = absurd (omega arith)
set_lt (suc n) zero x l h e = omega (arith, pow-suc 2 n)
set_lt (suc n) (suc k) x l h e =
    omega (arith, pow-suc 2 n, pow-suc 2 k, set_lt n k (x / 2) (omega arith) (omega (arith, pow-suc 2 n)) e)

-- ## Clearing a bit that is set

pub sub_half : (k x : ℕ) → (x - 2 ^ suc k) / 2 ≡ x / 2 - 2 ^ k
sub_half k x = omega (arith, pow-suc 2 k)

pub clear_here : (k x : ℕ) → bit_at k x ≡ 1 → bit_at k (x - 2 ^ k) ≡ 0
unfolding bit_at
clear_here zero x e = omega arith
clear_here (suc k) x e = ap (bit_at k) (sub_half k x) ∙ clear_here k (x / 2) e

pub clear_other : (k j x : ℕ) → bit_at k x ≡ 1 → j ≢ k → bit_at j (x - 2 ^ k) ≡ bit_at j x
clear_other k j x e ne =
    let f : x - 2 ^ k + 2 ^ k ≡ x = omega (arith, bit_power_le k x e) in
    sym (set_other k j (x - 2 ^ k) (clear_here k x e) ne) ∙ ap (bit_at j) f

pub clear_set : (k x : ℕ) → bit_at k x ≡ 1 → x - 2 ^ k + 2 ^ k ≡ x
clear_set k x e = omega (arith, bit_power_le k x e)

pub set_clear : (k x : ℕ) → x + 2 ^ k - 2 ^ k ≡ x
set_clear k x = omega arith

-- the number becomes smaller
pub clear_lt : (k x : ℕ) → bit_at k x ≡ 1 → x - 2 ^ k < x
clear_lt k x e = omega (arith, bit_power_le k x e, pow_pos k)

-- ## The bits that two numbers share, and those that either has

pub bit_and_lem : (k x y : ℕ) → bit_at k (bit_and x y) ≡ min (bit_at k x) (bit_at k y)
bit_and_lem k x y = grind (arith, bit_at_lem, bit_at_and)

pub bit_or_lem : (k x y : ℕ) → bit_at k (bit_or x y) ≡ max (bit_at k x) (bit_at k y)
bit_or_lem k x y = grind (arith, bit_at_lem, bit_at_or)

-- bit k is in both exactly if it is in the numbers' `and`
pub and_set : (k x y : ℕ) → (bit_at k (bit_and x y) ≡ 1) ↔ ((bit_at k x ≡ 1) × (bit_at k y ≡ 1))
and_set k x y = grind (arith, bit_and_lem, bit_lt)

-- no bit is in both exactly if the numbers' `and` is 0
pub and_none : (x y : ℕ) → (bit_and x y ≡ 0) ↔ ((k : ℕ) → bit_at k x ≡ 1 → bit_at k y ≡ 1 → ⊥)
and_none x y =
    (λ e k h l. omega (arith, ap (bit_at k) e, bit_zero k, bit_and_lem k x y), λ f. bits_none (bit_and x y) (λ k. go k f (bit_cases k (bit_and x y))))
  where
    go : (k : ℕ) → ((k : ℕ) → bit_at k x ≡ 1 → bit_at k y ≡ 1 → ⊥) → (bit_at k (bit_and x y) ≡ 0) ⊎ (bit_at k (bit_and x y) ≡ 1) → bit_at k (bit_and x y) ≡ 0
    go k f (inl e) = e
    go k f (inr e) = absurd (f k ((and_set k x y).0 e).0 ((and_set k x y).0 e).1)

-- ## The lowest bit

pub trailing_set : (n x : ℕ) → x ≢ 0 → x < 2 ^ n → bit_at (count_trailing_zeros n x) x ≡ 1
unfolding count_trailing_zeros bit_at
trailing_set zero x ne h = absurd (omega arith)
trailing_set (suc n) x ne h = grind (arith, trailing_set n (x / 2))

-- the bits below it are clear
pub trailing_clear : (n k x : ℕ) → k < count_trailing_zeros n x → bit_at k x ≡ 0
unfolding count_trailing_zeros bit_at
trailing_clear zero k x l = absurd (omega arith)
trailing_clear (suc n) k x l = go (x % 2) k refl l (λ j. trailing_clear n j (x / 2))
  where
    go : (b k : ℕ) → x % 2 ≡ b → k < under b (count_trailing_zeros n (x / 2)) → ((j : ℕ) → j < count_trailing_zeros n (x / 2) → bit_at j (x / 2) ≡ 0) → bit_at k x ≡ 0
    go zero zero e l ih = e
    go zero (suc k) e l ih = ih k (omega arith)
    go (suc b) k e l ih = absurd (omega arith)

-- ## The highest bit

pub leading_set : (n x : ℕ) → x ≢ 0 → x < 2 ^ n → bit_at (n - 1 - count_leading_zeros n x) x ≡ 1
leading_set n x ne h =
    let t = leading_top n x (omega arith) h in
    let e : n - 1 - count_leading_zeros n x ≡ t.0 = omega (arith, t.1) in
    ap (λ k. bit_at k x) e ∙ bit_top t.0 x t.2 t.3

-- the bits above it are clear
pub leading_clear : (n k x : ℕ) → x ≢ 0 → x < 2 ^ n → n - 1 - count_leading_zeros n x < k → bit_at k x ≡ 0
leading_clear n k x ne h l =
    let t = leading_top n x (omega arith) h in
    bit_high (suc t.0) k x (omega (arith, t.1)) t.3

-- ## How many bits are set

pub ones_set : (k x : ℕ) → bit_at k x ≡ 0 → ones (x + 2 ^ k) ≡ suc (ones x)
unfolding bit_at
ones_set zero x e = grind (arith, ones_step)
ones_set (suc k) x e = grind (arith, ones_step, ones_set k (x / 2) e)

-- clearing a set bit lowers them by one
pub ones_clear : (k x : ℕ) → bit_at k x ≡ 1 → suc (ones (x - 2 ^ k)) ≡ ones x
ones_clear k x e = sym (ones_set k (x - 2 ^ k) (clear_here k x e)) ∙ ap ones (clear_set k x e)

pub ones_none : (x : ℕ) → ones x ≡ 0 → x ≡ 0
ones_none = bin_ind (λ x. ones x ≡ 0 → x ≡ 0) (λ e. refl) (λ x ih e. omega (arith, ones_step x, ih (omega (arith, ones_step x))))

pub zero_ones : (x : ℕ) → (ones x ≡ 0) ↔ (x ≡ 0)
unfolding ones
zero_ones x = (ones_none x, λ e. ap ones e)
