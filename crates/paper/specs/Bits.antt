-- The bits of a number, lowest first.
-- Assumes nothing.
use Rattle.std.specs.Prelude.{◌≡◌, ℕ, zero, suc, ◌/◌, ◌%◌}

-- bit k of x, 0 or 1
unfoldable pub bit_at : ℕ → ℕ → ℕ
bit_at zero x = x % 2
bit_at (suc k) x = bit_at k (x / 2)

-- the number x as a set: k is in it if bit k of x is 1
pub record In (k x : ℕ) : Type 0 where
  pub is_set : bit_at k x ≡ 1
