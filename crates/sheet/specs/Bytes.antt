-- A set of bytes as four words of 64 bits.
-- Assumes nothing.
use Rattle.std.specs.Prelude.{◌≡◌, ◌≢◌, ◌↔◌, ℕ, ◌/◌, ◌%◌, ◌≤◌, ◌<◌, List, get_or}
use Rattle.paper.specs.Bits.{bit_at}

-- b is in the set
pub record HasByte (words : List ℕ) (b : ℕ) : Type 0 where
  pub is_byte : b < 256
  pub is_set : bit_at (b % 64) (get_or words (b / 64) 0) ≡ 1

-- The byte was the greatest in the set, and is in it no longer; the others are as before.
pub record IsGreatestTaken (old : List ℕ) (byte : ℕ) (new : List ℕ) : Type 0 where
  pub was : HasByte old byte
  pub greatest : (b : ℕ) → HasByte old b → b ≤ byte
  pub others : (b : ℕ) → HasByte new b ↔ (HasByte old b × (b ≢ byte))
