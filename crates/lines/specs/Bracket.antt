-- Text put into a lent buffer up to a limit.
-- Assumes nothing.
use Rattle.std.specs.Prelude.{◌≡◌, Option, Some, None, if◌then◌else◌, List, ℕ, ◌+◌, ◌≤◌, ◌<◌, nat_le, length, get_or}

-- where the text ends that starts at a place, if that is not past the limit
abbrev pub end_within : ℕ → ℕ → List ℕ → Option ℕ
end_within limit at text = if nat_le (at + length text) limit then Some (at + length text) else None

-- The buffer has the text at its place, as far as it reaches, and is as before elsewhere.
pub record IsWrittenAt (old : List ℕ) (at : ℕ) (text new : List ℕ) : Type 0 where
  pub size : length new ≡ length old
  pub inside : (k : ℕ) → k < length text → at + k < length old → get_or new (at + k) 0 ≡ get_or text k 0
  pub before : (k : ℕ) → k < at → get_or new k 0 ≡ get_or old k 0
  pub behind : (k : ℕ) → at + length text ≤ k → get_or new k 0 ≡ get_or old k 0
