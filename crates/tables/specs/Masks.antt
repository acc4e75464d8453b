-- The byte of an entry as the code handles it: which bytes there are, which members may be taken from one, and what a byte becomes.
-- Assumes nothing.
use Rattle.std.specs.Prelude.{◌≡◌, true, List, ℕ, ◌+◌, ◌*◌, ◌^◌, ◌<◌, length, get_or}
use Rattle.std.specs.Int.Bits.{bit_and}
use Rattle.paper.specs.Bits.{bit_at}
use Rattle.paper.specs.Multiset.{without}
use Rattle.paper.specs.Grammar.{Grammar, members}
use Rattle.paper.specs.Entry.{Entry, may_take}
use Rattle.paper.specs.Sheet.{mask, word, rest_of}
use Rattle.tables.specs.Table.{bars_of}

-- The byte m tells a rest of the members s: it has bits for members only, and where a member is still to be found, so is every equal one
-- behind it (S7).
pub record Proper (s : List ℕ) (m : ℕ) : Type 0 where
  pub below : m < 2 ^ length s
  pub later : (i j : ℕ) → i < j → j < length s → get_or s i 0 ≡ get_or s j 0 → bit_at i m ≡ 1 → bit_at j m ≡ 1

-- Member k may be taken: it is still to be found, and none of the members that bar it is (S4, S7).
pub record Takeable (g : Grammar) (s : List ℕ) (m k : ℕ) : Type 0 where
  pub place : k < length s
  pub is_left : bit_at k m ≡ 1
  pub unbarred : bit_and m (bars_of g s k) ≡ 0

-- Of the members equal to a, k is the last that is found.
pub record LastFound (s : List ℕ) (m a k : ℕ) : Type 0 where
  pub place : k < length s
  pub member : get_or s k 0 ≡ a
  pub is_found : bit_at k m ≡ 0
  pub later : (j : ℕ) → k < j → j < length s → get_or s j 0 ≡ a → bit_at j m ≡ 1

-- The symbol a may be taken from the proper byte n, which becomes m.
pub record TakenFrom (g : Grammar) (s : List ℕ) (a n m : ℕ) : Type 0 where
  pub proper : Proper s n
  pub may : may_take g a (rest_of s n) ≡ true
  pub becomes : mask s (without a (rest_of s n)) ≡ m

-- the entry of rule h and origin i with the rest that the byte m tells
abbrev pub entry_with : Grammar → ℕ → ℕ → ℕ → Entry
entry_with g h i m = record { rule = h; origin = i; rest = rest_of (members g h) m }

-- The byte m is proper, and e is the entry that has it (S7).
pub record HasByte (g : Grammar) (e : Entry) (m : ℕ) : Type 0 where
  pub proper : Proper (members g e.rule) m
  pub is_entry : entry_with g e.rule e.origin m ≡ e
  pub is_word : word g e ≡ e.rule * 65536 + e.origin * 256 + m
