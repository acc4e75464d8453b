-- A rule as a little machine on the byte of an entry: what a contract says of rule h and byte m.
-- Assumes nothing.
use Rattle.std.specs.Prelude.{ℕ, Bool}
use Rattle.paper.specs.Grammar.{Grammar, members}
use Rattle.paper.specs.Entry.{may_take}
use Rattle.paper.specs.Sheet.{mask, rest_of}
use Rattle.tables.specs.Masks.{Proper, TakenFrom}

-- the byte of rule h with nothing found yet
abbrev pub full_byte : Grammar → ℕ → ℕ
full_byte g h = mask (members g h) (members g h)

-- byte m tells a rest of rule h
abbrev pub IsByte : Grammar → ℕ → ℕ → Type 0
IsByte g h m = Proper (members g h) m

-- may a be taken from the rest of rule h that byte m tells?
abbrev pub may_be_taken : Grammar → ℕ → ℕ → ℕ → Bool
may_be_taken g h m a = may_take g a (rest_of (members g h) m)

-- a may be taken from the rest of rule h that byte n tells, and leaves the one that byte m tells
abbrev pub Leaves : Grammar → ℕ → ℕ → ℕ → ℕ → Type 0
Leaves g h a n m = TakenFrom g (members g h) a n m
