-- What a new entry tells.
-- Assumes nothing.
use Rattle.std.specs.Prelude.{◌≡◌, ◌↔◌, ◌⊎◌, true, List, ℕ, ◌<◌, get_or}
use Rattle.paper.specs.Bits.{bit_at}
use Rattle.paper.specs.Grammar.{Grammar, IsNonterminal, left}
use Rattle.tables.specs.Machine.{may_be_taken, Leaves}
use Rattle.sheet.specs.Bytes.{HasByte}
use Rattle.sheet.specs.Growing.{DerivesNothing}

-- What the sets gain by the entry of rule h, origin i and byte m: where nothing is left, its left symbol is finished from its origin; the nonterminals that
-- may be taken from it are looked for.
pub record IsNoted (g : Grammar) (j h i m : ℕ) (old_found : List ℕ) (old_want : ℕ) (found : List ℕ) (want : ℕ) : Type 0 where
  pub finishes : (k x : ℕ) → k < j
      → (bit_at x (get_or found k 0) ≡ 1) ↔ ((bit_at x (get_or old_found k 0) ≡ 1) ⊎ ((m ≡ 0) × (k ≡ i) × (x ≡ left g h)))
  pub wants : (x : ℕ) → (bit_at x want ≡ 1) ↔ ((bit_at x old_want ≡ 1) ⊎ (IsNonterminal g x × (may_be_taken g h m x ≡ true)))

-- the byte n is left when some symbol of the set is taken from the rest that byte m tells
pub record IsLeft (g : Grammar) (h m symbols n : ℕ) : Type 0 where
  pub symbol : ℕ
  pub is_in : bit_at symbol symbols ≡ 1
  pub leaves : Leaves g h symbol m n

-- the bytes gain what is left when each symbol of the set is taken
abbrev pub GainsLeft : Grammar → ℕ → ℕ → ℕ → List ℕ → List ℕ → Type 0
GainsLeft g h m symbols old new = (n : ℕ) → HasByte new n ↔ (HasByte old n ⊎ IsLeft g h m symbols n)

-- the symbols that derive nothing and may be taken from the rest that byte m tells
abbrev pub AreEmptyParts : Grammar → ℕ → ℕ → ℕ → Type 0
AreEmptyParts g h m symbols = (x : ℕ) → (bit_at x symbols ≡ 1) ↔ (DerivesNothing g x × (may_be_taken g h m x ≡ true))
