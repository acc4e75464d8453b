-- What the checker asks of one line.
-- Assumes nothing.
use Rattle.std.specs.Prelude.{◌≡◌, List, ℕ}
use Rattle.paper.specs.Multiset.{Arrangement}
use Rattle.paper.specs.Grammar.{Grammar, members}
use Rattle.paper.specs.Derivation.{Acceptable}
use Rattle.paper.specs.Lines.{line_rule, line_from, line_to, line_symbol, part_slots, Joins}

-- As slots of line k these join from place i to place j, and the parts are what is left of the members, in an acceptable order.
pub record Joined (g : Grammar) (row ns : List ℕ) (k : ℕ) (slots : List ℕ) (i j : ℕ) (rest : List ℕ) : Type 0 where
  pub symbols : List ℕ
  pub joins : Joins g row ns k slots i j symbols
  pub arranged : Arrangement symbols rest
  pub acceptable : Acceptable g symbols

-- The parts of line k join from its begin to its end, and are the members of its rule in an acceptable order.
abbrev pub DoPartsJoin : Grammar → List ℕ → List ℕ → ℕ → Type 0
DoPartsJoin g row ns k = Joined g row ns k (part_slots ns k) (line_from ns k) (line_to ns k) (members g (line_rule ns k))

-- Lines i and k have one left symbol and one span.
pub record IsAlike (g : Grammar) (ns : List ℕ) (i k : ℕ) : Type 0 where
  pub symbol : line_symbol g ns i ≡ line_symbol g ns k
  pub from : line_from ns i ≡ line_from ns k
  pub to : line_to ns i ≡ line_to ns k
