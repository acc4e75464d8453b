-- Entries of the sheet: what may be taken, when an entry stands on a list, and the steps that find entries (docs/RULES.md, "The sheet").
-- Assumes nothing.
use Rattle.std.specs.Prelude.{◌≡◌, Bool, true, false, not, ◌&&◌, ◌||◌, List, [], ◌∷◌, ◌++◌, ℕ, suc, ◌≤◌, ◌<◌, eqb, length, get_or, take}
use Rattle.std.proofs.Math.Seq.{slice}
use Rattle.paper.specs.Multiset.{Arrangement, has, without, minus}
use Rattle.paper.specs.Grammar.{Grammar, rule_count, left, members}
use Rattle.paper.specs.Derivation.{Acceptable, Derives}

-- an entry: a rule under way, the place where it began, and the members not found yet (S2)
pub record Entry : Type 0 where
  pub rule : ℕ
  pub origin : ℕ
  pub rest : List ℕ

-- must some member of the rest precede a? (S4)
unfoldable pub barred : Grammar → ℕ → List ℕ → Bool
barred g a [] = false
barred g a (b ∷ rest) = g.precedes b a || barred g a rest

-- a is in the rest, and nothing in the rest must come first (S4); a itself may be among those asked, as no symbol precedes itself
unfoldable pub may_take : Grammar → ℕ → List ℕ → Bool
may_take g a rest = has a rest && not (barred g a rest)

-- the entry of rule h and origin i with nothing found yet (S5)
abbrev pub fresh : Grammar → ℕ → ℕ → Entry
fresh g h i = record { rule = h; origin = i; rest = members g h }

-- the entry with one a more found (S5)
abbrev pub taking : ℕ → Entry → Entry
taking a e = record { rule = e.rule; origin = e.origin; rest = without a e.rest }

-- nothing is left to be found (S2)
unfoldable pub finished : Entry → Bool
finished e = eqb (length e.rest) 0

-- the entry stands on list j (S3; Shieber, theorem 7)
pub record Stands (g : Grammar) (row : List ℕ) (j : ℕ) (e : Entry) : Type 0 where
  pub is_rule : e.rule < rule_count g
  pub origin_le : e.origin ≤ j
  pub list_le : j ≤ length row
  -- (a) `found` is an order of the found members that derives the tokens from the origin to j, and `ahead` an order of the rest that may follow it;
  -- `rest_is` says which of equal members are left (S7)
  pub found : List ℕ
  pub ahead : List ℕ
  pub rest_is : e.rest ≡ minus (members g e.rule) found
  pub found_are : Arrangement (found ++ e.rest) (members g e.rule)
  pub ahead_is : Arrangement ahead e.rest
  pub found_derives : Derives g found (slice e.origin j row)
  pub acceptable : Acceptable g (found ++ ahead)
  -- (b) the left symbol stands in a sequence that the start symbol derives, behind symbols that derive the tokens up to the origin
  pub before : List ℕ
  pub behind : List ℕ
  pub sought : Derives g (g.start ∷ []) (before ++ (left g e.rule ∷ behind))
  pub before_derives : Derives g before (take e.origin row)

-- what the four kinds of steps find: the entry is found on list j (S5; Shieber, section 5, as section 6 changes it)
pub data Found (g : Grammar) (row : List ℕ) : ℕ → Entry → Type 0 where
  start : (h : ℕ) → h < rule_count g → left g h ≡ g.start → Found g row 0 (fresh g h 0)
  scan : {j : ℕ} {e : Entry} → Found g row j e → j < length row → may_take g (get_or row j 0) e.rest ≡ true → Found g row (suc j) (taking (get_or row j 0) e)
  predict : {j : ℕ} {e : Entry} (h : ℕ) → Found g row j e → h < rule_count g → may_take g (left g h) e.rest ≡ true → Found g row j (fresh g h j)
  complete : {j : ℕ} {e f : Entry} → Found g row f.origin e → Found g row j f → finished f ≡ true → may_take g (left g f.rule) e.rest ≡ true
      → Found g row j (taking (left g f.rule) e)
