-- Derivation lines (docs/RULES.md, "Derivation lines"). They are a list of numbers, twelve to a line.
-- Assumes nothing.
use Rattle.std.specs.Prelude.{◌≡◌, Option, Some, None, true, false, List, [], ◌∷◌, ◌++◌, ℕ, zero, suc, ◌+◌, ◌-◌, ◌*◌, ◌/◌, ◌%◌, ◌≤◌, ◌<◌, ltb, length, get_or, take, drop}
use Rattle.std.proofs.Math.Seq.{slice}
use Rattle.paper.specs.Multiset.{Arrangement}
use Rattle.paper.specs.Grammar.{Grammar, rule_count, left, members}
use Rattle.paper.specs.Derivation.{Acceptable}

-- how many numbers a line has (L1)
abbrev pub line_size : ℕ
line_size = 12

-- how many whole lines the numbers hold (L5)
abbrev pub line_count : List ℕ → ℕ
line_count ns = length ns / line_size

-- the rule of line k (L1)
abbrev pub line_rule : List ℕ → ℕ → ℕ
line_rule ns k = get_or ns (line_size * k) 0

-- the place where line k begins (L1)
abbrev pub line_from : List ℕ → ℕ → ℕ
line_from ns k = get_or ns (line_size * k + 1) 0

-- the place where line k ends (L1)
abbrev pub line_to : List ℕ → ℕ → ℕ
line_to ns k = get_or ns (line_size * k + 2) 0

-- how many parts line k has (L1)
abbrev pub line_parts : List ℕ → ℕ → ℕ
line_parts ns k = get_or ns (line_size * k + 3) 0

-- slot x of line k, x from 0 (L1)
abbrev pub line_slot : List ℕ → ℕ → ℕ → ℕ
line_slot ns k x = get_or ns (line_size * k + 4 + x) 0

-- the slots of line k that hold its parts (L1)
abbrev pub part_slots : List ℕ → ℕ → List ℕ
part_slots ns k = take (line_parts ns k) (drop (line_size * k + 4) ns)

-- the left symbol of line k
abbrev pub line_symbol : Grammar → List ℕ → ℕ → ℕ
line_symbol g ns k = left g (line_rule ns k)

-- `Joins g row ns k slots i j s`: as slots of line k these join from place i to place j (L2), and the parts are the symbols of s. A part is a token
-- or an earlier line (L1).
pub data Joins (g : Grammar) (row ns : List ℕ) (k : ℕ) : List ℕ → ℕ → ℕ → List ℕ → Type 0 where
  end : {i : ℕ} → Joins g row ns k [] i i []
  token : {a i j : ℕ} {slots s : List ℕ} → i < length row → get_or row i 0 ≡ a → Joins g row ns k slots (suc i) j s → Joins g row ns k (0 ∷ slots) i j (a ∷ s)
  part : {a i m j : ℕ} {slots s : List ℕ} (earlier : ℕ) → earlier < k → line_from ns earlier ≡ i → line_to ns earlier ≡ m → line_symbol g ns earlier ≡ a
      → Joins g row ns k slots m j s → Joins g row ns k (suc earlier ∷ slots) i j (a ∷ s)

-- line k is right, judged with the lines before it (L2); `past` is what L1 says of slots behind the parts
pub record LineRight (g : Grammar) (row ns : List ℕ) (k : ℕ) : Type 0 where
  pub rule_is : line_rule ns k < rule_count g
  pub parts_are : line_parts ns k ≡ length (members g (line_rule ns k))
  pub span : line_from ns k ≤ line_to ns k
  pub within : line_to ns k ≤ length row
  pub past : (x : ℕ) → line_parts ns k ≤ x → x < 8 → line_slot ns k x ≡ 0
  pub symbols : List ℕ
  pub joins : Joins g row ns k (part_slots ns k) (line_from ns k) (line_to ns k) symbols
  pub arranged : Arrangement symbols (members g (line_rule ns k))
  pub acceptable : Acceptable g symbols
  pub unshared : (i : ℕ) → i < k → line_symbol g ns i ≡ line_symbol g ns k → line_from ns i ≡ line_from ns k → line_to ns i ≡ line_to ns k → ⊥

-- line k is a part of line i (L1)
pub record Uses (ns : List ℕ) (i k : ℕ) : Type 0 where
  pub slot : ℕ
  pub is_part : slot < line_parts ns i
  pub names : line_slot ns i slot ≡ suc k

-- what valid lines have beyond each of them being right: a last one that is the whole reading, and no other without a use (L3)
pub record WholeRight (g : Grammar) (row ns : List ℕ) : Type 0 where
  pub some_line : 1 ≤ line_count ns
  pub top : line_symbol g ns (line_count ns - 1) ≡ g.start
  pub top_from : line_from ns (line_count ns - 1) ≡ 0
  pub top_to : line_to ns (line_count ns - 1) ≡ length row
  pub used : (k : ℕ) → suc k < line_count ns → (i : ℕ) × (k < i) × (i < line_count ns) × Uses ns i k

-- the numbers are valid lines (L3)
pub record Valid (g : Grammar) (row ns : List ℕ) : Type 0 where
  pub whole_lines : length ns % line_size ≡ 0
  pub each : (k : ℕ) → k < line_count ns → LineRight g row ns k
  pub whole : WholeRight g row ns

-- what the checker says of the numbers: nothing is at fault, or where the first fault is (L5)
pub data Judged (g : Grammar) (row ns : List ℕ) (fault : Option ℕ) : Type 0 where
  valid : Valid g row ns → fault ≡ None → Judged g row ns fault
  uneven : (length ns % line_size ≡ 0 → ⊥) → fault ≡ Some (line_count ns) → Judged g row ns fault
  line : (k : ℕ) → length ns % line_size ≡ 0 → k < line_count ns → ((i : ℕ) → i < k → LineRight g row ns i) → (LineRight g row ns k → ⊥)
      → fault ≡ Some k → Judged g row ns fault
  whole : length ns % line_size ≡ 0 → ((k : ℕ) → k < line_count ns → LineRight g row ns k) → (WholeRight g row ns → ⊥)
      → fault ≡ Some (line_count ns) → Judged g row ns fault

-- a number in decimal digits, of which there is room for one more than the first argument says
unfoldable pub digits : ℕ → ℕ → List ℕ
digits zero n = (48 + n) ∷ []
digits (suc more) n = elim (ltb n 10) [ true ↦ (48 + n) ∷ [] | false ↦ digits more (n / 10) ++ ((48 + n % 10) ∷ []) ]

-- a number in decimal: one of 16 bits has at most five digits (L6)
abbrev pub decimal : ℕ → List ℕ
decimal n = digits 4 n

-- the text of the parts in these slots, the first part at place i; `texts` are the brackets of the earlier lines (L6)
unfoldable pub parts_text : List ℕ → List ℕ → List (List ℕ) → List ℕ → ℕ → List ℕ
parts_text row ns texts [] i = []
parts_text row ns texts (zero ∷ slots) i = 32 ∷ (decimal (get_or row i 0) ++ parts_text row ns texts slots (suc i))
parts_text row ns texts (suc earlier ∷ slots) i = get_or texts earlier [] ++ parts_text row ns texts slots (line_to ns earlier)

-- the bracket of line k, from those of the earlier lines (L6)
unfoldable pub line_text : List ℕ → List ℕ → List (List ℕ) → ℕ → List ℕ
line_text row ns texts k = 40 ∷ (decimal (line_rule ns k) ++ (parts_text row ns texts (part_slots ns k) (line_from ns k) ++ (41 ∷ [])))

-- the brackets of the first k lines; each needs earlier ones alone (L6)
unfoldable pub texts_below : List ℕ → List ℕ → ℕ → List (List ℕ)
texts_below row ns zero = []
texts_below row ns (suc k) = texts_below row ns k ++ (line_text row ns (texts_below row ns k) k ∷ [])

-- the bracket of line k (L6)
abbrev pub bracket_of : List ℕ → List ℕ → ℕ → List ℕ
bracket_of row ns k = line_text row ns (texts_below row ns k) k

-- the words under line k (L7)
abbrev pub words_under : List ℕ → List ℕ → ℕ → List ℕ
words_under row ns k = slice (line_from ns k) (line_to ns k) row
