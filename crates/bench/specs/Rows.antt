-- The worked rows of the bench as one table, and what it is that a row of the table holds.
-- Assumes nothing.
use Rattle.std.specs.Prelude.{◌≡◌, Some, None, Result, Ok, List, [], ◌∷◌, map, ℕ, ◌≤◌, ◌<◌, length}
use Rattle.paper.specs.Derivation.{InLanguage}
use Rattle.paper.specs.Sheet.{Sheet, IsSheet, entries, steps, tops}
use Rattle.paper.specs.Image.{grammar_of, house}
use Rattle.paper.specs.Written.{image_bytes}
use Rattle.paper.specs.Lines.{line_count, Valid}
use mathlib.Core.List.{Memᴰ}
use Rattle.paper.specs.Outcome.{Buffers, refused_before, ReadingOutcome, row_refusal, last_bracket, reading_number}
use Rattle.paper.specs.Refusal.{number_of}
use Rattle.paper.specs.declared.Refusal.{Refusal}
use Rattle.paper.specs.declared.Counts.{Counts}
use Rattle.paper.specs.declared.Reading.{Reading}

-- what a row says of a value: nothing, or which it is
pub data Said (A : Type 0) : Type 0 where
  unsaid : Said A
  said : A → Said A

-- the value is as said
pub record Agrees {A : Type 0} (what : Said A) (value : A) : Type 0 where
  pub agree : (expected : A) → what ≡ said expected → value ≡ expected

-- how many derivation lines there are, and the bracket of the last
pub record Derivation : Type 0 where
  pub lines : ℕ
  pub bracket : List ℕ

-- A row of the bench: what is given to a reading, and what is said of it.
pub record Row : Type 0 where
  pub image : List ℕ
  pub tokens : List ℕ
  -- how many words the lent sheet has
  pub words : ℕ
  -- 0 read, 1 unread, or the number of the refusal (R2, R4)
  pub number : ℕ
  -- how many entries stand on each list (P3)
  pub lists : Said (List ℕ)
  pub entries : Said ℕ
  pub steps : Said ℕ
  pub tops : Said ℕ
  pub derivation : Said Derivation

-- The sheet of the row has the counts that are said.
pub record Counted (row : Row) : Type 0 where
  pub sheet : Sheet
  pub is_sheet : IsSheet (grammar_of row.image) row.tokens sheet
  pub lists_are : Agrees row.lists (map length sheet)
  pub entries_are : Agrees row.entries (entries sheet)
  pub steps_are : Agrees row.steps (steps (grammar_of row.image) row.tokens sheet)
  pub tops_are : Agrees row.tops (tops (grammar_of row.image) row.tokens sheet)

-- There are valid lines, as many as said and with the bracket that is said. Which valid lines they are, and in which order, is not settled.
pub record Derived (row : Row) : Type 0 where
  pub written : List ℕ
  pub valid : Valid (grammar_of row.image) row.tokens written
  pub derivation_is : Agrees row.derivation (record { lines = line_count written; bracket = last_bracket row.tokens written })

-- The row holds: its number is the one of the case that it is in, and the counts of its sheet are as said.
pub data Holds (row : Row) : Type 0 where
  -- 10 to 14, 20, 21
  refused : (why : Refusal) → row_refusal row.image row.tokens ≡ Some why → row.number ≡ number_of why → Holds row
  -- 24: the sheet does not fit
  overfull : row_refusal row.image row.tokens ≡ None → (c : Counted row) → row.words < entries c.sheet → row.number ≡ number_of Refusal.FewWords → Holds row
  read : row_refusal row.image row.tokens ≡ None → (c : Counted row) → entries c.sheet ≤ row.words → InLanguage (grammar_of row.image) row.tokens
      → Derived row → row.number ≡ 0 → Holds row
  unread : row_refusal row.image row.tokens ≡ None → (c : Counted row) → entries c.sheet ≤ row.words
      → (InLanguage (grammar_of row.image) row.tokens → ⊥) → row.number ≡ 1 → Holds row

-- the counts of an answer are as said
pub record CountsSaid (row : Row) (counts : Counts) : Type 0 where
  pub entries_are : Agrees row.entries counts.entries
  pub steps_are : Agrees row.steps counts.steps
  pub tops_are : Agrees row.tops counts.tops

-- An answer of a reading is as the row says: its number and, if it has any, its counts.
pub record Answers (row : Row) (answer : Result Reading Refusal) : Type 0 where
  pub number_is : reading_number answer ≡ row.number
  pub if_read : (counts : Counts) → answer ≡ Ok (Reading.Read counts) → CountsSaid row counts
  pub if_unread : (counts : Counts) → answer ≡ Ok (Reading.Unread counts) → CountsSaid row counts

-- how many sheet words the program lends (P2)
abbrev pub lent : ℕ
lent = 16384

-- a row of which only a refusal is said
abbrev pub refusing : List ℕ → List ℕ → ℕ → ℕ → Row
refusing image tokens words number =
    record { image = image; tokens = tokens; words = words; number = number; lists = unsaid; entries = unsaid; steps = unsaid; tops = unsaid; derivation = unsaid }

-- a row that is read, with the entries and steps that are said
abbrev pub reading : List ℕ → List ℕ → Said ℕ → Said ℕ → Row
reading image tokens entries steps =
    record { image = image; tokens = tokens; words = lent; number = 0; lists = unsaid; entries = entries; steps = steps; tops = unsaid; derivation = unsaid }

-- a row that is unread, and so has no tops (R4), with the entries and steps that are said
abbrev pub unreading : List ℕ → List ℕ → Said ℕ → Said ℕ → Row
unreading image tokens entries steps =
    record { image = image; tokens = tokens; words = lent; number = 1; lists = unsaid; entries = entries; steps = steps; tops = said 0; derivation = unsaid }

-- The plate `3 1 1 0 2` of the house grammar, read with so many sheet words. The bracket, here as bytes, is `(0(2 3 1)(1 1 0 2))`: a serial mark with
-- its value, then a rating of value, label and unit (L6).
abbrev pub plate : ℕ → Row
plate words =
    record {
      image = house;
      tokens = 3 ∷ 1 ∷ 1 ∷ 0 ∷ 2 ∷ [];
      words = words;
      number = 0;
      lists = said (3 ∷ 1 ∷ 3 ∷ 1 ∷ 1 ∷ 2 ∷ []);
      entries = said 11;
      steps = said 11;
      tops = said 1;
      derivation = said (record { lines = 3; bracket = 40 ∷ 48 ∷ 40 ∷ 50 ∷ 32 ∷ 51 ∷ 32 ∷ 49 ∷ 41 ∷ 40 ∷ 49 ∷ 32 ∷ 49 ∷ 32 ∷ 48 ∷ 32 ∷ 50 ∷ 41 ∷ 41 ∷ [] });
    }

-- Images with one nonterminal, the start symbol. Their bodies: symbols (T, N, start), rules (how many; left symbol, how many members, members), order.

-- T=1, N=1, and one rule: symbol 1 with no members
abbrev pub empty_rule : List ℕ
empty_rule = image_bytes (1 ∷ 1 ∷ 1 ∷ []) (1 ∷ 1 ∷ 0 ∷ []) []

-- T=1, N=1, and one rule: symbol 1 with itself for its only member
abbrev pub own_member : List ℕ
own_member = image_bytes (1 ∷ 1 ∷ 1 ∷ []) (1 ∷ 1 ∷ 1 ∷ 1 ∷ []) []

-- T=1, N=1, and one rule: symbol 1 with two equal members, tokens 0
abbrev pub two_equals : List ℕ
two_equals = image_bytes (1 ∷ 1 ∷ 1 ∷ []) (1 ∷ 1 ∷ 2 ∷ 0 ∷ 0 ∷ []) []

-- T=2, N=1, and one rule: symbol 2 with members 0 and 1, of which 0 precedes 1
abbrev pub ordered : List ℕ
ordered = image_bytes (2 ∷ 1 ∷ 2 ∷ []) (1 ∷ 2 ∷ 2 ∷ 0 ∷ 1 ∷ []) (0 ∷ 1 ∷ [])

-- T=3, N=1, and one rule: symbol 3 with members 0, 1 and 2; 0 precedes 1 and 1 precedes 2, but 0 does not precede 2 (G3)
abbrev pub unclosed : List ℕ
unclosed = image_bytes (3 ∷ 1 ∷ 3 ∷ []) (1 ∷ 3 ∷ 3 ∷ 0 ∷ 1 ∷ 2 ∷ []) (0 ∷ 1 ∷ 1 ∷ 2 ∷ [])

-- T=1, N=1, and one rule, whose member 2 is no symbol: it equals T+N (I3, G1)
abbrev pub strange_member : List ℕ
strange_member = image_bytes (1 ∷ 1 ∷ 1 ∷ []) (1 ∷ 1 ∷ 1 ∷ 2 ∷ []) []

-- The rows, each with what is said of it.
unfoldable pub table : List Row
table =
    -- the plate: 11 sheet words do for its 11 entries, 10 do not
    plate lent
    ∷ refusing house (3 ∷ 1 ∷ 1 ∷ 0 ∷ 2 ∷ []) 10 24
    ∷ plate 11
    -- the house grammar has no empty row
    ∷ unreading house [] (said 3) (said 3)
    -- the unit stands before the value of the serial number, which is in another rule: the order does not bind them (G4)
    ∷ reading house (0 ∷ 1 ∷ 2 ∷ 1 ∷ 3 ∷ []) unsaid unsaid
    -- the label may stand behind the unit, but the unit not before the value of its rating
    ∷ reading house (1 ∷ 2 ∷ 0 ∷ 3 ∷ 1 ∷ []) unsaid unsaid
    ∷ unreading house (3 ∷ 1 ∷ 0 ∷ 2 ∷ 1 ∷ []) unsaid unsaid
    -- a rule with no members reads the empty row
    ∷ reading empty_rule [] (said 1) (said 1)
    -- a symbol that is its own only member reads nothing: the second step predicts what the first began with
    ∷ unreading own_member [] (said 1) (said 2)
    -- of two equal members the first is found first, so no list has two entries (S7)
    ∷ unreading two_equals (0 ∷ []) (said 2) (said 2)
    ∷ reading two_equals (0 ∷ 0 ∷ []) (said 3) (said 3)
    ∷ unreading two_equals (0 ∷ 0 ∷ 0 ∷ []) (said 3) (said 3)
    -- the order lets one arrangement through
    ∷ reading ordered (0 ∷ 1 ∷ []) unsaid unsaid
    ∷ unreading ordered (1 ∷ 0 ∷ []) (said 1) (said 1)
    -- an order that is not closed, and a member that is no symbol
    ∷ refusing unclosed [] lent 14
    ∷ refusing strange_member [] lent 12
    ∷ []

-- Every row of the table holds.
abbrev pub TableHolds : Type 0
TableHolds = (row : Row) → Memᴰ row table → Holds row

-- Every answer that is permitted to a reading of a row of the table is as the row says, if the sheet has as many words and neither 22 nor 23 holds.
abbrev pub TableAnswered : Type 0
TableAnswered = (row : Row) (entry exit : Buffers) (answer : Result Reading Refusal) → Memᴰ row table → length entry.sheet ≡ row.words
    → refused_before row.image row.tokens entry ≡ row_refusal row.image row.tokens → ReadingOutcome row.image row.tokens entry answer exit → Answers row answer
