-- What is proved of the definitions, as statements. Each has its proof in proofs/Demands.antt.
-- Assumes nothing.
use Rattle.std.specs.Prelude.{Option, None, Result, ◌≡◌, ◌↔◌, true, ℕ, ◌≤◌, ◌<◌, length, get_or}
use mathlib.Core.List.{List, [], ◌∷◌, Memᴰ}
use Rattle.std.specs.Int.Count.{ones}
use Rattle.paper.specs.Multiset.{count, Arrangement, sub_multisets}
use Rattle.paper.specs.Grammar.{Grammar, IsGrammar, IsRow, members}
use Rattle.paper.specs.Derivation.{InLanguage}
use Rattle.paper.specs.Entry.{Entry, Stands, Found}
use Rattle.paper.specs.Sheet.{Sheet, IsSheet, mask, word, entry_of, entries, steps, tops}
use Rattle.paper.specs.Price.{entries_bound, steps_bound, lines_bound}
use Rattle.paper.specs.Building.{sheet_of}
use Rattle.paper.specs.Tree.{Tree}
use Rattle.paper.specs.Image.{image_fault, grammar_of, house}
use Rattle.paper.specs.Written.{AreBytes, IsWritten}
use Rattle.paper.specs.Lines.{line_count, Valid, Judged}
use Rattle.paper.specs.Outcome.{row_refusal, Buffers, reading_number, reading_counts, ReadingOutcome, CheckingOutcome, BracketingOutcome, ViewOutcome}
use Rattle.paper.specs.declared.Refusal.{Refusal}
use Rattle.paper.specs.declared.Reading.{Reading}

-- ---- the image

-- An image is admitted exactly if it is what is written of some grammar (I1 to I4): this says what refusals 10 to 14 mean without their tests.
abbrev pub AdmittedIsWritten : Type 0
AdmittedIsWritten = (image : List ℕ) → AreBytes image → (image_fault image ≡ None) ↔ IsWritten image

-- What an admitted image means is a grammar: the premise of the theorems below holds wherever an image is not refused.
abbrev pub AdmittedIsGrammar : Type 0
AdmittedIsGrammar = (image : List ℕ) → image_fault image ≡ None → IsGrammar (grammar_of image)

-- The row is a short row of terminals of the grammar that the image means.
pub record IsFit (image row : List ℕ) : Type 0 where
  pub is_grammar : IsGrammar (grammar_of image)
  pub short : length row ≤ 64
  pub is_row : IsRow (grammar_of image) row

-- A row that is not refused (10 to 14, 20, 21) is a short row of terminals.
abbrev pub RowFits : Type 0
RowFits = (image row : List ℕ) → row_refusal image row ≡ None → IsFit image row

-- The grammar is the house grammar (I5).
pub record IsHouse (g : Grammar) : Type 0 where
  pub terminals_are : g.terminals ≡ 4
  pub nonterminals_are : g.nonterminals ≡ 3
  pub start_is : g.start ≡ 4
  pub rules_are : g.rules ≡ record { left = 4; members = 5 ∷ 6 ∷ [] } ∷ record { left = 5; members = 0 ∷ 1 ∷ 2 ∷ [] } ∷ record { left = 6; members = 1 ∷ 3 ∷ [] } ∷ []
  pub value_before_unit : g.precedes 1 2 ≡ true
  pub no_other : (a b : ℕ) → g.precedes a b ≡ true → (a ≡ 1) × (b ≡ 2)

-- The house image is admitted, and means the house grammar (I5).
abbrev pub HouseMeant : Type 0
HouseMeant = (image_fault house ≡ None) × IsHouse (grammar_of house)

-- ---- derivation

-- Rewriting and trees agree: the start symbol derives a row of terminals exactly if there is a tree of it over the whole row (G6).
abbrev pub LanguageByTrees : Type 0
LanguageByTrees = (g : Grammar) (row : List ℕ) → IsRow g row → InLanguage g row ↔ Tree g row g.start 0 (length row)

-- ---- the sheet

-- The steps find on each list exactly the entries that stand on it (S3, S5; Shieber, theorem 7).
abbrev pub Theorem7 : Type 0
Theorem7 = (g : Grammar) (row : List ℕ) (j : ℕ) (e : Entry) → IsGrammar g → Found g row j e ↔ Stands g row j e

-- A row has a top exactly if it is in the language (S9, G6; Shieber, theorem 1).
abbrev pub Theorem1 : Type 0
Theorem1 = (g : Grammar) (row : List ℕ) (sheet : Sheet) → IsGrammar g → IsRow g row → IsSheet g row sheet → (1 ≤ tops g row sheet) ↔ InLanguage g row

-- Every row of at most 64 tokens has a sheet, and it can be computed (S1, S3).
abbrev pub SheetExists : Type 0
SheetExists = (g : Grammar) (row : List ℕ) → IsGrammar g → length row ≤ 64 → IsSheet g row (sheet_of g row)

-- A row has one sheet only.
abbrev pub SheetUnique : Type 0
SheetUnique = (g : Grammar) (row : List ℕ) (s t : Sheet) → IsSheet g row s → IsSheet g row t → s ≡ t

-- An entry that stands can be read back from its word (S7).
abbrev pub WordReadBack : Type 0
WordReadBack = (g : Grammar) (row : List ℕ) (j : ℕ) (e : Entry) → IsGrammar g → length row ≤ 64 → Stands g row j e → entry_of g (word g e) ≡ e

-- The byte of an entry that stands has a one for each member left (S7).
abbrev pub OnesLeft : Type 0
OnesLeft = (g : Grammar) (row : List ℕ) (j : ℕ) (e : Entry) → Stands g row j e → ones (mask (members g e.rule) e.rest) ≡ length e.rest

-- ---- its price

-- Among those listed is every sub-multiset of the members and nothing else, and no two places have the same one.
pub record ListedOnce (members : List ℕ) : Type 0 where
  pub only : (r : List ℕ) → Memᴰ r (sub_multisets members) → (a : ℕ) → count a r ≤ count a members
  pub all : (t : List ℕ) → ((a : ℕ) → count a t ≤ count a members) → (r : List ℕ) × Memᴰ r (sub_multisets members) × Arrangement t r
  pub once : (i j : ℕ) → i < j → j < length (sub_multisets members) → Arrangement (get_or (sub_multisets members) i []) (get_or (sub_multisets members) j []) → ⊥

-- What D counts for a rule is its sub-multisets, each once (S6).
abbrev pub DistinctSubMultisets : Type 0
DistinctSubMultisets = (members : List ℕ) → ListedOnce members

-- No sheet has more entries than the bound (S6).
abbrev pub EntriesBound : Type 0
EntriesBound = (g : Grammar) (row : List ℕ) (sheet : Sheet) → IsSheet g row sheet → entries sheet ≤ entries_bound g (length row)

-- No sheet takes more steps than the bound (S6).
abbrev pub StepsBound : Type 0
StepsBound = (g : Grammar) (row : List ℕ) (sheet : Sheet) → IsSheet g row sheet → steps g row sheet ≤ steps_bound g (length row) (entries sheet)

-- The same from the grammar and the number of tokens alone, before there is a sheet (R6).
abbrev pub StepsPrice : Type 0
StepsPrice = (g : Grammar) (row : List ℕ) (sheet : Sheet) → IsSheet g row sheet → steps g row sheet ≤ steps_bound g (length row) (entries_bound g (length row))

-- ---- derivation lines

-- Every row of the language has valid lines (L4).
abbrev pub LinesExist : Type 0
LinesExist = (g : Grammar) (row : List ℕ) → IsGrammar g → InLanguage g row → (lines : List ℕ) × Valid g row lines

-- Only rows of the language have valid lines (L4).
abbrev pub LinesSound : Type 0
LinesSound = (g : Grammar) (row lines : List ℕ) → IsRow g row → Valid g row lines → InLanguage g row

-- No valid lines are more than L (L4).
abbrev pub LinesBound : Type 0
LinesBound = (g : Grammar) (row lines : List ℕ) → IsGrammar g → Valid g row lines → line_count lines ≤ lines_bound g (length row)

-- ---- two permitted outcomes are equal

-- The checker's judgement of lines is one (L5).
abbrev pub JudgedUnique : Type 0
JudgedUnique = (g : Grammar) (row lines : List ℕ) (x y : Option ℕ) → Judged g row lines x → Judged g row lines y → x ≡ y

-- The checker answers one thing (R1, L5).
abbrev pub CheckingUnique : Type 0
CheckingUnique = (image row lines : List ℕ) (x y : Result (Option ℕ) Refusal) → CheckingOutcome image row lines x → CheckingOutcome image row lines y → x ≡ y

-- The bracket writer answers one thing, and leaves one thing in its buffer (R1 to R3).
abbrev pub BracketingUnique : Type 0
BracketingUnique = (image row lines entry : List ℕ) (x y : Result ℕ Refusal) (s t : List ℕ) → BracketingOutcome image row lines entry x s → BracketingOutcome image row lines entry y t
    → (x ≡ y) × (s ≡ t)

-- The view of line k is one, and so is the refusal whose number the call beside it gives (R5).
abbrev pub ViewUnique : Type 0
ViewUnique = (image row lines : List ℕ) (k : ℕ) (x y : Option Refusal) (s t : List ℕ) → ViewOutcome image row lines k x s → ViewOutcome image row lines k y t → (x ≡ y) × (s ≡ t)

-- All valid lines of the row are the same.
pub record OneWay (g : Grammar) (row : List ℕ) : Type 0 where
  pub same : (u v : List ℕ) → Valid g row u → Valid g row v → u ≡ v

-- What two outcomes of one reading have in common. For a row that is read, only the validity of the lines is fixed: where it has several valid sets of
-- lines, neither they nor their count need be equal.
pub record SameReading (g : Grammar) (row : List ℕ) (x y : Result Reading Refusal) (s t : Buffers) : Type 0 where
  pub number : reading_number x ≡ reading_number y
  pub entries : (reading_counts x).entries ≡ (reading_counts y).entries
  pub steps : (reading_counts x).steps ≡ (reading_counts y).steps
  pub tops : (reading_counts x).tops ≡ (reading_counts y).tops
  pub sheet : s.sheet ≡ t.sheet
  pub starts : s.starts ≡ t.starts
  -- refused or unread: all of the answer, and the lines too
  pub answer : (reading_number x ≡ 0 → ⊥) → x ≡ y
  pub lines : (reading_number x ≡ 0 → ⊥) → s.lines ≡ t.lines
  -- so they are where there is one valid set of lines
  pub settled : OneWay g row → (x ≡ y) × (s ≡ t)

-- Reading answers one thing and leaves one thing in its buffers, the lines of a row that is read apart (R1 to R4).
abbrev pub ReadingUnique : Type 0
ReadingUnique = (image row : List ℕ) (entry : Buffers) (x y : Result Reading Refusal) (s t : Buffers) → ReadingOutcome image row entry x s → ReadingOutcome image row entry y t
    → SameReading (grammar_of image) row x y s t
