-- What comes back from each public call (docs/RULES.md, "What comes back"): for every input and every lent buffer, the answer and the buffers afterwards.
-- Assumes nothing.
use Rattle.std.specs.Prelude.{◌≡◌, Option, Some, None, Result, Ok, Err, Bool, not, cond, List, [], ◌∷◌, ◌++◌, map, ℕ, ◌+◌, ◌-◌, ◌*◌, ◌≤◌, ◌<◌, ltb, length, replicate}
use Rattle.std.specs.Option.{option_map}
use Rattle.paper.specs.Grammar.{Grammar}
use Rattle.paper.specs.Derivation.{InLanguage}
use Rattle.paper.specs.Sheet.{Sheet, IsSheet, word, entries, steps, tops}
use Rattle.paper.specs.Price.{rests, entries_bound, steps_bound, lines_bound}
use Rattle.paper.specs.Image.{all_below, image_fault, grammar_of}
use Rattle.paper.specs.Lines.{line_size, line_count, Valid, Judged, bracket_of, words_under}
use Rattle.paper.specs.Refusal.{number_of}
use Rattle.paper.specs.declared.Refusal.{Refusal}
use Rattle.paper.specs.declared.Counts.{Counts}
use Rattle.paper.specs.declared.Reading.{Reading}
use Rattle.paper.specs.declared.Bounds.{Bounds}

-- the refusal if its condition holds
abbrev pub if_holds : Refusal → Bool → Option Refusal
if_holds why holds = cond holds (Some why) None

-- the first refusal that holds, in the order of the list
abbrev pub first_of : List (Option Refusal) → Option Refusal
first_of [] = None
first_of (None ∷ more) = first_of more
first_of (Some why ∷ more) = Some why

-- 10 to 14: what every call has (R1)
abbrev pub image_refusal : List ℕ → Option Refusal
image_refusal image = option_map (λ fault. fault.why) (image_fault image)

-- 20, for a row of n tokens (R1)
abbrev pub too_long : ℕ → Option Refusal
too_long n = if_holds Refusal.LongRow (ltb 64 n)

-- 21, for a row and a grammar (R1)
abbrev pub strange : Grammar → List ℕ → Option Refusal
strange g row = if_holds Refusal.StrangeToken (not (all_below g.terminals row))

-- 10 to 14, 20, 21: what every call that takes a row has (R1)
unfoldable pub row_refusal : List ℕ → List ℕ → Option Refusal
row_refusal image row = first_of (image_refusal image ∷ too_long (length row) ∷ strange (grammar_of image) row ∷ [])

-- 10 to 14, 20 to 23, for so many lent starts and line numbers: what reading has before there is a sheet (R1)
unfoldable pub reading_refusal : List ℕ → List ℕ → ℕ → ℕ → Option Refusal
reading_refusal image row starts lines =
    first_of
    (row_refusal image row
    ∷ if_holds Refusal.FewStarts (ltb starts (length row + 2))
    ∷ if_holds Refusal.FewLines (ltb lines (line_size * lines_bound (grammar_of image) (length row)))
    ∷ [])

-- what was written, in a lent buffer of so many cells, with zeros up to its end (R3)
abbrev pub padded : List ℕ → ℕ → List ℕ
padded written cells = written ++ replicate (cells - length written) 0

-- the words of the whole sheet, list after list (S8)
unfoldable pub sheet_words : Grammar → Sheet → List ℕ
sheet_words g [] = []
sheet_words g (list ∷ sheet) = map (word g) list ++ sheet_words g sheet

-- where each list starts, the first at the given word, and where the last ends (S8)
unfoldable pub starts_from : ℕ → Sheet → List ℕ
starts_from at [] = at ∷ []
starts_from at (list ∷ sheet) = at ∷ starts_from (at + length list) sheet

-- what a call answers that is refused, or else gives the value
abbrev pub refused_or : {A : Type 0} → Option Refusal → A → Result A Refusal
refused_or None value = Ok value
refused_or (Some why) value = Err why

-- The number of an answer (R2, R4). The image check, the checker of lines, the bracket writer and the price have 0 where they do not refuse;
-- the line at fault that the checker finds is no refusal.
abbrev pub answer_number : {A : Type 0} → Result A Refusal → ℕ
answer_number (Ok value) = 0
answer_number (Err why) = number_of why

-- the number of an answer of reading (R2, R4)
abbrev pub reading_number : Result Reading Refusal → ℕ
reading_number (Ok (Reading.Read counts)) = 0
reading_number (Ok (Reading.Unread counts)) = 1
reading_number (Err why) = number_of why

-- the counts of an answer of reading; a refusal has none but zeros (R2)
abbrev pub reading_counts : Result Reading Refusal → Counts
reading_counts (Ok (Reading.Read counts)) = counts
reading_counts (Ok (Reading.Unread counts)) = counts
reading_counts (Err why) = record { entries = 0; steps = 0; lines = 0; tops = 0 }

-- the length that the bracket writer answers, 0 if it refuses (R2)
abbrev pub bracketing_length : Result ℕ Refusal → ℕ
bracketing_length (Ok length) = length
bracketing_length (Err why) = 0

-- what the call beside the view gives: the number of the refusal, 0 for a view that is accepted (R5)
abbrev pub view_number : Option Refusal → ℕ
view_number None = 0
view_number (Some why) = number_of why

-- the lent buffers of a reading
pub record Buffers : Type 0 where
  pub sheet : List ℕ
  pub starts : List ℕ
  pub lines : List ℕ

-- all cells 0
abbrev pub cleared : List ℕ → List ℕ
cleared cells = replicate (length cells) 0

-- The sheet, the counts and what is in the lent sheet and starts, of a row that is read or unread (R3, R4).
pub record Built (image row : List ℕ) (entry exit : Buffers) (counts : Counts) : Type 0 where
  pub sheet : Sheet
  pub is_sheet : IsSheet (grammar_of image) row sheet
  pub fits : entries sheet ≤ length entry.sheet
  pub entries_are : counts.entries ≡ entries sheet
  pub steps_are : counts.steps ≡ steps (grammar_of image) row sheet
  pub tops_are : counts.tops ≡ tops (grammar_of image) row sheet
  pub words : exit.sheet ≡ padded (sheet_words (grammar_of image) sheet) (length entry.sheet)
  pub starts : exit.starts ≡ padded (starts_from 0 sheet) (length entry.starts)

-- 10 to 14 and 20 to 23, for the buffers that are lent (R1)
abbrev pub refused_before : List ℕ → List ℕ → Buffers → Option Refusal
refused_before image row entry = reading_refusal image row (length entry.starts) (length entry.lines)

-- What reading may answer, and leave in the buffers (R1 to R4).
pub data ReadingOutcome (image row : List ℕ) (entry : Buffers) (answer : Result Reading Refusal) (exit : Buffers) : Type 0 where
  -- 10 to 14 and 20 to 23: nothing is written
  refused : (why : Refusal) → refused_before image row entry ≡ Some why → answer ≡ Err why → exit ≡ entry → ReadingOutcome image row entry answer exit
  -- 24: the sheet does not fit, and all that was lent is cleared
  overfull : refused_before image row entry ≡ None → (sheet : Sheet) → IsSheet (grammar_of image) row sheet → length entry.sheet < entries sheet
      → answer ≡ Err Refusal.FewWords
      → exit ≡ record { sheet = cleared entry.sheet; starts = cleared entry.starts; lines = cleared entry.lines }
      → ReadingOutcome image row entry answer exit
  -- read: the start symbol derives the row, and the lines are valid
  read : (counts : Counts) → refused_before image row entry ≡ None → Built image row entry exit counts → InLanguage (grammar_of image) row
      → (written : List ℕ) → Valid (grammar_of image) row written → counts.lines ≡ line_count written → length written ≤ length entry.lines
      → exit.lines ≡ padded written (length entry.lines) → answer ≡ Ok (Reading.Read counts) → ReadingOutcome image row entry answer exit
  -- unread: it does not derive it, and there are no lines
  unread : (counts : Counts) → refused_before image row entry ≡ None → Built image row entry exit counts → (InLanguage (grammar_of image) row → ⊥)
      → counts.lines ≡ 0 → exit.lines ≡ cleared entry.lines → answer ≡ Ok (Reading.Unread counts) → ReadingOutcome image row entry answer exit

-- What the checker may answer: a refusal up to 21, or the first fault of the lines, if there is one (R1, L5).
pub data CheckingOutcome (image row lines : List ℕ) (answer : Result (Option ℕ) Refusal) : Type 0 where
  refused : (why : Refusal) → row_refusal image row ≡ Some why → answer ≡ Err why → CheckingOutcome image row lines answer
  judged : (fault : Option ℕ) → row_refusal image row ≡ None → Judged (grammar_of image) row lines fault → answer ≡ Ok fault → CheckingOutcome image row lines answer

-- the bracket of lines: that of the last one (L6)
abbrev pub last_bracket : List ℕ → List ℕ → List ℕ
last_bracket row lines = bracket_of row lines (line_count lines - 1)

-- What the bracket writer may answer, and leave in its buffer (R1 to R3).
pub data BracketingOutcome (image row lines entry : List ℕ) (answer : Result ℕ Refusal) (exit : List ℕ) : Type 0 where
  refused : (why : Refusal) → row_refusal image row ≡ Some why → answer ≡ Err why → exit ≡ entry → BracketingOutcome image row lines entry answer exit
  -- 30: these are no valid lines
  invalid : row_refusal image row ≡ None → (Valid (grammar_of image) row lines → ⊥) → answer ≡ Err Refusal.InvalidLines → exit ≡ entry
      → BracketingOutcome image row lines entry answer exit
  -- 31: the buffer is too short
  long : row_refusal image row ≡ None → Valid (grammar_of image) row lines → length entry < length (last_bracket row lines) → answer ≡ Err Refusal.LongBracket → exit ≡ entry
      → BracketingOutcome image row lines entry answer exit
  written : row_refusal image row ≡ None → Valid (grammar_of image) row lines → length (last_bracket row lines) ≤ length entry
      → answer ≡ Ok (length (last_bracket row lines)) → exit ≡ padded (last_bracket row lines) (length entry)
      → BracketingOutcome image row lines entry answer exit

-- What the view of line k may hand back, with the refusal whose number the call beside it gives (R1, R5).
pub data ViewOutcome (image row lines : List ℕ) (k : ℕ) (refusal : Option Refusal) (view : List ℕ) : Type 0 where
  refused : (why : Refusal) → row_refusal image row ≡ Some why → refusal ≡ Some why → view ≡ [] → ViewOutcome image row lines k refusal view
  invalid : row_refusal image row ≡ None → (Valid (grammar_of image) row lines → ⊥) → refusal ≡ Some Refusal.InvalidLines → view ≡ []
      → ViewOutcome image row lines k refusal view
  -- 32: the lines are fewer
  absent : row_refusal image row ≡ None → Valid (grammar_of image) row lines → line_count lines ≤ k → refusal ≡ Some Refusal.NoLine → view ≡ []
      → ViewOutcome image row lines k refusal view
  seen : row_refusal image row ≡ None → Valid (grammar_of image) row lines → k < line_count lines → refusal ≡ None → view ≡ words_under row lines k
      → ViewOutcome image row lines k refusal view

-- 10 to 14 and 20, for a row length alone (R1)
unfoldable pub price_refusal : List ℕ → ℕ → Option Refusal
price_refusal image n = first_of (image_refusal image ∷ too_long n ∷ [])

-- the price of a grammar and a row length (R6)
unfoldable pub price_of : Grammar → ℕ → Bounds
price_of g n =
    record { rests = rests g; entries = entries_bound g n; steps = steps_bound g n (entries_bound g n); lines = lines_bound g n }

-- What the call for the price answers (R6).
abbrev pub pricing : List ℕ → ℕ → Result Bounds Refusal
pricing image n = refused_or (price_refusal image n) (price_of (grammar_of image) n)
