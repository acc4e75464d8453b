-- Every answer that the contract of a reading permits is as the bench says.
-- Assumes nothing.
use mathlib.Core.Path.{◌≡◌, sym, ◌∙◌, ap}
use Rattle.std.specs.Prelude.{Some, None, Result, Ok, Err}
use mathlib.Core.List.{Memᴰ}
use Prim.Native.Nat.{ℕ, ◌≤◌, ◌<◌}
use native.Mathlib.Omega.{arith}
use lib.ListN.{length}
use Rattle.paper.specs.Derivation.{InLanguage}
use Rattle.paper.specs.Sheet.{Sheet, IsSheet, entries, steps, tops}
use Rattle.paper.specs.Image.{grammar_of}
use Rattle.paper.specs.Outcome.{Buffers, Built, row_refusal, refused_before, ReadingOutcome}
use Rattle.paper.specs.declared.Counts.{Counts}
use Rattle.paper.specs.declared.Reading.{Reading}
use Rattle.paper.specs.declared.Refusal.{Refusal}
use Rattle.paper.specs.Refusal.{number_of}
use Rattle.paper.proofs.Outcome.{refused_not}
use Rattle.paper.proofs.Unique.{sheet_unique}
use Rattle.bench.specs.Rows.{Agrees, Row, Counted, Holds, refused, overfull, read, unread, CountsSaid, Answers, table}
use Rattle.bench.proofs.Bench.{bench}

-- the counts of a sheet of the row
record Agreed (row : Row) (sheet : Sheet) : Type 0 where
  entries_are : Agrees row.entries (entries sheet)
  steps_are : Agrees row.steps (steps (grammar_of row.image) row.tokens sheet)
  tops_are : Agrees row.tops (tops (grammar_of row.image) row.tokens sheet)

module _ (row : Row) where
  -- there is one sheet only
  agreed : (sheet : Sheet) → IsSheet (grammar_of row.image) row.tokens sheet → Counted row → Agreed row sheet
  agreed sheet is c =
      rw (sheet_unique is c.is_sheet) (record { entries_are = c.entries_are; steps_are = c.steps_are; tops_are = c.tops_are })

  same_entries : (sheet : Sheet) → IsSheet (grammar_of row.image) row.tokens sheet → (c : Counted row) → entries sheet ≡ entries c.sheet
  same_entries sheet is c = ap entries (sheet_unique is c.is_sheet)

  if_refused : Holds row → (why : Refusal) → row_refusal row.image row.tokens ≡ Some why → number_of why ≡ row.number
  if_refused (refused why r e) why' r' = let same : why ≡ why' = cc in ap number_of (sym same) ∙ sym e
  if_refused (overfull z c l e) why r = refused_not r z
  if_refused (read z c l m d e) why r = refused_not r z
  if_refused (unread z c l m e) why r = refused_not r z

  module _ (free : row_refusal row.image row.tokens ≡ None) (sheet : Sheet) (is : IsSheet (grammar_of row.image) row.tokens sheet) where
    if_overfull : Holds row → row.words < entries sheet → row.number ≡ 24
    if_overfull (refused why r e) n = refused_not r free
    if_overfull (overfull z c l e) n = e
    if_overfull (read z c l m d e) n = absurd (let k : ⊥ = omega (arith, same_entries sheet is c) in k)
    if_overfull (unread z c l m e) n = absurd (let k : ⊥ = omega (arith, same_entries sheet is c) in k)

    if_read : Holds row → entries sheet ≤ row.words → InLanguage (grammar_of row.image) row.tokens → (row.number ≡ 0) × Agreed row sheet
    if_read (refused why r e) n i = refused_not r free
    if_read (overfull z c l e) n i = absurd (let k : ⊥ = omega (arith, same_entries sheet is c) in k)
    if_read (read z c l m d e) n i = (e, agreed sheet is c)
    if_read (unread z c l m e) n i = absurd (m i)

    if_unread : Holds row → entries sheet ≤ row.words → (InLanguage (grammar_of row.image) row.tokens → ⊥) → (row.number ≡ 1) × Agreed row sheet
    if_unread (refused why r e) n i = refused_not r free
    if_unread (overfull z c l e) n i = absurd (let k : ⊥ = omega (arith, same_entries sheet is c) in k)
    if_unread (read z c l m d e) n i = absurd (i m)
    if_unread (unread z c l m e) n i = (e, agreed sheet is c)

  -- the counts of an answer are those of the sheet
  counts_said : {entry exit : Buffers} (counts : Counts) (b : Built row.image row.tokens entry exit counts) → Agreed row b.sheet → CountsSaid row counts
  counts_said counts b a =
      record { entries_are = rw b.entries_are a.entries_are; steps_are = rw b.steps_are a.steps_are; tops_are = rw b.tops_are a.tops_are }

  -- two kinds of answers are unlike
  unlike : {A : Type 0} → ◌≡◌ {A = ℕ} 0 1 → A
  unlike z = absurd (let k : ⊥ = omega arith in k)

  answers_refused : (why : Refusal) → number_of why ≡ row.number → Answers row (Err why)
  answers_refused why e = record { number_is = e; if_read = λ counts z. unlike (cc); if_unread = λ counts z. unlike (cc) }

  answers_read : (counts : Counts) → row.number ≡ 0 → CountsSaid row counts → Answers row (Ok (Reading.Read counts))
  answers_read counts e said = record { number_is = sym e; if_read = λ other z. let same : counts ≡ other = cc in rw (← same) said; if_unread = λ other z. unlike (cc) }

  answers_unread : (counts : Counts) → row.number ≡ 1 → CountsSaid row counts → Answers row (Ok (Reading.Unread counts))
  answers_unread counts e said = record { number_is = sym e; if_read = λ other z. unlike (cc); if_unread = λ other z. let same : counts ≡ other = cc in rw (← same) said }

  -- Every answer that is permitted for a row that holds is as the row says, if 22 and 23 do not hold of the buffers.
  pub answers : {entry exit : Buffers} {answer : Result Reading Refusal} → Holds row → length entry.sheet ≡ row.words
      → refused_before row.image row.tokens entry ≡ row_refusal row.image row.tokens → ReadingOutcome row.image row.tokens entry answer exit → Answers row answer
  answers {entry} holds size before (ReadingOutcome.refused why r e x) =
      rw e (answers_refused why (if_refused holds why (sym before ∙ r)))
  answers {entry} holds size before (ReadingOutcome.overfull z sheet is l e x) =
      rw e (answers_refused Refusal.FewWords (sym (if_overfull (sym before ∙ z) sheet is holds (rw size at l))))
  answers {entry} holds size before (ReadingOutcome.read counts z b l w v c k p e) =
      let (number, a) = if_read (sym before ∙ z) b.sheet b.is_sheet holds (rw size at b.fits) l in
      rw e (answers_read counts number (counts_said counts b a))
  answers {entry} holds size before (ReadingOutcome.unread counts z b l c p e) =
      let (number, a) = if_unread (sym before ∙ z) b.sheet b.is_sheet holds (rw size at b.fits) l in
      rw e (answers_unread counts number (counts_said counts b a))

-- Every answer that the contract of a reading permits for a row of the bench is as the bench says.
pub bench_answers : {row : Row} {entry exit : Buffers} {answer : Result Reading Refusal} → Memᴰ row table → length entry.sheet ≡ row.words
    → refused_before row.image row.tokens entry ≡ row_refusal row.image row.tokens → ReadingOutcome row.image row.tokens entry answer exit → Answers row answer
bench_answers {row} m = answers row (bench m)
