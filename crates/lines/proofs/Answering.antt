-- What the bracket writer and the view answer, from what the checker of lines answers.
-- Assumes nothing.
use Rattle.std.proofs.Common.{◌≡◌, ℕ, ◌≤◌, ◌<◌, true, false, Option, Some, None, Result, Ok, Err, List, length, refl, sym, ap, ◌∙◌, subst, arith}
use Rattle.std.specs.Option.{OnSome, is_some, ok_or}
use Rattle.std.proofs.lemmas.Bool.{false≢true}
use Rattle.paper.specs.Grammar.{Grammar}
use Rattle.paper.specs.Image.{grammar_of}
use Rattle.paper.specs.Lines.{line_count, line_from, line_to, Valid, Judged}
use Rattle.paper.specs.Outcome.{row_refusal, last_bracket, padded, CheckingOutcome, BracketingOutcome, ViewOutcome}
use Rattle.paper.specs.declared.Refusal.{Refusal}
use Rattle.paper.specs.declared.Place.{Place}
use Rattle.paper.proofs.Outcome.{judged_unique}
use Rattle.paper.proofs.Demands.{row_fits}
use Rattle.std.specs.Result.{result_err}
use Rattle.lines.specs.Bracket.{end_within}
use Rattle.lines.specs.View.{part_between}
use Rattle.lines.proofs.Writing.{passes, ends_at}

-- ---- what is known once the lines are checked

pub row_refused_by : {image row lines : List ℕ} {why : Refusal} → CheckingOutcome image row lines (Err why) → row_refusal image row ≡ Some why
row_refused_by (CheckingOutcome.refused _ r e) = cc
row_refused_by (CheckingOutcome.judged fault free j e) = absurd (let z : ⊥ = cc in z)

pub record Checked (image row lines : List ℕ) (fault : Option ℕ) : Type 0 where
  pub free : row_refusal image row ≡ None
  pub found : Judged (grammar_of image) row lines fault

pub checked : {image row lines : List ℕ} {fault : Option ℕ} → CheckingOutcome image row lines (Ok fault) → Checked image row lines fault
checked (CheckingOutcome.refused why r e) = absurd (let z : ⊥ = cc in z)
checked {image} {row} {lines} {fault} (CheckingOutcome.judged same free j e) =
    let is : same ≡ fault = cc in
    record { free = free; found = subst (Judged (grammar_of image) row lines) is j }

pub faulty : {g : Grammar} {row lines : List ℕ} {fault : Option ℕ} → is_some fault ≡ true → Judged g row lines fault → Valid g row lines → ⊥
faulty {fault = None} e j v = false≢true e
faulty {fault = Some k} e j v = let same = judged_unique j (Judged.valid v refl) in cc

pub faultless : {g : Grammar} {row lines : List ℕ} {fault : Option ℕ} → is_some fault ≡ false → Judged g row lines fault → Valid g row lines
faultless {fault = None} e (Judged.valid v f) = v
faultless {fault = None} e (Judged.uneven odd f) = absurd (let z : ⊥ = cc in z)
faultless {fault = None} e (Judged.line k even below before not_k f) = absurd (let z : ⊥ = cc in z)
faultless {fault = None} e (Judged.whole even all not_whole f) = absurd (let z : ⊥ = cc in z)
faultless {fault = Some k} e j = absurd (false≢true (sym e))

-- ---- the bracket writer

module _ {image row lines : List ℕ} where
  pub bracket_refused : {entry : List ℕ} {why : Refusal} {answer : Result ℕ Refusal} → CheckingOutcome image row lines (Err why) → answer ≡ Err why
      → BracketingOutcome image row lines entry answer entry
  bracket_refused {why = why} o a = BracketingOutcome.refused why (row_refused_by o) a refl

  pub bracket_invalid : {entry : List ℕ} {fault : Option ℕ} → CheckingOutcome image row lines (Ok fault) → is_some fault ≡ true
      → BracketingOutcome image row lines entry (Err Refusal.InvalidLines) entry
  bracket_invalid o e = BracketingOutcome.invalid (checked o).free (faulty e (checked o).found) refl refl

  pub bracket_put : {entry exit tokens : List ℕ} {fault end : Option ℕ} {answer : Result ℕ Refusal} → CheckingOutcome image row lines (Ok fault) → is_some fault ≡ false → tokens ≡ row
      → end ≡ end_within (length entry) 0 (last_bracket tokens lines) → (end ≡ None → exit ≡ entry) → OnSome end (exit ≡ padded (last_bracket tokens lines) (length entry))
      → answer ≡ ok_or end Refusal.LongBracket → BracketingOutcome image row lines entry answer exit
  bracket_put {entry = entry} {tokens = tokens} {end = None} o f same e long text a =
      let over = passes (length entry) 0 (last_bracket tokens lines) e in
      BracketingOutcome.long (checked o).free (faultless f (checked o).found) (rw (← same) (omega (arith, over))) a (long refl)
  bracket_put {entry = entry} {tokens = tokens} {end = Some n} o f same e long text a =
      let stop = ends_at (length entry) 0 n (last_bracket tokens lines) e in
      let size : n ≡ length (last_bracket tokens lines) = omega (arith, stop.0) in
      BracketingOutcome.written (checked o).free (faultless f (checked o).found) (rw (← same) (omega (arith, stop.1))) (rw (← same) (a ∙ ap Ok size)) (rw (← same) text)

-- ---- the view

module _ {image row lines : List ℕ} {k : ℕ} where
  pub view_refused : {why : Refusal} (answer : Result (Place × Place) Refusal) → CheckingOutcome image row lines (Err why) → answer ≡ Err why
      → ViewOutcome image row lines k (result_err answer) (part_between row answer)
  view_refused {why} answer o a = rw a (ViewOutcome.refused why (row_refused_by o) refl refl)

  -- the places of a line that is there
  pub places_within : {refusal : Option Refusal} {view : List ℕ} → ViewOutcome image row lines k refusal view → refusal ≡ None
      → (line_from lines k ≤ line_to lines k) × (line_to lines k ≤ length row)
  places_within (ViewOutcome.refused why r e v) n = absurd (let z : ⊥ = cc in z)
  places_within (ViewOutcome.invalid free not_valid e v) n = absurd (let z : ⊥ = cc in z)
  places_within (ViewOutcome.absent free valid past e v) n = absurd (let z : ⊥ = cc in z)
  places_within (ViewOutcome.seen free valid line e v) n = let right = valid.each k line in (right.span, right.within)

  pub places_small : {fault : Option ℕ} → CheckingOutcome image row lines (Ok fault) → is_some fault ≡ false → k < line_count lines
      → (line_from lines k ≤ line_to lines k) × (line_to lines k ≤ 64)
  places_small o f line =
      let right = (faultless f (checked o).found).each k line in
      (right.span, omega (arith, right.within, (row_fits image row (checked o).free).short))
