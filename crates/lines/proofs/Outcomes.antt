-- What a call on lines answers, from what the image, the row and the lines are found to be.
-- Assumes nothing.
use mathlib.Core.Path.{◌≡◌, sym, refl}
use mathlib.Core.List.{List, [], ◌∷◌}
use Prim.Native.Nat.{ℕ}
use lib.ListN.{length}
use Rattle.std.specs.Prelude.{Option, Some, None, Result, Ok, Err}
use Rattle.paper.specs.Image.{grammar_of}
use Rattle.paper.specs.Lines.{Judged}
use Rattle.paper.specs.Outcome.{first_of, image_refusal, too_long, strange, row_refusal, CheckingOutcome}
use Rattle.paper.specs.Outcome.CheckingOutcome.{refused, judged}
use Rattle.paper.specs.declared.Refusal.{Refusal}

-- the refusals of a row that is to be read by the grammar of an image
abbrev pub of_row : List ℕ → List ℕ → Option Refusal
of_row image row = first_of (too_long (length row) ∷ strange (grammar_of image) row ∷ [])

-- the image is refused
image_first : (image row : List ℕ) (why : Refusal) → Some why ≡ image_refusal image → row_refusal image row ≡ Some why
unfolding row_refusal
image_first image row why e = rw (← e) refl

-- the image is not refused
row_next : (image row : List ℕ) → None ≡ image_refusal image → row_refusal image row ≡ of_row image row
unfolding row_refusal
row_next image row e = rw (← e) refl

module _ {image row lines : List ℕ} where
  pub image_refused : {why : Refusal} {answer : Result (Option ℕ) Refusal} → Some why ≡ image_refusal image → answer ≡ Err why → CheckingOutcome image row lines answer
  image_refused {why} e a = refused why (image_first image row why e) a

  module _ {grammar : List ℕ} (admitted : None ≡ image_refusal image) (is_image : grammar ≡ image) where
    pub row_refused : {why : Refusal} {answer : Result (Option ℕ) Refusal} → Some why ≡ of_row grammar row → answer ≡ Err why → CheckingOutcome image row lines answer
    row_refused {why} e a = refused why (rw (row_next image row admitted, ← is_image) (sym e)) a

    pub lines_judged : {read tokens : List ℕ} {fault : Option ℕ} → None ≡ of_row grammar row → (read ≡ grammar) × (tokens ≡ row) → Judged (grammar_of read) tokens lines fault
        → CheckingOutcome image row lines (Ok fault)
    lines_judged {fault = fault} e same j = judged fault (rw (row_next image row admitted, ← is_image) (sym e)) (rw (← is_image, ← same.0, ← same.1) j) refl
