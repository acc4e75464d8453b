-- A row that has no refusal of 10 to 14, 20 and 21 is a short row of terminals of a grammar.
-- Assumes nothing.
use Rattle.std.specs.Prelude.{Option, Some, None, Bool, true, false}
use mathlib.Core.Path.{◌≡◌, refl}
use mathlib.Core.List.{List, ◌∷◌}
use Prim.Native.Nat.{ℕ}
use native.Mathlib.Omega.{arith}
use Rattle.paper.specs.Demands.{IsFit}
use Rattle.paper.specs.Outcome.{if_holds, first_of, row_refusal}
use Rattle.paper.specs.declared.Refusal.{Refusal}
use Rattle.paper.proofs.Records.{all_below_lem}
use Rattle.paper.proofs.Image.{image_grammar}

-- where none of the refusals holds, neither the first does nor any behind it
pub first_none : (first : Option Refusal) (more : List (Option Refusal)) → first_of (first ∷ more) ≡ None → (first ≡ None) × (first_of more ≡ None)
first_none None more h = (refl, h)
first_none (Some why) more h = absurd (let z : ⊥ = cc in z)

-- where there is no refusal, its condition does not hold
pub no_refusal : (why : Refusal) (holds : Bool) → if_holds why holds ≡ None → holds ≡ false
no_refusal why true h = absurd (let z : ⊥ = cc in z)
no_refusal why false h = refl

-- What is known of a row that is not refused.
pub row_fit : (image row : List ℕ) → row_refusal image row ≡ None → IsFit image row
unfolding row_refusal
row_fit image row h = grind (arith, image_grammar, all_below_lem)
