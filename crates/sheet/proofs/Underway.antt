-- The open list while it is made to grow: what holds once the token is taken and the origins from `low` on are completed, and what follows at the end.
-- Assumes nothing.
use Rattle.std.proofs.Common.{◌≡◌, ℕ, ◌-◌, ◌≤◌, ◌<◌, List, get_or, refl, sym, ◌∙◌, subst, Result, Ok, Err, OnOk, arith}
use Rattle.paper.specs.Image.{grammar_of}
use Rattle.paper.specs.Demands.{IsFit}
use Rattle.sheet.specs.Growing.{IsListOf, IsGrowing, Advanced, Completed, Predicted}
use Rattle.sheet.specs.Grown.{cells_of, IsState, IsGrowth}
use Rattle.sheet.specs.declared.grow.Lists.{Lists}
use Rattle.sheet.proofs.Exact.{IsDone, done_none, done_token, done_more, done_predicted, exact}

pub record IsUnderway (image row : List ℕ) (before : Lists) (low : ℕ) (words : List ℕ) (lists : Lists) : Type 0 where
  pub state : IsState image row words lists
  pub place : lists.place ≡ before.place
  pub starts : lists.starts ≡ before.starts
  pub done : IsDone (grammar_of image) row lists.place low (cells_of words lists)

-- what holds of two facts holds where both are known of a value
pub on_ok_both : {T E P Q R : Type 0} (r : Result T E) → (P → Q → R) → OnOk r P → OnOk r Q → OnOk r R
on_ok_both (Ok x) f p q = f p q
on_ok_both (Err x) f p q = tt

-- before list 0 there is no token
pub underway_none : {image row words : List ℕ} {lists : Lists} → lists.place ≤ 0 → IsState image row words lists → IsUnderway image row lists lists.place words lists
underway_none z state = record { state = state; place = refl; starts = refl; done = done_none (omega arith) }

-- the token is taken
pub underway_token : {image row old new : List ℕ} {before after : Lists} {at : ℕ} → 0 < before.place → at ≡ before.place → IsGrowth image row 0 (before.place - 1) old before new after
    → Advanced (grammar_of image) row (before.place - 1) (get_or row (at - 1) 0) (cells_of new after) → IsUnderway image row before before.place new after
underway_token {image} {row} {new = new} {before = before} {after = after} l e growth taken =
    record {
      state = growth.state;
      place = growth.place_is;
      starts = growth.starts_are;
      done = subst (λ n. IsDone (grammar_of image) row n before.place (cells_of new after)) (sym growth.place_is) (done_token l e taken);
    }

module _ {image row : List ℕ} {before lists after : Lists} {old new : List ℕ} {i : ℕ} (so : IsUnderway image row before i old lists) where
  -- one origin more is completed
  pub underway_more : 0 < i → IsGrowth image row 0 (i - 1) old lists new after → Completed (grammar_of image) row (i - 1) (cells_of new after)
      → IsUnderway image row before (i - 1) new after
  underway_more l growth completed =
      record {
        state = growth.state;
        place = growth.place_is ∙ so.place;
        starts = growth.starts_are ∙ so.starts;
        done = subst (λ n. IsDone (grammar_of image) row n (i - 1) (cells_of new after)) (sym growth.place_is) (done_more (omega arith) so.done growth.grew completed);
      }

  -- all origins are completed, and what is looked for is predicted
  pub underway_end : IsFit image row → i ≤ 0 → IsGrowth image row lists.place lists.place old lists new after → Predicted (grammar_of image) lists.place (cells_of new after)
      → IsListOf (grammar_of image) row before.place (cells_of new after)
  underway_end fit z growth predicted =
      let growing = subst (λ n. IsGrowing (grammar_of image) row n (cells_of new after) after.found after.want) growth.place_is growth.state.growing in
      subst (λ n. IsListOf (grammar_of image) row n (cells_of new after)) so.place
      (exact fit.is_grammar fit.short growing (done_predicted z so.done growth.grew) predicted)
