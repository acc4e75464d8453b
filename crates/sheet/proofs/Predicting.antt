-- Looking for the rules of each symbol that is looked for.
-- Assumes nothing.
use Rattle.std.proofs.Common.{◌≡◌, ℕ, ◌+◌, ◌*◌, ◌%◌, ◌^◌, ◌≤◌, ◌<◌, ◌⊎◌, inl, inr, List, refl, sym, ◌∙◌, ap, subst, arith, bit_or, Fits, w64}
use Rattle.std.proofs.lemmas.Bool.{cases_lt}
use Rattle.paper.specs.Bits.{bit_at}
use Rattle.paper.specs.Grammar.{Grammar, IsGrammar, rule_count, left, members}
use Rattle.paper.specs.Image.{grammar_of}
use Rattle.paper.specs.Entry.{Found, fresh}
use Rattle.paper.specs.Entry.Found.{start, predict}
use Rattle.paper.proofs.Bits.{bit_zero}
use Rattle.paper.specs.Sheet.{rest_of}
use Rattle.tables.specs.Machine.{full_byte}
use Rattle.tables.specs.Masks.{entry_with}
use Rattle.tables.proofs.Masks.{full_mask, full_rest}
use Rattle.sheet.specs.Growing.{Holds, LookedFor, Predicted}
use Rattle.sheet.specs.Grown.{cells_of, IsState, IsGrowth}
use Rattle.sheet.specs.declared.grow.Lists.{Lists}
use Rattle.sheet.proofs.Growth.{grown_none, grown_more}
use Rattle.sheet.proofs.Choosing.{one_done}

-- with the full byte nothing is found
pub full_is_fresh : (g : Grammar) (h j : ℕ) → entry_with g h j (full_byte g h) ≡ fresh g h j
full_is_fresh g h j = ap (λ r. record { rule = h; origin = j; rest = r }) (ap (rest_of (members g h)) (full_mask (members g h)) ∙ full_rest (members g h))

-- a rule whose left symbol is looked for is found
pub looked_found : {image row words : List ℕ} {lists : Lists} {h : ℕ} → IsState image row words lists → LookedFor (grammar_of image) lists.place (cells_of words lists) (left (grammar_of image) h)
    → h < rule_count (grammar_of image) → Found (grammar_of image) row lists.place (fresh (grammar_of image) h lists.place)
looked_found {h = h} s (inl (z, e)) l = rw z (start h l e)
looked_found {h = h} s (inr a) l = predict h (s.growing.sound a.entry a.stands) l a.may

-- ## The rules of one symbol

-- Each rule of symbol x before rule `at` stands with nothing found.
pub record PredictingRules (image row : List ℕ) (x at : ℕ) (old : List ℕ) (before : Lists) (new : List ℕ) (after : Lists) : Type 0 where
  pub grown : IsGrowth image row before.place before.place old before new after
  pub stand : (h : ℕ) → h < at → h < rule_count (grammar_of image) → left (grammar_of image) h ≡ x → Holds (grammar_of image) (cells_of new after) (fresh (grammar_of image) h before.place)

pub rules_none : {image row words : List ℕ} {lists : Lists} {x at : ℕ} → IsState image row words lists → ((h : ℕ) → h < at → left (grammar_of image) h < x)
    → PredictingRules image row x at words lists words lists
rules_none {lists = lists} s low = record { grown = grown_none lists.place lists.place s; stand = λ h l m e. absurd (let z : ⊥ = omega (arith, low h l) in z) }

module _ {image row old new : List ℕ} {before after : Lists} {x at : ℕ} (v : PredictingRules image row x at old before new after) where
  module _ (rule : at < rule_count (grammar_of image)) where
    -- the byte of the rule at hand is that of a fresh entry
    pub rule_found : IsState image row old before → LookedFor (grammar_of image) before.place (cells_of old before) x → left (grammar_of image) at ≡ x
        → Found (grammar_of image) row after.place (entry_with (grammar_of image) at after.place (full_byte (grammar_of image) at))
    rule_found s l e = rw (v.grown.place_is, full_is_fresh (grammar_of image) at before.place) (looked_found s (rw e l) rule)

    pub rules_more : {newer : List ℕ} {later : Lists} → IsGrowth image row after.place after.place new after newer later
        → Holds (grammar_of image) (cells_of newer later) (entry_with (grammar_of image) at after.place (full_byte (grammar_of image) at))
        → PredictingRules image row x (at + 1) old before newer later
    rules_more {newer} {later} w has = record {
      grown = grown_more v.grown (omega (arith, v.grown.place_is)) (omega (arith, v.grown.place_is)) w;
      stand = λ h l m e. go h m e (cases_lt h at) l;
    }
      where
        here : Holds (grammar_of image) (cells_of newer later) (fresh (grammar_of image) at before.place)
        here = rw (v.grown.place_is, full_is_fresh (grammar_of image) at before.place) at has

        go : (h : ℕ) → h < rule_count (grammar_of image) → left (grammar_of image) h ≡ x → (h < at) ⊎ (at ≤ h) → h < at + 1
            → Holds (grammar_of image) (cells_of newer later) (fresh (grammar_of image) h before.place)
        go h m e (inl o) l = w.grew.keeps _ (v.stand h o m e)
        go h m e (inr o) l = let k : h ≡ at = omega arith in rw k here

  -- no rule from `at` on is one of x
  pub rules_all : ((h : ℕ) → at ≤ h → h < rule_count (grammar_of image) → x + 1 ≤ left (grammar_of image) h)
      → (h : ℕ) → h < rule_count (grammar_of image) → left (grammar_of image) h ≡ x → Holds (grammar_of image) (cells_of new after) (fresh (grammar_of image) h before.place)
  rules_all high h m e = go (cases_lt h at)
    where
      go : (h < at) ⊎ (at ≤ h) → Holds (grammar_of image) (cells_of new after) (fresh (grammar_of image) h before.place)
      go (inl o) = v.stand h o m e
      go (inr o) = absurd (let z : ⊥ = omega (arith, high h o m) in z)

-- ## The symbols

-- The rules of each symbol that is done stand with nothing found.
pub record Predicting (image row : List ℕ) (done : ℕ) (old : List ℕ) (before : Lists) (new : List ℕ) (after : Lists) : Type 0 where
  pub grown : IsGrowth image row before.place before.place old before new after
  pub stand : (x : ℕ) → bit_at x done ≡ 1 → (h : ℕ) → h < rule_count (grammar_of image) → left (grammar_of image) h ≡ x
      → Holds (grammar_of image) (cells_of new after) (fresh (grammar_of image) h before.place)

pub predicting_none : {image row words : List ℕ} {lists : Lists} → IsState image row words lists → Predicting image row 0 words lists words lists
predicting_none {lists = lists} s = record { grown = grown_none lists.place lists.place s; stand = λ x e. absurd (let z : ⊥ = omega (arith, bit_zero x) in z) }

pub predicting_more : {image row old mid new : List ℕ} {before between after : Lists} {done x : ℕ} → Predicting image row done old before mid between
    → Fits w64 done → x < 64 → bit_at x done ≡ 0 → IsGrowth image row between.place between.place mid between new after
    → ((h : ℕ) → h < rule_count (grammar_of image) → left (grammar_of image) h ≡ x → Holds (grammar_of image) (cells_of new after) (fresh (grammar_of image) h between.place))
    → Predicting image row (bit_or done (1 * 2 ^ x % 18446744073709551616)) old before new after
predicting_more {image} {between = between} v fits small new w rules = record {
  grown = grown_more v.grown (omega (arith, v.grown.place_is)) (omega (arith, v.grown.place_is)) w;
  stand = one_done fits small new v.stand (λ y b h l e. w.grew.keeps _ (b h l e)) (λ h l e. rw (← v.grown.place_is) (rules h l e));
}

-- all that is looked for is done
pub predicted_all : {image row old new : List ℕ} {before after : Lists} {done : ℕ} → IsGrammar (grammar_of image) → Predicting image row done old before new after
    → ((x : ℕ) → bit_at x after.want ≡ 1 → bit_at x done ≡ 1) → Predicted (grammar_of image) before.place (cells_of new after)
predicted_all {image} {new = new} {after = after} is v all = record {
  each = λ h l looked.
      let here = subst (λ j. LookedFor (grammar_of image) j (cells_of new after) (left (grammar_of image) h)) (sym v.grown.place_is) looked in
      v.stand (left (grammar_of image) h) (all _ ((v.grown.state.growing.want_is _).1 (is.left_is h l, here))) h l refl;
}
