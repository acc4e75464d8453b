-- Laws of rewriting: derivations joined, set between other symbols, and split.
-- Assumes nothing.
use mathlib.Core.Path.{◌≡◌, refl, sym, ◌∙◌}
use mathlib.Core.Logic.{◌⊎◌, inl, inr}
use mathlib.Core.List.{List, [], ◌∷◌, ◌++◌, append_assoc, append-nil}
use Prim.Native.Nat.{ℕ}
use Rattle.paper.specs.Grammar.{Grammar}
use Rattle.paper.specs.Derivation.{Step, Derives, Yields}
use Rattle.paper.specs.Derivation.Derives.{none, more}

-- The symbol a stands in s ++ t, with `before` in front of it and `behind` after it. It stands in s:
pub record InFirst (s t before : List ℕ) (a : ℕ) (behind : List ℕ) : Type 0 where
  pub middle : List ℕ
  pub first_is : s ≡ before ++ (a ∷ middle)
  pub behind_is : behind ≡ middle ++ t

-- or it stands in t:
pub record InSecond (s t before : List ℕ) (a : ℕ) (behind : List ℕ) : Type 0 where
  pub middle : List ℕ
  pub second_is : t ≡ middle ++ (a ∷ behind)
  pub before_is : before ≡ s ++ middle

first_further : (b c : ℕ) (s t before : List ℕ) (a : ℕ) (behind : List ℕ) → b ≡ c
    → InFirst s t before a behind ⊎ InSecond s t before a behind → InFirst (b ∷ s) t (c ∷ before) a behind ⊎ InSecond (b ∷ s) t (c ∷ before) a behind
first_further b c s t before a behind e (inl p) = inl (record { middle = p.middle; first_is = cc; behind_is = p.behind_is })
first_further b c s t before a behind e (inr p) = inr (record { middle = p.middle; second_is = p.second_is; before_is = cc })

-- a symbol of two rows put together stands in the first or in the second
pub seat : (s t before : List ℕ) (a : ℕ) (behind : List ℕ) → s ++ t ≡ before ++ (a ∷ behind) → InFirst s t before a behind ⊎ InSecond s t before a behind
seat [] t before a behind e = inr (record { middle = before; second_is = e; before_is = refl })
seat (b ∷ s) t [] a behind e = inl (record { middle = s; first_is = cc; behind_is = cc })
seat (b ∷ s) t (c ∷ before) a behind e = first_further b c s t before a behind (cc) (seat s t before a behind (cc))

-- The row u, derived from the symbols s and then t: what is derived from s, and then what is derived from t.
pub record Split (g : Grammar) (s t u : List ℕ) : Type 0 where
  pub first : List ℕ
  pub second : List ℕ
  pub whole_is : u ≡ first ++ second
  pub first_derives : Derives g s first
  pub second_derives : Derives g t second

module _ {g : Grammar} where
  -- a symbol yields, between other symbols
  pub yields_step : (before : List ℕ) {a : ℕ} (behind : List ℕ) {s : List ℕ} → Yields g a s → Step g (before ++ (a ∷ behind)) (before ++ (s ++ behind))
  yields_step before {a} behind {s} y = record { before = before; symbol = a; behind = behind; sequence = s; whole_is = refl; next_is = refl; yields = y }

  -- equal rows derive each other in no step
  pub derives_same : {s t : List ℕ} → s ≡ t → Derives g s t
  derives_same e = rw e none

  -- one derivation after another
  pub derives_trans : {s t u : List ℕ} → Derives g s t → Derives g t u → Derives g s u
  derives_trans none e = e
  derives_trans (more x d) e = more x (derives_trans d e)

  -- a symbol derives what its right side derives
  pub derives_yields : {a : ℕ} {s t : List ℕ} → Yields g a s → Derives g s t → Derives g (a ∷ []) t
  derives_yields {t = t} y d = more {u = t} (yields_step [] [] y) (rw append-nil d)

  step_between : (u : List ℕ) {s t : List ℕ} (v : List ℕ) → Step g s t → Step g (u ++ (s ++ v)) (u ++ (t ++ v))
  step_between u v x =
      record {
        before = u ++ x.before;
        symbol = x.symbol;
        behind = x.behind ++ v;
        sequence = x.sequence;
        whole_is = rw x.whole_is (simp append_assoc);
        next_is = rw x.next_is (simp append_assoc);
        yields = x.yields;
      }

  -- what symbols derive, they derive between other symbols too
  pub derives_between : (u : List ℕ) {s t : List ℕ} (v : List ℕ) → Derives g s t → Derives g (u ++ (s ++ v)) (u ++ (t ++ v))
  derives_between u v none = none
  derives_between u v (more x d) = more (step_between u v x) (derives_between u v d)

  -- two derivations side by side
  pub derives_append : {s t u v : List ℕ} → Derives g s t → Derives g u v → Derives g (s ++ u) (t ++ v)
  derives_append {s} {t} {u} {v} d e =
      let left : Derives g (s ++ u) (t ++ u) = derives_between [] u d in
      let right : Derives g (t ++ (u ++ [])) (t ++ (v ++ [])) = derives_between t [] e in
      derives_trans left (simp append-nil at right)

  -- the first step of a derivation is taken in the one part, and the other part waits
  step_first : {s t u w m : List ℕ} (x : Step g w u) → InFirst s t x.before x.symbol x.behind → ((s t : List ℕ) → u ≡ s ++ t → Split g s t m) → Split g s t m
  step_first {s} {t} x p ih =
      let step : Step g s (x.before ++ (x.sequence ++ p.middle)) = rw p.first_is (yields_step x.before p.middle x.yields) in
      let z = ih (x.before ++ (x.sequence ++ p.middle)) t (x.next_is ∙ rw p.behind_is (simp append_assoc)) in
      record { first = z.first; second = z.second; whole_is = z.whole_is; first_derives = more step z.first_derives; second_derives = z.second_derives }

  step_second : {s t u w m : List ℕ} (x : Step g w u) → InSecond s t x.before x.symbol x.behind → ((s t : List ℕ) → u ≡ s ++ t → Split g s t m) → Split g s t m
  step_second {s} {t} x p ih =
      let step : Step g t (p.middle ++ (x.sequence ++ x.behind)) = rw p.second_is (yields_step p.middle x.behind x.yields) in
      let z = ih s (p.middle ++ (x.sequence ++ x.behind)) (x.next_is ∙ rw p.before_is (simp append_assoc)) in
      record { first = z.first; second = z.second; whole_is = z.whole_is; first_derives = z.first_derives; second_derives = more step z.second_derives }

  step_split : {s t u w m : List ℕ} (x : Step g w u) → InFirst s t x.before x.symbol x.behind ⊎ InSecond s t x.before x.symbol x.behind
      → ((s t : List ℕ) → u ≡ s ++ t → Split g s t m) → Split g s t m
  step_split x (inl p) ih = step_first x p ih
  step_split x (inr p) ih = step_second x p ih

  none_split : {s t u : List ℕ} → u ≡ s ++ t → Split g s t u
  none_split {s} {t} e = record { first = s; second = t; whole_is = e; first_derives = none; second_derives = none }

  derives_split_at : {w u : List ℕ} → Derives g w u → (s t : List ℕ) → w ≡ s ++ t → Split g s t u
  derives_split_at none s t e = none_split e
  derives_split_at (more x d) s t e = step_split x (seat s t x.before x.symbol x.behind (sym e ∙ x.whole_is)) (derives_split_at d)

  -- a derivation from two rows of symbols splits into one from each
  pub derives_split : (s t : List ℕ) {u : List ℕ} → Derives g (s ++ t) u → Split g s t u
  derives_split s t d = derives_split_at d s t refl
