-- A symbol is looked for at a place exactly if the start symbol derives a sequence with it in it, all before it deriving the tokens up to that place.
-- Assumes nothing.
use mathlib.Core.Path.{◌≡◌, refl, sym, ◌∙◌}
use mathlib.Core.Logic.{◌⊎◌, inl, inr}
use mathlib.Core.List.{List, [], ◌∷◌, ◌++◌, append_assoc}
use Prim.Native.Nat.{ℕ, ◌≤◌}
use native.Mathlib.Omega.{arith}
use lib.ListN.{length, take}
use Rattle.paper.specs.Grammar.{Grammar, left}
use Rattle.paper.specs.Derivation.{Yields, Step, Derives}
use Rattle.paper.specs.Derivation.Derives.{none, more}
use Rattle.paper.specs.Tree.{Parts, Sought}
use Rattle.paper.specs.Tree.Parts.{done}
use Rattle.paper.specs.Tree.Sought.{top, below}
use Rattle.paper.proofs.Rewriting.{InFirst, InSecond, seat, yields_step, derives_same, derives_trans, derives_append}
use Rattle.paper.proofs.Trees.{slice_join, parts_span, parts_split, step_parts, parts_derives, derives_parts}

-- The symbol a stands in a sequence that the start symbol derives, with all before it deriving tokens 1 to i.
pub record Awaited (g : Grammar) (row : List ℕ) (a i : ℕ) : Type 0 where
  pub before : List ℕ
  pub behind : List ℕ
  pub place_le : i ≤ length row
  pub sought : Derives g (g.start ∷ []) (before ++ (a ∷ behind))
  pub before_derives : Derives g before (take i row)

-- Every symbol of the sequence is looked for at each place up to which those before it read.
record Front (g : Grammar) (row sequence : List ℕ) : Type 0 where
  looked_for : (u : List ℕ) (a : ℕ) (v : List ℕ) (i : ℕ) → sequence ≡ u ++ (a ∷ v) → Parts g row u 0 i → Sought g row a i

module _ {g : Grammar} {row : List ℕ} where
  -- ---- what is looked for stands in what the start symbol derives

  awaited_top : Awaited g row g.start 0
  awaited_top = record { before = []; behind = []; place_le = omega arith; sought = none; before_derives = none }

  awaited_below : {a b i k : ℕ} (s t : List ℕ) → Yields g b (s ++ (a ∷ t)) → Awaited g row b i → Parts g row s i k → Awaited g row a k
  awaited_below {a} {b} {i} {k} s t y w p =
      let regrouped : w.before ++ ((s ++ (a ∷ t)) ++ w.behind) ≡ (w.before ++ s) ++ (a ∷ (t ++ w.behind)) = simp append_assoc in
      let step = more (yields_step w.before w.behind y) (derives_same regrouped) in
      let z = parts_span p in
      record {
        before = w.before ++ s;
        behind = t ++ w.behind;
        place_le = z.1;
        sought = derives_trans w.sought step;
        before_derives = rw (slice_join row 0 i k (omega arith) z.0 z.1) at (derives_append w.before_derives (parts_derives p));
      }

  -- a symbol looked for at a place stands in a sequence that the start symbol derives, all before it deriving the tokens up to that place
  pub sought_derives : {a i : ℕ} → Sought g row a i → Awaited g row a i
  sought_derives top = awaited_top
  sought_derives (below h s t l w r c p) = awaited_below s t (record { rule = h; is_rule = l; left_is = refl; arranged = r; acceptable = c }) (sought_derives w) p

  -- ---- what stands in what the start symbol derives is looked for

  start_looked_for : (u : List ℕ) (a : ℕ) (v : List ℕ) (i : ℕ) → g.start ∷ [] ≡ u ++ (a ∷ v) → Parts g row u 0 i → Sought g row a i
  start_looked_for [] a v i e (done h) = let z : a ≡ g.start = cc in rw z top
  start_looked_for (c ∷ []) a v i e p = cc
  start_looked_for (c ∷ d ∷ u) a v i e p = cc

  -- After a step a symbol stands in front of what was put in, in it, or behind it.
  looked_for_in_front : {w t u v : List ℕ} {a i : ℕ} (x : Step g w t) → Front g row w → InFirst x.before (x.sequence ++ x.behind) u a v → Parts g row u 0 i → Sought g row a i
  looked_for_in_front {u = u} {a = a} {i = i} x f q p = grind (arith, append_assoc)

  looked_for_within : {w t m v : List ℕ} {a i : ℕ} (x : Step g w t) → Front g row w → InFirst x.sequence x.behind m a v → Parts g row (x.before ++ m) 0 i → Sought g row a i
  looked_for_within {m = m} {a = a} x f q p =
      let y = x.yields in
      let b = parts_split x.before p in
      let parent : Sought g row (left g y.rule) b.0 = rw y.left_is (f.looked_for x.before x.symbol x.behind b.0 x.whole_is b.1) in
      below y.rule m q.middle y.is_rule parent (rw q.first_is at y.arranged) (rw q.first_is at y.acceptable) b.2

  looked_for_behind : {w t m v : List ℕ} {a i : ℕ} (x : Step g w t) → Front g row w → InSecond x.sequence x.behind m a v → Parts g row (x.before ++ m) 0 i → Sought g row a i
  looked_for_behind {m = m} {v = v} {a = a} {i = i} x f q p =
      let regrouped : x.before ++ (x.symbol ∷ x.behind) ≡ (x.before ++ (x.symbol ∷ q.middle)) ++ (a ∷ v) = rw q.second_is (simp append_assoc) in
      let step = yields_step x.before q.middle x.yields in
      f.looked_for (x.before ++ (x.symbol ∷ q.middle)) a v i (x.whole_is ∙ regrouped) (step_parts step (rw q.before_is at p))

  looked_for_past : {w t m v : List ℕ} {a i : ℕ} (x : Step g w t) → Front g row w → InFirst x.sequence x.behind m a v ⊎ InSecond x.sequence x.behind m a v
      → Parts g row (x.before ++ m) 0 i → Sought g row a i
  looked_for_past x f (inl q) p = looked_for_within x f q p
  looked_for_past x f (inr q) p = looked_for_behind x f q p

  looked_for_after : {w t u v : List ℕ} {a i : ℕ} (x : Step g w t) → Front g row w
      → InFirst x.before (x.sequence ++ x.behind) u a v ⊎ InSecond x.before (x.sequence ++ x.behind) u a v → Parts g row u 0 i → Sought g row a i
  looked_for_after x f (inl q) p = looked_for_in_front x f q p
  looked_for_after {v = v} {a = a} x f (inr q) p = looked_for_past x f (seat x.sequence x.behind q.middle a v q.second_is) (rw q.before_is at p)

  step_front : {w t : List ℕ} → Step g w t → Front g row w → Front g row t
  step_front x f =
      record { looked_for = λ u a v i e p. looked_for_after x f (seat x.before (x.sequence ++ x.behind) u a v (sym x.next_is ∙ e)) p }

  derives_front : {w t : List ℕ} → Derives g w t → Front g row w → Front g row t
  derives_front none f = f
  derives_front (more x d) f = derives_front d (step_front x f)

  -- a symbol in a sequence that the start symbol derives, all before it deriving the tokens up to a place, is looked for at that place
  pub derives_sought : (a i : ℕ) (before behind : List ℕ) → i ≤ length row → Derives g (g.start ∷ []) (before ++ (a ∷ behind)) → Derives g before (take i row)
      → Sought g row a i
  derives_sought a i before behind h d e = grind (arith, derives_front, start_looked_for, derives_parts)
