-- A list that no operation makes grow any more is the list of the sheet.
-- Assumes nothing.
use Rattle.std.proofs.Common.{◌≡◌, ℕ, suc, ◌-◌, ◌≤◌, ◌<◌, true, List, [], ◌∷◌, map, length, get_or, refl, sym, ap, ◌∙◌, subst, inl, inr, ◌⊎◌, arith}
use Rattle.std.proofs.Math.Seq.{slice, slice_empty}
use Rattle.std.proofs.lemmas.Bool.{cases_lt}
use mathlib.Core.List.{Memᴰ}
use Rattle.paper.specs.Grammar.{Grammar, IsGrammar, left}
use Rattle.paper.specs.Derivation.{Derives}
use Rattle.paper.specs.Entry.{Entry, may_take, fresh, taking, finished, Found}
use Rattle.paper.specs.Entry.Found.{start, scan, predict, complete}
use Rattle.paper.specs.Sheet.{word, list_at}
use Rattle.paper.specs.Building.{sheet_of}
use Rattle.paper.proofs.Building.{sheet_found, sheet_ascending}
use Rattle.paper.proofs.Closure.{Climbs, ascending_climbs, climbs_same}
use Rattle.paper.proofs.Theorem7.{found_stands, finished_rest, finished_tree}
use Rattle.paper.proofs.Trees.{tree_derives}
use Rattle.paper.proofs.Universe.{found_possible}
use Rattle.sheet.specs.Cells.{key}
use Rattle.sheet.specs.Growing.{entry_in, Holds, IsListOf, DerivesNothing, FinishedFrom, IsGrowing, Grew, Reaches, Advanced, Completed, Predicted}

-- The token before list j is taken, and each origin from `low` on is completed.
pub record IsDone (g : Grammar) (row : List ℕ) (j low : ℕ) (cells : List ℕ) : Type 0 where
  pub scanned : (i : ℕ) → suc i ≡ j → Advanced g row i (get_or row i 0) cells
  pub completed : (i : ℕ) → low ≤ i → i < j → Completed g row i cells

-- the token before place j reaches there from the place before
pub token_reaches : (g : Grammar) (row : List ℕ) (j at : ℕ) → 0 < j → j ≤ length row → at ≡ j → Reaches g row (j - 1) j (get_or row (at - 1) 0)
token_reaches g row j at l m e =
    let z : suc (at - 1) ≡ j = omega arith in
    let y : at - 1 ≡ j - 1 = omega arith in
    subst (λ k. Reaches g row k j (get_or row (at - 1) 0)) y
    (subst (λ k. Reaches g row (at - 1) k (get_or row (at - 1) 0)) z (record { found = λ entry f may. scan f (omega arith) may }))

-- what is finished over an empty span derives nothing
finished_empty : {g : Grammar} {row : List ℕ} {j : ℕ} {f : Entry} → IsGrammar g → Found g row j f → finished f ≡ true → f.origin ≡ j → DerivesNothing g (left g f.rule)
finished_empty {g} {row} {j} {f} is h d e =
    let t = tree_derives (finished_tree (found_stands is.order h) (finished_rest f d)) in
    subst (Derives g (left g f.rule ∷ [])) (ap (λ i. slice i j row) e ∙ slice_empty j row) t

module _ {g : Grammar} {row : List ℕ} {j want : ℕ} {cells found : List ℕ} (is : IsGrammar g) (growing : IsGrowing g row j cells found want) (done : IsDone g row j 0 cells) (predicted : Predicted g j cells) where
  -- a finished entry is taken from what waits for it on the list of its origin
  taken : {e f : Entry} → Found g row f.origin e → (f.origin ≡ j → Holds g cells e) → Found g row j f → Holds g cells f → finished f ≡ true → may_take g (left g f.rule) e.rest ≡ true
      → Holds g cells (taking (left g f.rule) e)
  taken {e} {f} h held k stands d m = go (cases_lt f.origin j)
    where
      go : (f.origin < j) ⊎ (j ≤ f.origin) → Holds g cells (taking (left g f.rule) e)
      go (inl l) = ((done.completed f.origin (omega arith) l).each (left g f.rule) (record { entry = f; stands = stands; is_finished = d; origin_is = refl; left_is = refl })).has e h m
      go (inr l) =
          let o = (found_possible k).origin_le in
          let same : f.origin ≡ j = omega arith in
          growing.emptied e (left g f.rule) (held same) (finished_empty is k d same) m

  -- all that the steps find is held
  found_held : {k : ℕ} {e : Entry} → Found g row k e → k ≡ j → Holds g cells e
  found_held (start h l s) z = subst (λ i. Holds g cells (fresh g h i)) (sym z) (predicted.each h l (inl (sym z, s)))
  found_held (scan {j = i} {e = e} f l m) z = (done.scanned i z).has e f m
  found_held (predict {j = i} {e = e} h f l m) z =
      subst (λ i. Holds g cells (fresh g h i)) (sym z) (predicted.each h l (inr (record { entry = e; stands = found_held f z; may = m })))
  found_held (complete {j = i} {e = e} {f = t} f k d m) z = taken f (found_held f) (subst (λ i. Found g row i t) z k) (found_held k z) d m

-- the words of the entries in the cells are their keys
words_keys : (g : Grammar) (cells : List ℕ) → ((cell : ℕ) → Memᴰ cell cells → word g (entry_in g cell) ≡ key cell) → map (word g) (map (entry_in g) cells) ≡ map key cells
words_keys g [] h = refl
words_keys g (cell ∷ cells) h =
    let e = h cell (Memᴰ.head refl) in
    let r = words_keys g cells (λ c m. h c (Memᴰ.tail m)) in
    cc

-- where nothing is to be found any more, the cells are those of list j of the sheet
pub exact : {g : Grammar} {row : List ℕ} {j want : ℕ} {cells found : List ℕ} → IsGrammar g → length row ≤ 64 → IsGrowing g row j cells found want → IsDone g row j 0 cells
    → Predicted g j cells → IsListOf g row j cells
exact {g} {row} {j} {cells = cells} is short growing done predicted =
    let list : List Entry = list_at (sheet_of g row) j in
    let keys = words_keys g cells growing.words_are in
    let low = ascending_climbs 0 (map key cells) (λ i l. omega arith) growing.ascends in
    let high = ascending_climbs 0 (map (word g) list) (λ i l. omega arith) (sheet_ascending g row is short j) in
    let same = climbs_same (word g) 0 0 (map (entry_in g) cells) list (subst (Climbs 0) (sym keys) low) high
    (λ e m. (sheet_found g row is short j e).1 (growing.sound e m)) (λ e m. found_held is growing done predicted ((sheet_found g row is short j e).0 m) refl) in
    record { keys_are = sym keys ∙ ap (map (word g)) same }

-- ---- what is done stays done while the list grows

module _ {g : Grammar} {row : List ℕ} {low high : ℕ} {old new : List ℕ} (grew : Grew g low high old new) where
  advanced_stays : {i x : ℕ} → Advanced g row i x old → Advanced g row i x new
  advanced_stays {i} {x} a = record { has = λ e f m. grew.keeps (taking x e) (a.has e f m) }

  -- an origin from which nothing new comes stays completed
  completed_stays : {i : ℕ} → (low ≤ i → i ≤ high → ⊥) → Completed g row i old → Completed g row i new
  completed_stays {i} other c = record { each = λ x f. advanced_stays (c.each x (before x f (grew.origins f.entry f.stands))) }
    where
      before : (x : ℕ) (f : FinishedFrom g new i x) → Holds g old f.entry ⊎ ((low ≤ f.entry.origin) × (f.entry.origin ≤ high)) → FinishedFrom g old i x
      before x f (inl h) = record { entry = f.entry; stands = h; is_finished = f.is_finished; origin_is = f.origin_is; left_is = f.left_is }
      before x f (inr n) = let o = f.origin_is in absurd (other (omega arith) (omega arith))

-- before list 0 there is no token
pub done_none : {g : Grammar} {row : List ℕ} {j : ℕ} {cells : List ℕ} → j ≡ 0 → IsDone g row j j cells
done_none z = record { scanned = λ i e. absurd (let y : ⊥ = omega arith in y); completed = λ i l m. absurd (let y : ⊥ = omega arith in y) }

-- the token before list j is taken
pub done_token : {g : Grammar} {row : List ℕ} {j at : ℕ} {cells : List ℕ} → 0 < j → at ≡ j → Advanced g row (j - 1) (get_or row (at - 1) 0) cells → IsDone g row j j cells
done_token {g} {row} {j} {at} {cells} l e a = record {
  scanned = λ i s.
      let z : j - 1 ≡ i = omega arith in
      let y : at - 1 ≡ i = omega arith in
      subst (λ k. Advanced g row i (get_or row k 0) cells) y (subst (λ k. Advanced g row k (get_or row (at - 1) 0) cells) z a);
  completed = λ i k m. absurd (let y : ⊥ = omega arith in y);
}

-- one origin more is completed
pub done_more : {g : Grammar} {row : List ℕ} {j low i : ℕ} {old new : List ℕ} → low ≡ suc i → IsDone g row j low old → Grew g 0 i old new → Completed g row i new → IsDone g row j i new
done_more {g} {row} {j} {low} {i} {old} {new} z done grew now =
    record { scanned = λ k e. advanced_stays grew (done.scanned k e); completed = λ k l m. go k l m (cases_lt i k) }
  where
    go : (k : ℕ) → i ≤ k → k < j → (i < k) ⊎ (k ≤ i) → Completed g row k new
    go k l m (inl h) = completed_stays grew (λ a b. omega arith) (done.completed k (omega arith) m)
    go k l m (inr h) = let e : i ≡ k = omega arith in subst (λ n. Completed g row n new) e now

-- what is predicted has no earlier origin
pub done_predicted : {g : Grammar} {row : List ℕ} {j low : ℕ} {old new : List ℕ} → low ≤ 0 → IsDone g row j low old → Grew g j j old new → IsDone g row j 0 new
done_predicted z done grew =
    record { scanned = λ k e. advanced_stays grew (done.scanned k e); completed = λ k l m. completed_stays grew (λ a b. omega arith) (done.completed k (omega arith) m) }
