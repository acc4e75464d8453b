-- What the cells hold after one is inserted, and how many they can be.
-- Assumes nothing.
use Rattle.std.proofs.Common.{◌≡◌, ◌⊎◌, inl, inr, ℕ, suc, ◌-◌, ◌≤◌, ◌<◌, Bool, true, false, cond, eqb, ltb, List, [], ◌∷◌, ◌++◌, map, length, take, drop, refl, sym, ap, ◌∙◌, arith, length-append, length-drop}
use Rattle.std.proofs.Math.Seq.{slice, take-take, take-append-le, take_at, drop_at, length-take-le}
use Rattle.std.proofs.lemmas.List.{append_assoc}
use mathlib.Core.List.Memᴰ
use mathlib.Core.List.{Memᴰ}
use borrow.Author.Tests.{eqb-true}
use Rattle.paper.specs.Grammar.{Grammar}
use Rattle.paper.specs.Entry.{Entry}
use Rattle.paper.specs.Sheet.{entry_of}
use Rattle.paper.specs.Building.{insert, insert_all}
use Rattle.paper.proofs.Closure.{climbs_ascending, ascending_climbs, insert_all_keeps, insert_all_climbs, every_insert_all}
use Rattle.sheet.specs.Cells.{key, Ascends}
use Rattle.sheet.specs.Growing.{entry_in, Holds}

-- ---- what is in the list

-- the key is there
key_in : (x : ℕ) (s : List ℕ) → (y : ℕ) × Memᴰ y (insert key x s) × (key y ≡ key x)
unfolding insert
key_in x [] = (x, Memᴰ.head refl, refl)
key_in x (y ∷ s) = go (ltb (key x) (key y)) (eqb (key x) (key y)) refl (key_in x s)
  where
    go : (b c : Bool) → eqb (key x) (key y) ≡ c → (z : ℕ) × Memᴰ z (insert key x s) × (key z ≡ key x)
        → (z : ℕ) × Memᴰ z (cond b (x ∷ y ∷ s) (y ∷ cond c s (insert key x s))) × (key z ≡ key x)
    go true c e r = (x, Memᴰ.head refl, refl)
    go false true e r = (y, Memᴰ.head refl, sym (eqb-true (key x) (key y) e))
    go false false e r = (r.0, Memᴰ.tail r.1, r.2)

pub kept_in : (x : ℕ) (s : List ℕ) {z : ℕ} → Memᴰ z s → Memᴰ z (insert key x s)
unfolding insert_all
kept_in x s m = insert_all_keeps key (x ∷ []) s m

-- and nothing else is new
pub only_new : (x : ℕ) (s : List ℕ) (z : ℕ) → Memᴰ z (insert key x s) → (z ≡ x) ⊎ Memᴰ z s
unfolding insert_all
only_new x s =
    every_insert_all key (λ z. (z ≡ x) ⊎ Memᴰ z s) (x ∷ []) s (λ z m. inl (Memᴰ.eq_of_singleton m)) (λ z m. inr m)

pub still_ascends : (x : ℕ) (s : List ℕ) → Ascends s → Ascends (insert key x s)
unfolding insert_all
still_ascends x s h =
    climbs_ascending 0 (map key (insert key x s)) (insert_all_climbs key (x ∷ []) s (ascending_climbs 0 (map key s) (λ i l. omega arith) h))

module _ (g : Grammar) (x : ℕ) (s : List ℕ) where
  pub holds_new : Holds g (insert key x s) (entry_in g x)
  holds_new = let k = key_in x s in Memᴰ.cast (ap (λ w. entry_of g w) (sym k.2)) (Memᴰ.map (entry_in g) k.1)

  pub holds_still : (e : Entry) → Holds g s e → Holds g (insert key x s) e
  holds_still e m = let k = Memᴰ.of_map (entry_in g) s m in Memᴰ.cast (sym k.2) (Memᴰ.map (entry_in g) (kept_in x s k.1))

  pub holds_only : (e : Entry) → Holds g (insert key x s) e → Holds g s e ⊎ (e ≡ entry_in g x)
  holds_only e m = let k = Memᴰ.of_map (entry_in g) (insert key x s) m in go k.0 (sym k.2) (only_new x s k.0 k.1)
    where
      go : (z : ℕ) → e ≡ entry_in g z → (z ≡ x) ⊎ Memᴰ z s → Holds g s e ⊎ (e ≡ entry_in g x)
      go z f (inl q) = inr (f ∙ ap (entry_in g) q)
      go z f (inr n) = inl (Memᴰ.cast f (Memᴰ.map (entry_in g) n))

-- ---- where they stand among the words

module _ (base end : ℕ) (old list : List ℕ) (from : base ≤ end) (within : end < length old) (longer : length list ≡ suc (end - base)) where
  pub list_placed : slice base (suc end) (take base old ++ (list ++ drop (suc end) old)) ≡ list
  list_placed =
      let front : length (take base old) ≡ base = length-take-le base old (omega arith) in
      ap (λ (r : List ℕ). drop base (take (suc end) r)) (sym (append_assoc (take base old) list (drop (suc end) old)))
      ∙ (ap (drop base) (take_at (take base old ++ list) (drop (suc end) old) (suc end) (omega (arith, length-append (take base old) list)))
      ∙ drop_at (take base old) list base front)

  pub list_before : (i k : ℕ) → k ≤ base → slice i k (take base old ++ (list ++ drop (suc end) old)) ≡ slice i k old
  list_before i k l =
      ap (drop i) (take-append-le k (take base old) (list ++ drop (suc end) old) (omega (arith, length-take-le base old (omega arith))) ∙ take-take k base old l)

  pub length_placed : length (take base old ++ (list ++ drop (suc end) old)) ≡ length old
  length_placed =
      omega (arith, length-append (take base old) (list ++ drop (suc end) old), length-append list (drop (suc end) old), length-take-le base old (omega arith), length-drop (suc end) old)
