-- The reasons among the words, while an entry is put in.
-- Assumes nothing.
use Rattle.std.proofs.Common.{◌≡◌, ℕ, suc, ◌-◌, ◌≤◌, ◌<◌, Bool, true, false, cond, eqb, ltb, List, [], ◌∷◌, ◌++◌, length, get_or, take, drop, refl, sym, ap, ◌∙◌, subst, arith}
use Rattle.std.proofs.Math.Seq.{take-take, take-append-le, length-slice, length-take-le}
use mathlib.Core.List.{Memᴰ}
use Rattle.paper.specs.Image.{grammar_of}
use Rattle.paper.specs.Building.{insert}
use Rattle.tables.specs.Machine.{IsByte}
use Rattle.sheet.specs.Bytes.{HasByte, IsGreatestTaken}
use Rattle.sheet.specs.Cells.{key}
use Rattle.sheet.specs.Grown.{start_of, base_of, cells_of}
use Rattle.sheet.specs.Learning.{GainsLeft, AreEmptyParts}
use Rattle.sheet.specs.Stages.{stage_at, Reason, list_in, AreStaged, Stays, Puts}
use Rattle.sheet.specs.declared.grow.Lists.{Lists}
use Rattle.sheet.proofs.Cells.{kept_in, only_new, list_placed}
use Rattle.sheet.proofs.Filling.{IsFilling, starts_rise}
use Rattle.sheet.proofs.Reasons.{IsCell, IsComing, coming_first, coming_there, coming_placed}

-- ---- what a new cell leaves

-- where the list is longer, the cell is in it
new_in : (x : ℕ) (s : List ℕ) → length (insert key x s) ≡ suc (length s) → Memᴰ x (insert key x s)
unfolding insert
new_in x [] e = Memᴰ.head refl
new_in x (y ∷ s) e = go (ltb (key x) (key y)) (eqb (key x) (key y)) (new_in x s) e
  where
    go : (b c : Bool) → (length (insert key x s) ≡ suc (length s) → Memᴰ x (insert key x s))
        → length (cond b (x ∷ y ∷ s) (y ∷ cond c s (insert key x s))) ≡ suc (suc (length s)) → Memᴰ x (cond b (x ∷ y ∷ s) (y ∷ cond c s (insert key x s)))
    go true c r e = Memᴰ.head refl
    go false true r e = absurd (let z : ⊥ = omega arith in z)
    go false false r e = Memᴰ.tail (r (omega arith))

-- a list before the base is as it was
pub list_same : (starts : List ℕ) (base k : ℕ) (old new : List ℕ) → take base new ≡ take base old → get_or starts (suc k) 0 ≤ base → list_in starts new k ≡ list_in starts old k
list_same starts base k old new e l =
    let from : ℕ = get_or starts k 0 in
    let to : ℕ = get_or starts (suc k) 0 in
    ap (drop from) (sym (take-take to base new l) ∙ (ap (take to) e ∙ take-take to base old l))

front_placed : (base : ℕ) (old rest : List ℕ) → base ≤ length old → take base (take base old ++ rest) ≡ take base old
front_placed base old rest l =
    take-append-le base (take base old) rest (omega (arith, length-take-le base old l)) ∙ take-take base base old (omega arith)

-- ---- the state

pub record IsArriving (image row ranks : List ℕ) (h i s : ℕ) (old : List ℕ) (before : Lists) (words : List ℕ) (lists : Lists) (pending : List ℕ) : Type 0 where
  pub coming : IsComing (grammar_of image) row ranks lists.place (list_in lists.starts words) h i s (cells_of old before) (cells_of words lists) pending
  pub earlier : take (base_of before) words ≡ take (base_of before) old

pub arriving_first : {image row ranks : List ℕ} {h i s first : ℕ} {words : List ℕ} {lists : Lists} {pending : List ℕ} → AreStaged image row ranks words lists
    → IsByte (grammar_of image) h first → Reason (grammar_of image) row lists.place (list_in lists.starts words) (cells_of words lists) h i first s
    → ((b : ℕ) → HasByte pending b → b ≡ first) → IsArriving image row ranks h i s words lists words lists pending
arriving_first staged byte reason only = record { coming = coming_first staged byte reason only; earlier = refl }

module _ {image row ranks : List ℕ} {h i s : ℕ} {old : List ℕ} {before : Lists} {words : List ℕ} {lists : Lists} {pending : List ℕ}
    (v : IsArriving image row ranks h i s old before words lists pending) where
  pub arrived_staged : AreStaged image row ranks words lists
  arrived_staged = v.coming.staged

  pub arrived_stays : Stays old before words lists
  arrived_stays = record { earlier = v.earlier; cells = v.coming.keeps }

  pub arrived_puts : Puts i s old before words lists
  arrived_puts = record { each = v.coming.puts }

  module _ {m : ℕ} {less : List ℕ} (taken : IsGreatestTaken pending m less) where
    pub arriving_there : IsArriving image row ranks h i s old before words lists less
    arriving_there = record { coming = coming_there v.coming taken; earlier = v.earlier }

    module _ {first : ℕ} (f : IsFilling image row h i first old before words lists pending) {new : List ℕ} (now : Lists) {x : ℕ} {symbols : ℕ} {more : List ℕ}
        {own : ℕ} (own_is : own ≡ stage_at (grammar_of image) ranks lists.place h i m s) (own_small : own < 64) (own_cell : IsCell h i m own x)
        (within : lists.end < length words) (longer : length (insert key x (cells_of words lists)) ≡ suc (lists.end - base_of lists))
        (words_are : new ≡ take (base_of lists) words ++ (insert key x (cells_of words lists) ++ drop (suc lists.end) words))
        (same_place : now.place ≡ lists.place) (same_starts : now.starts ≡ lists.starts) (one_end : now.end ≡ suc lists.end)
        (empty : AreEmptyParts (grammar_of image) h m symbols) (gains : GainsLeft (grammar_of image) h m symbols less more) where
      cell : IsCell h i m (stage_at (grammar_of image) ranks lists.place h i m s) x
      cell = rw own_is at own_cell

      small : stage_at (grammar_of image) ranks lists.place h i m s < 64
      small = rw own_is at own_small

      base : base_of now ≡ base_of lists
      base = ap (λ t. get_or t now.place 0) same_starts ∙ ap (start_of lists) same_place

      base_before : base_of lists ≡ base_of before
      base_before = ap (λ t. get_or t lists.place 0) f.starts_kept ∙ ap (start_of before) f.place_is

      cells_now : cells_of new now ≡ insert key x (cells_of words lists)
      cells_now = rw (base, one_end, words_are) (list_placed (base_of lists) lists.end words (insert key x (cells_of words lists)) f.base_le within longer)

      front : take (base_of lists) new ≡ take (base_of lists) words
      front = ap (take (base_of lists)) words_are ∙ front_placed (base_of lists) words _ (omega (arith, f.base_le))

      up : (k p : ℕ) → k < lists.place → Memᴰ p (list_in lists.starts words k) → Memᴰ p (list_in now.starts new k)
      up k p l n =
          let rises : start_of lists (suc k) ≤ base_of lists
          = omega (arith, f.starts_are (suc k) l, f.starts_are lists.place (omega arith), starts_rise (grammar_of image) row (suc k) lists.place l) in
          let e : list_in now.starts new k ≡ list_in lists.starts words k = ap (λ t. list_in t new k) same_starts ∙ list_same lists.starts (base_of lists) k words new front rises in
          subst (Memᴰ p) (sym e) n

      here : Memᴰ x (insert key x (cells_of words lists))
      here = new_in x (cells_of words lists) (omega (arith, longer, length-slice (base_of lists) lists.end words f.end_le, f.base_le))

      pub arriving_placed : IsArriving image row ranks h i s old before new now more
      arriving_placed = record {
        coming = subst (λ c. IsComing (grammar_of image) row ranks now.place (list_in now.starts new) h i s (cells_of old before) c more) (sym cells_now)
            (rw same_place (coming_placed v.coming taken cell small up (λ c n. kept_in x (cells_of words lists) n) here (λ c n. only_new x (cells_of words lists) c n) empty gains));
        earlier = subst (λ b. take b new ≡ take b words) base_before front ∙ v.earlier;
      }
