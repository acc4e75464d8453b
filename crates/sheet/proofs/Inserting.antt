-- What `insert` gives at a known place of a list, and how a list of the words is shifted to make room there.
-- Assumes nothing.
use Rattle.std.proofs.Common.{◌≡◌, ℕ, zero, suc, ◌+◌, ◌-◌, ◌≤◌, ◌<◌, Bool, true, false, ltb, List, [], ◌∷◌, ◌++◌, map, length, get_or, take, drop, set, Ok, Err, refl, sym, ap, ◌∙◌, subst, inl, inr, ◌⊎◌, append_assoc, add-one, arith, length-append, length-drop, eq-eqb, ltb-true, ltb-false}
use Rattle.std.proofs.Math.Seq.{slice, paste, take-suc, take-add, take-take, drop-drop, set_at, length-take-le, length-slice, get_or-drop, get_or-take}
use Rattle.std.proofs.Math.Nat.{le_refl}
use Rattle.std.proofs.lemmas.Bool.{cases_lt}
use Rattle.std.proofs.lemmas.List.{length-map}
use Rattle.std.proofs.lemmas.Slice.{between_is}
use Rattle.std.proofs.lemmas.List.Sorted.{IsNonDecreasingBy-from_default, IsPartitionedBy-ltb, IsPartitionPoint-from_clause}
use Rattle.std.specs.List.{between}
use Rattle.std.specs.List.Sorted.{IsPartitionedBy, IsPartitionPoint}
use Rattle.std.specs.Fn.{Mut, Called, ComputesKey}
use borrow.Author.Tests.{lt-ltb, le-ltb, ne_eqb}
use denote.Ref.{Bor}
use lib.ListN.{get_or-map}
use Rattle.paper.specs.Building.{insert}
use Rattle.paper.specs.declared.Refusal.{Refusal}
use Rattle.sheet.specs.Cells.{key, Ascends, Placed}

-- the keys before place p are below that of x, and the others are not
pub record IsPlace (x p : ℕ) (s : List ℕ) : Type 0 where
  pub within : p ≤ length s
  pub below : (k : ℕ) → k < p → key (get_or s k 0) < key x
  pub behind : (k : ℕ) → p ≤ k → k < length s → key x ≤ key (get_or s k 0)

-- ---- the three steps of `insert`

past : (x y : ℕ) (s : List ℕ) → key y < key x → insert key x (y ∷ s) ≡ y ∷ insert key x s
unfolding insert
past x y s h = rw (le-ltb (key x) (key y) (omega arith), ne_eqb (key x) (key y) (λ e. omega arith))

same : (x y : ℕ) (s : List ℕ) → key y ≡ key x → insert key x (y ∷ s) ≡ y ∷ s
unfolding insert
same x y s h = rw (le-ltb (key x) (key y) (omega arith), eq-eqb (key x) (key y) (omega arith))

before : (x y : ℕ) (s : List ℕ) → key x < key y → insert key x (y ∷ s) ≡ x ∷ (y ∷ s)
unfolding insert
before x y s h = rw (lt-ltb (key x) (key y) h)

-- ---- at a known place

behind_first : (x y p : ℕ) (s : List ℕ) → IsPlace x (suc p) (y ∷ s) → IsPlace x p s
behind_first x y p s h = record {
  within = let w = h.within in omega arith;
  below = λ k l. h.below (suc k) (omega arith);
  behind = λ k l m. h.behind (suc k) (omega arith) (omega arith);
}

-- a key that stands in the list is kept as it is
pub insert_there : (x p : ℕ) (s : List ℕ) → IsPlace x p s → p < length s → key (get_or s p 0) ≡ key x → insert key x s ≡ s
insert_there x p [] h l e = absurd (let z : ⊥ = omega arith in z)
insert_there x zero (y ∷ s) h l e = same x y s e
insert_there x (suc p) (y ∷ s) h l e =
    past x y s (h.below 0 (omega arith)) ∙ ap (y ∷◌) (insert_there x p s (behind_first x y p s h) (omega arith) e)

-- a new one comes to its place
pub insert_new : (x p : ℕ) (s : List ℕ) → IsPlace x p s → (p < length s → key (get_or s p 0) ≡ key x → ⊥) → insert key x s ≡ take p s ++ (x ∷ drop p s)
unfolding insert
insert_new x zero [] h new = refl
insert_new x (suc p) [] h new = absurd (let w = h.within in let z : ⊥ = omega arith in z)
insert_new x zero (y ∷ s) h new =
    let low : key x ≤ key y = h.behind 0 (omega arith) (omega arith) in
    let apart : key y ≡ key x → ⊥ = new (omega arith) in
    before x y s (omega (arith, apart))
insert_new x (suc p) (y ∷ s) h new =
    past x y s (h.below 0 (omega arith)) ∙ ap (y ∷◌) (insert_new x p s (behind_first x y p s h) (λ l. new (omega arith)))

pub length_new : (x p : ℕ) (s : List ℕ) → p ≤ length s → length (take p s ++ (x ∷ drop p s)) ≡ suc (length s)
length_new x p s h = omega (arith, length-append (take p s) (x ∷ drop p s), length-take-le p s h, length-drop p s)

-- ---- what a search by halves finds

key_at : (s : List ℕ) (i : ℕ) → get_or (map key s) i 0 ≡ key (get_or s i 0)
key_at s i = get_or-map key s i 0

rising : (s : List ℕ) → Ascends s → (i j : ℕ) → i ≤ j → j < length s → key (get_or s i 0) ≤ key (get_or s j 0)
rising s h i j l m = go (cases_lt i j)
  where
    go : (i < j) ⊎ (j ≤ i) → key (get_or s i 0) ≤ key (get_or s j 0)
    go (inl o) =
        let k : j < length (map key s) = rw (length-map s key) m in
        omega (arith, h.ascend i j o k, key_at s i, key_at s j)
    go (inr o) = let e : i ≡ j = omega arith in rw e (le_refl _)

-- where the keys ascend, none below that of x comes after one that is not
pub partitioned : (x : ℕ) (s : List ℕ) → Ascends s → IsPartitionedBy (λ y. ltb (key y) (key x)) s
partitioned x s h = IsPartitionedBy-ltb key s (key x) (IsNonDecreasingBy-from_default key s 0 (rising s h))

-- what `partition_point` answers on the part of the words from `base` to `end`
pub place_found : {F : Type 0} {g : Mut F (Bor ℕ × Unit {0}) Bool} {f : F} (x base p end : ℕ) (words : List ℕ) → Ascends (slice base end words)
    → p ≤ length (between base end words)
    → ((q : ℕ → Bool) → ComputesKey g q f → IsPartitionedBy q (between base end words) → IsPartitionPoint (λ y. q y ≡ true) (λ y. q y ≡ false) (between base end words) p)
    → ((a : Bor ℕ × Unit {0}) (r : Bool) (f' : F) → Called g f a r f' → (r ≡ ltb (key a.0.now) (key x)) × (f' ≡ f)) → IsPlace x p (slice base end words)
place_found x base p end words h w clause calls =
    let same_part = between_is words base end in
    let part : List ℕ = slice base end words in
    let parted = subst (IsPartitionedBy (λ y. ltb (key y) (key x))) (sym same_part) (partitioned x part h) in
    let point = IsPartitionPoint-from_clause (λ y. ltb (key y) (key x)) _ p clause parted calls in
    subst (IsPlace x p) same_part (record {
      within = w;
      below = λ k l. ltb-true _ _ (point.0 k 0 (omega arith) l);
      behind = λ k l m. ltb-false _ _ (point.1 k 0 l m);
    })

-- ---- in the words

front : (base p end : ℕ) (words : List ℕ) → base + p ≤ end → take (base + p) words ≡ take base words ++ take p (slice base end words)
front base p end words h =
    take-add base p words ∙ ap (λ (r : List ℕ). take base words ++ r) (sym (take-take p (end - base) (drop base words) (omega arith)) ∙ ap (take p) (between_is words base end))

rest : (base p end : ℕ) (words : List ℕ) → drop p (slice base end words) ≡ take (end - (base + p)) (drop (base + p) words)
rest base p end words = drop-drop p base (take end words) ∙ sym (between_is words (base + p) end)

-- the words from `at` to `end`, each one place further
shifted : (at end : ℕ) (words : List ℕ) → at ≤ end → end < length words
    → paste words (at + 1) (drop at words) (end - at) ≡ take at words ++ (get_or words at 0 ∷ (take (end - at) (drop at words) ++ drop (suc end) words))
shifted at end words h l =
    let e : at + 1 + (end - at) ≡ suc end = omega arith in
    let m : at < length words = omega arith in
    rw (e, add-one, take-suc words at 0 m) (simp append_assoc)

-- a word comes in at place p of the list from `base` to `end`
placed_words : (x base p end : ℕ) (words : List ℕ) → base + p ≤ end → end < length words
    → set (paste words (base + p + 1) (drop (base + p) words) (end - (base + p))) (base + p) x
    ≡ take base words ++ ((take p (slice base end words) ++ (x ∷ drop p (slice base end words))) ++ drop (suc end) words)
placed_words x base p end words h l =
    ap (λ (r : List ℕ). set r (base + p) x) (shifted (base + p) end words h l)
    ∙ set_at (take (base + p) words) (get_or words (base + p) 0) (take (end - (base + p)) (drop (base + p) words) ++ drop (suc end) words) x (base + p) (length-take-le (base + p) words (omega arith))
    ∙ rw (front base p end words h, rest base p end words) (simp append_assoc)

pub at_place : (base p end : ℕ) (words : List ℕ) → base + p < end → get_or (slice base end words) p 0 ≡ get_or words (base + p) 0
at_place base p end words h = get_or-drop base (take end words) p 0 ∙ get_or-take end words (base + p) 0 h

-- ---- the three answers of `place`

module _ (x base p end : ℕ) (words : List ℕ) (list : base ≤ end) (within : end ≤ length words) (place : IsPlace x p (slice base end words)) where
  place_within : base + p ≤ end
  place_within = let w = place.within in omega (arith, length-slice base end words within)

  pub answer_there : base + p < end → key (get_or words (base + p) 0) ≡ key x → Placed base end x words words (Ok false)
  answer_there l e =
      Placed.there (insert_there x p (slice base end words) place (omega (arith, length-slice base end words within)) (ap key (at_place base p end words l) ∙ e)) refl refl

  module _ (new : base + p < end → key (get_or words (base + p) 0) ≡ key x → ⊥) where
    inserted : insert key x (slice base end words) ≡ take p (slice base end words) ++ (x ∷ drop p (slice base end words))
    inserted =
        insert_new x p (slice base end words) place (λ l e.
        let m : base + p < end = omega (arith, length-slice base end words within) in
        new m (ap key (sym (at_place base p end words m)) ∙ e))

    longer : length (insert key x (slice base end words)) ≡ suc (end - base)
    longer = ap length inserted ∙ length_new x p (slice base end words) place.within ∙ ap suc (length-slice base end words within)

    pub answer_full : length words ≤ end → Placed base end x words words (Err Refusal.FewWords)
    answer_full l = Placed.full (omega arith) longer refl refl

    pub answer_placed : (moved : List ℕ) → end < length words → moved ≡ paste words (base + p + 1) (drop (base + p) words) (end - (base + p))
        → Placed base end x words (set moved (base + p) x) (Ok true)
    answer_placed moved l e =
        Placed.placed l longer
        (ap (λ (r : List ℕ). set r (base + p) x) e ∙ placed_words x base p end words place_within l ∙ ap (λ (r : List ℕ). take base words ++ (r ++ drop (suc end) words)) (sym inserted))
        refl
