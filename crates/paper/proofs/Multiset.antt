-- Laws of multisets: counting, arranging, taking one away.
-- Assumes nothing.
use mathlib.Core.Path.{◌≡◌, refl, sym, ◌∙◌, ap}
use mathlib.Core.Bool.{Bool, true, false, or-true}
use mathlib.Core.List.{List, [], ◌∷◌, ◌++◌, Memᴰ}
use Prim.Native.Nat.{ℕ, suc, ◌+◌, ◌≤◌}
use native.Mathlib.Omega.{arith}
use lib.Dec.{eqb}
use lib.ListN.{length}
use borrow.Author.Tests.{eqb-true, eq-eqb, ne_eqb}
use Rattle.paper.specs.Multiset.{bit, count, Arrangement, has, without, minus}

pub count_append : (a : ℕ) (s t : List ℕ) → count a (s ++ t) ≡ count a s + count a t
unfolding count
count_append a [] t = omega arith
count_append a (b ∷ s) t = omega (arith, count_append a s t)

pub count_self : (a : ℕ) (s : List ℕ) → count a (a ∷ s) ≡ suc (count a s)
unfolding count
count_self a s = rw (eq-eqb a a refl) (omega arith)

pub count_other : (a b : ℕ) (s : List ℕ) → (a ≡ b → ⊥) → count a (b ∷ s) ≡ count a s
unfolding count
count_other a b s ne = rw (ne_eqb a b ne) (omega arith)

pub bit_le : (b : Bool) → bit b ≤ 1
bit_le true = omega arith
bit_le false = omega arith

pub arranged_refl : (s : List ℕ) → Arrangement s s
arranged_refl s = record { counts = λ a. refl }

pub arranged_sym : {s t : List ℕ} → Arrangement s t → Arrangement t s
arranged_sym h = omega arith

pub arranged_trans : {s t u : List ℕ} → Arrangement s t → Arrangement t u → Arrangement s u
arranged_trans h k = omega arith

pub arranged_append : {s t u v : List ℕ} → Arrangement s t → Arrangement u v → Arrangement (s ++ u) (t ++ v)
arranged_append {s} {t} {u} {v} h k = grind (arith, count_append)

-- the order of two parts does not matter
pub arranged_swap : (s t : List ℕ) → Arrangement (s ++ t) (t ++ s)
arranged_swap s t = grind (arith, count_append)

pub has_count : (a : ℕ) (s : List ℕ) → has a s ≡ true → 1 ≤ count a s
unfolding has count
has_count a [] h = cc
has_count a (b ∷ s) h = grind (arith, has_count a s)

pub count_has : (a : ℕ) (s : List ℕ) → 1 ≤ count a s → has a s ≡ true
unfolding has count
count_has a [] h = absurd (omega arith)
count_has a (b ∷ s) h = grind (arith, count_has a s)

pub count_without : (a b : ℕ) (s : List ℕ) → has a s ≡ true → count b (without a s) + bit (eqb b a) ≡ count b s
unfolding has count without
count_without a b [] h = cc
count_without a b (c ∷ s) h = grind (arith, count_without a b s)

pub minus_append : (m s t : List ℕ) → minus m (s ++ t) ≡ minus (minus m s) t
unfolding minus
minus_append m [] t = refl
minus_append m (a ∷ s) t = minus_append (without a m) s t

pub minus_snoc : (m s : List ℕ) (a : ℕ) → minus m (s ++ (a ∷ [])) ≡ without a (minus m s)
unfolding minus
minus_snoc m s a = minus_append m s (a ∷ [])

pub has_mem : (a : ℕ) (s : List ℕ) → has a s ≡ true → Memᴰ a s
unfolding has
has_mem a [] h = cc
has_mem a (b ∷ s) h = go (eqb a b) refl (has_mem a s)
  where
    go : (t : Bool) → eqb a b ≡ t → (has a s ≡ true → Memᴰ a s) → Memᴰ a (b ∷ s)
    go true e ih = Memᴰ.head (eqb-true a b e)
    go false e ih = Memᴰ.tail (ih (rw e at h))

pub mem_has : {a : ℕ} {s : List ℕ} → Memᴰ a s → has a s ≡ true
unfolding has
mem_has {a} (Memᴰ.head {x = x} e) = rw (eq-eqb a x e)
mem_has {a} (Memᴰ.tail {x = x} {xs = s} m) = rw (mem_has m) (or-true (eqb a x))

pub arranged_nil : (s : List ℕ) → Arrangement s [] → s ≡ []
unfolding count
arranged_nil [] h = refl
arranged_nil (a ∷ s) h = let z = h.counts a in absurd (omega (arith, count_self a s))

pub arranged_cons : (a : ℕ) {s t : List ℕ} → Arrangement s t → Arrangement (a ∷ s) (a ∷ t)
unfolding count
arranged_cons a {s} {t} h = grind arith

-- taking one away and putting it in front is an arrangement
pub arranged_without : (a : ℕ) (s : List ℕ) → has a s ≡ true → Arrangement (a ∷ without a s) s
unfolding count
arranged_without a s h = grind (arith, count_without)

pub length_without : (a : ℕ) (s : List ℕ) → has a s ≡ true → suc (length (without a s)) ≡ length s
unfolding has without
length_without a [] h = cc
length_without a (b ∷ s) h = grind (arith, length_without a s)

pub arranged_uncons : (a : ℕ) (s t : List ℕ) → Arrangement (a ∷ s) (a ∷ t) → Arrangement s t
unfolding count
arranged_uncons a s t h = grind arith

-- equal counts, equal lengths
pub arranged_length : (s t : List ℕ) → Arrangement s t → length s ≡ length t
arranged_length [] t h = ap length (sym (arranged_nil t (arranged_sym h)))
arranged_length (a ∷ s) t h =
    let k : has a t ≡ true = count_has a t (omega (arith, h.counts a, count_self a s)) in
    ap suc (arranged_length s (without a t) (arranged_uncons a s (without a t) (arranged_trans h (arranged_sym (arranged_without a t k))))) ∙ length_without a t k
