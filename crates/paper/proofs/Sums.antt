-- Laws of sums: bounds by each member, sums over places, and the closed forms of triangular and pyramidal sums.
-- Assumes nothing.
use mathlib.Core.Path.{◌≡◌, refl, sym, ◌∙◌, ap}
use mathlib.Core.Logic.{◌⊎◌, inl, inr}
use mathlib.Core.Bool.{Bool, true, false}
use mathlib.Core.List.Memᴰ
use mathlib.Core.List.{List, [], ◌∷◌, ◌++◌, Memᴰ, map, flat_map}
use Prim.Native.Nat.{ℕ, zero, suc, ◌+◌, ◌*◌, ◌≤◌, ◌<◌}
use native.Mathlib.Omega.{arith}
use native.Mathlib.Nat.{mul-zero, zero-mul, suc-mul, add-mul, mul-one}
use lib.ListN.{length, get_or}
use Rattle.paper.specs.Multiset.{bit, keep}
use Rattle.paper.specs.Sheet.{sum, many, sum_below}
use Rattle.paper.proofs.Multiset.{bit_le}

-- the first part apart
sum_below_first : (n : ℕ) (f : ℕ → ℕ) → sum_below (suc n) f ≡ f 0 + sum_below n (λ j. f (suc j))
unfolding sum_below
sum_below_first zero f = omega arith
sum_below_first (suc n) f = omega (arith, sum_below_first n f)

-- ---- sums over a list

module _ {A : Type 0} where
  -- a sum is no more than one whose parts are no less
  pub sum_le : (f w : A → ℕ) (s : List A) → ((x : A) → Memᴰ x s → f x ≤ w x) → sum f s ≤ sum w s
  unfolding sum
  sum_le f w [] h = omega arith
  sum_le f w (x ∷ s) h = omega (arith, h x (Memᴰ.head refl), sum_le f w s (λ y m. h y (Memᴰ.tail m)))

  -- a common factor
  pub sum_mul : (f : A → ℕ) (c : ℕ) (s : List A) → sum (λ x. f x * c) s ≡ sum f s * c
  unfolding sum
  sum_mul f c [] = omega (arith, zero-mul c)
  sum_mul f c (x ∷ s) = omega (arith, sum_mul f c s, add-mul (f x) (sum f s) c)

  -- as many parts as the list is long, each at most c
  pub sum_at_most : (f : A → ℕ) (c : ℕ) (s : List A) → ((x : A) → f x ≤ c) → sum f s ≤ length s * c
  unfolding sum
  sum_at_most f c [] h = omega arith
  sum_at_most f c (x ∷ s) h = omega (arith, h x, sum_at_most f c s h, suc-mul (length s) c)

  pub sum_append : (f : A → ℕ) (s t : List A) → sum f (s ++ t) ≡ sum f s + sum f t
  unfolding sum
  sum_append f [] t = omega arith
  sum_append f (x ∷ s) t = omega (arith, sum_append f s t)

  -- a sum over a list is a sum over its places; d stands past its end
  pub sum_places : (f : A → ℕ) (d : A) (s : List A) → sum f s ≡ sum_below (length s) (λ j. f (get_or s j d))
  unfolding sum sum_below
  sum_places f d [] = refl
  sum_places f d (x ∷ s) = grind (arith, sum_below_first, sum_places f d s)

module _ {A B : Type 0} where
  pub sum_map : (f : B → ℕ) (h : A → B) (s : List A) → sum f (map h s) ≡ sum (λ x. f (h x)) s
  unfolding sum
  sum_map f h [] = refl
  sum_map f h (x ∷ s) = ap (f (h x) +◌) (sum_map f h s)

  pub sum_flat_map : (f : B → ℕ) (h : A → List B) (s : List A) → sum f (flat_map h s) ≡ sum (λ x. sum f (h x)) s
  unfolding sum flat_map
  sum_flat_map f h [] = refl
  sum_flat_map f h (x ∷ s) = grind (arith, sum_append, sum_flat_map f h s)

-- ---- how many

module _ {A : Type 0} (p : A → Bool) where
  pub many_le : (s : List A) → many p s ≤ length s
  many_le s = omega (arith, sum_at_most (λ x. bit (p x)) 1 s (λ x. bit_le (p x)), mul-one (length s))

  pub length_keep : (s : List A) → length (keep p s) ≡ many p s
  unfolding keep sum
  length_keep [] = refl
  length_keep (x ∷ s) = grind (arith, length_keep s)

  -- one that passes the test is counted
  pub mem_many : {x : A} (s : List A) → Memᴰ x s → p x ≡ true → 1 ≤ many p s
  unfolding sum
  mem_many [] m h = absurd (Memᴰ.not-nil m)
  mem_many {x} (y ∷ s) m h = go (Memᴰ.cases_cons m) (λ n. mem_many s n h)
    where
      go : (x ≡ y) ⊎ Memᴰ x s → (Memᴰ x s → 1 ≤ many p s) → 1 ≤ bit (p y) + many p s
      go (inl e) ih = let k : bit (p y) ≡ 1 = ap (λ z. bit (p z)) (sym e) ∙ ap bit h in omega arith
      go (inr n) ih = let k = ih n in omega arith

  -- and what is counted is there
  pub many_mem : (s : List A) → 1 ≤ many p s → (x : A) × Memᴰ x s × (p x ≡ true)
  unfolding sum
  many_mem [] h = absurd (omega arith)
  many_mem (y ∷ s) h = go (p y) refl h (many_mem s)
    where
      go : (b : Bool) → p y ≡ b → 1 ≤ bit b + many p s → (1 ≤ many p s → (x : A) × Memᴰ x s × (p x ≡ true)) → (x : A) × Memᴰ x (y ∷ s) × (p x ≡ true)
      go true e l ih = (y, Memᴰ.head refl, e)
      go false e l ih = let r = ih (omega arith) in (r.0, Memᴰ.tail r.1, r.2)

-- ---- sums over places

pub sum_below_le : (n : ℕ) (f w : ℕ → ℕ) → ((j : ℕ) → j < n → f j ≤ w j) → sum_below n f ≤ sum_below n w
unfolding sum_below
sum_below_le zero f w h = omega arith
sum_below_le (suc n) f w h = omega (arith, h n (omega arith), sum_below_le n f w (λ j l. h j (omega arith)))

pub sum_below_mul : (c n : ℕ) (f : ℕ → ℕ) → sum_below n (λ j. c * f j) ≡ c * sum_below n f
unfolding sum_below
sum_below_mul c zero f = omega (arith, mul-zero c)
sum_below_mul c (suc n) f = grind (arith, sum_below_mul c n f)

-- 1 + 2 + .. + n
unfoldable pub triangle : ℕ → ℕ
triangle n = sum_below n suc

-- the first n of these, added
unfoldable pub pyramid : ℕ → ℕ
pyramid n = sum_below n (λ j. triangle (suc j))

pub triangle_closed : (n : ℕ) → 2 * triangle n ≡ n * suc n
unfolding triangle sum_below
triangle_closed zero = omega arith
triangle_closed (suc n) = grind (arith, triangle_closed n)

pub pyramid_closed : (n : ℕ) → 6 * pyramid n ≡ n * suc n * suc (suc n)
unfolding pyramid sum_below
pyramid_closed zero = omega arith
pyramid_closed (suc n) = grind (arith, triangle_closed, pyramid_closed n)
