-- Sums over places, and over a list by a number of each element.
-- Assumes nothing.
use Rattle.std.proofs.Common.{◌≡◌, ℕ, zero, suc, ◌+◌, ◌-◌, ◌*◌, ◌≤◌, ◌<◌, ◌⊎◌, inl, inr, Bool, true, false, ◌&&◌, cond, eqb, List, [], ◌∷◌, refl, sym, ap, ◌∙◌, arith, add-one}
use Rattle.std.proofs.lemmas.Bool.{cases_lt, ne_eqb}
use borrow.Author.Tests.{eq-eqb}
use mathlib.Core.List.{Memᴰ}
use native.Mathlib.Decide.{ℕ_discrete}
use Rattle.paper.specs.Multiset.{bit, keep}
use Rattle.paper.specs.Sheet.{sum, many, sum_below}
use Rattle.paper.proofs.Sums.{sum_le}

-- ---- sums over places

pub below_same : (n : ℕ) (f w : ℕ → ℕ) → ((j : ℕ) → j < n → f j ≡ w j) → sum_below n f ≡ sum_below n w
unfolding sum_below
below_same zero f w h = refl
below_same (suc n) f w h = omega (arith, h n (omega arith), below_same n f w (λ j l. h j (omega arith)))

pub below_add : (n : ℕ) (f w : ℕ → ℕ) → sum_below n (λ j. f j + w j) ≡ sum_below n f + sum_below n w
unfolding sum_below
below_add zero f w = refl
below_add (suc n) f w = omega (arith, below_add n f w)

pub below_none : (n : ℕ) (f : ℕ → ℕ) → ((j : ℕ) → j < n → f j ≡ 0) → sum_below n f ≡ 0
unfolding sum_below
below_none zero f h = refl
below_none (suc n) f h = omega (arith, h n (omega arith), below_none n f (λ j l. h j (omega arith)))

-- the first parts are no more than all
pub below_rises : (m n : ℕ) (f : ℕ → ℕ) → m ≤ n → sum_below m f ≤ sum_below n f
unfolding sum_below
below_rises m zero f l = let e : m ≡ 0 = omega arith in rw e (omega arith)
below_rises m (suc n) f l = go (cases_lt n m) (below_rises m n f)
  where
    go : (n < m) ⊎ (m ≤ n) → (m ≤ n → sum_below m f ≤ sum_below n f) → sum_below m f ≤ sum_below n f + f n
    go (inl k) ih = let e : m ≡ suc n = omega arith in rw e (omega arith)
    go (inr k) ih = omega (arith, ih k)

-- parts of at most c
pub below_at_most : (c n : ℕ) (f : ℕ → ℕ) → ((j : ℕ) → j < n → f j ≤ c) → sum_below n f ≤ n * c
unfolding sum_below
below_at_most c zero f h = omega arith
below_at_most c (suc n) f h = let a = h n (omega arith) in let b = below_at_most c n f (λ j l. h j (omega arith)) in grind arith

-- one part more
pub below_next : (n : ℕ) (f : ℕ → ℕ) → sum_below (n + 1) f ≡ sum_below n f + f n
unfolding sum_below
below_next n f = rw add-one refl

-- one part counts
pub below_one : (n k : ℕ) (w : ℕ → ℕ) → k < n → sum_below n (λ c. bit (eqb k c) * w c) ≡ w k
unfolding sum_below
below_one zero k w l = absurd (omega arith)
below_one (suc n) k w l = go (ℕ_discrete k n) (below_one n k w)
  where
    none : k ≡ n → sum_below n (λ c. bit (eqb k c) * w c) ≡ 0
    none e = below_none n (λ c. bit (eqb k c) * w c) (λ j m. let d : eqb k j ≡ false = ne_eqb k j (λ f. omega arith) in rw d (omega arith))

    go : Dec (k ≡ n) → (k < n → sum_below n (λ c. bit (eqb k c) * w c) ≡ w k) → sum_below n (λ c. bit (eqb k c) * w c) + bit (eqb k n) * w n ≡ w k
    go (yes e) ih = let d : eqb k n ≡ true = eq-eqb k n e in let z = none e in let s = ap w e in rw d (omega arith)
    go (no ne) ih = let d : eqb k n ≡ false = ne_eqb k n ne in let z = ih (omega arith) in rw d (omega arith)

-- parts of 1 from a to b, and none elsewhere
pub below_between : (n a b : ℕ) (f : ℕ → ℕ) → a ≤ b → ((h : ℕ) → h < a → f h ≡ 0) → ((h : ℕ) → a ≤ h → h < b → f h ≡ 1) → ((h : ℕ) → h < n → b ≤ h → f h ≡ 0)
    → b ≤ n → sum_below n f ≡ b - a
unfolding sum_below
below_between zero a b f l low here high m = omega arith
below_between (suc n) a b f l low here high m =
    go (cases_lt n b) (cases_lt n a) (λ k. below_between n a b f l low here (λ h p q. high h (omega arith) q) k)
    (λ o k. below_between n a n f o low (λ h p q. here h p (omega arith)) (λ h p q. absurd (omega arith)) (omega arith))
  where
    go : (n < b) ⊎ (b ≤ n) → (n < a) ⊎ (a ≤ n) → (b ≤ n → sum_below n f ≡ b - a) → (a ≤ n → n < b → sum_below n f ≡ n - a) → sum_below n f + f n ≡ b - a
    go (inr k) o past under = omega (arith, high n (omega arith) k, past k)
    go (inl k) (inl o) past under = omega (arith, low n o, below_none n f (λ j p. low j (omega arith)))
    go (inl k) (inr o) past under = omega (arith, here n o k, under o k)

-- ---- sums over a list

module _ {A : Type 0} where
  pub sum_same : (f w : A → ℕ) (s : List A) → ((x : A) → Memᴰ x s → f x ≡ w x) → sum f s ≡ sum w s
  sum_same f w s h = omega (arith, sum_le f w s (λ x m. omega (arith, h x m)), sum_le w f s (λ x m. omega (arith, h x m)))

  pub sum_add : (f w : A → ℕ) (s : List A) → sum (λ x. f x + w x) s ≡ sum f s + sum w s
  unfolding sum
  sum_add f w [] = refl
  sum_add f w (x ∷ s) = omega (arith, sum_add f w s)

  pub sum_none : (f : A → ℕ) (s : List A) → ((x : A) → f x ≡ 0) → sum f s ≡ 0
  unfolding sum
  sum_none f [] h = refl
  sum_none f (x ∷ s) h = omega (arith, h x, sum_none f s h)

  -- a sum over those that pass the test, each by its number, is a sum over the numbers
  pub sum_by_number : (p : A → Bool) (k : A → ℕ) (w : ℕ → ℕ) (n : ℕ) (s : List A) → ((x : A) → Memᴰ x s → k x < n)
      → sum (λ x. w (k x)) (keep p s) ≡ sum_below n (λ c. many (λ x. p x && eqb (k x) c) s * w c)
  unfolding sum keep
  sum_by_number p k w n [] h = sym (below_none n (λ c. 0 * w c) (λ j l. omega arith))
  sum_by_number p k w n (x ∷ s) h = go (p x) (sum_by_number p k w n s (λ y m. h y (Memᴰ.tail m)))
    where
      go : (b : Bool) → sum (λ x. w (k x)) (keep p s) ≡ sum_below n (λ c. many (λ x. p x && eqb (k x) c) s * w c)
          → sum (λ x. w (k x)) (cond b (x ∷ keep p s) (keep p s)) ≡ sum_below n (λ c. (bit (b && eqb (k x) c) + many (λ x. p x && eqb (k x) c) s) * w c)
      go false ih = ih ∙ below_same n _ _ (λ c l. grind arith)
      go true ih =
          let one = below_one n (k x) w (h x (Memᴰ.head refl)) in
          let add = below_add n (λ c. bit (eqb (k x) c) * w c) (λ c. many (λ x. p x && eqb (k x) c) s * w c) in
          let same : sum_below n (λ c. (bit (eqb (k x) c) + many (λ x. p x && eqb (k x) c) s) * w c) ≡ sum_below n (λ c. bit (eqb (k x) c) * w c + many (λ x. p x && eqb (k x) c) s * w c)
          = below_same n _ _ (λ c l. grind arith) in
          omega arith
