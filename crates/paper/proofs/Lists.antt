-- Laws of lists: members of kept, mapped and gathered lists, lists without repeats, and the pigeonhole.
-- Assumes nothing.
use mathlib.Core.Path.{◌≡◌, refl, sym, ◌∙◌, ap}
use mathlib.Core.Logic.{◌⊎◌, inl, inr}
use mathlib.Core.Bool.{Bool, true, false, cond}
use mathlib.Core.List.Memᴰ
use mathlib.Core.List.{List, [], ◌∷◌, ◌++◌, Memᴰ, map, flat_map}
use Prim.Native.Nat.{ℕ, zero, suc, ◌+◌, ◌≤◌, ◌<◌}
use native.Mathlib.Omega.{arith}
use native.Mathlib.Decide.{dec_lt}
use lib.ListN.{length, get_or}
use Rattle.paper.specs.Multiset.{keep}
use Rattle.paper.specs.Sheet.{sum}
use Rattle.paper.specs.Building.{below}

-- ---- members

module _ {A : Type 0} (p : A → Bool) where
  pub mem_keep : {x : A} (s : List A) → Memᴰ x s → p x ≡ true → Memᴰ x (keep p s)
  unfolding keep
  mem_keep [] m h = m
  mem_keep {x} (y ∷ s) m h = go (p y) refl (Memᴰ.cases_cons m) (λ n. mem_keep s n h)
    where
      go : (b : Bool) → p y ≡ b → (x ≡ y) ⊎ Memᴰ x s → (Memᴰ x s → Memᴰ x (keep p s)) → Memᴰ x (cond b (y ∷ keep p s) (keep p s))
      go true e (inl q) ih = Memᴰ.head q
      go true e (inr n) ih = Memᴰ.tail (ih n)
      go false e (inl q) ih = absurd (let z : ◌≡◌ {A = Bool} true false = sym h ∙ (ap p q ∙ e) in cc)
      go false e (inr n) ih = ih n

  pub keep_mem : {x : A} (s : List A) → Memᴰ x (keep p s) → Memᴰ x s × (p x ≡ true)
  unfolding keep
  keep_mem [] m = absurd (Memᴰ.not-nil m)
  keep_mem {x} (y ∷ s) m = go (p y) refl m (λ n. keep_mem s n)
    where
      here : p y ≡ true → (x ≡ y) ⊎ Memᴰ x (keep p s) → (Memᴰ x (keep p s) → Memᴰ x s × (p x ≡ true)) → Memᴰ x (y ∷ s) × (p x ≡ true)
      here e (inl q) ih = (Memᴰ.head q, ap p q ∙ e)
      here e (inr n) ih = (Memᴰ.tail (ih n).0, (ih n).1)

      go : (b : Bool) → p y ≡ b → Memᴰ x (cond b (y ∷ keep p s) (keep p s)) → (Memᴰ x (keep p s) → Memᴰ x s × (p x ≡ true)) → Memᴰ x (y ∷ s) × (p x ≡ true)
      go true e n ih = here e (Memᴰ.cases_cons n) ih
      go false e n ih = (Memᴰ.tail (ih n).0, (ih n).1)

module _ {A B : Type 0} where
  pub mem_flat_map : (f : A → List B) {x : A} {y : B} (s : List A) → Memᴰ x s → Memᴰ y (f x) → Memᴰ y (flat_map f s)
  unfolding flat_map
  mem_flat_map f [] m n = absurd (Memᴰ.not-nil m)
  mem_flat_map f {x} {y} (a ∷ s) m n = go (Memᴰ.cases_cons m) (λ k. mem_flat_map f s k n)
    where
      go : (x ≡ a) ⊎ Memᴰ x s → (Memᴰ x s → Memᴰ y (flat_map f s)) → Memᴰ y (f a ++ flat_map f s)
      go (inl q) ih = Memᴰ.append_left (flat_map f s) (rw q at n)
      go (inr k) ih = Memᴰ.append_right (f a) (ih k)

  pub flat_map_mem : (f : A → List B) {y : B} (s : List A) → Memᴰ y (flat_map f s) → (x : A) × Memᴰ x s × Memᴰ y (f x)
  unfolding flat_map
  flat_map_mem f [] m = absurd (Memᴰ.not-nil m)
  flat_map_mem f {y} (a ∷ s) m = go (Memᴰ.append_cases (f a) m) (λ n. flat_map_mem f s n)
    where
      go : Memᴰ y (f a) ⊎ Memᴰ y (flat_map f s) → (Memᴰ y (flat_map f s) → (x : A) × Memᴰ x s × Memᴰ y (f x)) → (x : A) × Memᴰ x (a ∷ s) × Memᴰ y (f x)
      go (inl n) ih = (a, Memᴰ.head refl, n)
      go (inr n) ih = let r = ih n in (r.0, Memᴰ.tail r.1, r.2)

-- what stands at a place of a list is a member of it; d stands past its end
pub place_mem : {A : Type 0} (d : A) (s : List A) (k : ℕ) → k < length s → Memᴰ (get_or s k d) s
place_mem d [] k l = absurd (omega arith)
place_mem d (x ∷ s) zero l = Memᴰ.head refl
place_mem d (x ∷ s) (suc k) l = Memᴰ.tail (place_mem d s k (omega arith))

pub mem_below : (h n : ℕ) → h < n → Memᴰ h (below n)
unfolding below
mem_below h zero l = absurd (omega arith)
mem_below h (suc n) l = go (dec_lt h n) (λ k. mem_below h n k)
  where
    go : Dec (h < n) → (h < n → Memᴰ h (below n)) → Memᴰ h (n ∷ below n)
    go (yes k) ih = Memᴰ.tail (ih k)
    go (no k) ih = let e : h ≡ n = omega arith in Memᴰ.head e

pub below_mem : {h : ℕ} (n : ℕ) → Memᴰ h (below n) → h < n
unfolding below
below_mem zero m = absurd (Memᴰ.not-nil m)
below_mem {h} (suc n) m = go (Memᴰ.cases_cons m) (λ k. below_mem n k)
  where
    go : (h ≡ n) ⊎ Memᴰ h (below n) → (Memᴰ h (below n) → h < n) → h < suc n
    go (inl q) ih = omega arith
    go (inr k) ih = omega (arith, ih k)

-- ---- no repeats

module _ {A : Type 0} where
  -- no element stands twice
  abbrev pub Distinct : List A → Type 0
  Distinct [] = Unit {0}
  Distinct (x ∷ s) = (Memᴰ x s → ⊥) × Distinct s

  -- the list less the element at that place
  abbrev less : {x : A} {s : List A} → Memᴰ x s → List A
  less (Memᴰ.head {xs = s} e) = s
  less (Memᴰ.tail {x = y} m) = y ∷ less m

  sum_less : (weight : A → ℕ) {x : A} {s : List A} (m : Memᴰ x s) → weight x + sum weight (less m) ≡ sum weight s
  unfolding sum
  sum_less weight (Memᴰ.head {xs = s} e) = cc
  sum_less weight (Memᴰ.tail m) = omega (arith, sum_less weight m)

  less_other : {x y : A} {s : List A} (m : Memᴰ x s) → Memᴰ y s → (y ≡ x → ⊥) → Memᴰ y (less m)
  less_other {x} {y} (Memᴰ.head {x = z} {xs = s} e) n ne = go (Memᴰ.cases_cons n)
    where
      go : (y ≡ z) ⊎ Memᴰ y s → Memᴰ y s
      go (inl q) = absurd (ne (q ∙ sym e))
      go (inr k) = k
  less_other {x} {y} (Memᴰ.tail {x = z} {xs = s} m) n ne = go (Memᴰ.cases_cons n) (λ k. less_other m k ne)
    where
      go : (y ≡ z) ⊎ Memᴰ y s → (Memᴰ y s → Memᴰ y (less m)) → Memᴰ y (z ∷ less m)
      go (inl q) ih = Memᴰ.head q
      go (inr k) ih = Memᴰ.tail (ih k)

  -- the pigeonhole, for members of any weight: a list without repeats inside another weighs no more than that
  pub pigeonhole_sum : (weight : A → ℕ) (s t : List A) → Distinct s → ((x : A) → Memᴰ x s → Memᴰ x t) → sum weight s ≤ sum weight t
  unfolding sum
  pigeonhole_sum weight [] t d h = omega arith
  pigeonhole_sum weight (x ∷ s) t d h =
      let m = h x (Memᴰ.head refl) in
      let k : sum weight s ≤ sum weight (less m) = pigeonhole_sum weight s (less m) d.1 (λ y n. less_other m (h y (Memᴰ.tail n)) (λ e. d.0 (Memᴰ.cast (sym e) n))) in
      omega (arith, sum_less weight m)

  length_sum : (s : List A) → length s ≡ sum (λ x. 1) s
  unfolding sum
  length_sum [] = refl
  length_sum (x ∷ s) = omega (arith, length_sum s)

  -- and it is no longer
  pub pigeonhole : (s t : List A) → Distinct s → ((x : A) → Memᴰ x s → Memᴰ x t) → length s ≤ length t
  pigeonhole s t d h = grind (arith, length_sum, pigeonhole_sum)

  pub distinct_append : (s t : List A) → Distinct s → Distinct t → ((x : A) → Memᴰ x s → Memᴰ x t → ⊥) → Distinct (s ++ t)
  distinct_append [] t d e apart = e
  distinct_append (x ∷ s) t d e apart = (λ m. go (Memᴰ.append_cases s m), distinct_append s t d.1 e (λ y m n. apart y (Memᴰ.tail m) n))
    where
      go : Memᴰ x s ⊎ Memᴰ x t → ⊥
      go (inl m) = d.0 m
      go (inr m) = apart x (Memᴰ.head refl) m

  pub distinct_places : (d : A) (s : List A) (i j : ℕ) → Distinct s → i < j → j < length s → get_or s i d ≡ get_or s j d → ⊥
  distinct_places d [] i j h l k e = omega arith
  distinct_places d (x ∷ s) i zero h l k e = omega arith
  distinct_places d (x ∷ s) zero (suc j) h l k e = h.0 (Memᴰ.cast e (place_mem d s j (omega arith)))
  distinct_places d (x ∷ s) (suc i) (suc j) h l k e = distinct_places d s i j h.1 (omega arith) (omega arith) e

  pub distinct_keep : (p : A → Bool) (s : List A) → Distinct s → Distinct (keep p s)
  unfolding keep
  distinct_keep p [] d = tt
  distinct_keep p (x ∷ s) d = grind (arith, keep_mem, distinct_keep p s d.1)

pub distinct_map : {A B : Type 0} (f : A → B) → ((x y : A) → f x ≡ f y → x ≡ y) → (s : List A) → Distinct s → Distinct (map f s)
distinct_map f inj [] d = tt
distinct_map f inj (x ∷ s) d = grind (arith, Memᴰ.of_map, distinct_map f inj s d.1)
