-- Closing a list by rounds: the closed list ascends, has what it began with, has nothing that is not derived, and lacks no consequence.
-- Assumes nothing.
use mathlib.Core.Path.{◌≡◌, refl, sym, ◌∙◌, ap}
use mathlib.Core.Logic.{◌⊎◌, inl, inr}
use mathlib.Core.Bool.{Bool, true, false, cond}
use mathlib.Core.List.Memᴰ
use mathlib.Core.List.{List, [], ◌∷◌, Memᴰ, map}
use Prim.Native.Nat.{ℕ, zero, suc, ◌+◌, ◌≤◌, ◌<◌}
use native.Mathlib.Omega.{arith}
use lib.Dec.{eqb, ltb}
use lib.ListN.{length, get_or}
use borrow.Author.Tests.{eqb-true, eqb-false, ltb-true}
use Rattle.paper.specs.Multiset.{StrictlyAscending}
use Rattle.paper.specs.Building.{insert, insert_all, close}
use Rattle.paper.proofs.Lists.{Distinct, pigeonhole}

-- ---- ascending lists

-- strictly ascending, and the first is at least b
abbrev pub Climbs : ℕ → List ℕ → Type 0
Climbs b [] = Unit {0}
Climbs b (a ∷ s) = (b ≤ a) × Climbs (suc a) s

pub climbs_lower : (b c : ℕ) (s : List ℕ) → c ≤ b → Climbs b s → Climbs c s
climbs_lower b c [] l h = tt
climbs_lower b c (a ∷ s) l h = (omega arith, h.1)

climbs_at : (b : ℕ) (s : List ℕ) (i : ℕ) → Climbs b s → i < length s → b ≤ get_or s i 0
climbs_at b [] i h l = absurd (omega arith)
climbs_at b (a ∷ s) zero h l = h.0
climbs_at b (a ∷ s) (suc i) h l = let k = climbs_at (suc a) s i h.1 (omega arith) in omega arith

climbs_up : (b : ℕ) (s : List ℕ) (i j : ℕ) → Climbs b s → i < j → j < length s → get_or s i 0 < get_or s j 0
climbs_up b [] i j h l k = absurd (omega arith)
climbs_up b (a ∷ s) i zero h l k = absurd (omega arith)
climbs_up b (a ∷ s) zero (suc j) h l k = climbs_at (suc a) s j h.1 (omega arith)
climbs_up b (a ∷ s) (suc i) (suc j) h l k = climbs_up (suc a) s i j h.1 (omega arith) (omega arith)

pub climbs_ascending : (b : ℕ) (s : List ℕ) → Climbs b s → StrictlyAscending s
climbs_ascending b s h = record { ascend = λ i j. climbs_up b s i j h }

ascending_tail : (a : ℕ) (s : List ℕ) → StrictlyAscending (a ∷ s) → StrictlyAscending s
ascending_tail a s h = record { ascend = λ i j l k. h.ascend (suc i) (suc j) (omega arith) (omega arith) }

pub ascending_climbs : (b : ℕ) (s : List ℕ) → ((i : ℕ) → i < length s → b ≤ get_or s i 0) → StrictlyAscending s → Climbs b s
ascending_climbs b [] low h = tt
ascending_climbs b (a ∷ s) low h = (low 0 (omega arith), ascending_climbs (suc a) s (λ i l. h.ascend 0 (suc i) (omega arith) (omega arith)) (ascending_tail a s h))

module _ {A : Type 0} (key : A → ℕ) where
  pub climbs_above : {x : A} (b : ℕ) (s : List A) → Climbs b (map key s) → Memᴰ x s → b ≤ key x
  climbs_above b [] h m = absurd (Memᴰ.not-nil m)
  climbs_above {x} b (y ∷ s) h m = go (Memᴰ.cases_cons m) (climbs_above (suc (key y)) s h.1)
    where
      go : (x ≡ y) ⊎ Memᴰ x s → (Memᴰ x s → suc (key y) ≤ key x) → b ≤ key x
      go (inl q) ih = rw q h.0
      go (inr n) ih = let k = ih n in omega arith

  pub climbs_distinct : (b : ℕ) (s : List A) → Climbs b (map key s) → Distinct s
  climbs_distinct b [] h = tt
  climbs_distinct b (x ∷ s) h = grind (arith, climbs_above, climbs_distinct (suc (key x)) s h.1)

  -- the head of one ascending list is the head of the other, if each stands in the other
  heads : {x y : A} (s t : List A) → Climbs (suc (key x)) (map key s) → Climbs (suc (key y)) (map key t) → Memᴰ x (y ∷ t) → Memᴰ y (x ∷ s) → x ≡ y
  heads {x} {y} s t h k m n = grind (arith, climbs_above)

  -- what stands behind the head of one stands behind the head of the other
  behind : {x y z : A} (s t : List A) → x ≡ y → Climbs (suc (key x)) (map key s) → Memᴰ z s → Memᴰ z (y ∷ t) → Memᴰ z t
  behind {x} {y} {z} s t e h m n = grind (arith, climbs_above)

  -- two ascending lists with the same members are equal
  pub climbs_same : (b c : ℕ) (s t : List A) → Climbs b (map key s) → Climbs c (map key t) → ((x : A) → Memᴰ x s → Memᴰ x t) → ((x : A) → Memᴰ x t → Memᴰ x s) → s ≡ t
  climbs_same b c [] [] h k to from = refl
  climbs_same b c [] (y ∷ t) h k to from = absurd (Memᴰ.not-nil (from y (Memᴰ.head refl)))
  climbs_same b c (x ∷ s) [] h k to from = absurd (Memᴰ.not-nil (to x (Memᴰ.head refl)))
  climbs_same b c (x ∷ s) (y ∷ t) h k to from =
      let e : x ≡ y = heads s t h.1 k.1 (to x (Memᴰ.head refl)) (from y (Memᴰ.head refl)) in
      let r : s ≡ t = climbs_same (suc (key x)) (suc (key y)) s t h.1 k.1 (λ z m. behind s t e h.1 m (to z (Memᴰ.tail m))) (λ z m. behind t s (sym e) k.1 m (from z (Memᴰ.tail m))) in
      cc

  -- ---- inserting one

  -- The two tests of `insert` are variables in these steps; r is what the insertion behind the head gives.
  module _ (x y : A) (s r : List A) where
    abbrev step : Bool → Bool → List A
    step before same = cond before (x ∷ y ∷ s) (y ∷ cond same s r)

    step_keeps : {z : A} (b c : Bool) → (z ≡ y) ⊎ Memᴰ z s → (Memᴰ z s → Memᴰ z r) → Memᴰ z (step b c)
    step_keeps true c (inl q) ih = Memᴰ.tail (Memᴰ.head q)
    step_keeps true c (inr m) ih = Memᴰ.tail (Memᴰ.tail m)
    step_keeps false c (inl q) ih = Memᴰ.head q
    step_keeps false true (inr m) ih = Memᴰ.tail m
    step_keeps false false (inr m) ih = Memᴰ.tail (ih m)

    step_has : (b c : Bool) → (c ≡ true → x ≡ y) → Memᴰ x r → Memᴰ x (step b c)
    step_has true c same ih = Memᴰ.head refl
    step_has false true same ih = Memᴰ.head (same refl)
    step_has false false same ih = Memᴰ.tail ih

    behind_head : {z : A} → (z ≡ y) ⊎ Memᴰ z r → (Memᴰ z r → (z ≡ x) ⊎ Memᴰ z s) → (z ≡ x) ⊎ Memᴰ z (y ∷ s)
    behind_head (inl q) ih = inr (Memᴰ.head q)
    behind_head {z} (inr m) ih = go (ih m)
      where
        go : (z ≡ x) ⊎ Memᴰ z s → (z ≡ x) ⊎ Memᴰ z (y ∷ s)
        go (inl q) = inl q
        go (inr n) = inr (Memᴰ.tail n)

    step_from : {z : A} (b c : Bool) → Memᴰ z (step b c) → (Memᴰ z r → (z ≡ x) ⊎ Memᴰ z s) → (z ≡ x) ⊎ Memᴰ z (y ∷ s)
    step_from true c m ih = Memᴰ.cases_cons m
    step_from false true m ih = inr m
    step_from false false m ih = behind_head (Memᴰ.cases_cons m) ih

    step_climbs : (a : ℕ) (b c : Bool) → ltb (key x) (key y) ≡ b → eqb (key x) (key y) ≡ c → a ≤ key x → Climbs a (map key (y ∷ s))
        → (suc (key y) ≤ key x → Climbs (suc (key y)) (map key r)) → Climbs a (map key (step b c))
    step_climbs a true c e f low h ih = (low, (ltb-true (key x) (key y) e, h.1))
    step_climbs a false true e f low h ih = h
    step_climbs a false false e f low h ih = grind arith

  insert_keeps : {z : A} (x : A) (s : List A) → Memᴰ z s → Memᴰ z (insert key x s)
  unfolding insert
  insert_keeps x [] m = absurd (Memᴰ.not-nil m)
  insert_keeps x (y ∷ s) m = step_keeps x y s (insert key x s) (ltb (key x) (key y)) (eqb (key x) (key y)) (Memᴰ.cases_cons m) (insert_keeps x s)

  insert_has : (x : A) (s : List A) → ((y : A) → Memᴰ y s → key x ≡ key y → x ≡ y) → Memᴰ x (insert key x s)
  unfolding insert
  insert_has x [] same = Memᴰ.head refl
  insert_has x (y ∷ s) same =
      step_has x y s (insert key x s) (ltb (key x) (key y)) (eqb (key x) (key y)) (λ e. same y (Memᴰ.head refl) (eqb-true (key x) (key y) e)) (insert_has x s (λ z m. same z (Memᴰ.tail m)))

  insert_from : {z : A} (x : A) (s : List A) → Memᴰ z (insert key x s) → (z ≡ x) ⊎ Memᴰ z s
  unfolding insert
  insert_from x [] m = Memᴰ.cases_cons m
  insert_from x (y ∷ s) m = step_from x y s (insert key x s) (ltb (key x) (key y)) (eqb (key x) (key y)) m (insert_from x s)

  insert_climbs : (a : ℕ) (x : A) (s : List A) → a ≤ key x → Climbs a (map key s) → Climbs a (map key (insert key x s))
  unfolding insert
  insert_climbs a x [] low h = (low, tt)
  insert_climbs a x (y ∷ s) low h =
      step_climbs x y s (insert key x s) a (ltb (key x) (key y)) (eqb (key x) (key y)) refl refl low h (λ l. insert_climbs (suc (key y)) x s l h.1)

  insert_longer : (x : A) (s : List A) → length s ≤ length (insert key x s)
  unfolding insert
  insert_longer x [] = omega arith
  insert_longer x (y ∷ s) = grind (arith, insert_longer x s)

  insert_same : (x : A) (s : List A) → length (insert key x s) ≡ length s → insert key x s ≡ s
  unfolding insert
  insert_same x [] e = absurd (omega arith)
  insert_same x (y ∷ s) e = grind (arith, insert_same x s)

  -- ---- inserting many

  pub insert_all_keeps : {z : A} (xs s : List A) → Memᴰ z s → Memᴰ z (insert_all key xs s)
  unfolding insert_all
  insert_all_keeps [] s m = m
  insert_all_keeps (x ∷ xs) s m = insert_all_keeps xs (insert key x s) (insert_keeps x s m)

  pub insert_all_climbs : (xs s : List A) → Climbs 0 (map key s) → Climbs 0 (map key (insert_all key xs s))
  unfolding insert_all
  insert_all_climbs [] s h = h
  insert_all_climbs (x ∷ xs) s h = insert_all_climbs xs (insert key x s) (insert_climbs 0 x s (omega arith) h)

  insert_all_longer : (xs s : List A) → length s ≤ length (insert_all key xs s)
  unfolding insert_all
  insert_all_longer [] s = omega arith
  insert_all_longer (x ∷ xs) s = omega (arith, insert_longer x s, insert_all_longer xs (insert key x s))

  insert_all_same : (xs s : List A) → length (insert_all key xs s) ≡ length s → insert_all key xs s ≡ s
  unfolding insert_all
  insert_all_same [] s e = refl
  insert_all_same (x ∷ xs) s e =
      let first : insert key x s ≡ s = insert_same x s (omega (arith, insert_longer x s, insert_all_longer xs (insert key x s))) in
      insert_all_same xs (insert key x s) (e ∙ sym (ap length first)) ∙ first

-- every element has the property
abbrev pub Every : {A : Type 0} → (A → Type 0) → List A → Type 0
Every {A} P s = (x : A) → Memᴰ x s → P x

module _ {A : Type 0} (key : A → ℕ) (P : A → Type 0) where
  every_insert : (x : A) (s : List A) → P x → Every P s → Every P (insert key x s)
  every_insert x s px ps z m = grind (arith, insert_from)

  pub every_insert_all : (xs s : List A) → Every P xs → Every P s → Every P (insert_all key xs s)
  unfolding insert_all
  every_insert_all [] s hx hs = hs
  every_insert_all (x ∷ xs) s hx hs = every_insert_all xs (insert key x s) (λ z m. hx z (Memᴰ.tail m)) (every_insert x s (hx x (Memᴰ.head refl)) hs)

  -- keys tell those with the property apart
  module _ (same : (x y : A) → P x → P y → key x ≡ key y → x ≡ y) where
    pub insert_all_has : {z : A} (xs s : List A) → Every P xs → Every P s → Memᴰ z xs → Memᴰ z (insert_all key xs s)
    unfolding insert_all
    insert_all_has [] s hx hs m = absurd (Memᴰ.not-nil m)
    insert_all_has {z} (x ∷ xs) s hx hs m =
        go (Memᴰ.cases_cons m) (insert_all_has xs (insert key x s) (λ y n. hx y (Memᴰ.tail n)) (every_insert x s (hx x (Memᴰ.head refl)) hs))
      where
        go : (z ≡ x) ⊎ Memᴰ z xs → (Memᴰ z xs → Memᴰ z (insert_all key xs (insert key x s))) → Memᴰ z (insert_all key xs (insert key x s))
        go (inl q) ih =
            let px = hx x (Memᴰ.head refl) in
            Memᴰ.cast q (insert_all_keeps key xs (insert key x s) (insert_has key x s (λ y n e. same x y px (hs y n) e)))
        go (inr n) ih = ih n

-- ---- rounds

module _ {A : Type 0} (key : A → ℕ) (consequences : List A → List A) where
  abbrev next : List A → List A
  next s = insert_all key (consequences s) s

  -- what holds of a list and goes over from a list to the next round holds of the closed list
  close_holds : (Q : List A → Type 0) → ((s : List A) → Q s → Q (next s)) → (fuel : ℕ) (s : List A) → Q s → Q (close key consequences fuel s)
  unfolding close
  close_holds Q go_on zero s h = h
  close_holds Q go_on (suc fuel) s h = grind (arith, close_holds Q go_on fuel (next s) (go_on s h))

  pub close_keeps : {z : A} (fuel : ℕ) (s : List A) → Memᴰ z s → Memᴰ z (close key consequences fuel s)
  close_keeps {z} = close_holds (λ s. Memᴰ z s) (λ s m. insert_all_keeps key (consequences s) s m)

  pub close_climbs : (fuel : ℕ) (s : List A) → Climbs 0 (map key s) → Climbs 0 (map key (close key consequences fuel s))
  close_climbs = close_holds (λ s. Climbs 0 (map key s)) (λ s h. insert_all_climbs key (consequences s) s h)

  -- all of the closed list is derived
  pub close_every : (P : A → Type 0) → ((s : List A) → Every P s → Every P (consequences s)) → (fuel : ℕ) (s : List A) → Every P s → Every P (close key consequences fuel s)
  close_every P derived = close_holds (λ s. Every P s) (λ s h. every_insert_all key P (consequences s) s (derived s h) h)

  -- P is what can be derived at all: keys tell its elements apart, and they stand in a finite list
  module _ (P : A → Type 0) (same : (x y : A) → P x → P y → key x ≡ key y → x ≡ y) (universe : List A) (finite : (x : A) → P x → Memᴰ x universe)
      (derived : (s : List A) → Every P s → Every P (consequences s)) where
    -- with fuel enough the closed list has all its consequences
    pub close_closed : (fuel : ℕ) (s : List A) → length universe < fuel + length s → Climbs 0 (map key s) → Every P s
        → Every (λ x. Memᴰ x (close key consequences fuel s)) (consequences (close key consequences fuel s))
    unfolding close
    close_closed zero s enough h hs = grind (arith, pigeonhole, climbs_distinct)
    close_closed (suc fuel) s enough h hs =
        go (eqb (length (next s)) (length s)) refl (λ l. close_closed fuel (next s) l (insert_all_climbs key (consequences s) s h) (every_insert_all key P (consequences s) s (derived s hs) hs))
      where
        Goal : List A → Type 0
        Goal t = Every (λ x. Memᴰ x t) (consequences t)

        go : (b : Bool) → eqb (length (next s)) (length s) ≡ b → (length universe < fuel + length (next s) → Goal (close key consequences fuel (next s)))
            → Goal (close key consequences (suc fuel) s)
        go true e ih = rw (e, close, close) (λ x m. rw (insert_all_same key (consequences s) s (eqb-true (length (next s)) (length s) e)) at (insert_all_has key P same (consequences s) s (derived s hs) hs m))
        go false e ih = rw (e, close, close) (ih (omega (arith, eqb-false (length (next s)) (length s) e, insert_all_longer key (consequences s) s)))
