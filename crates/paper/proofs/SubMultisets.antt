-- Sub-multisets: each is listed exactly once, and the rest of a rule is always one of those listed.
-- Assumes nothing.
use mathlib.Core.Path.{◌≡◌, refl, sym, ◌∙◌, ap}
use mathlib.Core.Logic.{◌⊎◌, inl, inr}
use mathlib.Core.Bool.{Bool, true, false, cond}
use mathlib.Core.List.Memᴰ
use mathlib.Core.List.{List, [], ◌∷◌, Memᴰ, map}
use Prim.Native.Nat.{ℕ, ◌+◌, ◌≤◌, ◌<◌}
use native.Mathlib.Omega.{arith}
use native.Mathlib.Decide.{dec_le, ℕ_discrete}
use lib.Dec.{eqb}
use lib.ListN.{length, get_or}
use borrow.Author.Tests.{eqb-false, eq-eqb}
use Rattle.paper.specs.Multiset.{bit, count, Arrangement, has, without, minus, keep, sub_multisets}
use Rattle.paper.proofs.Multiset.{count_self, count_other, count_has, count_without, arranged_cons, arranged_uncons, arranged_sym, arranged_trans, arranged_without}
use Rattle.paper.proofs.Lists.{mem_keep, keep_mem, place_mem, Distinct, distinct_append, distinct_places, distinct_keep, distinct_map}

-- r is listed as a sub-multiset of s
abbrev pub Listed : List ℕ → List ℕ → Type 0
Listed r s = Memᴰ r (sub_multisets s)

-- the listed rests of a ∷ s that have this a: those of s that have every later a, with a in front
abbrev full : ℕ → List ℕ → List (List ℕ)
full a s = keep (λ r. eqb (count a r) (count a s)) (sub_multisets s)

pub listed_missing : {r : List ℕ} (a : ℕ) (s : List ℕ) → Listed r s → Listed r (a ∷ s)
unfolding sub_multisets
listed_missing a s m = Memᴰ.append_left (map (a ∷◌) (full a s)) m

pub listed_present : {r : List ℕ} (a : ℕ) (s : List ℕ) → Listed r s → count a r ≡ count a s → Listed (a ∷ r) (a ∷ s)
unfolding sub_multisets
listed_present {r} a s m e = Memᴰ.append_right (sub_multisets s) (Memᴰ.map (a ∷◌) (mem_keep (λ q. eqb (count a q) (count a s)) (sub_multisets s) m (eq-eqb (count a r) (count a s) e)))

-- r has this a in front of q, and with it every later one
pub record Present (a : ℕ) (s : List ℕ) (r : List ℕ) : Type 0 where
  pub q : List ℕ
  pub listed : Listed q s
  pub every : count a q ≡ count a s
  pub r_is : r ≡ a ∷ q

present_mem : {r : List ℕ} (a : ℕ) (s : List ℕ) → Memᴰ r (map (a ∷◌) (full a s)) → Present a s r
present_mem a s m = grind (arith, Memᴰ.of_map, keep_mem)

-- how r is listed: its first member is missing, or it is there with every later one equal to it
pub listed_cases : {r : List ℕ} (a : ℕ) (s : List ℕ) → Listed r (a ∷ s) → Listed r s ⊎ Present a s r
unfolding sub_multisets
listed_cases {r} a s m = go (Memᴰ.append_cases (sub_multisets s) m)
  where
    go : Listed r s ⊎ Memᴰ r (map (a ∷◌) (full a s)) → Listed r s ⊎ Present a s r
    go (inl n) = inl n
    go (inr n) = inr (present_mem a s n)

pub listed_nil : {r : List ℕ} → Listed r [] → r ≡ []
unfolding sub_multisets
listed_nil m = Memᴰ.eq_of_singleton m

-- the whole is listed
pub listed_all : (s : List ℕ) → Listed s s
unfolding sub_multisets
listed_all [] = Memᴰ.head refl
listed_all (a ∷ s) = listed_present a s (listed_all s) refl

-- a listed one has no symbol more often than the whole
pub listed_count : (b : ℕ) {r : List ℕ} (s : List ℕ) → Listed r s → count b r ≤ count b s
unfolding count
listed_count b [] m = rw (listed_nil m) (omega arith)
listed_count b {r} (a ∷ s) m = go (listed_cases a s m) (λ q n. listed_count b s n)
  where
    go : Listed r s ⊎ Present a s r → ((q : List ℕ) → Listed q s → count b q ≤ count b s) → count b r ≤ bit (eqb b a) + count b s
    go (inl n) ih = let k = ih r n in omega arith
    go (inr p) ih = let k = ih p.q p.listed in rw p.r_is (omega arith)

-- ---- taking one away

count_without_other : (a b : ℕ) (s : List ℕ) → (a ≡ b → ⊥) → count a (without b s) ≡ count a s
unfolding count without
count_without_other a b [] ne = refl
count_without_other a b (c ∷ s) ne = grind (arith, count_without_other a b s ne)

pub listed_without : (b : ℕ) {r : List ℕ} (s : List ℕ) → Listed r s → Listed (without b r) s
unfolding without
listed_without b [] m = rw (listed_nil m) (listed_all [])
listed_without b {r} (a ∷ s) m = go (listed_cases a s m) (λ q n. listed_without b s n)
  where
    taken : (t : Bool) (q : List ℕ) → eqb b a ≡ t → Listed q s → count a q ≡ count a s → Listed (without b q) s → Listed (cond t q (a ∷ without b q)) (a ∷ s)
    taken true q e n f k = listed_missing a s n
    taken false q e n f k = listed_present a s k (count_without_other a b q (λ h. eqb-false b a e (sym h)) ∙ f)

    go : Listed r s ⊎ Present a s r → ((q : List ℕ) → Listed q s → Listed (without b q) s) → Listed (without b r) (a ∷ s)
    go (inl n) ih = listed_missing a s (ih r n)
    go (inr p) ih = rw p.r_is (taken (eqb b a) p.q refl p.listed p.every (ih p.q p.listed))

listed_less : (found : List ℕ) {r : List ℕ} (s : List ℕ) → Listed r s → Listed (minus r found) s
unfolding minus
listed_less [] s m = m
listed_less (a ∷ found) s m = listed_less found s (listed_without a s m)

-- the members less those found are listed, whatever is found
pub listed_minus : (members found : List ℕ) → Listed (minus members found) members
listed_minus members found = listed_less found members (listed_all members)

-- ---- exactly once

-- two listed ones that hold each symbol equally often are one
pub listed_same : (s : List ℕ) {r t : List ℕ} → Listed r s → Listed t s → Arrangement r t → r ≡ t
listed_same [] m n h = listed_nil m ∙ sym (listed_nil n)
listed_same (a ∷ s) {r} {t} m n h = go (listed_cases a s m) (listed_cases a s n) (λ p q u v k. listed_same s u v k)
  where
    go : Listed r s ⊎ Present a s r → Listed t s ⊎ Present a s t → ((p q : List ℕ) → Listed p s → Listed q s → Arrangement p q → p ≡ q) → r ≡ t
    go (inl u) (inl v) ih = ih r t u v h
    go (inl u) (inr y) ih = absurd (omega (arith, listed_count a s u, h.counts a, ap (count a) y.r_is, count_self a y.q))
    go (inr x) (inl v) ih = absurd (omega (arith, listed_count a s v, h.counts a, ap (count a) x.r_is, count_self a x.q))
    go (inr x) (inr y) ih =
        let k : Arrangement (a ∷ x.q) (a ∷ y.q) = rw (← x.r_is, ← y.r_is) h in
        x.r_is ∙ (ap (a ∷◌) (ih x.q y.q x.listed y.listed (arranged_uncons a x.q y.q k)) ∙ sym y.r_is)

-- a list that has no symbol more often than the whole is an arrangement of one that is listed
pub listed_exists : (s t : List ℕ) → ((b : ℕ) → count b t ≤ count b s) → (r : List ℕ) × Listed r s × Arrangement t r
unfolding count
listed_exists [] t h = grind (arith, listed_all)
listed_exists (a ∷ s) t h = go (dec_le (count a t) (count a s)) (λ u. listed_exists s u)
  where
    fewer : count a t ≤ count a s → (b : ℕ) → Dec (b ≡ a) → count b t ≤ count b s
    fewer l b (yes e) = rw e l
    fewer l b (no ne) = omega (arith, h b, count_other b a s ne)

    there : count a s < count a t → has a t ≡ true
    there l = count_has a t (omega arith)

    less : (l : count a s < count a t) (b : ℕ) → Dec (b ≡ a) → count b (without a t) ≤ count b s
    less l b (yes e) = rw e (omega (arith, count_without a a t (there l), h a, count_self a s, ap bit (eq-eqb a a refl)))
    less l b (no ne) = omega (arith, h b, count_without a b t (there l), count_other b a s ne)

    go : Dec (count a t ≤ count a s) → ((u : List ℕ) → ((b : ℕ) → count b u ≤ count b s) → (r : List ℕ) × Listed r s × Arrangement u r) → (r : List ℕ) × Listed r (a ∷ s) × Arrangement t r
    go (yes l) ih = let x = ih t (λ b. fewer l b (ℕ_discrete b a)) in (x.0, listed_missing a s x.1, x.2)
    go (no l) ih =
        let k : count a s < count a t = omega arith in
        let x = ih (without a t) (λ b. less k b (ℕ_discrete b a)) in
        let e : count a x.0 ≡ count a s = omega (arith, x.2.counts a, count_without a a t (there k), h a, count_self a s, ap bit (eq-eqb a a refl)) in
        (a ∷ x.0, listed_present a s x.1 e, arranged_trans (arranged_sym (arranged_without a t (there k))) (arranged_cons a x.2))

-- no two that are listed are equal
pub listed_distinct : (s : List ℕ) → Distinct (sub_multisets s)
unfolding sub_multisets
listed_distinct [] = (λ m. Memᴰ.not-nil m, tt)
listed_distinct (a ∷ s) =
    distinct_append (sub_multisets s) (map (a ∷◌) (full a s)) (listed_distinct s)
    (distinct_map (a ∷◌) (λ x y e. cc) (full a s) (distinct_keep (λ r. eqb (count a r) (count a s)) (sub_multisets s) (listed_distinct s)))
    (λ x m n. let p = present_mem a s n in omega (arith, listed_count a s m, ap (count a) p.r_is, count_self a p.q, p.every))

-- no two places have the same sub-multiset, in whatever order
pub listed_once : (s : List ℕ) (i j : ℕ) → i < j → j < length (sub_multisets s) → Arrangement (get_or (sub_multisets s) i []) (get_or (sub_multisets s) j []) → ⊥
listed_once s i j l k same =
    distinct_places [] (sub_multisets s) i j (listed_distinct s) l k
    (listed_same s (place_mem [] (sub_multisets s) i (omega arith)) (place_mem [] (sub_multisets s) j k) same)
