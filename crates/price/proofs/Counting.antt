-- How many sub-multisets an ascending list has, counted from its end, where each member either begins a run of equals or lengthens the one behind it;
-- and the sum over the rules.
-- Assumes nothing.
use Rattle.std.proofs.Common.{ℕ, suc, ◌≡◌, ◌≢◌, ◌+◌, ◌*◌, ◌^◌, ◌≤◌, ◌<◌, ◌⊎◌, inl, inr, refl, sym, ◌∙◌, ap, Bool, true, false, List, [], ◌∷◌, length, length-append, length-drop, get_or, drop, arith, drop-cons}
use mathlib.Core.List.{Memᴰ, map}
use lib.Dec.{eqb}
use borrow.Author.Tests.{eqb-true, eq-eqb, ne_eqb}
use Rattle.std.proofs.Math.Nat.{pow-le-pow_right}
use Rattle.std.proofs.lemmas.Grind.{pow_more}
use native.Mathlib.Decide.{dec_le}
use Rattle.std.proofs.Math.Seq.{drop-length}
use Rattle.std.proofs.lemmas.List.{length-map, get_or-drop}
use Rattle.paper.specs.Multiset.{bit, count, keep, Ascending, sub_multisets}
use Rattle.paper.specs.Grammar.{Grammar, rule_count, members}
use Rattle.paper.specs.Sheet.{sum, many, sum_below}
use Rattle.paper.specs.Price.{rests}
use Rattle.paper.proofs.Multiset.{count_self}
use Rattle.paper.proofs.Sums.{sum_append, sum_map, sum_places, many_le, length_keep}
use Rattle.paper.proofs.Lists.{keep_mem}
use Rattle.paper.proofs.SubMultisets.{listed_count}

-- ---- a member more

module _ {A : Type 0} (p : A → Bool) where
  many_all : (s : List A) → ((x : A) → Memᴰ x s → p x ≡ true) → many p s ≡ length s
  unfolding sum
  many_all [] h = refl
  many_all (x ∷ s) h = omega (arith, ap bit (h x (Memᴰ.head refl)), many_all s (λ y m. h y (Memᴰ.tail m)))

  many_none : (s : List A) → ((x : A) → Memᴰ x s → p x ≡ false) → many p s ≡ 0
  unfolding sum
  many_none [] h = refl
  many_none (x ∷ s) h = omega (arith, ap bit (h x (Memᴰ.head refl)), many_none s (λ y m. h y (Memᴰ.tail m)))

-- has r every a of s?
abbrev has_every : ℕ → List ℕ → List ℕ → Bool
has_every a s r = eqb (count a r) (count a s)

-- how many sub-multisets of s have every a of s
abbrev pub whole_count : ℕ → List ℕ → ℕ
whole_count a s = length (keep (has_every a s) (sub_multisets s))

-- A member more is missing, or it is there with every later equal.
sub_cons : (a : ℕ) (s : List ℕ) → length (sub_multisets (a ∷ s)) ≡ length (sub_multisets s) + whole_count a s
unfolding sub_multisets
sub_cons a s = grind (arith, length-append, length-map)

-- With no a, every sub-multiset has all there are.
whole_absent : (a : ℕ) (s : List ℕ) → count a s ≡ 0 → whole_count a s ≡ length (sub_multisets s)
whole_absent a s e =
    length_keep (has_every a s) (sub_multisets s)
    ∙ many_all (has_every a s) (sub_multisets s) (λ r m. let l = listed_count a s m in eq-eqb (count a r) (count a s) (omega arith))

-- Those that have every a of a ∷ s are those that have every a of s, each with one more.
whole_self : (a : ℕ) (s : List ℕ) → whole_count a (a ∷ s) ≡ whole_count a s
unfolding sub_multisets
whole_self a s =
    omega (
      arith,
      length_keep (has_every a (a ∷ s)) (sub_multisets (a ∷ s)),
      sum_append (λ r. bit (has_every a (a ∷ s) r)) (sub_multisets s) (map (a ∷◌) (keep (has_every a s) (sub_multisets s))),
      many_none (has_every a (a ∷ s)) (sub_multisets s)
          (λ r m. let l = listed_count a s m in ne_eqb (count a r) (count a (a ∷ s)) (λ e. omega (arith, e, count_self a s))),
      sum_map (λ r. bit (has_every a (a ∷ s) r)) (a ∷◌) (keep (has_every a s) (sub_multisets s)),
      many_all (λ r. has_every a (a ∷ s) (a ∷ r)) (keep (has_every a s) (sub_multisets s))
          (λ r m. eq-eqb (count a (a ∷ r)) (count a (a ∷ s)) (omega (arith, count_self a r, count_self a s, eqb-true (count a r) (count a s) (keep_mem (has_every a s) (sub_multisets s) m).1))),
    )

power_more : (n : ℕ) → 2 ^ suc n ≡ 2 * 2 ^ n
power_more n = omega (arith, pow_more 2 n)

-- a list has at most 2^n sub-multisets, where n is its length
sub_few : (s : List ℕ) → length (sub_multisets s) ≤ 2 ^ length s
unfolding sub_multisets
sub_few [] = omega arith
sub_few (a ∷ s) = omega (arith, sub_cons a s, length_keep (has_every a s) (sub_multisets s), many_le (has_every a s) (sub_multisets s), sub_few s, power_more (length s))

-- ---- what the loop over the members keeps

-- of the members from k on: `all` sub-multisets, and `whole` of them with every member equal to member k, which is `next`
pub record Counted (members : List ℕ) (k next all whole : ℕ) : Type 0 where
  pub all_is : all ≡ length (sub_multisets (drop k members))
  pub whole_is : whole ≡ whole_count next (drop k members)
  pub next_is : k < length members → get_or members k 0 ≡ next

pub counted_none : (m : List ℕ) → Counted m (length m) 0 1 1
unfolding sub_multisets keep count
counted_none m = record { all_is = rw (drop-length m) refl; whole_is = rw (drop-length m) refl; next_is = λ l. absurd (omega arith) }

-- member k lengthens the run behind it
counted_same : {m : List ℕ} {k next all whole : ℕ} → Counted m (suc k) next all whole → k < length m → get_or m k 0 ≡ next → Counted m k next (all + whole) whole
counted_same {m} {k} {next} h l e =
    record {
      all_is = rw (drop-cons m k 0 l) (rw e (omega (arith, sub_cons next (drop (suc k) m), h.all_is, h.whole_is)));
      whole_is = rw (drop-cons m k 0 l) (rw e (h.whole_is ∙ sym (whole_self next (drop (suc k) m))));
      next_is = λ q. e;
    }

count_above : (a : ℕ) (s : List ℕ) → ((k : ℕ) → k < length s → a < get_or s k 0) → count a s ≡ 0
unfolding count
count_above a [] h = refl
count_above a (b ∷ s) h =
    let l : a < b = h 0 (omega arith) in
    omega (arith, ap bit (ne_eqb a b (λ e. omega arith)), count_above a s (λ k q. h (suc k) (omega arith)))

-- what stands behind a member that is unlike the next one is above it
later_above : {m : List ℕ} {k next : ℕ} → Ascending m → (suc k < length m → get_or m (suc k) 0 ≡ next) → get_or m k 0 ≢ next → (j : ℕ) → suc k ≤ j → j < length m
    → get_or m k 0 < get_or m j 0
later_above {m} {k} {next} up first ne j l q = go (dec_le (suc (suc k)) j)
  where
    above : get_or m k 0 < get_or m (suc k) 0
    above =
        let e : get_or m (suc k) 0 ≡ next = first (omega arith) in
        let o : get_or m k 0 ≤ get_or m (suc k) 0 = up.ascend k (suc k) (omega arith) (omega arith) in
        omega arith

    go : Dec (suc (suc k) ≤ j) → get_or m k 0 < get_or m j 0
    go (yes o) = omega (arith, above, up.ascend (suc k) j o q)
    go (no o) = let e : j ≡ suc k = omega arith in rw e above

-- member k begins a run
counted_other : {m : List ℕ} {k next all whole : ℕ} → Ascending m → Counted m (suc k) next all whole → k < length m → get_or m k 0 ≢ next
    → Counted m k (get_or m k 0) (all + all) all
counted_other {m} {k} {next} {all} up h l ne =
    let s = drop (suc k) m in
    let absent : count (get_or m k 0) s ≡ 0 =
    count_above (get_or m k 0) s (λ j q. rw (get_or-drop (suc k) m j 0) (later_above up h.next_is ne (suc k + j) (omega arith) (omega (arith, length-drop (suc k) m)))) in
    record {
      all_is = rw (drop-cons m k 0 l) (omega (arith, sub_cons (get_or m k 0) s, whole_absent (get_or m k 0) s absent, h.all_is));
      whole_is = rw (drop-cons m k 0 l) (omega (arith, whole_self (get_or m k 0) s, whole_absent (get_or m k 0) s absent, h.all_is));
      next_is = λ q. refl;
    }

-- member k is counted, where `run` is what the loop adds
pub counted_more : {m : List ℕ} {j k next member all whole run : ℕ} → Ascending m → Counted m j next all whole → j ≡ suc k → k < length m → member ≡ get_or m k 0
    → ((member ≡ next) × (run ≡ whole)) ⊎ ((member ≢ next) × (run ≡ all)) → Counted m k member (all + run) run
counted_more {m} {j} {k} {next} {member} {all} {whole} up h e l is (inl c) = rw (c.1, c.0) (counted_same {next = next} (rw e at h) l (sym is ∙ c.0))
counted_more {m} {j} {k} {next} {member} {all} {whole} up h e l is (inr c) = rw (c.1, is) (counted_other up (rw e at h) l (λ q. c.0 (is ∙ q)))

pub counted_few : {m : List ℕ} {k next all whole : ℕ} → Counted m k next all whole → length m ≤ 8 → all ≤ 256
counted_few {m} {k} h l =
    let few : 2 ^ length (drop k m) ≤ 2 ^ 8 = let short : length (drop k m) ≤ 8 = omega (arith, length-drop k m) in pow-le-pow_right (omega arith) short in
    omega (arith, h.all_is, sub_few (drop k m))

-- ---- what the loop over the rules keeps

-- `total` is the sum over the first h rules
pub record Summed (g : Grammar) (h total : ℕ) : Type 0 where
  pub total_is : total ≡ sum_below h (λ j. length (sub_multisets (members g j)))
  pub few : total ≤ h * 256

pub summed_none : (g : Grammar) → Summed g 0 0
unfolding sum_below
summed_none g = record { total_is = refl; few = omega arith }

pub summed_more : {g : Grammar} {h j total n : ℕ} → Summed g h total → n ≡ length (sub_multisets (members g h)) → n ≤ 256 → j ≡ suc h → Summed g j (total + n)
unfolding sum_below
summed_more s e l is = rw is (record { total_is = omega (arith, s.total_is, e); few = omega (arith, s.few, l) })

pub summed_all : {g : Grammar} {h total : ℕ} → Summed g h total → h ≡ rule_count g → total ≡ rests g
unfolding rests
summed_all {g} s e = s.total_is ∙ ap (λ n. sum_below n (λ j. length (sub_multisets (members g j)))) e ∙ sym (sum_places (λ r. length (sub_multisets r.members)) (record { left = 0; members = [] }) g.rules)
