-- The rows of bits of `later_symbols`, against the pairs of the order body.
use Rattle.std.proofs.Common.{◌≡◌, ℕ, zero, suc, Some, None, ◌≢◌, ◌↔◌, ◌⊎◌, inl, inr, ◌+◌, ◌*◌, ◌/◌, ◌%◌, ◌^◌, ◌<◌, ◌≤◌, max, Bool, true, false, not, ◌&&◌, ◌||◌, List, [], ◌∷◌, length, get_or, set, drop, replicate, eqb, bit_or, w64, refl, sym, ◌∙◌, ap, arith, add-one, length-set, get_or-set_same, get_or-set_other}
use Rattle.std.proofs.lemmas.Bool.{and_from, and_parts, and_left, and_right, or_left, or_right, eqb-true, eqb-false, eq-eqb, not_from_true, false_from_ne_true, false≢true}
use Rattle.std.proofs.lemmas.List.{drop_more, drop_all, length-replicate, get_or-replicate}
use Rattle.std.proofs.lemmas.Nat.{or_lt}
use Rattle.std.proofs.lemmas.Nat.Bits.{bit_at_set_same, bit_at_set_other}
use Rattle.std.proofs.Math.Bool.{or_assoc, or-false, or-true}
use Rattle.paper.specs.Bits.{bit_at}
use Rattle.paper.specs.Image.{Pair, pairs_of, paired, chained, closing_fault, pair_fault}
use Rattle.paper.proofs.Bits.{bit_at_lem, bit_lt, bit_cases, bit_zero, bits_same, bit_or_lem}
use Rattle.paper.proofs.Order.{pairs_right, pair_at, written_cases, closing_on, closing_stop}

-- The pairs of a sound order body.

paired_here : (p : Pair) (more : List Pair) → paired (p ∷ more) p.earlier p.later ≡ true
unfolding paired
paired_here p more =
    or_left (eqb p.earlier p.earlier && eqb p.later p.later) (paired more p.earlier p.later)
    (and_from (eqb p.earlier p.earlier) (eqb p.later p.later) (eq-eqb p.earlier p.earlier refl) (eq-eqb p.later p.later refl))

paired_there : (p : Pair) (more : List Pair) (a b : ℕ) → paired more a b ≡ true → paired (p ∷ more) a b ≡ true
unfolding paired
paired_there p more a b h = or_right (eqb p.earlier a && eqb p.later b) (paired more a b) h

paired_at : (pairs : List Pair) (k : ℕ) (none : Pair) → k < length pairs → paired pairs (get_or pairs k none).earlier (get_or pairs k none).later ≡ true
paired_at [] k none l = absurd (let z : ⊥ = omega arith in z)
paired_at (p ∷ pairs) zero none l = paired_here p pairs
paired_at (p ∷ pairs) (suc k) none l = paired_there p pairs _ _ (paired_at pairs k none (omega arith))

abbrev pub pair_of : List ℕ → ℕ → Pair
pair_of s k = record { earlier = get_or s (2 * k) 0; later = get_or s (2 * k + 1) 0 }

-- What is known of pair k of a body that is sound for 64 symbols.
record KnownPair (s : List ℕ) (k : ℕ) : Type 0 where
  earlier_below : get_or s (2 * k) 0 < 64
  later_below : get_or s (2 * k + 1) 0 < 64
  next : drop k (pairs_of s) ≡ pair_of s k ∷ drop (k + 1) (pairs_of s)

module _ (s : List ℕ) (sound : pair_fault 64 0 0 s ≡ None) where
  pairs_size : length s ≡ 2 * length (pairs_of s)
  pairs_size = (pairs_right 64 0 0 s sound).size

  pub pairs_below : (a b : ℕ) → paired (pairs_of s) a b ≡ true → (a < 64) × (b < 64)
  pairs_below = (pairs_right 64 0 0 s sound).below

  known_pair : (k : ℕ) → k < length s / 2 → KnownPair s k
  known_pair k l =
      let m : k < length (pairs_of s) = omega (arith, pairs_size) in
      let e = pair_at s k (pair_of s k) m in
      let h = pairs_below _ _ (paired_at (pairs_of s) k (pair_of s k) m) in
      record {
        earlier_below = rw e at h.0;
        later_below = rw e at h.1;
        next = rw (← e) (drop_more (pairs_of s) k (pair_of s k) m);
      }

  pub earlier_below : (k : ℕ) → k < length s / 2 → get_or s (2 * k) 0 < 64
  earlier_below k l = (known_pair k l).earlier_below

  pub later_below : (k : ℕ) → k < length s / 2 → get_or s (2 * k + 1) 0 < 64
  later_below k l = (known_pair k l).later_below

  pub next_pair : (k : ℕ) → k < length s / 2 → drop k (pairs_of s) ≡ pair_of s k ∷ drop (k + 1) (pairs_of s)
  next_pair k l = (known_pair k l).next

  pub no_more : (k : ℕ) → length s / 2 ≤ k → drop k (pairs_of s) ≡ []
  no_more k l = drop_all k (pairs_of s) (omega (arith, pairs_size))

pub ruleset pair_bounds = (earlier_below, later_below)

-- The rows have a bit for each of the pairs but for those that are still to come.

pub record Marked (pairs more : List Pair) (rows : List ℕ) : Type 0 where
  pub size : length rows ≡ 64
  pub small : (a : ℕ) → a < 64 → get_or rows a 0 < 2 ^ 64
  pub bits : (a b : ℕ) → a < 64 → b < 64 → paired pairs a b ≡ (eqb (bit_at b (get_or rows a 0)) 1 || paired more a b)

pub marked_none : (pairs : List Pair) → Marked pairs pairs (replicate 64 0)
marked_none pairs =
    record {
      size = length-replicate {A = ℕ} 64 0;
      small = λ a l. rw (get_or-replicate {A = ℕ} 64 a 0 0 l) (omega arith);
      bits = λ a b l m. rw (get_or-replicate {A = ℕ} 64 a 0 0 l, bit_zero b);
    }

abbrev bit_of : ℕ → ℕ
bit_of y = 1 * 2 ^ y % 2 ^ 64

set_bit : (n y b : ℕ) → y < 64 → b < 64 → eqb (bit_at b (bit_or n (bit_of y))) 1 ≡ (eqb (bit_at b n) 1 || eqb y b)
set_bit n y b l m = go (eqb y b) refl
  where
    go : (t : Bool) → eqb y b ≡ t → eqb (bit_at b (bit_or n (bit_of y))) 1 ≡ (eqb (bit_at b n) 1 || t)
    go true e =
        let f : bit_at b (bit_or n (bit_of y)) ≡ 1 = bit_at_lem b (bit_or n (bit_of y)) ∙ (rw (← eqb-true y b e) (bit_at_set_same w64 n y l)) in
        rw (f, or-true (eqb (bit_at b n) 1))
    go false e =
        let f : bit_at b (bit_or n (bit_of y)) ≡ bit_at b n = bit_at_lem b (bit_or n (bit_of y)) ∙ (bit_at_set_other w64 n y l b (λ g. eqb-false y b e (sym g)) ∙ sym (bit_at_lem b n)) in
        rw (f, or-false (eqb (bit_at b n) 1))

module _ (pairs more : List Pair) (p : Pair) (rows : List ℕ) (l : p.earlier < 64) (m : p.later < 64) (h : Marked pairs (p ∷ more) rows) where
  abbrev new : ℕ
  new = bit_or (get_or rows p.earlier 0) (bit_of p.later)

  row_here : (a : ℕ) → eqb p.earlier a ≡ true → get_or (set rows p.earlier new) a 0 ≡ bit_or (get_or rows a 0) (bit_of p.later)
  row_here a e = rw (← eqb-true p.earlier a e) (get_or-set_same rows p.earlier new 0 (omega (arith, h.size)))

  row_other : (a : ℕ) → eqb p.earlier a ≡ false → get_or (set rows p.earlier new) a 0 ≡ get_or rows a 0
  row_other a e = get_or-set_other rows p.earlier a new 0 (λ g. eqb-false p.earlier a e (sym g))

  row_small : (a : ℕ) → a < 64 → (t : Bool) → eqb p.earlier a ≡ t → get_or (set rows p.earlier new) a 0 < 2 ^ 64
  row_small a n true e = rw (row_here a e) (or_lt 64 (get_or rows a 0) (bit_of p.later) (h.small a n) (omega arith))
  row_small a n false e = rw (row_other a e) (h.small a n)

  row_bits : (a b : ℕ) → b < 64 → (t : Bool) → eqb p.earlier a ≡ t
      → (eqb (bit_at b (get_or rows a 0)) 1 || ((t && eqb p.later b) || paired more a b)) ≡ (eqb (bit_at b (get_or (set rows p.earlier new) a 0)) 1 || paired more a b)
  row_bits a b o true e =
      rw (row_here a e, set_bit (get_or rows a 0) p.later b m o) (sym (or_assoc (eqb (bit_at b (get_or rows a 0)) 1) (eqb p.later b) (paired more a b)))
  row_bits a b o false e = rw (row_other a e)

  pub marked_more : Marked pairs more (set rows p.earlier new)
  unfolding paired
  marked_more =
      record {
        size = length-set rows p.earlier new ∙ h.size;
        small = λ a n. row_small a n (eqb p.earlier a) refl;
        bits = λ a b n o. h.bits a b n o ∙ row_bits a b o (eqb p.earlier a) refl;
      }

-- once none is to come, the bits are the pairs
pub marked_all : (pairs : List Pair) (rows : List ℕ) → Marked pairs [] rows → (a b : ℕ) → a < 64 → b < 64 → (bit_at b (get_or rows a 0) ≡ 1) ↔ (paired pairs a b ≡ true)
unfolding paired
marked_all pairs rows h a b l m =
    let e = h.bits a b l m ∙ or-false (eqb (bit_at b (get_or rows a 0)) 1) in
    (λ f. e ∙ eq-eqb (bit_at b (get_or rows a 0)) 1 f, λ f. eqb-true (bit_at b (get_or rows a 0)) 1 (sym e ∙ f))

-- A chain through the pair a, b: what b must precede, a must precede too.

chained_from : (pairs : List Pair) (a b : ℕ) (more : List Pair) → ((c : ℕ) → paired more b c ≡ true → paired pairs a c ≡ true) → chained pairs a b more ≡ true
unfolding chained
chained_from pairs a b [] each = refl
chained_from pairs a b (q ∷ more) each =
    and_from (not (eqb q.earlier b) || paired pairs a q.later) (chained pairs a b more) (go (eqb q.earlier b) refl)
    (chained_from pairs a b more (λ c w. each c (paired_there q more b c w)))
  where
    go : (t : Bool) → eqb q.earlier b ≡ t → (not t || paired pairs a q.later) ≡ true
    go true e = each q.later (rw (← eqb-true q.earlier b e) (paired_here q more))
    go false e = refl

chained_gives : (pairs : List Pair) (a b : ℕ) (more : List Pair) → chained pairs a b more ≡ true → (c : ℕ) → paired more b c ≡ true → paired pairs a c ≡ true
unfolding paired chained
chained_gives pairs a b [] h c w = absurd (false≢true w)
chained_gives pairs a b (q ∷ more) h c w = written_cases q more b c w here (chained_gives pairs a b more t.1 c)
  where
    t : ((not (eqb q.earlier b) || paired pairs a q.later) ≡ true) × (chained pairs a b more ≡ true)
    t = and_parts (not (eqb q.earlier b) || paired pairs a q.later) (chained pairs a b more) h

    here : q.earlier ≡ b → q.later ≡ c → paired pairs a c ≡ true
    here e f = rw (eq-eqb q.earlier b e, f) at t.0

or_gives : (x y k : ℕ) → bit_or x y ≡ x → bit_at k y ≡ 1 → bit_at k x ≡ 1
or_gives x y k e f = omega (arith, bit_or_lem k x y, ap (bit_at k) e, bit_lt k x)

or_within : (x y : ℕ) → x < 2 ^ 64 → y < 2 ^ 64 → ((k : ℕ) → k < 64 → bit_at k y ≡ 1 → bit_at k x ≡ 1) → bit_or x y ≡ x
or_within x y l m h = bits_same 64 (bit_or x y) x (or_lt 64 x y l m) l (λ k n. bit_or_lem k x y ∙ go k n (bit_cases k y))
  where
    go : (k : ℕ) → k < 64 → (bit_at k y ≡ 0) ⊎ (bit_at k y ≡ 1) → max (bit_at k x) (bit_at k y) ≡ bit_at k x
    go k n (inl e) = omega arith
    go k n (inr e) = omega (arith, h k n e)

-- Each row has the bits of the pairs: the test of pair k, of its two rows, is the search's next step.

module _ (s rows : List ℕ) (sound : pair_fault 64 0 0 s ≡ None)
    (small : (a : ℕ) → a < 64 → get_or rows a 0 < 2 ^ 64)
    (bits : (a b : ℕ) → a < 64 → b < 64 → (bit_at b (get_or rows a 0) ≡ 1) ↔ (paired (pairs_of s) a b ≡ true))
    (k : ℕ) (l : k < length s / 2) where
  abbrev earlier : ℕ
  earlier = get_or s (2 * k) 0

  abbrev later : ℕ
  later = get_or s (2 * k + 1) 0

  chain_closed : bit_or (get_or rows earlier 0) (get_or rows later 0) ≡ get_or rows earlier 0 → chained (pairs_of s) earlier later (pairs_of s) ≡ true
  chain_closed e =
      chained_from (pairs_of s) earlier later (pairs_of s)
      (λ c w.
      let m = (pairs_below s sound later c w).1 in
      (bits earlier c (earlier_below s sound k l) m).0
      (or_gives (get_or rows earlier 0) (get_or rows later 0) c e ((bits later c (later_below s sound k l) m).1 w)))

  chain_within : chained (pairs_of s) earlier later (pairs_of s) ≡ true → bit_or (get_or rows earlier 0) (get_or rows later 0) ≡ get_or rows earlier 0
  chain_within w =
      or_within (get_or rows earlier 0) (get_or rows later 0) (small earlier (earlier_below s sound k l)) (small later (later_below s sound k l))
      (λ c m e.
      (bits earlier c (earlier_below s sound k l) m).1
      (chained_gives (pairs_of s) earlier later (pairs_of s) w c ((bits later c (later_below s sound k l) m).0 e)))

  pub closed_more : earlier ≢ later → bit_or (get_or rows earlier 0) (get_or rows later 0) ≡ get_or rows earlier 0
      → closing_fault (pairs_of s) k (drop k (pairs_of s)) ≡ closing_fault (pairs_of s) (k + 1) (drop (k + 1) (pairs_of s))
  closed_more ne e =
      rw (next_pair s sound k l, add-one k) (closing_on (pairs_of s) k (pair_of s k) (drop (suc k) (pairs_of s)) ne (chain_closed e))

  closed_not : (not (eqb earlier later) && chained (pairs_of s) earlier later (pairs_of s)) ≡ false → closing_fault (pairs_of s) k (drop k (pairs_of s)) ≡ Some k
  closed_not wrong = rw (next_pair s sound k l) (closing_stop (pairs_of s) k (pair_of s k) (drop (k + 1) (pairs_of s)) wrong)

  pub self_pair : earlier ≡ later → closing_fault (pairs_of s) k (drop k (pairs_of s)) ≡ Some k
  self_pair e =
      closed_not (and_left (not (eqb earlier later)) (chained (pairs_of s) earlier later (pairs_of s)) (not_from_true (eqb earlier later) (eq-eqb earlier later e)))

  pub open_chain : bit_or (get_or rows earlier 0) (get_or rows later 0) ≢ get_or rows earlier 0 → closing_fault (pairs_of s) k (drop k (pairs_of s)) ≡ Some k
  open_chain ne =
      closed_not
      (and_right (not (eqb earlier later)) (chained (pairs_of s) earlier later (pairs_of s))
      (false_from_ne_true (chained (pairs_of s) earlier later (pairs_of s)) (λ w. ne (chain_within w))))

pub closed_end : (s : List ℕ) (k : ℕ) → pair_fault 64 0 0 s ≡ None → length s / 2 ≤ k → closing_fault (pairs_of s) k (drop k (pairs_of s)) ≡ None
unfolding closing_fault
closed_end s k sound l = ap (closing_fault (pairs_of s) k) (no_more s sound k l)
