-- The members that bar a member, found one after the other; sets of bits.
-- Assumes nothing.
use Rattle.std.proofs.Common.{◌≡◌, ◌≢◌, ◌↔◌, ◌⊎◌, inl, inr, ℕ, zero, suc, ◌+◌, ◌-◌, ◌*◌, ◌/◌, ◌%◌, ◌^◌, ◌<◌, ◌≤◌, List, length, get_or, arith, Bool, true, false, ◌&&◌, ◌||◌, sym, ◌∙◌, ap, eqb, ltb, bit_and, bit_or}
use native.Mathlib.Decide.{ℕ_discrete}
use native.Mathlib.Nat.{pow-suc}
use Rattle.std.proofs.lemmas.Bool.{and_left, and_right, and_from, or_left, or_right, or_from, eq-eqb, ne_eqb, lt-ltb, le-ltb, cases_lt}
use Rattle.std.proofs.lemmas.Nat.{one_shl, or_lt, and_mask, pow_below, pow_pos, shl_whole}
use Rattle.std.proofs.lemmas.List.{get_or_past}
use Rattle.paper.specs.Bits.{bit_at}
use Rattle.paper.specs.Multiset.{bit}
use Rattle.paper.specs.Grammar.{Rule, Grammar}
use Rattle.paper.proofs.Bits.{bit_at_lem, bit_high, bit_zero, bits_same, bit_ones, bit_place}
use Rattle.tables.specs.Rows.{alone}
use Rattle.tables.specs.Table.{bars_of}
use Rattle.tables.proofs.Masks.{bars_below, bars_bit}
use Rattle.tables.proofs.Trying.{or_here, or_other}

-- does member j bar member k?
abbrev pub bars_test : Grammar → List ℕ → ℕ → ℕ → Bool
bars_test g s k j = g.precedes (get_or s j 0) (get_or s k 0) || (ltb j k && eqb (get_or s j 0) (get_or s k 0))

-- of the members before x, those that bar member k
pub record BarsTo (g : Grammar) (s : List ℕ) (k x bars : ℕ) : Type 0 where
  pub below : bars < 2 ^ x
  pub bits : (j : ℕ) → j < x → bit_at j bars ≡ bit (bars_test g s k j)

pub bars_none : (g : Grammar) (s : List ℕ) (k : ℕ) → BarsTo g s k 0 0
bars_none g s k = record { below = omega arith; bits = λ j l. absurd (let z : ⊥ = omega arith in z) }

module _ {g : Grammar} {s : List ℕ} {k x bars : ℕ} (b : BarsTo g s k x bars) where
  pub bars_passed : bars_test g s k x ≡ false → BarsTo g s k (x + 1) bars
  bars_passed e = record { below = omega (arith, b.below, pow_below x (x + 1) (omega arith)); bits = λ j l. go j l (ℕ_discrete j x) }
    where
      go : (j : ℕ) → j < x + 1 → Dec (j ≡ x) → bit_at j bars ≡ bit (bars_test g s k j)
      go j l (yes f) = rw (f, e) (bit_high x x bars (omega arith) b.below)
      go j l (no ne) = b.bits j (omega arith)

  pub bars_set : x < 8 → bars_test g s k x ≡ true → BarsTo g s k (x + 1) (bit_or bars (1 * 2 ^ x % 256))
  bars_set few e = rw (one_shl x 8 few) (record {
    below = or_lt (x + 1) bars (2 ^ x) (omega (arith, b.below, pow_below x (x + 1) (omega arith))) (pow_below x (x + 1) (omega arith));
    bits = λ j l. go j l (ℕ_discrete j x);
  })
    where
      go : (j : ℕ) → j < x + 1 → Dec (j ≡ x) → bit_at j (bit_or bars (2 ^ x)) ≡ bit (bars_test g s k j)
      go j l (yes f) = rw (f, e) (or_here bars x)
      go j l (no ne) = or_other bars x j ne ∙ b.bits j (omega arith)

  pub bars_all : x ≡ length s → bars ≡ bars_of g s k
  bars_all e =
      bits_same (length s) bars (bars_of g s k) (rw (← e) b.below) (bars_below g (get_or s k 0) k 0 s)
      (λ j l. b.bits j (omega arith) ∙ sym (bars_bit g (get_or s k 0) k 0 s j l ∙ ap (λ i. bit (g.precedes (get_or s j 0) (get_or s k 0) || (ltb i k && eqb (get_or s j 0) (get_or s k 0)))) (let z : 0 + j ≡ j = omega arith in z)))

-- the test of the code
shifted_bit : (n a : ℕ) → bit_and (n / 2 ^ a) 1 ≡ bit_at a n
shifted_bit n a = and_mask (n / 2 ^ a) 1 ∙ sym (bit_at_lem a n)

module _ (later s : List ℕ) (rule : Rule) (k x : ℕ) where
  pub bars_precede : bit_and (get_or later (get_or s x 0) 0 / 2 ^ get_or s k 0) 1 ≡ 1 → bars_test (alone later rule) s k x ≡ true
  bars_precede e =
      or_left (eqb (bit_at (get_or s k 0) (get_or later (get_or s x 0) 0)) 1) (ltb x k && eqb (get_or s x 0) (get_or s k 0))
      (eq-eqb (bit_at (get_or s k 0) (get_or later (get_or s x 0) 0)) 1 (sym (shifted_bit (get_or later (get_or s x 0) 0) (get_or s k 0)) ∙ e))

  pub bars_equal : x < k → get_or s x 0 ≡ get_or s k 0 → bars_test (alone later rule) s k x ≡ true
  bars_equal l e =
      or_right (eqb (bit_at (get_or s k 0) (get_or later (get_or s x 0) 0)) 1) (ltb x k && eqb (get_or s x 0) (get_or s k 0))
      (and_from (ltb x k) (eqb (get_or s x 0) (get_or s k 0)) (lt-ltb x k l) (eq-eqb (get_or s x 0) (get_or s k 0) e))

  pub bars_neither : bit_and (get_or later (get_or s x 0) 0 / 2 ^ get_or s k 0) 1 ≢ 1 → (k ≤ x) ⊎ (get_or s x 0 ≢ get_or s k 0) → bars_test (alone later rule) s k x ≡ false
  bars_neither ne h =
      or_from (eqb (bit_at (get_or s k 0) (get_or later (get_or s x 0) 0)) 1) (ltb x k && eqb (get_or s x 0) (get_or s k 0))
      (ne_eqb (bit_at (get_or s k 0) (get_or later (get_or s x 0) 0)) 1 (λ e. ne (shifted_bit (get_or later (get_or s x 0) 0) (get_or s k 0) ∙ e)))
      (go h)
    where
      go : (k ≤ x) ⊎ (get_or s x 0 ≢ get_or s k 0) → (ltb x k && eqb (get_or s x 0) (get_or s k 0)) ≡ false
      go (inl l) = and_left (ltb x k) (eqb (get_or s x 0) (get_or s k 0)) (le-ltb x k l)
      go (inr e) = and_right (ltb x k) (eqb (get_or s x 0) (get_or s k 0)) (ne_eqb (get_or s x 0) (get_or s k 0) e)

-- ## A set with a bit for each of the n numbers from t on

half_shift : (t y : ℕ) → y * 2 ^ suc t ≡ 2 * (y * 2 ^ t)
half_shift t y = ap (λ z. y * z) (pow-suc 2 t) ∙ omega arith

bit_shifted : (t x y : ℕ) → bit_at (t + x) (y * 2 ^ t) ≡ bit_at x y
unfolding bit_at
bit_shifted zero x y = let e : zero + x ≡ x = omega arith in let f : y * 2 ^ zero ≡ y = omega arith in ap (λ z. bit_at z (y * 2 ^ zero)) e ∙ ap (bit_at x) f
bit_shifted (suc t) x y =
    let e : suc t + x ≡ suc (t + x) = omega arith in
    let f : y * 2 ^ suc t / 2 ≡ y * 2 ^ t = omega (arith, half_shift t y) in
    ap (λ z. bit_at z (y * 2 ^ suc t)) e ∙ (ap (bit_at (t + x)) f ∙ bit_shifted t x y)

bit_under : (t x y : ℕ) → x < t → bit_at x (y * 2 ^ t) ≡ 0
unfolding bit_at
bit_under zero x y l = absurd (let z : ⊥ = omega arith in z)
bit_under (suc t) zero y l = omega (arith, half_shift t y)
bit_under (suc t) (suc x) y l =
    let f : y * 2 ^ suc t / 2 ≡ y * 2 ^ t = omega (arith, half_shift t y) in
    ap (bit_at x) f ∙ bit_under t x y (omega arith)

pub set_bits : (t n : ℕ) → n < 64 → t + n ≤ 64 → (x : ℕ) → (bit_at x ((1 * 2 ^ n % 2 ^ 64 - 1) * 2 ^ t % 2 ^ 64) ≡ 1) ↔ ((t ≤ x) × (x < t + n))
set_bits t n few l x = rw (one_shl n 64 few, shl_whole (2 ^ n - 1) n t 64 (omega (arith, pow_pos n)) (omega arith)) (to, λ (a, b). back (x - t) (omega arith) (omega arith))
  where
    high : (y : ℕ) → t + y ≡ x → bit_at x ((2 ^ n - 1) * 2 ^ t) ≡ 1 → (t ≤ x) × (x < t + n)
    high y e h =
        let f : bit_at y (2 ^ n - 1) ≡ 1 = sym (bit_shifted t y (2 ^ n - 1)) ∙ (rw e h) in
        let m : y < n = bit_place n y (2 ^ n - 1) (omega (arith, pow_pos n)) f in
        (omega arith, omega arith)

    to : bit_at x ((2 ^ n - 1) * 2 ^ t) ≡ 1 → (t ≤ x) × (x < t + n)
    to h = go (cases_lt x t)
      where
        go : (x < t) ⊎ (t ≤ x) → (t ≤ x) × (x < t + n)
        go (inl m) = absurd (let z : ⊥ = omega (arith, h, bit_under t x (2 ^ n - 1) m) in z)
        go (inr m) = high (x - t) (omega arith) h

    back : (y : ℕ) → t + y ≡ x → y < n → bit_at x ((2 ^ n - 1) * 2 ^ t) ≡ 1
    back y e m = rw (← e) (bit_shifted t y (2 ^ n - 1) ∙ bit_ones n y m)

-- ## The set of the numbers below x with a rank

-- the numbers below x that the list has a number other than 0 for
abbrev pub SetTo : List ℕ → ℕ → ℕ → Type 0
SetTo ranks x n = (j : ℕ) → (bit_at j n ≡ 1) ↔ ((j < x) × (1 ≤ get_or ranks j 0))

pub set_none : (ranks : List ℕ) → SetTo ranks 0 0
set_none ranks j = (λ e. absurd (let z : ⊥ = omega (arith, bit_zero j) in z), λ (l, m). absurd (let z : ⊥ = omega arith in z))

module _ (ranks : List ℕ) (x n : ℕ) (h : SetTo ranks x n) where
  pub set_passed : get_or ranks x 0 ≡ 0 → SetTo ranks (x + 1) n
  set_passed e j = (λ f. let (l, m) = (h j).0 f in (omega arith, m), λ (l, m). (h j).1 (let ne : j ≢ x = λ f. let z : ⊥ = omega (arith, ap (λ i. get_or ranks i 0) f) in z in omega (arith, ne), m))

  pub set_more : x < 64 → get_or ranks x 0 ≢ 0 → SetTo ranks (x + 1) (bit_or n (1 * 2 ^ x % 2 ^ 64))
  set_more few ne j = rw (one_shl x 64 few) (go (ℕ_discrete j x))
    where
      go : Dec (j ≡ x) → (bit_at j (bit_or n (2 ^ x)) ≡ 1) ↔ ((j < x + 1) × (1 ≤ get_or ranks j 0))
      go (yes e) = rw e (λ _. (omega arith, omega arith), λ _. or_here n x)
      go (no other) = rw (or_other n x j other) (λ f. let (l, m) = (h j).0 f in (omega arith, m), λ (l, m). (h j).1 (omega arith, m))

  pub set_all : x ≡ 64 → length ranks ≡ 64 → (j : ℕ) → (bit_at j n ≡ 1) ↔ (1 ≤ get_or ranks j 0)
  set_all e f j = (λ g. ((h j).0 g).1, λ m. (h j).1 (place (cases_lt j 64) m, m))
    where
      place : (j < 64) ⊎ (64 ≤ j) → 1 ≤ get_or ranks j 0 → j < x
      place (inl l) m = omega arith
      place (inr l) m = absurd (let z : ⊥ = omega (arith, get_or_past ranks j 0 (omega arith)) in z)
