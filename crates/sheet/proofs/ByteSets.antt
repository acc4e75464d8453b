-- Sets of bytes: what adding a byte and taking the greatest make of the words, and how far up a set goes.
-- Assumes nothing.
use Rattle.std.proofs.Common.{◌≡◌, ◌≢◌, ◌↔◌, ◌⊎◌, inl, inr, ℕ, zero, suc, ◌+◌, ◌-◌, ◌*◌, ◌/◌, ◌%◌, ◌^◌, ◌<◌, ◌≤◌, Bool, true, false, cond, eqb, List, [], ◌∷◌, length, get_or, set, bit_or, refl, sym, ap, ◌∙◌, arith, zero-add, get_or-set_other, get_or-set_same}
use native.Mathlib.Decide.{dec_lt, ℕ_discrete}
use lib.Count.{count_leading_zeros}
use borrow.Author.Tests.{eqb-true, eqb-false}
use Rattle.paper.specs.Bits.{bit_at}
use Rattle.paper.proofs.Bits.{bit_lt, bit_zero, bit_or_lem, set_here, set_other, clear_here, clear_other, leading_set, leading_clear}
use Rattle.sheet.specs.Bytes.{HasByte, IsGreatestTaken}

-- ---- a bit put in by `|`

-- bit k of x | 1 << j is set if it was, or is that one
pub or_power : (j x k : ℕ) → (bit_at k (bit_or x (2 ^ j)) ≡ 1) ↔ ((bit_at k x ≡ 1) ⊎ (k ≡ j))
or_power j x k = (there (ℕ_discrete k j), back)
  where
    here : bit_at j (2 ^ j) ≡ 1
    here = rw zero-add at (set_here j 0 (bit_zero j))

    there : Dec (k ≡ j) → bit_at k (bit_or x (2 ^ j)) ≡ 1 → (bit_at k x ≡ 1) ⊎ (k ≡ j)
    there (yes e) h = inr e
    there (no ne) h =
        let other : bit_at k (2 ^ j) ≡ 0 = rw zero-add at (set_other j k 0 (bit_zero j) ne) ∙ bit_zero k in
        inl (omega (arith, bit_or_lem k x (2 ^ j)))

    back : (bit_at k x ≡ 1) ⊎ (k ≡ j) → bit_at k (bit_or x (2 ^ j)) ≡ 1
    back (inl h) = omega (arith, bit_or_lem k x (2 ^ j), bit_lt k (2 ^ j))
    back (inr e) = rw e (omega (arith, bit_or_lem j x (2 ^ j), bit_lt j x, here))

-- ---- one word of a set written

module _ (words : List ℕ) (at value : ℕ) (within : at < length words) where
  written : (c : ℕ) → c / 64 ≡ at → get_or (set words at value) (c / 64) 0 ≡ value
  written c e = ap (λ i. get_or (set words at value) i 0) e ∙ get_or-set_same words at value 0 within

  kept : (c : ℕ) → c / 64 ≢ at → get_or (set words at value) (c / 64) 0 ≡ get_or words (c / 64) 0
  kept c ne = get_or-set_other words at (c / 64) value 0 ne

  kept_byte : (c : ℕ) → c / 64 ≢ at → HasByte (set words at value) c ↔ HasByte words c
  kept_byte c ne = (
    λ h. record { is_byte = h.is_byte; is_set = ap (bit_at (c % 64)) (sym (kept c ne)) ∙ h.is_set },
    λ h. record { is_byte = h.is_byte; is_set = ap (bit_at (c % 64)) (kept c ne) ∙ h.is_set },
  )

  written_byte : (c : ℕ) → c / 64 ≡ at → HasByte (set words at value) c ↔ ((c < 256) × (bit_at (c % 64) value ≡ 1))
  written_byte c e = (
    λ h. (h.is_byte, ap (bit_at (c % 64)) (sym (written c e)) ∙ h.is_set),
    λ (l, h). record { is_byte = l; is_set = ap (bit_at (c % 64)) (written c e) ∙ h },
  )

-- no byte is in a set whose words are 0
pub none_in : {words : List ℕ} → ((k : ℕ) → get_or words k 0 ≡ 0) → (c : ℕ) → HasByte words c → ⊥
none_in {words} zeros c h =
    let f : bit_at (c % 64) 0 ≡ 1 = ap (bit_at (c % 64)) (sym (zeros (c / 64))) ∙ h.is_set in omega (arith, bit_zero (c % 64))

-- a byte that is added to such a set is the only one
pub the_only : {old new : List ℕ} {b : ℕ} → ((k : ℕ) → get_or old k 0 ≡ 0) → ((c : ℕ) → HasByte new c ↔ (HasByte old c ⊎ (c ≡ b)))
    → (c : ℕ) → HasByte new c ↔ (c ≡ b)
the_only {old} {new} {b} zeros f c = (λ h. go ((f c).0 h), λ e. (f c).1 (inr e))
  where
    go : HasByte old c ⊎ (c ≡ b) → c ≡ b
    go (inl h) = absurd (none_in {words = old} zeros c h)
    go (inr e) = e

-- the words of a new set
pub zeros : (k : ℕ) → get_or {A = ℕ} (0 ∷ 0 ∷ 0 ∷ 0 ∷ []) k 0 ≡ 0
zeros zero = refl
zeros (suc zero) = refl
zeros (suc (suc zero)) = refl
zeros (suc (suc (suc zero))) = refl
zeros (suc (suc (suc (suc k)))) = refl

-- a byte is added
module _ (words : List ℕ) (b : ℕ) (four : length words ≡ 4) (fits : b < 256) (c : ℕ) where
  abbrev value : ℕ
  value = bit_or (get_or words (b / 64) 0) (2 ^ (b % 64))

  same : c ≡ b → (c / 64 ≡ b / 64) × (c % 64 ≡ b % 64)
  same e = (omega arith, omega arith)

  to : c / 64 ≡ b / 64 → c < 256 → (bit_at (c % 64) (get_or words (b / 64) 0) ≡ 1) ⊎ (c % 64 ≡ b % 64) → HasByte words c ⊎ (c ≡ b)
  to e l (inl h) = inl (record { is_byte = l; is_set = ap (λ k. bit_at (c % 64) (get_or words k 0)) e ∙ h })
  to e l (inr f) = inr (omega arith)

  from : c / 64 ≡ b / 64 → HasByte words c ⊎ (c ≡ b) → (c < 256) × (bit_at (c % 64) value ≡ 1)
  from e (inl h) =
      (h.is_byte, (or_power (b % 64) (get_or words (b / 64) 0) (c % 64)).1 (inl (ap (λ k. bit_at (c % 64) (get_or words k 0)) (sym e) ∙ h.is_set)))
  from e (inr f) = (omega arith, (or_power (b % 64) (get_or words (b / 64) 0) (c % 64)).1 (inr (same f).1))

  apart : HasByte words c ⊎ (c ≡ b) → c / 64 ≢ b / 64 → HasByte words c
  apart (inl h) ne = h
  apart (inr f) ne = absurd (ne (same f).0)

  added_at : Dec (c / 64 ≡ b / 64) → HasByte (set words (b / 64) value) c ↔ (HasByte words c ⊎ (c ≡ b))
  added_at (no ne) = let k = kept_byte words (b / 64) value (omega arith) c ne in (λ h. inl (k.0 h), λ h. k.1 (apart h ne))
  added_at (yes e) =
      let w = written_byte words (b / 64) value (omega arith) c e in
      (λ h. let x = w.0 h in to e x.0 ((or_power (b % 64) (get_or words (b / 64) 0) (c % 64)).0 x.1), λ h. w.1 (from e h))

  pub added : HasByte (set words (b / 64) (bit_or (get_or words (b / 64) 0) (2 ^ (b % 64)))) c ↔ (HasByte words c ⊎ (c ≡ b))
  added = added_at (ℕ_discrete (c / 64) (b / 64))

-- the greatest is taken: word k is the last that is not 0
module _ (words : List ℕ) (k : ℕ) (four : length words ≡ 4) (low : k < 4) (above : (j : ℕ) → k < j → get_or words j 0 ≡ 0) (some : get_or words k 0 ≢ 0)
    (fits : get_or words k 0 < 2 ^ 64) where
  abbrev word : ℕ
  word = get_or words k 0

  abbrev place : ℕ
  place = 63 - count_leading_zeros 64 (get_or words k 0)

  pub place_set : bit_at (63 - count_leading_zeros 64 (get_or words k 0)) (get_or words k 0) ≡ 1
  place_set = leading_set 64 word some fits

  byte : (c : ℕ) → c / 64 ≡ k → c % 64 ≡ place → c ≡ 64 * k + place
  byte c e f = omega arith

  -- a byte of the set is in that word, or below it
  within_word : (c : ℕ) → HasByte words c → c / 64 ≤ k
  within_word c h = go (dec_lt k (c / 64))
    where
      go : Dec (k < c / 64) → c / 64 ≤ k
      go (yes l) = absurd (let f : bit_at (c % 64) 0 ≡ 1 = ap (bit_at (c % 64)) (sym (above (c / 64) l)) ∙ h.is_set in let z : ⊥ = omega (arith, bit_zero (c % 64)) in z)
      go (no n) = omega arith

  in_word : (c : ℕ) → HasByte words c → c / 64 ≡ k → bit_at (c % 64) word ≡ 1
  in_word c h e = ap (λ i. bit_at (c % 64) (get_or words i 0)) (sym e) ∙ h.is_set

  below_place : (c : ℕ) → HasByte words c → c / 64 ≡ k → c % 64 ≤ place
  below_place c h e = go (dec_lt place (c % 64))
    where
      go : Dec (place < c % 64) → c % 64 ≤ place
      go (yes l) = absurd (let z : ⊥ = omega (arith, leading_clear 64 (c % 64) word some fits l, in_word c h e) in z)
      go (no n) = omega arith

  at_most : (c : ℕ) → c / 64 ≤ k → (c / 64 ≡ k → c % 64 ≤ place) → Dec (c / 64 ≡ k) → c ≤ 64 * k + place
  at_most c l f (yes e) = omega (arith, f e)
  at_most c l f (no ne) = omega (arith, ne)

  others : (c : ℕ) → Dec (c / 64 ≡ k) → Dec (c % 64 ≡ place)
      → HasByte (set words k (word - 2 ^ place)) c ↔ (HasByte words c × (c ≢ 64 * k + place))
  others c (no ne) d =
      let x = kept_byte words k (word - 2 ^ place) (omega arith) c ne in
      (λ h. (x.0 h, λ e. ne (omega arith)), λ (h, n). x.1 h)
  others c (yes e) (yes f) =
      let x = written_byte words k (word - 2 ^ place) (omega arith) c e in (
        λ h. absurd (let z : ⊥ = omega (arith, (x.0 h).1, ap (λ i. bit_at i (word - 2 ^ place)) f, clear_here place word place_set) in z),
        λ (h, n). absurd (n (byte c e f)),
      )
  others c (yes e) (no ne) =
      let x = written_byte words k (word - 2 ^ place) (omega arith) c e in
      let o = clear_other place (c % 64) word place_set ne in (
        λ h. (record { is_byte = (x.0 h).0; is_set = ap (λ i. bit_at (c % 64) (get_or words i 0)) e ∙ (sym o ∙ (x.0 h).1) }, λ f. ne (omega arith)),
        λ (h, n). x.1 (h.is_byte, o ∙ in_word c h e),
      )

  pub taken : IsGreatestTaken words (64 * k + (63 - count_leading_zeros 64 (get_or words k 0)))
      (set words k (get_or words k 0 - 2 ^ (63 - count_leading_zeros 64 (get_or words k 0))))
  taken = record {
    was = record {
      is_byte = omega arith;
      is_set = let e : (64 * k + place) / 64 ≡ k = omega arith in let f : (64 * k + place) % 64 ≡ place = omega arith in rw (e, f) place_set;
    };
    greatest = λ c h. let l : c / 64 ≤ k = within_word c h in at_most c l (below_place c h) (ℕ_discrete (c / 64) k);
    others = λ c. others c (ℕ_discrete (c / 64) k) (ℕ_discrete (c % 64) place);
  }

-- ---- how far up a set goes

-- one more than the greatest byte below n, or 0
unfoldable pub top_below : List ℕ → ℕ → ℕ
top_below words zero = 0
top_below words (suc n) = cond (eqb (bit_at (n % 64) (get_or words (n / 64) 0)) 1) (suc n) (top_below words n)

-- one more than the greatest byte of the set, or 0
abbrev pub top : List ℕ → ℕ
top words = top_below words 256

below_has : (words : List ℕ) (n b : ℕ) → b < n → HasByte words b → b < top_below words n
unfolding top_below
below_has words zero b l h = omega arith
below_has words (suc n) b l h = go (eqb (bit_at (n % 64) (get_or words (n / 64) 0)) 1) refl (below_has words n b)
  where
    go : (t : Bool) → eqb (bit_at (n % 64) (get_or words (n / 64) 0)) 1 ≡ t → (b < n → HasByte words b → b < top_below words n) → b < cond t (suc n) (top_below words n)
    go true e ih = l
    go false e ih =
        let ne : b ≡ n → ⊥ = λ f. eqb-false _ _ e (ap (λ i. bit_at (i % 64) (get_or words (i / 64) 0)) (sym f) ∙ h.is_set) in
        ih (omega (arith, ne)) h

below_le : (words : List ℕ) (n m : ℕ) → n ≤ 256 → ((b : ℕ) → HasByte words b → b < m) → top_below words n ≤ m
unfolding top_below
below_le words zero m l f = omega arith
below_le words (suc n) m l f = go (eqb (bit_at (n % 64) (get_or words (n / 64) 0)) 1) refl (below_le words n m (omega arith) f)
  where
    go : (t : Bool) → eqb (bit_at (n % 64) (get_or words (n / 64) 0)) 1 ≡ t → top_below words n ≤ m → cond t (suc n) (top_below words n) ≤ m
    go true e ih = f n (record { is_byte = omega arith; is_set = eqb-true _ _ e })
    go false e ih = ih

-- when the greatest byte is taken and only lesser ones are added, it goes less far up
pub top_falls : {old new : List ℕ} {b : ℕ} → HasByte old b → ((c : ℕ) → HasByte new c → c < b) → top new < top old
top_falls {old} {new} {b} h f = omega (arith, below_has old 256 b h.is_byte h, below_le new 256 b (omega arith) f)
