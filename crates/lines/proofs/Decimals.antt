-- The decimal digits of a number of 16 bits, from the first on.
-- Assumes nothing.
use Rattle.std.proofs.Common.{◌≡◌, ◌≢◌, ℕ, zero, suc, ◌+◌, ◌/◌, ◌%◌, ◌^◌, pow-suc, subst, ◌≤◌, ◌<◌, List, [], ◌∷◌, ◌++◌, length, refl, sym, ap, ◌∙◌, arith, length-append, inl, inr, ◌⊎◌}
use Rattle.std.proofs.Math.Nat.{div-one, div-le_self, div-div-eq-div-mul, div-eq_of_lt}
use Rattle.std.proofs.lemmas.Bool.{cases_lt}
use Rattle.std.proofs.lemmas.Nat.{le-div}
use Rattle.paper.specs.Lines.{digits, decimal}
use borrow.Author.Tests.{lt-ltb, le-ltb}

one_digit : (f n : ℕ) → n < 10 → digits f n ≡ (48 + n) ∷ []
unfolding digits
one_digit zero n l = refl
one_digit (suc f) n l = rw (digits, lt-ltb n 10 l) refl

more_digits : (f n : ℕ) → 10 ≤ n → digits (suc f) n ≡ digits f (n / 10) ++ ((48 + n % 10) ∷ [])
unfolding digits
more_digits f n l = rw (digits, le-ltb n 10 l) refl

-- one digit more is not needed
enough : (f n : ℕ) → n < 10 ^ suc f → digits (suc f) n ≡ digits f n
enough zero n l = one_digit 1 n (omega arith) ∙ sym (one_digit 0 n (omega arith))
enough (suc f) n l = go (cases_lt n 10) (enough f (n / 10) (omega (arith, pow-suc 10 (suc f))))
  where
    go : (n < 10) ⊎ (10 ≤ n) → digits (suc f) (n / 10) ≡ digits f (n / 10) → digits (suc (suc f)) n ≡ digits (suc f) n
    go (inl m) e = one_digit (suc (suc f)) n m ∙ sym (one_digit (suc f) n m)
    go (inr m) e = more_digits (suc f) n m ∙ ap (◌++ ((48 + n % 10) ∷ [])) e ∙ sym (more_digits f n m)

pub decimal_some : (n : ℕ) → 0 < length (decimal n)
decimal_some n = go (cases_lt n 10)
  where
    go : (n < 10) ⊎ (10 ≤ n) → 0 < length (decimal n)
    go (inl m) = omega (arith, ap length (one_digit 4 n m))
    go (inr m) = omega (arith, ap length (more_digits 3 n m), length-append (digits 3 (n / 10)) ((48 + n % 10) ∷ []))

-- no digit of 0, and else all digits
abbrev pub leading : ℕ → List ℕ
leading zero = []
leading (suc n) = decimal (suc n)

leads : (n : ℕ) → 0 < n → leading n ≡ decimal n
leads zero l = absurd (let z : ⊥ = omega arith in z)
leads (suc n) l = refl

-- the last digit behind the others
leading_more : (n : ℕ) → 0 < n → n < 100000 → leading n ≡ leading (n / 10) ++ ((48 + n % 10) ∷ [])
leading_more n l m = leads n l ∙ go (cases_lt n 10)
  where
    go : (n < 10) ⊎ (10 ≤ n) → decimal n ≡ leading (n / 10) ++ ((48 + n % 10) ∷ [])
    go (inl f) =
        let none : n / 10 ≡ 0 = omega arith in
        let same : n % 10 ≡ n = omega arith in
        rw (none, same) (one_digit 4 n f)
    go (inr f) =
        more_digits 3 n f ∙ ap (◌++ ((48 + n % 10) ∷ [])) (sym (enough 3 (n / 10) (omega arith)) ∙ sym (leads (n / 10) (omega arith)))

-- ---- with the digit of each power of ten

-- These digits come before that of the power; all of them, once it is 0.
pub data Led (n : ℕ) : ℕ → List ℕ → Type 0 where
  before : (j : ℕ) → Led n (10 ^ j) (leading (n / 10 ^ suc j))
  all : Led n 0 (decimal n)

less_power : (j : ℕ) → (0 < 10 ^ j) × (10 ^ suc j / 10 ≡ 10 ^ j)
less_power zero = (omega arith, refl)
less_power (suc j) = let l = (less_power j).0 in (omega (arith, pow-suc 10 j), omega (arith, pow-suc 10 (suc j)))

next_quotient : (n j : ℕ) → n / 10 ^ j / 10 ≡ n / 10 ^ suc j
next_quotient n j = div-div-eq-div-mul n (10 ^ j) 10 ∙ ap (n /◌) (sym (pow-suc 10 j))

pub at_first : (n : ℕ) → n < 100000 → Led n 10000 []
at_first n l =
    let none : n / 100000 ≡ 0 = omega arith in
    subst (λ x. Led n 10000 (leading x)) none (Led.before 4)

module _ (n : ℕ) (few : n < 100000) where
  abbrev with_digit : ℕ → List ℕ
  with_digit j = leading (n / 10 ^ suc j) ++ ((48 + n / 10 ^ j % 10) ∷ [])

  quotient : (j : ℕ) → n / 10 ^ j < 100000
  quotient j = omega (arith, div-le_self n (10 ^ j))

  some_quotient : (j : ℕ) → (10 ^ j ≤ n) → 0 < n / 10 ^ j
  some_quotient j l = le-div 1 n (10 ^ j) (less_power j).0 (omega arith)

  -- the digits with that of the power are those that come before the next power's
  all_but : (j : ℕ) → 10 ^ j ≤ n → leading (n / 10 ^ j) ≡ with_digit j
  all_but j l = rw (← next_quotient n j) (leading_more (n / 10 ^ j) (some_quotient j l) (quotient j))

  with_last : (0 < n) ⊎ (n ≤ 0) → decimal n ≡ with_digit 0
  with_last (inl some) = rw (← leads n some, div-one n) (leading_more n some few)
  with_last (inr l) = let none : n ≡ 0 = omega arith in rw none (one_digit 4 0 (omega arith))

  digit_of : (j : ℕ) → (10 ^ j ≤ n) ⊎ ((n < 10 ^ j) × (10 ^ j ≡ 1)) → Led n (10 ^ j / 10) (with_digit j)
  digit_of zero h = subst (Led n 0) (with_last (cases_lt 0 n)) Led.all
  digit_of (suc j) (inl l) = rw ((less_power j).1, ← all_but (suc j) l) (Led.before j)
  digit_of (suc j) (inr (l, e)) = absurd (let some = (less_power j).0 in let z : ⊥ = omega (arith, pow-suc 10 j) in z)

  no_digit_of : (j : ℕ) → n < 10 ^ j → 10 ^ j ≢ 1 → Led n (10 ^ j / 10) (leading (n / 10 ^ suc j))
  no_digit_of zero l p = absurd (p refl)
  no_digit_of (suc j) l p =
      let less = (less_power (suc j)).0 in
      rw ((less_power j).1, ← next_quotient n (suc j), div-eq_of_lt l) (subst (λ x. Led n (10 ^ j) (leading x)) (div-eq_of_lt l) (Led.before j))

  shorter : (m : ℕ) → m < 100000 → length (leading (m / 10)) ≤ length (leading m)
  shorter zero l = omega arith
  shorter (suc m) l = omega (arith, ap length (leading_more (suc m) (omega arith) l), length-append (leading (suc m / 10)) ((48 + suc m % 10) ∷ []))

  quotient_shorter : (j : ℕ) → length (leading (n / 10 ^ j)) ≤ length (leading n)
  quotient_shorter zero = rw (div-one n) (omega arith)
  quotient_shorter (suc j) =
      let one_less : length (leading (n / 10 ^ suc j)) ≤ length (leading (n / 10 ^ j)) = rw (← next_quotient n j) (shorter (n / 10 ^ j) (quotient j)) in
      omega (arith, quotient_shorter j)

  all_longer : (0 < n) ⊎ (n ≤ 0) → length (leading n) ≤ length (decimal n)
  all_longer (inl l) = rw (leads n l) (omega arith)
  all_longer (inr l) = let none : n ≡ 0 = omega arith in rw none (omega arith)

-- the digit of the power
pub digit_put : {n power : ℕ} {done : List ℕ} → n < 100000 → 0 < power → Led n power done → (power ≤ n) ⊎ ((n < power) × (power ≡ 1)) → Led n (power / 10) (done ++ ((48 + n / power % 10) ∷ []))
digit_put {n} l p (Led.before j) h = digit_of n l j h
digit_put l p Led.all h = absurd (let z : ⊥ = omega arith in z)

-- before its first digit a number has none
pub digit_left : {n power : ℕ} {done : List ℕ} → n < 100000 → n < power → power ≢ 1 → Led n power done → Led n (power / 10) done
digit_left {n} few l p (Led.before j) = no_digit_of n few j l p
digit_left few l p Led.all = absurd (let z : ⊥ = omega arith in z)

pub all_led : {n power : ℕ} {done : List ℕ} → power ≡ 0 → Led n power done → done ≡ decimal n
all_led e (Led.before j) = absurd (let l = (less_power j).0 in let z : ⊥ = omega arith in z)
all_led e Led.all = refl

pub led_within : {n power : ℕ} {done : List ℕ} → n < 100000 → Led n power done → length done ≤ length (decimal n)
led_within {n} few (Led.before j) = omega (arith, quotient_shorter n few (suc j), all_longer n few (cases_lt 0 n))
led_within few Led.all = omega arith
