-- What a new entry tells: the sets gain it, and the bytes gain what is left when each symbol of a set is taken.
-- Assumes nothing.
use Rattle.std.proofs.Common.{◌≡◌, ◌≢◌, ◌↔◌, ◌⊎◌, inl, inr, ℕ, ◌-◌, ◌^◌, ◌<◌, true, false, List, length, get_or, set, bit_and, bit_or, sym, ap, ◌∙◌, arith, get_or-set_other, get_or-set_same}
use native.Mathlib.Decide.{ℕ_discrete}
use Rattle.paper.specs.Bits.{bit_at}
use Rattle.paper.specs.Grammar.{Grammar, IsNonterminal, left}
use Rattle.paper.proofs.Bits.{bit_cases, bit_lt, bit_zero, bit_or_lem, and_set, clear_here, clear_other}
use Rattle.tables.specs.Machine.{may_be_taken, Leaves}
use Rattle.sheet.specs.Bytes.{HasByte}
use Rattle.sheet.specs.Growing.{DerivesNothing}
use Rattle.sheet.specs.Learning.{IsNoted, IsLeft, GainsLeft, AreEmptyParts}
use Rattle.sheet.proofs.ByteSets.{or_power}

-- ---- the sets

or_set : (k x y : ℕ) → (bit_at k (bit_or x y) ≡ 1) ↔ ((bit_at k x ≡ 1) ⊎ (bit_at k y ≡ 1))
or_set k x y = (λ h. there (bit_cases k x) h, back)
  where
    there : (bit_at k x ≡ 0) ⊎ (bit_at k x ≡ 1) → bit_at k (bit_or x y) ≡ 1 → (bit_at k x ≡ 1) ⊎ (bit_at k y ≡ 1)
    there (inl e) h = inr (omega (arith, bit_or_lem k x y))
    there (inr e) h = inl e

    back : (bit_at k x ≡ 1) ⊎ (bit_at k y ≡ 1) → bit_at k (bit_or x y) ≡ 1
    back (inl e) = omega (arith, bit_or_lem k x y, bit_lt k y)
    back (inr e) = omega (arith, bit_or_lem k x y, bit_lt k x)

module _ (g : Grammar) (j h i m want symbols nonterminals : ℕ) (found : List ℕ) (taken : (x : ℕ) → (bit_at x symbols ≡ 1) ↔ (may_be_taken g h m x ≡ true))
    (nonterminal : (x : ℕ) → (bit_at x nonterminals ≡ 1) ↔ IsNonterminal g x) where
  gains : (x : ℕ) → (bit_at x (bit_or want (bit_and symbols nonterminals)) ≡ 1) ↔ ((bit_at x want ≡ 1) ⊎ (IsNonterminal g x × (may_be_taken g h m x ≡ true)))
  gains x = (λ e. to ((or_set x want (bit_and symbols nonterminals)).0 e), λ e. (or_set x want (bit_and symbols nonterminals)).1 (from e))
    where
      to : (bit_at x want ≡ 1) ⊎ (bit_at x (bit_and symbols nonterminals) ≡ 1) → (bit_at x want ≡ 1) ⊎ (IsNonterminal g x × (may_be_taken g h m x ≡ true))
      to (inl e) = inl e
      to (inr e) = let b = (and_set x symbols nonterminals).0 e in inr ((nonterminal x).0 b.1, (taken x).0 b.0)

      from : (bit_at x want ≡ 1) ⊎ (IsNonterminal g x × (may_be_taken g h m x ≡ true)) → (bit_at x want ≡ 1) ⊎ (bit_at x (bit_and symbols nonterminals) ≡ 1)
      from (inl e) = inl e
      from (inr (n, t)) = inr ((and_set x symbols nonterminals).1 ((taken x).1 t, (nonterminal x).1 n))

  -- a finished entry from an earlier place
  pub noted_finished : (a : ℕ) → m ≡ 0 → i < length found → a ≡ left g h
      → IsNoted g j h i m found want (set found i (bit_or (get_or found i 0) (2 ^ a))) (bit_or want (bit_and symbols nonterminals))
  noted_finished a none within e = record { finishes = λ k x l. at k x (ℕ_discrete k i); wants = gains }
    where
      here : (x : ℕ) → (bit_at x (get_or found i 0) ≡ 1) ⊎ (x ≡ a) → (k : ℕ) → k ≡ i → (bit_at x (get_or found k 0) ≡ 1) ⊎ ((m ≡ 0) × (k ≡ i) × (x ≡ left g h))
      here x (inl b) k f = inl (ap (λ n. bit_at x (get_or found n 0)) f ∙ b)
      here x (inr b) k f = inr (none, f, b ∙ e)

      back : (k x : ℕ) → k ≡ i → (bit_at x (get_or found k 0) ≡ 1) ⊎ ((m ≡ 0) × (k ≡ i) × (x ≡ left g h)) → (bit_at x (get_or found i 0) ≡ 1) ⊎ (x ≡ a)
      back k x f (inl b) = inl (ap (λ n. bit_at x (get_or found n 0)) (sym f) ∙ b)
      back k x f (inr (n, o, b)) = inr (b ∙ sym e)

      first : (k x : ℕ) → k ≢ i → (bit_at x (get_or found k 0) ≡ 1) ⊎ ((m ≡ 0) × (k ≡ i) × (x ≡ left g h)) → bit_at x (get_or found k 0) ≡ 1
      first k x ne (inl b) = b
      first k x ne (inr (n, o, b)) = absurd (ne o)

      at : (k x : ℕ) → Dec (k ≡ i)
          → (bit_at x (get_or (set found i (bit_or (get_or found i 0) (2 ^ a))) k 0) ≡ 1) ↔ ((bit_at x (get_or found k 0) ≡ 1) ⊎ ((m ≡ 0) × (k ≡ i) × (x ≡ left g h)))
      at k x (yes f) =
          let s : get_or (set found i (bit_or (get_or found i 0) (2 ^ a))) k 0 ≡ bit_or (get_or found i 0) (2 ^ a)
          = ap (λ n. get_or (set found i (bit_or (get_or found i 0) (2 ^ a))) n 0) f ∙ get_or-set_same found i (bit_or (get_or found i 0) (2 ^ a)) 0 within in
          let o = or_power a (get_or found i 0) x in
          (λ b. here x (o.0 (ap (bit_at x) (sym s) ∙ b)) k f, λ b. ap (bit_at x) s ∙ o.1 (back k x f b))
      at k x (no ne) =
          let s : get_or (set found i (bit_or (get_or found i 0) (2 ^ a))) k 0 ≡ get_or found k 0 = get_or-set_other found i k (bit_or (get_or found i 0) (2 ^ a)) 0 ne in
          (λ b. inl (ap (bit_at x) (sym s) ∙ b), λ b. ap (bit_at x) s ∙ first k x ne b)

  -- any other entry
  pub noted_other : (m ≡ 0 → i < j → ⊥) → IsNoted g j h i m found want found (bit_or want (bit_and symbols nonterminals))
  noted_other other = record { finishes = λ k x l. (λ b. inl b, first k x l); wants = gains }
    where
      first : (k x : ℕ) → k < j → (bit_at x (get_or found k 0) ≡ 1) ⊎ ((m ≡ 0) × (k ≡ i) × (x ≡ left g h)) → bit_at x (get_or found k 0) ≡ 1
      first k x l (inl b) = b
      first k x l (inr (n, o, b)) = absurd (other n (omega arith))

-- the symbols that may be taken, and derive nothing
pub empty_parts : (g : Grammar) (h m symbols empty : ℕ) → ((x : ℕ) → (bit_at x symbols ≡ 1) ↔ (may_be_taken g h m x ≡ true))
    → ((x : ℕ) → (bit_at x empty ≡ 1) ↔ DerivesNothing g x) → AreEmptyParts g h m (bit_and symbols empty)
empty_parts g h m symbols empty taken nothing x = (
  λ e. let b = (and_set x symbols empty).0 e in ((nothing x).0 b.1, (taken x).0 b.0),
  λ (d, t). (and_set x symbols empty).1 ((taken x).1 t, (nothing x).1 d),
)

-- ---- what is left when each symbol of a set is taken

-- Each symbol of the set that is no longer untaken has been taken, and the bytes that came in are left by symbols of the set.
pub record Untaken (g : Grammar) (h m symbols untaken : ℕ) (old new : List ℕ) : Type 0 where
  pub within : (x : ℕ) → bit_at x untaken ≡ 1 → bit_at x symbols ≡ 1
  pub gained : (n : ℕ) → HasByte new n → HasByte old n ⊎ IsLeft g h m symbols n
  pub kept : (n : ℕ) → HasByte old n → HasByte new n
  pub has : (x n : ℕ) → bit_at x symbols ≡ 1 → bit_at x untaken ≡ 0 → Leaves g h x m n → HasByte new n

module _ (g : Grammar) (h m symbols : ℕ) (old : List ℕ) where
  pub none_taken : Untaken g h m symbols symbols old old
  none_taken = record { within = λ x e. e; gained = λ n b. inl b; kept = λ n b. b; has = λ x n e f. absurd (omega arith) }

  module _ {untaken : ℕ} {new : List ℕ} (u : Untaken g h m symbols untaken old new) where
    pub all_taken : untaken ≡ 0 → GainsLeft g h m symbols old new
    all_taken e n = (u.gained n, back)
      where
        back : HasByte old n ⊎ IsLeft g h m symbols n → HasByte new n
        back (inl b) = u.kept n b
        back (inr l) = u.has l.symbol n l.is_in (ap (bit_at l.symbol) e ∙ bit_zero l.symbol) l.leaves

    module _ (x : ℕ) (is : bit_at x untaken ≡ 1) where
      still : (y : ℕ) → Dec (y ≡ x) → bit_at y (untaken - 2 ^ x) ≡ 1 → bit_at y symbols ≡ 1
      still y (yes e) f = absurd (let z : ⊥ = omega (arith, ap (λ n. bit_at n (untaken - 2 ^ x)) e, clear_here x untaken is) in z)
      still y (no ne) f = u.within y (sym (clear_other x y untaken is ne) ∙ f)

      -- it may not be taken
      pub none_left : may_be_taken g h m x ≡ false → Untaken g h m symbols (untaken - 2 ^ x) old new
      none_left not = record { within = λ y. still y (ℕ_discrete y x); gained = u.gained; kept = u.kept; has = λ y n. at y n (ℕ_discrete y x) }
        where
          at : (y n : ℕ) → Dec (y ≡ x) → bit_at y symbols ≡ 1 → bit_at y (untaken - 2 ^ x) ≡ 0 → Leaves g h y m n → HasByte new n
          at y n (yes e) i f l = absurd (let b : may_be_taken g h m x ≡ true = rw e at l.may in let z : true ≡ false = sym b ∙ not in let w : ⊥ = cc in w)
          at y n (no ne) i f l = u.has y n i (sym (clear_other x y untaken is ne) ∙ f) l

      -- it leaves a byte, which comes in
      pub one_left : {rest : ℕ} {more : List ℕ} → Leaves g h x m rest → ((n : ℕ) → HasByte more n ↔ (HasByte new n ⊎ (n ≡ rest)))
          → Untaken g h m symbols (untaken - 2 ^ x) old more
      one_left {rest} {more} leaves add = record {
        within = λ y. still y (ℕ_discrete y x);
        gained = λ n b. from n ((add n).0 b);
        kept = λ n b. (add n).1 (inl (u.kept n b));
        has = λ y n. at y n (ℕ_discrete y x);
      }
        where
          from : (n : ℕ) → HasByte new n ⊎ (n ≡ rest) → HasByte old n ⊎ IsLeft g h m symbols n
          from n (inl b) = u.gained n b
          from n (inr e) = inr (record { symbol = x; is_in = u.within x is; leaves = rw e leaves })

          at : (y n : ℕ) → Dec (y ≡ x) → bit_at y symbols ≡ 1 → bit_at y (untaken - 2 ^ x) ≡ 0 → Leaves g h y m n → HasByte more n
          at y n (yes e) i f l = let k : Leaves g h x m n = rw e at l in (add n).1 (inr (sym k.becomes ∙ leaves.becomes))
          at y n (no ne) i f l = (add n).1 (inl (u.has y n i (sym (clear_other x y untaken is ne) ∙ f) l))
