-- Laws of masks and words: a word can be read back as the entry that it is of, so no two entries have one word.
-- Assumes nothing.
use mathlib.Core.Path.{◌≡◌, refl, sym, ◌∙◌, ap}
use mathlib.Core.Logic.{◌⊎◌, inl, inr}
use mathlib.Core.Bool.{cond}
use mathlib.Core.List.{List, [], ◌∷◌}
use Prim.Native.Nat.{ℕ, ◌+◌, ◌*◌, ◌^◌, ◌/◌, ◌%◌, ◌≤◌, ◌<◌}
use native.Mathlib.Omega.{arith}
use native.Mathlib.Nat.{pow-le-pow_right}
use lib.Dec.{eqb}
use lib.ListN.{length}
use lib.Count.{ones, ones_in, ones_step}
use Rattle.paper.specs.Multiset.{count, minus}
use Rattle.paper.specs.Grammar.{Grammar, IsGrammar, rule_count, members}
use Rattle.paper.specs.Entry.{Entry}
use Rattle.paper.specs.Sheet.{mask, word, rest_of, entry_of}
use Rattle.paper.proofs.Multiset.{count_self, count_other}
use Rattle.paper.proofs.SubMultisets.{Listed, Present, listed_cases, listed_nil, listed_count, listed_minus}

-- ---- masks

-- a mask has a bit for each member
pub mask_below : (s rest : List ℕ) → mask s rest < 2 ^ length s
unfolding mask
mask_below [] rest = omega arith
mask_below (a ∷ s) rest = grind (arith, mask_below s rest)

count_behind : (a b : ℕ) (s : List ℕ) → count b s ≤ count b (a ∷ s)
unfolding count
count_behind a b s = omega arith

-- one more a in the rest changes nothing if every a was there
mask_more : (a : ℕ) (q s : List ℕ) → count a s ≤ count a q → mask s (a ∷ q) ≡ mask s q
unfolding mask
mask_more a q [] h = refl
mask_more a q (b ∷ s) h = grind (arith, count_behind, count_other, mask_more a q s (omega (arith, count_behind b a s)))

-- a lowest bit of 0 or 1 in front of a number can be cut off again
low_bit : (b n : ℕ) → b ≤ 1 → (b + 2 * n) % 2 ≡ b
low_bit b n l = omega arith

high_bits : (b n : ℕ) → b ≤ 1 → (b + 2 * n) / 2 ≡ n
high_bits b n l = omega arith

-- reading a byte with such a lowest bit
rest_of_bit : (a : ℕ) (s : List ℕ) (b n : ℕ) → b ≤ 1 → rest_of (a ∷ s) (b + 2 * n) ≡ cond (eqb b 1) (a ∷ rest_of s n) (rest_of s n)
unfolding rest_of
rest_of_bit a s b n l = rw (low_bit b n l, high_bits b n l)

pub mask_missing : (a : ℕ) (s : List ℕ) {r : List ℕ} → Listed r s → mask (a ∷ s) r ≡ 0 + 2 * mask s r
unfolding mask
mask_missing a s {r} m = grind (arith, listed_count, count_self)

pub mask_present : (a : ℕ) (s q : List ℕ) → count a q ≡ count a s → mask (a ∷ s) (a ∷ q) ≡ 1 + 2 * mask s q
unfolding mask
mask_present a s q e = grind (arith, count_self, mask_more)

-- the members whose bit is set in the mask of a rest are that rest
pub rest_of_mask : (s : List ℕ) {r : List ℕ} → Listed r s → rest_of s (mask s r) ≡ r
unfolding rest_of
rest_of_mask [] m = sym (listed_nil m)
rest_of_mask (a ∷ s) {r} m = go (listed_cases a s m) (λ q n. rest_of_mask s n)
  where
    go : Listed r s ⊎ Present a s r → ((q : List ℕ) → Listed q s → rest_of s (mask s q) ≡ q) → rest_of (a ∷ s) (mask (a ∷ s) r) ≡ r
    go (inl n) ih = ap (rest_of (a ∷ s)) (mask_missing a s n) ∙ (rest_of_bit a s 0 (mask s r) (omega arith) ∙ ih r n)
    go (inr p) ih =
        ap (λ t. rest_of (a ∷ s) (mask (a ∷ s) t)) p.r_is
        ∙ (ap (rest_of (a ∷ s)) (mask_present a s p.q p.every) ∙ (rest_of_bit a s 1 (mask s p.q) (omega arith) ∙ (ap (a ∷◌) (ih p.q p.listed) ∙ sym p.r_is)))

-- so the mask of the members less those found says which those are
pub rest_of_minus : (s found : List ℕ) → rest_of s (mask s (minus s found)) ≡ minus s found
rest_of_minus s found = rest_of_mask s (listed_minus s found)

ones_bit : (b n : ℕ) → b ≤ 1 → ones (b + 2 * n) ≡ b + ones n
ones_bit b n l = grind (arith, ones_step)

-- the mask of a rest has a one for each member left (S7)
pub ones_mask : (s : List ℕ) {r : List ℕ} → Listed r s → ones (mask s r) ≡ length r
unfolding mask ones ones_in
ones_mask [] m = ap length (sym (listed_nil m))
ones_mask (a ∷ s) {r} m = go (listed_cases a s m) (λ q n. ones_mask s n)
  where
    go : Listed r s ⊎ Present a s r → ((q : List ℕ) → Listed q s → ones (mask s q) ≡ length q) → ones (mask (a ∷ s) r) ≡ length r
    go (inl n) ih = omega (arith, ap ones (mask_missing a s n), ones_bit 0 (mask s r) (omega arith), ih r n)
    go (inr p) ih =
        rw p.r_is (omega (arith, ap ones (mask_present a s p.q p.every), ones_bit 1 (mask s p.q) (omega arith), ih p.q p.listed))

-- ---- words

-- A mask is a byte.
pub mask_byte : (g : Grammar) → IsGrammar g → (h : ℕ) (rest : List ℕ) → h < rule_count g → mask (members g h) rest < 256
mask_byte g is h rest l = grind (arith, pow-le-pow_right, mask_below)

module _ (g : Grammar) (is : IsGrammar g) where
  -- the word is read back as the entry that it is of
  pub entry_of_word : (e : Entry) → e.rule < rule_count g → e.origin < 256 → Listed e.rest (members g e.rule) → entry_of g (word g e) ≡ e
  unfolding entry_of word
  entry_of_word e l k m = grind (arith, mask_byte, rest_of_mask)

  -- no two entries have one word
  pub word_same : (e f : Entry) → e.rule < rule_count g → f.rule < rule_count g → e.origin < 256 → f.origin < 256
      → Listed e.rest (members g e.rule) → Listed f.rest (members g f.rule) → word g e ≡ word g f → e ≡ f
  word_same e f l k i j m n w = grind (arith, entry_of_word)
