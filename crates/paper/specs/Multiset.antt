-- Multisets of symbols. A multiset is written as a list; two lists are the same multiset if they hold each symbol equally often.
-- Assumes nothing.
use Rattle.std.specs.Prelude.{◌≡◌, Bool, true, false, ◌||◌, cond, List, [], ◌∷◌, ◌++◌, map, ℕ, ◌+◌, ◌≤◌, ◌<◌, eqb, length, get_or}

-- one if the test holds
abbrev pub bit : Bool → ℕ
bit true = 1
bit false = 0

-- how often a stands in the list
unfoldable pub count : ℕ → List ℕ → ℕ
count a [] = 0
count a (b ∷ s) = bit (eqb a b) + count a s

-- the sequence has each symbol exactly as often as the multiset (G5)
pub record Arrangement (sequence multiset : List ℕ) : Type 0 where
  pub counts : (a : ℕ) → count a sequence ≡ count a multiset

-- does a stand in the list?
unfoldable pub has : ℕ → List ℕ → Bool
has a [] = false
has a (b ∷ s) = eqb a b || has a s

-- the list less one a, the first written
unfoldable pub without : ℕ → List ℕ → List ℕ
without a [] = []
without a (b ∷ s) = cond (eqb a b) s (b ∷ without a s)

-- the members less those found, in the order written; of equal members the first goes first (S7)
unfoldable pub minus : List ℕ → List ℕ → List ℕ
minus members [] = members
minus members (a ∷ found) = minus (without a members) found

-- ascending, equals allowed
pub record Ascending (s : List ℕ) : Type 0 where
  pub ascend : (i j : ℕ) → i < j → j < length s → get_or s i 0 ≤ get_or s j 0

-- ascending, no two equal
pub record StrictlyAscending (s : List ℕ) : Type 0 where
  pub ascend : (i j : ℕ) → i < j → j < length s → get_or s i 0 < get_or s j 0

-- keep those that pass the test
unfoldable pub keep {ℓ} : {A : Type ℓ} → (A → Bool) → List A → List A
keep p [] = []
keep p (x ∷ s) = cond (p x) (x ∷ keep p s) (keep p s)

-- each sub-multiset of the members once: the rests that D counts (S6). Of equal members the first are missing first (S7):
-- the first member is missing, or it is there and with it every later one equal to it.
unfoldable pub sub_multisets : List ℕ → List (List ℕ)
sub_multisets [] = [] ∷ []
sub_multisets (a ∷ s) = sub_multisets s ++ map (a ∷◌) (keep (λ r. eqb (count a r) (count a s)) (sub_multisets s))
