-- Where the lists of the sheet stand among the words: each behind the ones before it.
-- Assumes nothing.
use Rattle.std.proofs.Common.{◌≡◌, ℕ, zero, suc, ◌+◌, ◌-◌, ◌≤◌, ◌<◌, List, [], ◌∷◌, ◌++◌, map, length, get_or, take, replicate, refl, sym, ap, ◌∙◌, subst, inl, inr, ◌⊎◌, append_assoc, append-nil, arith, length-append}
use Rattle.std.proofs.Math.Seq.{slice, take-add, ext_get_or, get_or_at, get_or-append_right}
use Rattle.std.proofs.lemmas.Bool.{cases_lt}
use Rattle.std.proofs.lemmas.List.{length-map, map-append}
use Rattle.std.proofs.lemmas.Slice.{between_is}
use lib.ListN.{get_or-append, get_or-eq_default, get_or-replicate, length-replicate}
use Rattle.paper.specs.Grammar.{Grammar}
use Rattle.paper.specs.Sheet.{Sheet, sum, word, entries, list_at}
use Rattle.paper.specs.Building.{next_list, first_lists, sheet_of}
use Rattle.paper.specs.Outcome.{sheet_words, starts_from, padded}
use Rattle.paper.proofs.Sums.{sum_append}
use Rattle.sheet.specs.Cells.{key}
use Rattle.sheet.specs.Growing.{IsListOf}

-- ---- words and starts of a sheet

pub words_append : (g : Grammar) (s t : Sheet) → sheet_words g (s ++ t) ≡ sheet_words g s ++ sheet_words g t
unfolding sheet_words
words_append g [] t = refl
words_append g (list ∷ s) t = ap (map (word g) list ++◌) (words_append g s t) ∙ sym (append_assoc (map (word g) list) (sheet_words g s) (sheet_words g t))

pub length_starts : (at : ℕ) (s : Sheet) → length (starts_from at s) ≡ suc (length s)
unfolding starts_from
length_starts at [] = refl
length_starts at (list ∷ s) = ap suc (length_starts (at + length list) s)

starts_first : (at : ℕ) (s : Sheet) → get_or (starts_from at s) 0 0 ≡ at
unfolding starts_from
starts_first at [] = refl
starts_first at (list ∷ s) = refl

starts_behind : (at : ℕ) (s t : Sheet) → get_or (starts_from at (s ++ t)) (length s) 0 ≡ at + entries s
unfolding starts_from entries sum
starts_behind at [] t = starts_first at t ∙ omega arith
starts_behind at (list ∷ s) t = starts_behind (at + length list) s t ∙ omega arith

-- nothing but zeros
pub zeros : (n i : ℕ) → ◌≡◌ {A = ℕ} (get_or (replicate n 0) i 0) 0
zeros n i = go (cases_lt i n)
  where
    go : (i < n) ⊎ (n ≤ i) → ◌≡◌ {A = ℕ} (get_or (replicate n 0) i 0) 0
    go (inl l) = get_or-replicate n i 0 0 l
    go (inr l) = get_or-eq_default (replicate n 0) 0 (omega (arith, length-replicate {A = ℕ} n 0))

-- all is 0 past what was written
padded_past : (written : List ℕ) (cells i : ℕ) → length written ≤ i → get_or (padded written cells) i 0 ≡ 0
padded_past written cells i l = get_or-append_right written (replicate (cells - length written) 0) i 0 l ∙ zeros (cells - length written) (i - length written)

-- the words up to a place are those up to an earlier one, and those between
take_slice : (from to : ℕ) (words : List ℕ) → from ≤ to → take to words ≡ take from words ++ slice from to words
take_slice from to words l =
    let e : to ≡ from + (to - from) = omega arith in
    ap (λ n. take n words) e ∙ take-add from (to - from) words ∙ ap (take from words ++◌) (between_is words from to)

module _ (g : Grammar) (row : List ℕ) where
  -- ---- the first lists

  pub length_lists : (m : ℕ) → length (first_lists g row m) ≡ m
  unfolding first_lists
  length_lists zero = refl
  length_lists (suc m) = omega (arith, length-append (first_lists g row m) (next_list g row m (first_lists g row m) ∷ []), length_lists m)

  -- one list more
  lists_more : (m : ℕ) → first_lists g row (suc m) ≡ first_lists g row m ++ (next_list g row m (first_lists g row m) ∷ [])
  unfolding first_lists
  lists_more m = refl

  list_among : (j m : ℕ) → j < m → list_at (first_lists g row m) j ≡ next_list g row j (first_lists g row j)
  list_among j zero l = absurd (let z : ⊥ = omega arith in z)
  list_among j (suc m) l = ap (λ s. list_at s j) (lists_more m) ∙ go (list_among j m) (cases_lt j m)
    where
      go : (j < m → list_at (first_lists g row m) j ≡ next_list g row j (first_lists g row j)) → (j < m) ⊎ (m ≤ j)
          → list_at (first_lists g row m ++ (next_list g row m (first_lists g row m) ∷ [])) j ≡ next_list g row j (first_lists g row j)
      go ih (inl k) = get_or-append (first_lists g row m) (next_list g row m (first_lists g row m) ∷ []) [] j (omega (arith, length_lists m)) ∙ ih k
      go ih (inr k) =
          let e : m ≡ j = omega arith in
          subst (λ i. list_at (first_lists g row m ++ (next_list g row m (first_lists g row m) ∷ [])) i ≡ next_list g row i (first_lists g row i)) e
          (get_or_at (first_lists g row m) (next_list g row m (first_lists g row m)) [] [] m (length_lists m))

  -- list j of the sheet is the one that comes behind the first j
  sheet_list : (j : ℕ) → j ≤ length row → list_at (sheet_of g row) j ≡ next_list g row j (first_lists g row j)
  unfolding sheet_of
  sheet_list j l = list_among j (suc (length row)) (omega arith)

  sheet_more : (j : ℕ) → j ≤ length row → first_lists g row (suc j) ≡ first_lists g row j ++ (list_at (sheet_of g row) j ∷ [])
  sheet_more j l = lists_more j ∙ ap (λ list. first_lists g row j ++ (list ∷ [])) (sym (sheet_list j l))

  -- the first lists begin the sheet
  pub begins : (i m : ℕ) → i ≤ m → (rest : Sheet) × (first_lists g row m ≡ first_lists g row i ++ rest)
  begins i zero l = let e : zero ≡ i = omega arith in ([], ap (first_lists g row) e ∙ sym (append-nil (first_lists g row i)))
  begins i (suc m) l = go (begins i m) (cases_lt i (suc m))
    where
      go : (i ≤ m → (rest : Sheet) × (first_lists g row m ≡ first_lists g row i ++ rest)) → (i < suc m) ⊎ (suc m ≤ i)
          → (rest : Sheet) × (first_lists g row (suc m) ≡ first_lists g row i ++ rest)
      go ih (inl k) =
          let r = ih (omega arith) in
          let new : Sheet = next_list g row m (first_lists g row m) ∷ [] in
          (r.0 ++ new, lists_more m ∙ ap (λ (s : Sheet). s ++ new) r.1 ∙ append_assoc (first_lists g row i) r.0 new)
      go ih (inr k) = let e : suc m ≡ i = omega arith in ([], ap (first_lists g row) e ∙ sym (append-nil (first_lists g row i)))

  -- ---- where they stand

  -- no entries stand before list 0
  pub entries_none : entries (first_lists g row 0) ≡ 0
  unfolding first_lists entries sum
  entries_none = refl

  pub entries_list : (j : ℕ) → j ≤ length row → entries (first_lists g row (suc j)) ≡ entries (first_lists g row j) + length (list_at (sheet_of g row) j)
  unfolding entries sum
  entries_list j l = ap (sum length) (sheet_more j l) ∙ sum_append length (first_lists g row j) (list_at (sheet_of g row) j ∷ []) ∙ omega arith

  -- list j is as long as the cells that are it
  pub entries_more : {cells : List ℕ} (j : ℕ) → j ≤ length row → IsListOf g row j cells → entries (first_lists g row (suc j)) ≡ entries (first_lists g row j) + length cells
  entries_more {cells} j l h =
      omega (arith, entries_list j l, length-map cells key, length-map (list_at (sheet_of g row) j) (word g), ap length h.keys_are)

  -- list i of the sheet stands where it begins
  abbrev pub IsLaid : List ℕ → ℕ → Type 0
  IsLaid words i = IsListOf g row i (slice (entries (first_lists g row i)) (entries (first_lists g row (suc i))) words)

  none_laid : (words : List ℕ) → map key (take (entries (first_lists g row 0)) words) ≡ sheet_words g (first_lists g row 0)
  unfolding first_lists entries sum sheet_words
  none_laid words = refl

  pub words_more : (j : ℕ) → j ≤ length row → sheet_words g (first_lists g row (suc j)) ≡ sheet_words g (first_lists g row j) ++ map (word g) (list_at (sheet_of g row) j)
  unfolding sheet_words
  words_more j l =
      ap (sheet_words g) (sheet_more j l) ∙ words_append g (first_lists g row j) (list_at (sheet_of g row) j ∷ [])
      ∙ ap (sheet_words g (first_lists g row j) ++◌) (append-nil (map (word g) (list_at (sheet_of g row) j)))

  laid_words : (words : List ℕ) (m : ℕ) → m ≤ suc (length row) → ((i : ℕ) → i < m → IsLaid words i)
      → map key (take (entries (first_lists g row m)) words) ≡ sheet_words g (first_lists g row m)
  laid_words words zero l laid = none_laid words
  laid_words words (suc m) l laid =
      let from : ℕ = entries (first_lists g row m) in
      let to : ℕ = entries (first_lists g row (suc m)) in
      ap (map key) (take_slice from to words (omega (arith, entries_list m (omega arith)))) ∙ map-append key (take from words) (slice from to words)
      ∙ ap (λ (s : List ℕ). s ++ map key (slice from to words)) (laid_words words m (omega arith) (λ i k. laid i (omega arith)))
      ∙ ap (sheet_words g (first_lists g row m) ++◌) (laid m (omega arith)).keys_are ∙ sym (words_more m (omega arith))

  -- the words of a whole sheet
  pub sheet_laid : (words : List ℕ) → ((i : ℕ) → i ≤ length row → IsLaid words i) → map key (take (entries (sheet_of g row)) words) ≡ sheet_words g (sheet_of g row)
  unfolding sheet_of
  sheet_laid words laid = laid_words words (suc (length row)) (omega arith) (λ i l. laid i (omega arith))

  pub entries_sheet : entries (first_lists g row (suc (length row))) ≡ entries (sheet_of g row)
  unfolding sheet_of
  entries_sheet = refl

  pub starts_at : (i : ℕ) → i ≤ suc (length row) → get_or (starts_from 0 (sheet_of g row)) i 0 ≡ entries (first_lists g row i)
  unfolding sheet_of
  starts_at i l =
      let r = begins i (suc (length row)) l in
      ap (λ s. get_or (starts_from 0 s) i 0) r.1 ∙ ap (λ k. get_or (starts_from 0 (first_lists g row i ++ r.0)) k 0) (sym (length_lists i)) ∙ starts_behind 0 (first_lists g row i) r.0
      ∙ omega arith

  -- the starts of a whole sheet, in 66 words
  pub starts_are : (starts : List ℕ) → length starts ≡ 66 → length row ≤ 64 → ((i : ℕ) → i ≤ suc (length row) → get_or starts i 0 ≡ entries (first_lists g row i))
      → ((i : ℕ) → suc (length row) < i → get_or starts i 0 ≡ 0) → starts ≡ padded (starts_from 0 (sheet_of g row)) 66
  unfolding sheet_of
  starts_are starts len short at past = ext_get_or 0 starts (padded written 66) (len ∙ sym whole) (λ i l. go i (cases_lt i (suc (suc (length row)))))
    where
      written : List ℕ
      written = starts_from 0 (first_lists g row (suc (length row)))

      long : length written ≡ suc (suc (length row))
      long = length_starts 0 (first_lists g row (suc (length row))) ∙ ap suc (length_lists (suc (length row)))

      whole : length (padded written 66) ≡ 66
      whole = omega (arith, length-append written (replicate (66 - length written) 0), length-replicate {A = ℕ} (66 - length written) 0, long)

      go : (i : ℕ) → (i < suc (suc (length row))) ⊎ (suc (suc (length row)) ≤ i) → get_or starts i 0 ≡ get_or (padded written 66) i 0
      go i (inl k) = at i (omega arith) ∙ sym (starts_at i (omega arith)) ∙ sym (get_or-append written (replicate (66 - length written) 0) 0 i (omega (arith, long)))
      go i (inr k) = past i (omega arith) ∙ sym (padded_past written 66 i (omega (arith, long)))
