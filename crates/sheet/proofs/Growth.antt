-- How growth adds up, and what the cells of a list that is done say.
-- Assumes nothing.
use Rattle.std.proofs.Common.{◌≡◌, ℕ, zero, suc, ◌≤◌, ◌<◌, ◌⊎◌, inl, inr, List, [], ◌∷◌, map, length, get_or, refl, sym, ◌∙◌, ap, arith}
use Rattle.std.proofs.lemmas.Grind.{get_or_default_zero}
use Rattle.std.proofs.lemmas.List.{length-map}
use Rattle.std.proofs.lemmas.Bool.{cases_lt}
use mathlib.Core.List.Memᴰ
use mathlib.Core.List.{Memᴰ}
use lib.ListN.{get_or-map}
use Rattle.paper.specs.Grammar.{Grammar}
use Rattle.paper.specs.Image.{grammar_of}
use Rattle.paper.specs.Entry.{Entry, Found}
use Rattle.paper.specs.Sheet.{word, entries, list_at}
use Rattle.paper.specs.Building.{first_lists, next_list, sheet_of}
use Rattle.paper.specs.Demands.{IsFit}
use Rattle.paper.proofs.Lists.{place_mem}
use Rattle.paper.proofs.Sums.{sum_append}
use Rattle.paper.proofs.Building.{sheet_found}
use Rattle.sheet.specs.Cells.{key}
use Rattle.sheet.specs.Growing.{Holds, IsListOf, Grew, Advanced}
use Rattle.sheet.specs.Grown.{start_of, IsState, IsGrowth}
use Rattle.sheet.specs.declared.grow.Lists.{Lists}

-- ## Growth adds up

pub grown_none : {image row words : List ℕ} {lists : Lists} (low high : ℕ) → IsState image row words lists → IsGrowth image row low high words lists words lists
grown_none low high s = record { state = s; place_is = refl; starts_are = refl; grew = record { keeps = λ e m. m; origins = λ e m. inl m } }

grew_more : {g : Grammar} {low high a b : ℕ} {old mid new : List ℕ} → Grew g low high old mid → low ≤ a → b ≤ high → Grew g a b mid new → Grew g low high old new
grew_more {g} {low} {high} {a} {b} {old} {mid} x l m y = record { keeps = λ e h. y.keeps e (x.keeps e h); origins = λ e h. go e (y.origins e h) }
  where
    go : (e : Entry) → Holds g mid e ⊎ ((a ≤ e.origin) × (e.origin ≤ b)) → Holds g old e ⊎ ((low ≤ e.origin) × (e.origin ≤ high))
    go e (inl h) = x.origins e h
    go e (inr (p, q)) = inr (omega arith, omega arith)

pub grown_more : {image row old mid new : List ℕ} {before between after : Lists} {low high a b : ℕ} → IsGrowth image row low high old before mid between → low ≤ a → b ≤ high
    → IsGrowth image row a b mid between new after → IsGrowth image row low high old before new after
grown_more x l m y = record { state = y.state; place_is = y.place_is ∙ x.place_is; starts_are = y.starts_are ∙ x.starts_are; grew = grew_more x.grew l m y.grew }

-- what was taken stays
pub advanced_still : {g : Grammar} {row old new : List ℕ} {i x low high : ℕ} → Grew g low high old new → Advanced g row i x old → Advanced g row i x new
advanced_still {x = x} w a = record { has = λ e f m. w.keeps _ (a.has e f m) }

-- ## Where lists start

lists_rise : (g : Grammar) (row : List ℕ) (m : ℕ) → entries (first_lists g row m) ≤ entries (first_lists g row (suc m))
unfolding entries first_lists
lists_rise g row m = omega (arith, sum_append length (first_lists g row m) (next_list g row m (first_lists g row m) ∷ []))

pub entries_rise : (g : Grammar) (row : List ℕ) (a b : ℕ) → a ≤ b → entries (first_lists g row a) ≤ entries (first_lists g row b)
entries_rise g row a zero l = let e : a ≡ 0 = omega arith in omega (arith, ap (λ n. entries (first_lists g row n)) e)
entries_rise g row a (suc b) l = go (cases_lt b a) (entries_rise g row a b)
  where
    go : (b < a) ⊎ (a ≤ b) → (a ≤ b → entries (first_lists g row a) ≤ entries (first_lists g row b)) → entries (first_lists g row a) ≤ entries (first_lists g row (suc b))
    go (inl h) r = let e : a ≡ suc b = omega arith in omega (arith, ap (λ n. entries (first_lists g row n)) e)
    go (inr h) r = omega (arith, r h, lists_rise g row b)

-- a list before ends among the words
pub list_within : {image row words : List ℕ} {lists : Lists} → IsState image row words lists → (i : ℕ) → i < lists.place → start_of lists (suc i) ≤ length words
list_within {image} {row} {words} {lists} s i l =
    omega (arith, s.starts_are (suc i) (omega arith), s.starts_are lists.place (omega arith), entries_rise (grammar_of image) row (suc i) lists.place (omega arith), s.base_le, s.end_le)

-- ## The cells of a list

pub mem_place : {A : Type 0} (d : A) {x : A} (s : List A) → Memᴰ x s → (k : ℕ) × (k < length s) × (get_or s k d ≡ x)
mem_place d [] m = absurd (Memᴰ.not-nil m)
mem_place {A} d {x} (y ∷ s) m = go (Memᴰ.cases_cons m) (λ n. mem_place d s n)
  where
    go : (x ≡ y) ⊎ Memᴰ x s → (Memᴰ x s → (k : ℕ) × (k < length s) × (get_or s k d ≡ x)) → (k : ℕ) × (k < length (y ∷ s)) × (get_or (y ∷ s) k d ≡ x)
    go (inl e) r = (0, omega arith, sym e)
    go (inr n) r = let (k, l, e) = r n in (suc k, omega arith, e)

-- the entry at place k of list i
abbrev pub entry_at : Grammar → List ℕ → ℕ → ℕ → Entry
entry_at g row i k = get_or (list_at (sheet_of g row) i) k (record { rule = 0; origin = 0; rest = [] })

pub list_length : {g : Grammar} {row cells : List ℕ} {i : ℕ} → IsListOf g row i cells → length cells ≡ length (list_at (sheet_of g row) i)
list_length {g} {row} {cells} {i} is = sym (length-map cells key) ∙ (ap length is.keys_are ∙ length-map (list_at (sheet_of g row) i) (word g))

pub cell_word : {g : Grammar} {row cells : List ℕ} {i : ℕ} → IsListOf g row i cells → (k : ℕ) → k < length cells → key (get_or cells k 0) ≡ word g (entry_at g row i k)
cell_word {g} {row} {cells} {i} is k l =
    let list = list_at (sheet_of g row) i in
    let none : Entry = record { rule = 0; origin = 0; rest = [] } in
    let m : k < length (map (word g) list) = omega (arith, ap length is.keys_are, length-map cells key) in
    sym (get_or-map key cells k 0) ∙ (ap (λ s. get_or s k 0) is.keys_are ∙ (sym (get_or_default_zero (map (word g) list) k (word g none) m) ∙ get_or-map (word g) list k none))

-- what the steps find on list i is at some place of it
pub found_place : {image row : List ℕ} {i : ℕ} {e : Entry} → IsFit image row → Found (grammar_of image) row i e
    → (k : ℕ) × (k < length (list_at (sheet_of (grammar_of image) row) i)) × (entry_at (grammar_of image) row i k ≡ e)
found_place {image} {row} {i} {e} fit f =
    mem_place _ (list_at (sheet_of (grammar_of image) row) i) ((sheet_found (grammar_of image) row fit.is_grammar fit.short i e).1 f)

pub entry_found : {image row : List ℕ} {i : ℕ} → IsFit image row → (k : ℕ) → k < length (list_at (sheet_of (grammar_of image) row) i)
    → Found (grammar_of image) row i (entry_at (grammar_of image) row i k)
entry_found {image} {row} {i} fit k l =
    (sheet_found (grammar_of image) row fit.is_grammar fit.short i _).0 (place_mem _ (list_at (sheet_of (grammar_of image) row) i) k l)
