-- The state of the sheet while an entry is put in, and with it all that becomes of it by taking empty parts.
-- Assumes nothing.
use Rattle.std.proofs.Common.{◌≡◌, ◌↔◌, ℕ, zero, suc, ◌+◌, ◌-◌, ◌*◌, ◌≤◌, ◌<◌, true, false, Ok, Err, List, [], ◌∷◌, ◌++◌, map, length, get_or, take, drop, refl, sym, ap, ◌∙◌, subst, arith, length-append}
use Rattle.std.proofs.Math.Seq.{slice, get_or_at}
use Rattle.std.proofs.lemmas.List.{length-map}
use lib.ListN.{get_or-append}
use native.Mathlib.Decide.{dec_lt}
use mathlib.Core.List.{Memᴰ}
use Rattle.paper.specs.Grammar.{Grammar, IsGrammar, rule_count}
use Rattle.paper.specs.Entry.{Entry, Found}
use Rattle.paper.specs.Image.{grammar_of}
use Rattle.paper.specs.Sheet.{word, entry_of, list_at, sum, entries}
use Rattle.paper.specs.Building.{insert, next_list, first_lists, sheet_of}
use Rattle.paper.specs.declared.Refusal.{Refusal}
use Rattle.paper.proofs.Lists.{Distinct, pigeonhole}
use Rattle.paper.proofs.Sums.{sum_append}
use Rattle.paper.proofs.Closure.{ascending_climbs, climbs_distinct}
use Rattle.paper.proofs.Building.{sheet_found}
use Rattle.tables.specs.Machine.{IsByte}
use Rattle.tables.specs.Masks.{entry_with}
use Rattle.tables.proofs.Masks.{proper_byte, word_entry, entry_of_byte}
use Rattle.sheet.specs.Bytes.{HasByte, IsGreatestTaken}
use Rattle.sheet.specs.Cells.{key, Ascends, Placed}
use Rattle.sheet.specs.Growing.{entry_in, Holds, IsListOf}
use Rattle.sheet.specs.Grown.{start_of, base_of, cells_of, IsState, IsGrowth, IsTooMany}
use Rattle.sheet.specs.Learning.{IsNoted, GainsLeft, AreEmptyParts}
use Rattle.sheet.specs.declared.grow.Lists.{Lists}
use Rattle.sheet.proofs.Cells.{still_ascends, list_placed, list_before, length_placed}
use Rattle.sheet.proofs.Emptying.{IsCellOf, IsEmptying, emptying_first, emptying_last, this_byte, words_now, sound_now, emptying_there, emptying_placed}

-- ---- where the lists start

module _ (g : Grammar) (row : List ℕ) where
  length_lists : (m : ℕ) → length (first_lists g row m) ≡ m
  unfolding first_lists
  length_lists zero = refl
  length_lists (suc m) = omega (arith, length-append (first_lists g row m) (next_list g row m (first_lists g row m) ∷ []), length_lists m)

  one_more : (m : ℕ) → entries (first_lists g row (suc m)) ≡ entries (first_lists g row m) + length (next_list g row m (first_lists g row m))
  unfolding first_lists entries sum
  one_more m = sum_append length (first_lists g row m) (next_list g row m (first_lists g row m) ∷ []) ∙ omega arith

  -- the lists start in order
  pub starts_rise : (i k : ℕ) → i ≤ k → entries (first_lists g row i) ≤ entries (first_lists g row k)
  starts_rise i zero l = let e : i ≡ 0 = omega arith in rw e (omega arith)
  starts_rise i (suc k) l = go (dec_lt i (suc k)) (starts_rise i k)
    where
      go : Dec (i < suc k) → (i ≤ k → entries (first_lists g row i) ≤ entries (first_lists g row k)) → entries (first_lists g row i) ≤ entries (first_lists g row (suc k))
      go (yes s) ih = omega (arith, ih (omega arith), one_more k)
      go (no n) ih = let e : i ≡ suc k = omega arith in rw e (omega arith)

  at_old : (j m : ℕ) → j < m → list_at (first_lists g row (suc m)) j ≡ list_at (first_lists g row m) j
  unfolding first_lists
  at_old j m l = get_or-append (first_lists g row m) (next_list g row m (first_lists g row m) ∷ []) [] j (omega (arith, length_lists m))

  at_new : (m : ℕ) → list_at (first_lists g row (suc m)) m ≡ next_list g row m (first_lists g row m)
  unfolding first_lists
  at_new m = get_or_at (first_lists g row m) (next_list g row m (first_lists g row m)) [] [] m (length_lists m)

  list_within : (j m : ℕ) → j < m → entries (first_lists g row j) + length (list_at (first_lists g row m) j) ≤ entries (first_lists g row m)
  list_within j zero l = absurd (let z : ⊥ = omega arith in z)
  list_within j (suc m) l = go (dec_lt j m) (list_within j m)
    where
      go : Dec (j < m) → (j < m → entries (first_lists g row j) + length (list_at (first_lists g row m) j) ≤ entries (first_lists g row m))
          → entries (first_lists g row j) + length (list_at (first_lists g row (suc m)) j) ≤ entries (first_lists g row (suc m))
      go (yes k) ih = omega (arith, ih k, one_more m, ap length (at_old j m k))
      go (no n) ih = let e : j ≡ m = omega arith in rw e (omega (arith, one_more m, ap length (at_new m)))

  -- list j behind those before it is no more than the sheet
  pub list_in_sheet : (j : ℕ) → j ≤ length row → entries (first_lists g row j) + length (list_at (sheet_of g row) j) ≤ entries (sheet_of g row)
  unfolding sheet_of
  list_in_sheet j l = list_within j (suc (length row)) (omega arith)

-- cells whose keys ascend, and are words of entries that the steps find, are no more than the entries of the list
pub few_cells : {g : Grammar} {row : List ℕ} {j : ℕ} (cells : List ℕ) → IsGrammar g → length row ≤ 64 → Ascends cells
    → ((c : ℕ) → Memᴰ c cells → word g (entry_in g c) ≡ key c) → ((e : Entry) → Holds g cells e → Found g row j e)
    → length cells ≤ length (list_at (sheet_of g row) j)
few_cells {g} {row} {j} cells is short ascends words_are sound =
    let keys : map (word g) (map (entry_in g) cells) ≡ map key cells = same cells words_are in
    let apart : Distinct (map (entry_in g) cells)
    = climbs_distinct (word g) 0 (map (entry_in g) cells) (rw keys (ascending_climbs 0 (map key cells) (λ i l. omega arith) ascends)) in
    omega (arith, pigeonhole (map (entry_in g) cells) (list_at (sheet_of g row) j) apart (λ e m. (sheet_found g row is short j e).1 (sound e m)), length-map cells (entry_in g))
  where
    same : (s : List ℕ) → ((c : ℕ) → Memᴰ c s → word g (entry_in g c) ≡ key c) → map (word g) (map (entry_in g) s) ≡ map key s
    same [] w = refl
    same (c ∷ s) w = let h = w c (Memᴰ.head refl) in let t = same s (λ d m. w d (Memᴰ.tail m)) in cc

-- ---- the cell of an entry

cell_of : (g : Grammar) → IsGrammar g → (h i : ℕ) {m : ℕ} (stage word : ℕ) → h < rule_count g → i < 256 → IsByte g h m → word ≡ h * 65536 + i * 256 + m
    → IsCellOf g h i m (word + stage * 8388608)
cell_of g is h i {m} stage word l k p e =
    let small : m < 256 = proper_byte g is l p in
    let low : key (word + stage * 8388608) ≡ h * 65536 + i * 256 + m = omega (arith, is.few_rules) in
    record { entry_is = ap (entry_of g) low ∙ entry_of_byte g is h i l k p; word_is = word_entry g h i p ∙ sym low }

-- ---- the three answers of `place`

module _ {base end cell : ℕ} {old new : List ℕ} where
  pub answer_true : Placed base end cell old new (Ok true) → (end < length old) × (length (insert key cell (slice base end old)) ≡ suc (end - base))
      × (new ≡ take base old ++ (insert key cell (slice base end old) ++ drop (suc end) old))
  answer_true (Placed.placed l n e a) = (l, n, e)
  answer_true (Placed.there s e a) = absurd (cc)
  answer_true (Placed.full l n e a) = absurd (cc)

  pub answer_false : Placed base end cell old new (Ok false) → (insert key cell (slice base end old) ≡ slice base end old) × (new ≡ old)
  answer_false (Placed.placed l n e a) = absurd (cc)
  answer_false (Placed.there s e a) = (s, e)
  answer_false (Placed.full l n e a) = absurd (cc)

  pub answer_err : {why : Refusal} → Placed base end cell old new (Err why)
      → (length old ≡ end) × (length (insert key cell (slice base end old)) ≡ suc (end - base)) × (why ≡ Refusal.FewWords)
  answer_err (Placed.placed l n e a) = absurd (cc)
  answer_err (Placed.there s e a) = absurd (cc)
  answer_err (Placed.full l n e a) = (l, n, cc)

-- ---- the state

-- The state of the sheet while the entry of rule h and origin i with the byte `first` is put in; `old` and `before` are words and lists as they were.
pub record IsFilling (image row : List ℕ) (h i first : ℕ) (old : List ℕ) (before : Lists) (words : List ℕ) (lists : Lists) (pending : List ℕ) : Type 0 where
  pub place_is : lists.place ≡ before.place
  pub starts_kept : lists.starts ≡ before.starts
  pub place_le : lists.place ≤ length row
  pub starts_are : (k : ℕ) → k ≤ lists.place → start_of lists k ≡ entries (first_lists (grammar_of image) row k)
  pub done : (k : ℕ) → k < lists.place → IsListOf (grammar_of image) row k (slice (start_of lists k) (start_of lists (suc k)) words)
  pub base_le : base_of lists ≤ lists.end
  pub end_le : lists.end ≤ length words
  pub emptying : IsEmptying (grammar_of image) row lists.place h i first (cells_of old before) (cells_of words lists) lists.found lists.want pending

pub filling_first : {image row : List ℕ} {h i first : ℕ} {words : List ℕ} {lists : Lists} {pending : List ℕ} → IsState image row words lists
    → IsByte (grammar_of image) h first → Found (grammar_of image) row lists.place (entry_with (grammar_of image) h i first) → ((b : ℕ) → HasByte pending b ↔ (b ≡ first))
    → IsFilling image row h i first words lists words lists pending
filling_first s byte found only = record {
  place_is = refl;
  starts_kept = refl;
  place_le = s.place_le;
  starts_are = s.starts_are;
  done = s.done;
  base_le = s.base_le;
  end_le = s.end_le;
  emptying = emptying_first s.growing byte found only;
}

module _ {image row : List ℕ} {h i first : ℕ} {old : List ℕ} {before : Lists} {words : List ℕ} {lists : Lists} {pending : List ℕ}
    (f : IsFilling image row h i first old before words lists pending) where
  pub filling_last : ((b : ℕ) → HasByte pending b → ⊥) → IsGrowth image row i i old before words lists
  filling_last none = record {
    state = record {
      place_le = f.place_le;
      starts_are = f.starts_are;
      done = f.done;
      base_le = f.base_le;
      end_le = f.end_le;
      growing = emptying_last f.emptying none;
    };
    place_is = f.place_is;
    starts_are = f.starts_kept;
    grew = f.emptying.grew;
  }

  -- the cell of the entry whose byte is taken
  pub cell_taken : {m : ℕ} {less : List ℕ} → IsGreatestTaken pending m less → IsGrammar (grammar_of image) → (stage word : ℕ) → h < rule_count (grammar_of image) → i < 256
      → word ≡ h * 65536 + i * 256 + m → IsCellOf (grammar_of image) h i m (word + stage * 8388608)
  cell_taken taken is stage word l k e = cell_of (grammar_of image) is h i stage word l k (this_byte f.emptying taken) e

  module _ {m : ℕ} {less : List ℕ} (taken : IsGreatestTaken pending m less) {x : ℕ} (cell : IsCellOf (grammar_of image) h i m x) where
    -- the cell's key stands there
    pub filling_there : insert key x (cells_of words lists) ≡ cells_of words lists → IsFilling image row h i first old before words lists less
    filling_there same = record {
      place_is = f.place_is;
      starts_kept = f.starts_kept;
      place_le = f.place_le;
      starts_are = f.starts_are;
      done = f.done;
      base_le = f.base_le;
      end_le = f.end_le;
      emptying = emptying_there f.emptying taken cell same;
    }

    -- there is no word for it
    pub filling_full : IsGrammar (grammar_of image) → length row ≤ 64 → length words ≡ lists.end
        → length (insert key x (cells_of words lists)) ≡ suc (lists.end - base_of lists) → IsTooMany image row (length words)
    filling_full is short full longer =
        let cells : List ℕ = insert key x (cells_of words lists) in
        let few = few_cells {j = lists.place} cells is short (still_ascends x (cells_of words lists) f.emptying.ascends) (words_now f.emptying taken cell) (sound_now f.emptying taken cell) in
        omega (arith, f.starts_are lists.place (omega arith), f.base_le, list_in_sheet (grammar_of image) row lists.place f.place_le)

    -- it comes in
    module _ {new : List ℕ} {now : Lists} (symbols : ℕ) (more : List ℕ) (is : IsGrammar (grammar_of image)) (within : lists.end < length words)
        (longer : length (insert key x (cells_of words lists)) ≡ suc (lists.end - base_of lists))
        (words_are : new ≡ take (base_of lists) words ++ (insert key x (cells_of words lists) ++ drop (suc lists.end) words))
        (same_place : now.place ≡ lists.place) (same_starts : now.starts ≡ lists.starts) (one_end : now.end ≡ suc lists.end)
        (noted : IsNoted (grammar_of image) lists.place h i m lists.found lists.want now.found now.want)
        (empty : AreEmptyParts (grammar_of image) h m symbols) (gains : GainsLeft (grammar_of image) h m symbols less more) where
      pub filling_placed : IsFilling image row h i first old before new now more
      filling_placed = record {
        place_is = same_place ∙ f.place_is;
        starts_kept = same_starts ∙ f.starts_kept;
        place_le = rw same_place f.place_le;
        starts_are = λ k l. start k ∙ f.starts_are k (rw same_place at l);
        done = λ k l. earlier k (rw same_place at l);
        base_le = omega (arith, f.base_le, base);
        end_le = omega (arith, length_placed (base_of lists) lists.end words (insert key x (cells_of words lists)) f.base_le within longer, ap length words_are);
        emptying = subst (λ c. IsEmptying (grammar_of image) row now.place h i first (cells_of old before) c now.found now.want more) (sym cells_now) (rw same_place (emptying_placed f.emptying taken cell is f.place_le symbols more noted empty gains));
      }
        where
          start : (k : ℕ) → start_of now k ≡ start_of lists k
          start k = ap (λ s. get_or s k 0) same_starts

          base : base_of now ≡ base_of lists
          base = start now.place ∙ ap (start_of lists) same_place

          cells_now : cells_of new now ≡ insert key x (cells_of words lists)
          cells_now = rw (base, one_end, words_are) (list_placed (base_of lists) lists.end words (insert key x (cells_of words lists)) f.base_le within longer)

          earlier : (k : ℕ) → k < lists.place → IsListOf (grammar_of image) row k (slice (start_of now k) (start_of now (suc k)) new)
          earlier k l =
              let rises : start_of lists (suc k) ≤ base_of lists
              = omega (arith, f.starts_are (suc k) l, f.starts_are lists.place (omega arith), starts_rise (grammar_of image) row (suc k) lists.place l) in
              rw (
                start k,
                start (suc k),
                words_are,
                list_before (base_of lists) lists.end words (insert key x (cells_of words lists)) f.base_le within longer (start_of lists k) (start_of lists (suc k)) rises,
              ) (f.done k l)
