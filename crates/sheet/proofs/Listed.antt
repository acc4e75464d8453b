-- The lists of the finished sheet among its words, and what their cells say.
-- Assumes nothing.
use Rattle.std.proofs.Common.{◌≡◌, ℕ, suc, ◌+◌, ◌-◌, ◌*◌, ◌≤◌, ◌<◌, List, [], ◌∷◌, map, length, get_or, take, drop, refl, sym, ap, ◌∙◌, subst, arith, length-append}
use Rattle.std.proofs.Math.Seq.{slice, take-take, take_at, drop_at}
use Rattle.std.proofs.lemmas.List.{length-map, take-map, drop-map}
use Rattle.std.proofs.lemmas.Slice.{between_is}
use lib.ListN.{get_or-append}
use Rattle.paper.specs.Grammar.{Grammar, rule_count, members}
use Rattle.paper.specs.Image.{grammar_of}
use Rattle.paper.specs.Entry.{Entry, Found}
use Rattle.paper.specs.Sheet.{Sheet, sum, word, mask, entries, list_at}
use Rattle.paper.specs.Building.{first_lists, sheet_of}
use Rattle.paper.specs.Outcome.{sheet_words, starts_from}
use Rattle.paper.specs.Demands.{IsFit}
use Rattle.paper.proofs.Building.{sheet_lists}
use Rattle.paper.proofs.Universe.{found_possible}
use Rattle.tables.specs.Machine.{IsByte}
use Rattle.tables.specs.Masks.{entry_with}
use Rattle.tables.proofs.Masks.{found_byte, proper_byte}
use Rattle.sheet.specs.Cells.{key}
use Rattle.sheet.specs.Growing.{IsListOf}
use Rattle.sheet.specs.Grown.{IsBuilt}
use Rattle.sheet.proofs.Places.{words_append, begins, words_more, starts_at, length_starts, entries_sheet}
use Rattle.sheet.proofs.Growth.{entries_rise, entry_at, list_length, cell_word, entry_found}

-- a sheet has as many words as entries
pub length_words : (g : Grammar) (s : Sheet) → length (sheet_words g s) ≡ entries s
unfolding sheet_words entries sum
length_words g [] = refl
length_words g (list ∷ s) = length-append (map (word g) list) (sheet_words g s) ∙ (ap (λ n. n + length (sheet_words g s)) (length-map list (word g)) ∙ ap (length list +◌) (length_words g s))

module _ {image row words starts : List ℕ} (fit : IsFit image row) (built : IsBuilt image row words starts) {i : ℕ} (among : i ≤ length row) where
  abbrev from : ℕ
  from = entries (first_lists (grammar_of image) row i)

  abbrev to : ℕ
  to = entries (first_lists (grammar_of image) row (suc i))

  all : ℕ
  all = entries (sheet_of (grammar_of image) row)

  -- list i starts behind the lists before it
  start_at : (k : ℕ) → k ≤ suc (length row) → get_or starts k 0 ≡ entries (first_lists (grammar_of image) row k)
  start_at k l =
      let long = length_starts 0 (sheet_of (grammar_of image) row) in
      ap (λ s. get_or s k 0) built.starts_are ∙ (get_or-append (starts_from 0 (sheet_of (grammar_of image) row)) _ 0 k (omega (arith, long, sheet_lists (grammar_of image) row)) ∙ starts_at (grammar_of image) row k l)

  start_is : get_or starts i 0 ≡ from
  start_is = start_at i (omega arith)

  end_is : get_or starts (i + 1) 0 ≡ to
  end_is = let e : i + 1 ≡ suc i = omega arith in ap (λ k. get_or starts k 0) e ∙ start_at (suc i) (omega arith)

  to_le : to ≤ entries (sheet_of (grammar_of image) row)
  to_le = omega (arith, entries_rise (grammar_of image) row (suc i) (suc (length row)) (omega arith), entries_sheet (grammar_of image) row)

  pub rises : get_or starts i 0 ≤ get_or starts (i + 1) 0
  rises = omega (arith, start_is, end_is, entries_rise (grammar_of image) row i (suc i) (omega arith))

  pub within : get_or starts (i + 1) 0 ≤ length words
  within = omega (arith, end_is, to_le, built.fits)

  -- the words up to the end of list i are those of the first lists
  words_to : map key (take to words) ≡ sheet_words (grammar_of image) (first_lists (grammar_of image) row (suc i))
  unfolding sheet_of
  words_to =
      let g = grammar_of image in
      let r = begins g row (suc i) (suc (length row)) (omega arith) in
      let first : Sheet = first_lists g row (suc i) in
      let long : length (sheet_words g first) ≡ to = length_words g first in
      sym (ap (map key) (take-take to (entries (sheet_of g row)) words to_le)) ∙ (sym (take-map key to (take (entries (sheet_of g row)) words))
      ∙ (ap (take to) (built.words_are ∙ (ap (sheet_words g) r.1 ∙ words_append g first r.0)) ∙ take_at (sheet_words g first) (sheet_words g r.0) to long))

  keys_listed : IsListOf (grammar_of image) row i (slice (get_or starts i 0) (get_or starts (i + 1) 0) words)
  keys_listed = rw (start_is, end_is) (record {
    keys_are =
        let g = grammar_of image in
        let first : Sheet = first_lists g row i in
        sym (drop-map key from (take to words)) ∙ (ap (drop from) (words_to ∙ words_more g row i among)
        ∙ drop_at (sheet_words g first) (map (word g) (list_at (sheet_of g row) i)) from (length_words g first));
  })

  pub listed : IsListOf (grammar_of image) row i (take (get_or starts (i + 1) 0 - get_or starts i 0) (drop (get_or starts i 0) words))
  listed = subst (IsListOf (grammar_of image) row i) (sym (between_is words (get_or starts i 0) (get_or starts (i + 1) 0))) keys_listed

-- the last list ends where the sheet's words end
pub last_end : {image row words starts : List ℕ} → IsFit image row → IsBuilt image row words starts → get_or starts (length row + 1) 0 ≡ entries (sheet_of (grammar_of image) row)
last_end {image} {row} fit built = end_is fit built (omega arith) ∙ entries_sheet (grammar_of image) row

-- The cell at place k of list i says rule h, origin o and byte m.
pub record Says (image row : List ℕ) (i k h o m : ℕ) : Type 0 where
  pub is_rule : h < rule_count (grammar_of image)
  pub byte : IsByte (grammar_of image) h m
  pub origin_le : o ≤ i
  pub entry_is : entry_at (grammar_of image) row i k ≡ entry_with (grammar_of image) h o m

pub cell_says : {image row cells : List ℕ} {i k h o m : ℕ} → IsFit image row → i ≤ length row → IsListOf (grammar_of image) row i cells → k < length cells
    → o < 256 → m < 256 → key (get_or cells k 0) ≡ h * 65536 + o * 256 + m → Says image row i k h o m
cell_says {image} {row} {cells} {i} {k} {h} {o} {m} fit among is l p q w =
    let g = grammar_of image in
    let e : Entry = entry_at g row i k in
    let f : Found g row i e = entry_found fit k (omega (arith, list_length is)) in
    let b = found_byte f in
    let y = found_possible f in
    let n : ℕ = mask (members g e.rule) e.rest in
    let small : n < 256 = proper_byte g fit.is_grammar y.is_rule b.proper in
    let origin_le : e.origin ≤ i = y.origin_le in
    let short : length row ≤ 64 = fit.short in
    let same : h * 65536 + o * 256 + m ≡ e.rule * 65536 + e.origin * 256 + n = sym w ∙ (cell_word is k l ∙ b.is_word) in
    let rule : h ≡ e.rule = omega arith in
    let origin : o ≡ e.origin = omega arith in
    let byte : m ≡ n = omega arith in
    record { is_rule = rw rule y.is_rule; byte = rw (rule, byte) b.proper; origin_le = rw origin origin_le; entry_is = rw (rule, origin, byte) (sym b.is_entry) }
