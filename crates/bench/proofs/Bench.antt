-- Every row of the bench holds: one computed test of the whole table, and one lemma that says what a passed test means.
-- Assumes nothing.
use mathlib.Core.Path.{◌≡◌, refl, ap₂}
use mathlib.Core.Logic.{◌↔◌, ◌≢◌, ◌⊎◌, inl, inr}
use mathlib.Core.Bool.{Bool, true, false, ◌&&◌, cond, and-eq-true_iff, false≢true}
use mathlib.Core.List.Memᴰ
use Rattle.std.specs.Prelude.{Option, Some, None}
use mathlib.Core.List.{List, [], ◌∷◌, Memᴰ, map, flat_map}
use Prim.Native.Nat.{ℕ, ◌≤◌}
use native.Mathlib.Omega.{arith}
use lib.Dec.{eqb, ltb}
use lib.ListN.{length}
use borrow.Author.Tests.{eqb-true, eqb-false, ltb-true, ltb-false}
use Rattle.paper.specs.Multiset.{minus, keep, has, without, count, sub_multisets}
use Rattle.paper.specs.Derivation.{InLanguage}
use Rattle.paper.specs.Entry.{barred, may_take, finished}
use Rattle.paper.specs.Sheet.{Sheet, IsSheet, mask, word, sum, sum_below, entries, start_steps, scan_steps, predict_steps, waiting, complete_steps, steps, is_top, tops}
use Rattle.paper.specs.Price.{rests}
use Rattle.paper.specs.Image.{all_below, grammar_of, image_fault, contents_right, symbols_right, rules_fault, record_fault, record_right, ascends, record_before}
use Rattle.paper.specs.Image.{pair_fault, pairs_of, closing_fault, chained, paired, rules_of}
use Rattle.paper.specs.Lines.{line_count, digits, parts_text, line_text, texts_below}
use Rattle.paper.specs.Refusal.{number_of}
use Rattle.paper.specs.declared.Refusal.{Refusal}
use Rattle.paper.specs.Outcome.{row_refusal, last_bracket}
use Rattle.paper.specs.Building.{insert, insert_all, close, below, seeds, predicted, completed, consequences, next_list, first_lists, sheet_of}
use Rattle.paper.specs.Demands.{IsFit}
use Rattle.paper.proofs.Fitness.{row_fit}
use Rattle.paper.proofs.Machine.{may_take_all}
use Rattle.paper.proofs.Standing.{language_tree}
use Rattle.paper.proofs.Writing.{lines_exist}
use Rattle.paper.proofs.Theorem1.{sheet_exists, theorem_1}
use Rattle.bench.specs.Rows.{Said, unsaid, said, Agrees, Derivation, Row, Counted, Derived, Holds, refused, overfull, read, unread, table}
use Rattle.bench.proofs.LineTest.{every_below, some_below, part_symbols, joined, arranges, past_right, shared, line_test, used_by, whole_test, lines_test, lines_valid}

-- ---- the test

-- two lists of numbers are the same
same_list : List ℕ → List ℕ → Bool
same_list [] [] = true
same_list [] (b ∷ t) = false
same_list (a ∷ s) [] = false
same_list (a ∷ s) (b ∷ t) = eqb a b && same_list s t

same_derivation : Derivation → Derivation → Bool
same_derivation d e = eqb d.lines e.lines && same_list d.bracket e.bracket

-- a value is as said, by a test of equality
agrees : {A : Type 0} → (A → A → Bool) → Said A → A → Bool
agrees same unsaid value = true
agrees same (said expected) value = same value expected

-- the counts of the sheet are as said
counts_right : Row → Sheet → Bool
counts_right row sheet =
    agrees same_list row.lists (map length sheet)
    && (agrees eqb row.entries (entries sheet)
    && (agrees eqb row.steps (steps (grammar_of row.image) row.tokens sheet)
    && agrees eqb row.tops (tops (grammar_of row.image) row.tokens sheet)))

-- lines of the row `3 1 1 0 2` of the house grammar: serial over 0 to 2, rating over 2 to 5, plate of both
plate_lines : List ℕ
plate_lines =
    2 ∷ 0 ∷ 2 ∷ 2 ∷ 0 ∷ 0 ∷ 0 ∷ 0 ∷ 0 ∷ 0 ∷ 0 ∷ 0
    ∷ 1 ∷ 2 ∷ 5 ∷ 3 ∷ 0 ∷ 0 ∷ 0 ∷ 0 ∷ 0 ∷ 0 ∷ 0 ∷ 0
    ∷ 0 ∷ 0 ∷ 5 ∷ 2 ∷ 1 ∷ 2 ∷ 0 ∷ 0 ∷ 0 ∷ 0 ∷ 0 ∷ 0
    ∷ []

-- the count and the bracket of lines
derivation_of : List ℕ → List ℕ → Derivation
derivation_of tokens lines = record { lines = line_count lines; bracket = last_bracket tokens lines }

-- the derivation of the row is as said, if anything is said: these lines show it
derivation_right : Row → Said Derivation → Bool
derivation_right row unsaid = true
derivation_right row (said expected) = lines_test (grammar_of row.image) row.tokens plate_lines && same_derivation (derivation_of row.tokens plate_lines) expected

-- the number of a reading whose sheet this is: 24, 1 unread, 0 read
verdict : (words entries tops : ℕ) → ℕ
verdict words entries tops = cond (ltb words entries) 24 (cond (eqb tops 0) 1 0)

-- the row is right, if this is its first refusal
right_for : Row → Option Refusal → Bool
right_for row None =
    let sheet = sheet_of (grammar_of row.image) row.tokens in
    counts_right row sheet
    && (derivation_right row row.derivation
    && eqb row.number (verdict row.words (entries sheet) (tops (grammar_of row.image) row.tokens sheet)))
right_for row (Some why) = eqb row.number (number_of why)

right : Row → Bool
right row = right_for row (row_refusal row.image row.tokens)

all_right : List Row → Bool
all_right [] = true
all_right (row ∷ rows) = right row && all_right rows

-- The test of the whole table, by computation.
table_right : all_right table ≡ true
unfolding all_right right right_for verdict counts_right derivation_right plate_lines derivation_of agrees same_list same_derivation table row_refusal
    image_fault contents_right symbols_right rules_fault record_fault record_right ascends all_below record_before pair_fault pairs_of closing_fault chained paired rules_of grammar_of
    sheet_of first_lists next_list consequences completed predicted seeds below close insert_all insert rests sub_multisets flat_map keep has without count barred may_take finished mask word
    sum sum_below entries start_steps scan_steps predict_steps waiting complete_steps steps is_top tops
    lines_test every_below some_below line_test past_right joined part_symbols arranges may_take_all minus shared whole_test used_by texts_below line_text parts_text digits
table_right = refl

-- ---- what a passed test means

same_list_lem : (s t : List ℕ) → same_list s t ≡ true → s ≡ t
unfolding same_list
same_list_lem [] [] h = refl
same_list_lem [] (b ∷ t) h = absurd (false≢true h)
same_list_lem (a ∷ s) [] h = absurd (false≢true h)
same_list_lem (a ∷ s) (b ∷ t) h =
    let both = (and-eq-true_iff (eqb a b) (same_list s t)).0 h in
    let first : a ≡ b = eqb-true a b both.0 in
    let others : s ≡ t = same_list_lem s t both.1 in
    cc

same_derivation_lem : (d e : Derivation) → same_derivation d e ≡ true → d ≡ e
unfolding same_derivation
same_derivation_lem d e h =
    let both = (and-eq-true_iff (eqb d.lines e.lines) (same_list d.bracket e.bracket)).0 h in
    let counts : d.lines ≡ e.lines = eqb-true d.lines e.lines both.0 in
    let brackets : d.bracket ≡ e.bracket = same_list_lem d.bracket e.bracket both.1 in
    ap₂ (λ (n : ℕ) (b : List ℕ). record { lines = n; bracket = b }) counts brackets

nothing_said : {A : Type 0} (value : A) → Agrees unsaid value
nothing_said value = record { agree = λ expected e. let z : ◌≡◌ {A = ℕ} 0 1 = cc in let k : ⊥ = omega arith in absurd k }

as_said : {A : Type 0} (expected value : A) → value ≡ expected → Agrees (said expected) value
as_said expected value h = record { agree = λ other e. cc }

agree : {A : Type 0} (same : A → A → Bool) → ((a b : A) → same a b ≡ true → a ≡ b) → (what : Said A) (value : A) → agrees same what value ≡ true → Agrees what value
unfolding agrees
agree same sound unsaid value h = nothing_said value
agree same sound (said expected) value h = as_said expected value (sound value expected h)

-- the counts of the sheet of the row
counted : (row : Row) (sheet : Sheet) → IsSheet (grammar_of row.image) row.tokens sheet → counts_right row sheet ≡ true → Counted row
unfolding counts_right
counted row sheet is h =
    let g = grammar_of row.image in
    let on_steps = agrees eqb row.steps (steps g row.tokens sheet) in
    let on_tops = agrees eqb row.tops (tops g row.tokens sheet) in
    let on_entries = agrees eqb row.entries (entries sheet) in
    let a = (and-eq-true_iff (agrees same_list row.lists (map length sheet)) (on_entries && (on_steps && on_tops))).0 h in
    let b = (and-eq-true_iff on_entries (on_steps && on_tops)).0 a.1 in
    let c = (and-eq-true_iff on_steps on_tops).0 b.1 in
    record {
      sheet = sheet;
      is_sheet = is;
      lists_are = agree same_list same_list_lem row.lists (map length sheet) a.0;
      entries_are = agree eqb eqb-true row.entries (entries sheet) b.0;
      steps_are = agree eqb eqb-true row.steps (steps g row.tokens sheet) c.0;
      tops_are = agree eqb eqb-true row.tops (tops g row.tokens sheet) c.1;
    }

-- a row of the language has valid lines: some, or where the derivation is said those that show it
derived : (row : Row) → IsFit row.image row.tokens → (what : Said Derivation) → row.derivation ≡ what → derivation_right row what ≡ true → InLanguage (grammar_of row.image) row.tokens → Derived row
unfolding derivation_right derivation_of
derived row fit unsaid e h l =
    let (written, valid) = lines_exist fit.is_grammar fit.is_row ((language_tree fit.is_row).0 l) in
    record { written = written; valid = valid; derivation_is = rw e (nothing_said (derivation_of row.tokens written)) }
derived row fit (said expected) e h l =
    let shown = derivation_of row.tokens plate_lines in
    let both = (and-eq-true_iff (lines_test (grammar_of row.image) row.tokens plate_lines) (same_derivation shown expected)).0 h in
    record {
      written = plate_lines;
      valid = lines_valid (grammar_of row.image) row.tokens plate_lines both.0;
      derivation_is = rw e (as_said expected shown (same_derivation_lem shown expected both.1));
    }

-- by the sheet, a row is overfull, read or unread
judged : (row : Row) → row_refusal row.image row.tokens ≡ None → (c : Counted row)
    → (1 ≤ tops (grammar_of row.image) row.tokens c.sheet) ↔ InLanguage (grammar_of row.image) row.tokens
    → (InLanguage (grammar_of row.image) row.tokens → Derived row)
    → row.number ≡ verdict row.words (entries c.sheet) (tops (grammar_of row.image) row.tokens c.sheet) → Holds row
unfolding verdict
judged row free c language lines h = on_words (ltb row.words (entries c.sheet)) refl
  where
    n : ℕ
    n = tops (grammar_of row.image) row.tokens c.sheet

    on_tops : (t : Bool) → eqb n 0 ≡ t → entries c.sheet ≤ row.words → row.number ≡ cond t 1 0 → Holds row
    on_tops true e fits is = unread free c fits (λ l. let z : n ≡ 0 = eqb-true n 0 e in let some : 1 ≤ n = language.1 l in let k : ⊥ = omega arith in k) is
    on_tops false e fits is =
        let z : n ≢ 0 = eqb-false n 0 e in
        let l = language.0 (omega arith) in
        read free c fits l (lines l) is

    on_words : (t : Bool) → ltb row.words (entries c.sheet) ≡ t → Holds row
    on_words true e = overfull free c (ltb-true row.words (entries c.sheet) e) (rw e at h)
    on_words false e = on_tops (eqb n 0) refl (ltb-false row.words (entries c.sheet) e) (rw e at h)

right_for_lem : (row : Row) (found : Option Refusal) → row_refusal row.image row.tokens ≡ found → right_for row found ≡ true → Holds row
unfolding right_for counted
right_for_lem row None e h =
    let g = grammar_of row.image in
    let sheet = sheet_of g row.tokens in
    let fit = row_fit row.image row.tokens e in
    let is = sheet_exists g row.tokens fit.is_grammar fit.short in
    let number = verdict row.words (entries sheet) (tops g row.tokens sheet) in
    let lines = derivation_right row row.derivation in
    let (counts, t) = (and-eq-true_iff (counts_right row sheet) (lines && eqb row.number number)).0 h in
    let (shown, numbers) = (and-eq-true_iff lines (eqb row.number number)).0 t in
    judged row e (counted row sheet is counts) (theorem_1 fit.is_grammar fit.is_row is) (derived row fit row.derivation refl shown) (eqb-true row.number number numbers)
right_for_lem row (Some why) e h = refused why e (eqb-true row.number (number_of why) h)

all_hold : {row : Row} (rows : List Row) → all_right rows ≡ true → Memᴰ row rows → Holds row
unfolding all_right right
all_hold [] h m = absurd (Memᴰ.not-nil m)
all_hold {row} (first ∷ rows) h m = go ((and-eq-true_iff (right first) (all_right rows)).0 h) (Memᴰ.cases_cons m) (all_hold rows)
  where
    go : (right first ≡ true) × (all_right rows ≡ true) → (row ≡ first) ⊎ Memᴰ row rows → (all_right rows ≡ true → Memᴰ row rows → Holds row) → Holds row
    go h (inl e) later = rw e (right_for_lem first (row_refusal first.image first.tokens) refl h.0)
    go h (inr n) later = later h.1 n

-- Every row of the bench holds.
pub bench : {row : Row} → Memᴰ row table → Holds row
bench = all_hold table table_right
