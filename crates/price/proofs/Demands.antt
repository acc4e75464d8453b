-- The proofs of the statements in specs/Demands.antt, in their order.
-- Assumes nothing.
use Rattle.std.proofs.Common.{ℕ, ◌≡◌, ◌+◌, ◌*◌, ◌≤◌, ◌<◌, refl, ap, Option, Some, None, Bool, true, false, List, [], ◌∷◌, length, arith}
use Rattle.std.specs.Prelude.{ltb, not}
use Rattle.std.specs.Option.{option_map}
use Rattle.std.proofs.lemmas.Bool.{ltb-true}
use Rattle.paper.specs.Image.{all_below, refuse, wrong_if, contents_right, symbols_right, rules_fault, pair_fault, closing_fault, image_terminals, image_symbols, image_pairs, body, image_fault, grammar_of}
use Rattle.paper.specs.Lines.{line_size}
use Rattle.paper.specs.Price.{lines_bound}
use Rattle.paper.specs.Refusal.{number_of}
use Rattle.paper.specs.Outcome.{if_holds, first_of, image_refusal, row_refusal, reading_refusal}
use Rattle.paper.specs.Outcome.ReadingOutcome.{refused, overfull, read, unread}
use Rattle.paper.specs.declared.Refusal.{Refusal}
use Rattle.paper.proofs.SheetBounds.{entries_bound_lem}
use Rattle.price.specs.Demands.{WordsSuffice, LinesSuffice}

-- if it is a refusal, then one whose number is below the limit
abbrev IsBelow : ℕ → Option Refusal → Type 0
IsBelow limit found = (why : Refusal) → found ≡ Some why → number_of why < limit

some_below : (limit : ℕ) (why : Refusal) → number_of why < limit → IsBelow limit (Some why)
some_below limit why l other e = let same : why ≡ other = cc in rw (← same) l

none_below : (limit : ℕ) → IsBelow limit None
none_below limit why e = cc

-- the first of five faults, each with its refusal
faults_below : (a b c d e : Option ℕ)
    → IsBelow 20 (option_map (λ fault. fault.why) (refuse Refusal.Contents a (refuse Refusal.Symbols b (refuse Refusal.Rules c (refuse Refusal.Order d (refuse Refusal.Chain e None))))))
faults_below (Some k) b c d e = some_below 20 Refusal.Contents (omega arith)
faults_below None (Some k) c d e = some_below 20 Refusal.Symbols (omega arith)
faults_below None None (Some k) d e = some_below 20 Refusal.Rules (omega arith)
faults_below None None None (Some k) e = some_below 20 Refusal.Order (omega arith)
faults_below None None None None (Some k) = some_below 20 Refusal.Chain (omega arith)
faults_below None None None None None = none_below 20

-- an image has 10 to 14
image_below : (image : List ℕ) → IsBelow 20 (image_refusal image)
unfolding image_fault
image_below image =
    faults_below (wrong_if (contents_right image)) (wrong_if (symbols_right (body image 0))) (rules_fault (image_terminals image) (image_symbols image) (body image 1))
    (pair_fault (image_symbols image) 0 0 (body image 2)) (closing_fault (image_pairs image) 0 (image_pairs image))

-- a row has 10 to 14, 20 and 21
rows_below : (image : Option Refusal) (long strange : Bool) → IsBelow 20 image → IsBelow 22 (first_of (image ∷ if_holds Refusal.LongRow long ∷ if_holds Refusal.StrangeToken strange ∷ []))
rows_below (Some why) long strange h = λ other e. omega (arith, h other e)
rows_below None true strange h = some_below 22 Refusal.LongRow (omega arith)
rows_below None false true h = some_below 22 Refusal.StrangeToken (omega arith)
rows_below None false false h = none_below 22

row_below : (image row : List ℕ) → IsBelow 22 (row_refusal image row)
unfolding row_refusal
row_below image row = rows_below (image_refusal image) (ltb 64 (length row)) (not (all_below (grammar_of image).terminals row)) (image_below image)

-- a reading has these, 22, and 23 only if the lines are too few
buffers_below : (limit : ℕ) (row : Option Refusal) (starts lines : Bool) → 23 ≤ limit → (lines ≡ true → 24 ≤ limit) → IsBelow 22 row
    → IsBelow limit (first_of (row ∷ if_holds Refusal.FewStarts starts ∷ if_holds Refusal.FewLines lines ∷ []))
buffers_below limit (Some why) starts lines l few h = λ other e. omega (arith, h other e)
buffers_below limit None true lines l few h = some_below limit Refusal.FewStarts (omega arith)
buffers_below limit None false true l few h = some_below limit Refusal.FewLines (few refl)
buffers_below limit None false false l few h = none_below limit

before_below : (image row : List ℕ) (starts lines limit : ℕ) → 23 ≤ limit → (ltb lines (line_size * lines_bound (grammar_of image) (length row)) ≡ true → 24 ≤ limit)
    → IsBelow limit (reading_refusal image row starts lines)
unfolding reading_refusal
before_below image row starts lines limit l few =
    buffers_below limit (row_refusal image row) (ltb starts (length row + 2)) (ltb lines (line_size * lines_bound (grammar_of image) (length row))) l few (row_below image row)

pub lines_suffice : LinesSuffice
lines_suffice image row starts lines l e =
    let n : number_of Refusal.FewLines < 23 = before_below image row starts lines 23 (omega arith) (λ h. absurd (omega (arith, l, ltb-true lines (line_size * lines_bound (grammar_of image) (length row)) h))) Refusal.FewLines e in omega arith

pub words_suffice : WordsSuffice
words_suffice image row entry exit answer (refused why before is same) l e =
    let n : number_of why < 24 = before_below image row (length entry.starts) (length entry.lines) 24 (omega arith) (λ h. omega arith) why before in
    let few : why ≡ Refusal.FewWords = cc in
    omega (arith, ap number_of few)
words_suffice image row entry exit answer (overfull before sheet is_sheet short is same) l e = omega (arith, entries_bound_lem is_sheet)
words_suffice image row entry exit answer (read counts before built in_language written valid lines_are fits exit_lines is) l e = cc
words_suffice image row entry exit answer (unread counts before built not_in_language lines_are exit_lines is) l e = cc
