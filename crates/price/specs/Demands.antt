-- What the price is good for, as statements. Each has its proof in proofs/Demands.antt.
-- Assumes nothing.
use Rattle.std.specs.Prelude.{◌≡◌, Some, Result, Err, List, ℕ, ◌*◌, ◌≤◌, length}
use Rattle.paper.specs.Image.{grammar_of}
use Rattle.paper.specs.Price.{entries_bound, lines_bound}
use Rattle.paper.specs.Lines.{line_size}
use Rattle.paper.specs.Outcome.{reading_refusal, Buffers, ReadingOutcome}
use Rattle.paper.specs.declared.Refusal.{Refusal}
use Rattle.paper.specs.declared.Reading.{Reading}

-- A sheet of as many words as the bound on entries is never too short (24).
abbrev pub WordsSuffice : Type 0
WordsSuffice = (image row : List ℕ) (entry exit : Buffers) (answer : Result Reading Refusal) → ReadingOutcome image row entry answer exit
    → entries_bound (grammar_of image) (length row) ≤ length entry.sheet → answer ≡ Err Refusal.FewWords → ⊥

-- A line buffer of twelve numbers for each line of the bound is never too short (23).
abbrev pub LinesSuffice : Type 0
LinesSuffice = (image row : List ℕ) (starts lines : ℕ) → line_size * lines_bound (grammar_of image) (length row) ≤ lines → reading_refusal image row starts lines ≡ Some Refusal.FewLines → ⊥
