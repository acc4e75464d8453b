-- The reasons while each symbol that is finished from an origin is taken from the cells of its list, and while symbols are predicted.
-- Assumes nothing.
use Rattle.std.proofs.Common.{◌≡◌, ℕ, ◌+◌, ◌*◌, ◌≤◌, ◌<◌, List, refl, sym, ap, ◌∙◌, arith}
use mathlib.Core.List.Memᴰ
use mathlib.Core.List.{Memᴰ}
use Rattle.paper.specs.Grammar.{Grammar, IsGrammar, rule_count, members, left}
use Rattle.paper.specs.Image.{grammar_of}
use Rattle.paper.specs.Entry.{Entry, finished}
use Rattle.paper.specs.Sheet.{word, entry_of, mask, rest_of}
use Rattle.paper.proofs.Universe.{found_possible}
use Rattle.paper.proofs.Words.{mask_byte}
use Rattle.tables.specs.Machine.{IsByte}
use Rattle.tables.specs.Masks.{entry_with}
use Rattle.tables.proofs.Masks.{mask_proper, finished_byte}
use Rattle.sheet.specs.Cells.{key}
use Rattle.sheet.specs.Causes.{rule_in, origin_in, byte_in, IsFinishedOf}
use Rattle.sheet.specs.Growing.{entry_in, FinishedFrom, IsGrowing}
use Rattle.sheet.specs.Grown.{base_of, cells_of, IsState}
use Rattle.sheet.specs.Stages.{IsSource, IsLow, AreStaged, Stays}
use Rattle.sheet.specs.declared.grow.Lists.{Lists}
use Rattle.sheet.proofs.Sourcing.{stays_none, stays_more}

-- ---- the entry in a cell

pub entry_parts : (g : Grammar) (c : ℕ) → entry_in g c ≡ entry_with g (rule_in c) (origin_in c) (byte_in c)
unfolding entry_of
entry_parts g c = refl

-- a cell that is the word of an entry has a byte of its rule
pub cell_byte : (g : Grammar) (c : ℕ) → IsGrammar g → rule_in c < rule_count g → word g (entry_in g c) ≡ key c → IsByte g (rule_in c) (byte_in c)
unfolding word
cell_byte g c is l e =
    let rest : List ℕ = rest_of (members g (rule_in c)) (byte_in c) in
    let m : ℕ = mask (members g (rule_in c)) rest in
    let f : rule_in c * 65536 + origin_in c * 256 + m ≡ key c = ap (word g) (sym (entry_parts g c)) ∙ e in
    let same : m ≡ byte_in c = omega (arith, mask_byte g is (rule_in c) rest l) in
    rw same at (mask_proper (members g (rule_in c)) rest)

-- a finished entry is in a cell
pub finished_cell : {g : Grammar} {row : List ℕ} {j want : ℕ} {cells found : List ℕ} {i x : ℕ} → IsGrammar g → IsGrowing g row j cells found want → FinishedFrom g cells i x
    → (f : ℕ) × Memᴰ f cells × IsFinishedOf g x i f
finished_cell {g} {row} {j} {cells = cells} {i = i} {x = x} is growing f =
    let k = Memᴰ.of_map (entry_in g) cells f.stands in
    let same : entry_with g (rule_in k.0) (origin_in k.0) (byte_in k.0) ≡ f.entry = sym (entry_parts g k.0) ∙ k.2 in
    let rule : rule_in k.0 ≡ f.entry.rule = ap (λ (e : Entry). e.rule) same in
    let is_rule : rule_in k.0 < rule_count g = rw rule (found_possible (growing.sound f.entry f.stands)).is_rule in
    let proper = cell_byte g k.0 is is_rule (growing.words_are k.0 k.1) in (
      k.0,
      k.1,
      record {
        nothing_left = (finished_byte g (rule_in k.0) (origin_in k.0) proper).0 (ap finished same ∙ f.is_finished);
        origin_is = ap (λ (e : Entry). e.origin) same ∙ f.origin_is;
        left_is = ap (left g) rule ∙ f.left_is;
      },
    )

-- ---- stages

pub low_more : {i s t : ℕ} {cells : List ℕ} → s ≤ t → IsLow i s cells → IsLow i t cells
low_more l v = record { before = v.before; here = λ c n e. omega (arith, v.here c n e) }

-- a symbol that is finished from i is a source, with one stage more
pub fact_source : {image row words : List ℕ} {lists : Lists} {i x s : ℕ} → IsGrammar (grammar_of image) → IsState image row words lists → IsLow i s (cells_of words lists)
    → FinishedFrom (grammar_of image) (cells_of words lists) i x → IsSource (grammar_of image) row lists.place (cells_of words lists) i x (s + 1)
fact_source is state low f = let (c, n, z) = finished_cell is state.growing f in IsSource.fact c n z (omega (arith, low.here c n z.origin_is))

-- ---- the state

-- What stays while symbols are taken from list i, so far with stages up to s.
pub record IsFacts (image row ranks : List ℕ) (i s : ℕ) (old : List ℕ) (before : Lists) (words : List ℕ) (lists : Lists) : Type 0 where
  pub staged : AreStaged image row ranks words lists
  pub stays : Stays old before words lists
  pub low : IsLow i s (cells_of words lists)

pub facts_none : {image row ranks words : List ℕ} {lists : Lists} {i : ℕ} → AreStaged image row ranks words lists → IsLow i 0 (cells_of words lists) → IsFacts image row ranks i 0 words lists words lists
facts_none staged low = record { staged = staged; stays = stays_none; low = low }

pub facts_more : {image row ranks : List ℕ} {i s t : ℕ} {old mid new : List ℕ} {before between after : Lists} → IsFacts image row ranks i s old before mid between → base_of between ≡ base_of before
    → AreStaged image row ranks new after → Stays mid between new after → IsLow i t (cells_of new after) → IsFacts image row ranks i t old before new after
facts_more v base staged stays low = record { staged = staged; stays = stays_more v.stays base stays; low = low }

-- the same where no stage matters
pub record IsKept (image row ranks : List ℕ) (old : List ℕ) (before : Lists) (words : List ℕ) (lists : Lists) : Type 0 where
  pub staged : AreStaged image row ranks words lists
  pub stays : Stays old before words lists

pub kept_none : {image row ranks words : List ℕ} {lists : Lists} → AreStaged image row ranks words lists → IsKept image row ranks words lists words lists
kept_none staged = record { staged = staged; stays = stays_none }

pub kept_more : {image row ranks old mid new : List ℕ} {before between after : Lists} → IsKept image row ranks old before mid between → base_of between ≡ base_of before
    → AreStaged image row ranks new after → Stays mid between new after → IsKept image row ranks old before new after
kept_more v base staged stays = record { staged = staged; stays = stays_more v.stays base stays }
