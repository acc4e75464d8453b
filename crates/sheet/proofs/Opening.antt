-- The state when a list opens, and what the lists that are done come to.
-- Assumes nothing.
use Rattle.std.proofs.Common.{◌≡◌, ◌↔◌, ℕ, suc, ◌+◌, ◌^◌, ◌≤◌, ◌<◌, List, [], length, get_or, set, replicate, sym, ap, ◌∙◌, subst, inl, inr, ◌⊎◌, arith, get_or-set_same, get_or-set_other, length-set, zero-add}
use Rattle.std.proofs.Math.Seq.{slice, slice_empty, length-slice}
use Rattle.std.proofs.lemmas.Bool.{cases_lt}
use mathlib.Core.List.Memᴰ
use native.Mathlib.Decide.{ℕ_discrete}
use Rattle.paper.specs.Bits.{bit_at}
use Rattle.paper.specs.Grammar.{Grammar, IsGrammar, IsNonterminal}
use Rattle.paper.specs.Image.{grammar_of}
use Rattle.paper.specs.Demands.{IsFit}
use Rattle.paper.specs.Sheet.{entries}
use Rattle.paper.specs.Building.{first_lists}
use Rattle.paper.proofs.Bits.{bit_zero, set_here, set_other}
use Rattle.sheet.specs.Growing.{IsListOf, IsGrowing}
use Rattle.sheet.specs.Grown.{start_of, base_of, cells_of, IsState, IsBuilt}
use Rattle.sheet.specs.declared.grow.Lists.{Lists}
use Rattle.sheet.proofs.Places.{zeros, entries_none, entries_more, entries_sheet, IsLaid, sheet_laid, starts_are}

-- ---- no cells

-- A list with no cells may grow: nothing is finished, and at most the start symbol is looked for.
none_growing : (g : Grammar) (row : List ℕ) (j : ℕ) (found : List ℕ) (want : ℕ) → ((i : ℕ) → get_or found i 0 ≡ 0)
    → ((x : ℕ) → (bit_at x want ≡ 1) ↔ (IsNonterminal g x × ((j ≡ 0) × (x ≡ g.start)))) → IsGrowing g row j [] found want
none_growing g row j found want zeros wanted =
    record {
      ascends = record { ascend = λ i k l m. absurd (let z : ⊥ = omega arith in z) };
      words_are = λ cell m. absurd (Memᴰ.not-nil m);
      sound = λ e m. absurd (Memᴰ.not-nil m);
      found_is = λ i x l. (λ s. absurd (let z : ⊥ = omega (arith, ap (bit_at x) (zeros i), bit_zero x) in z), λ f. absurd (Memᴰ.not-nil f.stands));
      want_is = λ x. (λ s. let w = (wanted x).0 s in (w.0, inl w.1), λ w. (wanted x).1 (w.0, elim w.1 [ inl s ↦ s | inr a ↦ absurd (Memᴰ.not-nil a.stands) ]));
      emptied = λ e x m. absurd (Memᴰ.not-nil m);
    }

none_cells : (from to : ℕ) (words : List ℕ) → from ≡ to → slice from to words ≡ []
none_cells from to words e = ap (λ n. slice n to words) e ∙ slice_empty to words

-- the set of one symbol
one_symbol : (a x : ℕ) → (bit_at x (2 ^ a) ≡ 1) ↔ (x ≡ a)
one_symbol a x = (λ s. go s (ℕ_discrete x a), λ e. rw e here)
  where
    here : bit_at a (2 ^ a) ≡ 1
    here = ap (bit_at a) (sym (zero-add (2 ^ a))) ∙ set_here a 0 (bit_zero a)

    go : bit_at x (2 ^ a) ≡ 1 → Dec (x ≡ a) → x ≡ a
    go s (yes e) = e
    go s (no ne) = absurd (let z : ⊥ = omega (arith, s, ap (bit_at x) (zero-add (2 ^ a)), set_other a x 0 (bit_zero a) ne, bit_zero x) in z)

module _ {image row words : List ℕ} where
  -- a state whose last list has no cells yet
  opened : {lists : Lists} → lists.place ≤ length row → base_of lists ≡ lists.end → lists.end ≤ length words
      → ((i : ℕ) → i ≤ lists.place → start_of lists i ≡ entries (first_lists (grammar_of image) row i)) → ((i : ℕ) → i < lists.place → IsLaid (grammar_of image) row words i)
      → ((i : ℕ) → get_or lists.found i 0 ≡ 0)
      → ((x : ℕ) → (bit_at x lists.want ≡ 1) ↔ (IsNonterminal (grammar_of image) x × ((lists.place ≡ 0) × (x ≡ (grammar_of image).start)))) → IsState image row words lists
  opened {lists} place base within starts laid zeros wanted =
      record {
        place_le = place;
        starts_are = starts;
        done = λ i l. rw (starts i (omega arith), starts (suc i) (omega arith)) (laid i l);
        base_le = omega arith;
        end_le = within;
        growing = rw (none_cells (base_of lists) lists.end words base) (none_growing (grammar_of image) row lists.place lists.found lists.want zeros wanted);
      }

  -- list 0 is open
  pub first_opened : {lists : Lists} → IsGrammar (grammar_of image) → lists.place ≡ 0 → lists.end ≡ 0 → ((i : ℕ) → start_of lists i ≡ 0) → ((i : ℕ) → get_or lists.found i 0 ≡ 0)
      → lists.want ≡ 2 ^ (grammar_of image).start → IsState image row words lists
  first_opened {lists} is place end starts zeros want =
      opened (omega arith) (starts lists.place ∙ sym end) (omega arith)
      (λ i l. let z : 0 ≡ i = omega arith in starts i ∙ sym (entries_none (grammar_of image) row) ∙ ap (λ m. entries (first_lists (grammar_of image) row m)) z)
      (λ i l. absurd (let z : ⊥ = omega arith in z)) zeros
      (λ x.
      let one = one_symbol (grammar_of image).start x in
      (λ s. let e = one.0 (ap (bit_at x) (sym want) ∙ s) in (subst (IsNonterminal (grammar_of image)) (sym e) is.start_is, (place, e)), λ w. ap (bit_at x) want ∙ one.1 w.1.1))

  -- ---- lists that are done

  module _ {lists : Lists} (state : IsState image row words lists) (list : IsListOf (grammar_of image) row lists.place (cells_of words lists)) where
    -- where the list that is done last ends
    pub end_is : lists.end ≡ entries (first_lists (grammar_of image) row (suc lists.place))
    end_is =
        let s = state.starts_are lists.place (omega arith) in
        omega (arith, entries_more (grammar_of image) row lists.place state.place_le list, length-slice (base_of lists) lists.end words state.end_le, state.base_le)

    laid : (i : ℕ) → (i < lists.place) ⊎ (lists.place ≤ i) → i ≤ lists.place → IsLaid (grammar_of image) row words i
    laid i (inl l) m = rw (← state.starts_are i m, ← state.starts_are (suc i) (omega arith)) (state.done i l)
    laid i (inr l) m =
        let e : lists.place ≡ i = omega arith in
        subst (IsLaid (grammar_of image) row words) e (rw (← state.starts_are lists.place (omega arith), ← end_is) list)

    -- each list up to the last stands in its place
    pub all_laid : (i : ℕ) → i ≤ lists.place → IsLaid (grammar_of image) row words i
    all_laid i = laid i (cases_lt i lists.place)

    -- the start that is noted for the next list
    started : (i : ℕ) → suc lists.place < length lists.starts → (i < suc lists.place) ⊎ (suc lists.place ≤ i) → i ≤ suc lists.place
        → get_or (set lists.starts (suc lists.place) lists.end) i 0 ≡ entries (first_lists (grammar_of image) row i)
    started i room (inl l) m = get_or-set_other lists.starts (suc lists.place) i lists.end 0 (λ e. omega arith) ∙ state.starts_are i (omega arith)
    started i room (inr l) m =
        let e : suc lists.place ≡ i = omega arith in
        subst (λ k. get_or (set lists.starts (suc lists.place) lists.end) k 0 ≡ entries (first_lists (grammar_of image) row k)) e
        (get_or-set_same lists.starts (suc lists.place) lists.end 0 room ∙ end_is)

    -- the next list is open
    pub next_opened : {next : Lists} → lists.place < length row → suc lists.place < length lists.starts → next.place ≡ suc lists.place
        → next.starts ≡ set lists.starts (suc lists.place) lists.end → next.end ≡ lists.end → ((i : ℕ) → get_or next.found i 0 ≡ 0) → next.want ≡ 0 → IsState image row words next
    next_opened {next} more room place starts end zeros want =
        opened (omega arith)
        (ap (λ s. get_or s next.place 0) starts ∙ ap (λ k. get_or (set lists.starts (suc lists.place) lists.end) k 0) place
        ∙ get_or-set_same lists.starts (suc lists.place) lists.end 0 room ∙ sym end)
        (let l = state.end_le in omega arith)
        (λ i l. ap (λ s. get_or s i 0) starts ∙ started i room (cases_lt i (suc lists.place)) (omega arith))
        (λ i l. all_laid i (omega arith)) zeros
        (λ x. (λ s. absurd (let z : ⊥ = omega (arith, ap (bit_at x) want, bit_zero x) in z), λ w. absurd (let p = w.1.0 in let z : ⊥ = omega arith in z)))

    -- the last list is done
    pub all_built : lists.place ≡ length row → length row ≤ 64 → length lists.starts ≡ 66 → ((i : ℕ) → lists.place < i → start_of lists i ≡ 0)
        → IsBuilt image row words (set lists.starts (suc (length row)) lists.end)
    all_built place short long unused =
        record {
          fits = let within = state.end_le in omega (arith, end_is, ap (λ n. entries (first_lists (grammar_of image) row (suc n))) place, entries_sheet (grammar_of image) row);
          words_are = sheet_laid (grammar_of image) row words (λ i l. all_laid i (omega arith));
          starts_are =
              starts_are (grammar_of image) row (set lists.starts (suc (length row)) lists.end) (omega (arith, length-set lists.starts (suc (length row)) lists.end)) short
              (λ i l. subst (λ n. get_or (set lists.starts (suc n) lists.end) i 0 ≡ entries (first_lists (grammar_of image) row i)) place
              (started i (omega arith) (cases_lt i (suc lists.place)) (omega arith)))
              (λ i l. get_or-set_other lists.starts (suc (length row)) i lists.end 0 (λ e. omega arith) ∙ unused i (omega arith));
        }

-- ---- from list to list

-- List j is open, and of the 66 starts those behind it are 0.
pub record IsLaying (image row : List ℕ) (j : ℕ) (words : List ℕ) (lists : Lists) : Type 0 where
  pub state : IsState image row words lists
  pub place : lists.place ≡ j
  pub long : length lists.starts ≡ 66
  pub unused : (i : ℕ) → lists.place < i → start_of lists i ≡ 0

pub laying_first : {image row words : List ℕ} {lists : Lists} → IsState image row words lists → lists.place ≡ 0 → lists.starts ≡ replicate 66 0 → IsLaying image row 0 words lists
laying_first state place none = record { state = state; place = place; long = ap length none; unused = λ i l. ap (λ s. get_or s i 0) none ∙ zeros 66 i }

-- List j has grown; its place and the starts are as before.
module _ {image row old new : List ℕ} {lists grown : Lists} {j : ℕ} (so : IsLaying image row j old lists) (state : IsState image row new grown) (place : grown.place ≡ lists.place) (starts : grown.starts ≡ lists.starts) where
  still_unused : (i : ℕ) → grown.place < i → start_of grown i ≡ 0
  still_unused i l = ap (λ s. get_or s i 0) starts ∙ so.unused i (omega arith)

  pub laying_next : {next : Lists} → IsState image row new next → next.place ≡ grown.place + 1 → next.starts ≡ set grown.starts next.place grown.end → IsLaying image row (j + 1) new next
  laying_next {next} opened place_is starts_are =
      record {
        state = opened;
        place = let e = so.place in omega arith;
        long = ap length starts_are ∙ length-set grown.starts next.place grown.end ∙ ap length starts ∙ so.long;
        unused = λ i l. ap (λ s. get_or s i 0) starts_are ∙ get_or-set_other grown.starts next.place i grown.end 0 (λ e. omega arith) ∙ still_unused i (omega arith);
      }

  pub laying_end : IsFit image row → IsListOf (grammar_of image) row lists.place (cells_of new grown) → length row ≤ j
      → IsBuilt image row new (set grown.starts (length row + 1) grown.end)
  laying_end fit list last =
      let p = state.place_le in
      let q = so.place in
      let z : suc (length row) ≡ length row + 1 = omega arith in
      subst (λ k. IsBuilt image row new (set grown.starts k grown.end)) z
      (all_built state (subst (λ k. IsListOf (grammar_of image) row k (cells_of new grown)) (sym place) list) (omega arith) fit.short (ap length starts ∙ so.long) still_unused)
