-- The reasons while the open list is made to grow, and the causes when it is done.
-- Assumes nothing.
use Rattle.std.proofs.Common.{◌≡◌, ◌≢◌, ◌⊎◌, inl, inr, ℕ, suc, ◌-◌, ◌≤◌, ◌<◌, List, [], length, get_or, take, sym, ap, ◌∙◌, subst, Result, Ok, Err, OnOk, arith, get_or-set_same, get_or-set_other}
use Rattle.std.proofs.Math.Seq.{slice}
use Rattle.std.proofs.lemmas.Bool.{cases_lt}
use mathlib.Core.List.Memᴰ
use mathlib.Core.List.{Memᴰ}
use Rattle.paper.specs.Image.{grammar_of}
use Rattle.paper.specs.Demands.{IsFit}
use Rattle.tables.specs.Table.{Ranked}
use Rattle.sheet.specs.Cells.{stage}
use Rattle.sheet.specs.Causes.{origin_in}
use Rattle.sheet.specs.Growing.{IsListOf}
use Rattle.sheet.specs.Grown.{start_of, base_of, cells_of, IsState}
use Rattle.sheet.specs.Stages.{IsLow, list_in, AreStaged, Stays, starts_with, IsCausedList}
use Rattle.sheet.specs.declared.grow.Lists.{Lists}
use Rattle.sheet.proofs.Causing.{caused_list}
use Rattle.sheet.proofs.Facts.{IsKept, kept_none, kept_more}
use Rattle.sheet.proofs.Sourcing.{stays_more}
use Rattle.sheet.proofs.Underway.{IsUnderway}

-- ---- no cells

none_staged : (image row ranks words : List ℕ) (lists : Lists) → cells_of words lists ≡ [] → AreStaged image row ranks words lists
none_staged image row ranks words lists none =
    let never : (c : ℕ) → Memᴰ c (cells_of words lists) → ⊥ = λ c n. Memᴰ.not-nil (subst (Memᴰ c) none n) in
    record { reasons = λ c n. absurd (never c n); ranked = λ c n. absurd (never c n); small = λ c n. absurd (never c n) }

pub none_low : {i s : ℕ} {cells : List ℕ} → cells ≡ [] → IsLow i s cells
none_low {cells = cells} none =
    let never : (c : ℕ) → Memᴰ c cells → ⊥ = λ c n. Memᴰ.not-nil (subst (Memᴰ c) none n) in
    record { before = λ c n. absurd (never c n); here = λ c n. absurd (never c n) }

-- ---- the open list

-- Of origins before `low` no cell has a stage.
pub record IsOngoing (image row ranks : List ℕ) (low : ℕ) (old : List ℕ) (before : Lists) (words : List ℕ) (lists : Lists) : Type 0 where
  pub kept : IsKept image row ranks old before words lists
  pub unstaged : (c : ℕ) → Memᴰ c (cells_of words lists) → origin_in c < low → stage c ≡ 0

pub ongoing_none : {image row ranks words : List ℕ} {lists : Lists} {low : ℕ} → cells_of words lists ≡ [] → IsOngoing image row ranks low words lists words lists
ongoing_none {image} {row} {ranks} {words} {lists} {low} none =
    let z : IsLow low 0 (cells_of words lists) = none_low none in
    record { kept = kept_none (none_staged image row ranks words lists none); unstaged = z.before }

-- the token is taken
pub ongoing_token : {image row ranks old new : List ℕ} {before after : Lists} {low : ℕ} → AreStaged image row ranks new after → Stays old before new after → IsLow (low - 1) 0 (cells_of new after)
    → IsOngoing image row ranks low old before new after
ongoing_token {new = new} {after = after} {low = low} staged stays v =
    record { kept = record { staged = staged; stays = stays }; unstaged = λ c n l. go c n l (cases_lt (origin_in c) (low - 1)) }
  where
    go : (c : ℕ) → Memᴰ c (cells_of new after) → origin_in c < low → (origin_in c < low - 1) ⊎ (low - 1 ≤ origin_in c) → stage c ≡ 0
    go c n l (inl m) = v.before c n m
    go c n l (inr m) = omega (arith, v.here c n (omega arith))

-- the list begins where it began
underway_base : {image row words : List ℕ} {before lists : Lists} {i : ℕ} → IsUnderway image row before i words lists → base_of lists ≡ base_of before
underway_base {before = before} {lists = lists} so = ap (λ t. get_or t lists.place 0) so.starts ∙ ap (start_of before) so.place

module _ {image row ranks old words : List ℕ} {before lists : Lists} {i : ℕ} (v : IsOngoing image row ranks i old before words lists) where
  pub ongoing_low : 0 < i → IsLow (i - 1) 0 (cells_of words lists)
  ongoing_low l = record { before = λ c n m. v.unstaged c n (omega arith); here = λ c n e. omega (arith, v.unstaged c n (omega arith)) }

  -- one origin more is completed
  pub ongoing_more : {new : List ℕ} {after : Lists} {s : ℕ} → IsUnderway image row before i words lists → AreStaged image row ranks new after → Stays words lists new after
      → IsLow (i - 1) s (cells_of new after) → IsOngoing image row ranks (i - 1) old before new after
  ongoing_more so staged stays w = record { kept = kept_more v.kept (underway_base so) staged stays; unstaged = w.before }

  -- what is predicted leaves the lists before as they were
  pub ongoing_end : {new : List ℕ} {after : Lists} → IsUnderway image row before i words lists → Stays words lists new after → take (base_of before) new ≡ take (base_of before) old
  ongoing_end so stays = let all = stays_more v.kept.stays (underway_base so) stays in all.earlier

-- ---- the list is done

module _ (words : List ℕ) (lists : Lists) (room : suc lists.place < length lists.starts) where
  other : (k : ℕ) → k ≢ suc lists.place → get_or (starts_with lists) k 0 ≡ start_of lists k
  other k ne = get_or-set_other lists.starts (suc lists.place) k lists.end 0 ne

  pub list_ends : list_in (starts_with lists) words lists.place ≡ cells_of words lists
  list_ends =
      let from = other lists.place (λ e. omega arith) in
      let to = get_or-set_same lists.starts (suc lists.place) lists.end 0 room in
      ap (λ a. slice a (get_or (starts_with lists) (suc lists.place) 0) words) from ∙ ap (λ b. slice (base_of lists) b words) to

  pub list_before : (k : ℕ) → k < lists.place → list_in (starts_with lists) words k ≡ list_in lists.starts words k
  list_before k l =
      let from = other k (λ e. omega arith) in
      let to = other (suc k) (λ e. omega arith) in
      ap (λ a. slice a (get_or (starts_with lists) (suc k) 0) words) from ∙ ap (λ b. slice (start_of lists k) b words) to

pub caused_end : {image row ranks words : List ℕ} {lists : Lists} (before : Lists) → IsFit image row → Ranked (grammar_of image) ranks → lists.place ≡ before.place → lists.starts ≡ before.starts
    → suc before.place < length before.starts → IsState image row words lists → AreStaged image row ranks words lists → IsListOf (grammar_of image) row before.place (cells_of words lists)
    → IsCausedList (grammar_of image) row (list_in (starts_with lists) words) lists.place
caused_end {image} {row} {ranks} {words} {lists} before fit ranked place starts room state staged list =
    let more : suc lists.place < length lists.starts = omega (arith, ap length starts) in
    caused_list fit.is_grammar fit.short state.place_le (subst (λ k. IsListOf (grammar_of image) row k (cells_of words lists)) (sym place) list) ranked staged
    (list_ends words lists more) (list_before words lists more)

pub on_ok : {T E P Q : Type 0} (r : Result T E) → (P → Q) → OnOk r P → OnOk r Q
on_ok (Ok x) f p = f p
on_ok (Err x) f p = tt

pub on_ok_three : {T E P Q R S : Type 0} (r : Result T E) → (P → Q → R → S) → OnOk r P → OnOk r Q → OnOk r R → OnOk r S
on_ok_three (Ok x) f p q s = f p q s
on_ok_three (Err x) f p q s = tt
