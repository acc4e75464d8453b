-- The reasons while a symbol is taken from the cells of a list before.
-- Assumes nothing.
use Rattle.std.proofs.Common.{◌≡◌, ◌≢◌, ◌⊎◌, inl, inr, ℕ, suc, ◌+◌, ◌-◌, ◌*◌, ◌≤◌, ◌<◌, List, length, get_or, take, refl, sym, ap, ◌∙◌, subst, arith}
use Rattle.std.proofs.Math.Seq.{slice, length-slice}
use mathlib.Core.List.{Memᴰ}
use Rattle.paper.specs.Grammar.{Grammar}
use Rattle.paper.specs.Image.{grammar_of}
use Rattle.paper.proofs.Lists.{place_mem}
use Rattle.tables.specs.Machine.{Leaves}
use Rattle.sheet.specs.Cells.{key, stage}
use Rattle.sheet.specs.Causes.{origin_in, byte_in}
use Rattle.sheet.specs.Grown.{start_of, base_of, cells_of, IsGrowth}
use Rattle.sheet.specs.Stages.{Reason, GivesByte, IsSource, IsLow, IsPut, list_in, AreStaged, Stays, Puts}
use Rattle.sheet.specs.declared.grow.Lists.{Lists}
use Rattle.sheet.proofs.Inserting.{at_place}
use Rattle.sheet.proofs.Growth.{list_within}
use Rattle.sheet.proofs.Advancing.{IsRead}

-- ---- what stays

pub stays_none : {words : List ℕ} {lists : Lists} → Stays words lists words lists
stays_none = record { earlier = refl; cells = λ c n. n }

pub base_same : {image row old new : List ℕ} {before after : Lists} (low high : ℕ) → IsGrowth image row low high old before new after → base_of after ≡ base_of before
base_same {before = before} {after = after} low high w = ap (λ t. get_or t after.place 0) w.starts_are ∙ ap (start_of before) w.place_is

pub stays_more : {old mid new : List ℕ} {before between after : Lists} → Stays old before mid between → base_of between ≡ base_of before → Stays mid between new after → Stays old before new after
stays_more {mid = mid} {new = new} x e y = record {
  earlier = subst (λ b. take b new ≡ take b mid) e y.earlier ∙ x.earlier;
  cells = λ c n. y.cells c (x.cells c n);
}

-- a source stays while the cells do
source_still : {g : Grammar} {row : List ℕ} {j : ℕ} {cells more : List ℕ} {i x s : ℕ} → ((c : ℕ) → Memᴰ c cells → Memᴰ c more) → IsSource g row j cells i x s → IsSource g row j more i x s
source_still still (IsSource.token e f) = IsSource.token e f
source_still still (IsSource.fact f n z l) = IsSource.fact f (still f n) z l

-- ---- a cell of a list before

pub cell_in : (base end at : ℕ) (words : List ℕ) → base ≤ at → at < end → end ≤ length words → Memᴰ (get_or words at 0) (slice base end words)
cell_in base end at words l m n =
    let k : ℕ = at - base in
    let e : base + k ≡ at = omega arith in
    let f : get_or (slice base end words) k 0 ≡ get_or words at 0 = at_place base k end words (omega arith) ∙ ap (λ p. get_or words p 0) e in
    subst (λ c. Memᴰ c (slice base end words)) f (place_mem 0 (slice base end words) k (omega (arith, length-slice base end words n)))

-- what is left when x is taken from a cell of list i
module _ {g : Grammar} {row : List ℕ} {j : ℕ} {lists : ℕ → List ℕ} {cells : List ℕ} {i x s : ℕ} where
  pub source_reason : {p h o n own : ℕ} → IsSource g row j cells i x s → i < j → j ≤ length row → Memᴰ p (lists i) → o ≤ i → (o ≡ i → own ≡ s)
      → GivesByte g x p h o n → Reason g row j lists cells h o n own
  source_reason {p} {h} {o} {n = n} (IsSource.token e f) l k a low same gives =
      Reason.token i p e (omega arith) a (subst (λ y. GivesByte g y p h o n) f gives)
  source_reason (IsSource.fact f b z c) l k a low same gives = Reason.part x i _ f low l a gives b z (λ e. let w = same (sym e) in omega arith)

-- ---- the state

-- Up to the cell at hand, x is taken from the cells of list i with stage s.
pub record IsSourcing (image row ranks : List ℕ) (i x s : ℕ) (old : List ℕ) (before : Lists) (words : List ℕ) (lists : Lists) : Type 0 where
  pub staged : AreStaged image row ranks words lists
  pub stays : Stays old before words lists
  pub low : IsLow i s (cells_of words lists)
  pub source : IsSource (grammar_of image) row lists.place (cells_of words lists) i x s

pub sourcing_none : {image row ranks words : List ℕ} {lists : Lists} {i x s : ℕ} → AreStaged image row ranks words lists → IsLow i s (cells_of words lists)
    → IsSource (grammar_of image) row lists.place (cells_of words lists) i x s → IsSourcing image row ranks i x s words lists words lists
sourcing_none staged low source = record { staged = staged; stays = stays_none; low = low; source = source }

module _ {image row ranks : List ℕ} {i x s : ℕ} {old : List ℕ} {before : Lists} {words : List ℕ} {lists : Lists} (v : IsSourcing image row ranks i x s old before words lists) where
  module _ {high at h o m n from : ℕ} (grown : IsGrowth image row 0 high old before words lists) (earlier : i < before.place) (same : from ≡ i)
      (read : IsRead image row before i at h o m) (to : at < get_or before.starts (from + 1) 0) (o_small : o < 256) (m_small : m < 256)
      (word_is : key (get_or words at 0) ≡ h * 65536 + o * 256 + m) (leaves : Leaves (grammar_of image) h x m n) where
    start_same : (k : ℕ) → start_of lists k ≡ start_of before k
    start_same k = ap (λ t. get_or t k 0) grown.starts_are

    still_earlier : i < lists.place
    still_earlier = omega (arith, grown.place_is)

    gives : GivesByte (grammar_of image) x (get_or words at 0) h o n
    gives =
        let byte : m ≡ byte_in (get_or words at 0) = omega arith in
        record { rule_is = omega arith; origin_is = omega arith; leaves = rw byte at leaves }

    end_is : get_or before.starts (from + 1) 0 ≡ start_of before (suc i)
    end_is = let e : from + 1 ≡ suc i = omega arith in ap (start_of before) e

    pub sourcing_reason : {own : ℕ} → (o ≡ i → own ≡ s) → Reason (grammar_of image) row lists.place (list_in lists.starts words) (cells_of words lists) h o n own
    sourcing_reason own_is =
        let stands = cell_in (start_of lists i) (start_of lists (suc i)) at words (omega (arith, read.start_le, start_same i)) (omega (arith, to, end_is, start_same (suc i)))
        (list_within grown.state i still_earlier) in
        source_reason v.source still_earlier grown.state.place_le stands read.origin_le own_is gives

  pub sourcing_more : {new : List ℕ} {after : Lists} {o own : ℕ} → AreStaged image row ranks new after → Stays words lists new after → Puts o own words lists new after
      → base_of lists ≡ base_of before → after.place ≡ lists.place → i < lists.place → o ≤ i → (o ≡ i → own ≡ s) → (o ≢ i → own ≡ 0)
      → IsSourcing image row ranks i x s old before new after
  sourcing_more {new} {after} {o} {own} staged stays puts base place earlier low same other = record {
    staged = staged;
    stays = stays_more v.stays base stays;
    low = record { before = λ c n. none c (puts.each c n); here = λ c n. here c (puts.each c n) };
    source = subst (λ k. IsSource (grammar_of image) row k (cells_of new after) i x s) (sym place) (source_still stays.cells v.source);
  }
    where
      none : (c : ℕ) → Memᴰ c (cells_of words lists) ⊎ IsPut o own after.place c → origin_in c < i → stage c ≡ 0
      none c (inl n) l = v.low.before c n l
      none c (inr p) l = p.stage_is (omega arith) ∙ other (λ e. let z = p.origin_is in omega arith)

      here : (c : ℕ) → Memᴰ c (cells_of words lists) ⊎ IsPut o own after.place c → origin_in c ≡ i → stage c ≤ s
      here c (inl n) e = v.low.here c n e
      here c (inr p) e = let z = p.origin_is in let y : own ≡ s = same (omega arith) in omega (arith, p.stage_is (omega arith))
