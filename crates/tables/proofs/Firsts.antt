-- Where the rules of each symbol begin.
-- Assumes nothing.
use Rattle.std.proofs.Common.{◌≡◌, ◌⊎◌, inl, inr, ℕ, ◌+◌, ◌<◌, ◌≤◌, List, length, get_or, set, arith, ◌∙◌, get_or-set_same, get_or-set_other, length-set}
use native.Mathlib.Decide.{ℕ_discrete}
use Rattle.std.proofs.lemmas.Bool.{cases_lt}
use Rattle.tables.specs.declared.Row.{Row}
use Rattle.tables.specs.Rows.{LeftsAscend}
use Rattle.tables.specs.Table.{row_at}

-- `first` is the number of the first rule whose left symbol is a or later
pub record IsFirst (rows : List Row) (a first : ℕ) : Type 0 where
  pub few : first ≤ length rows
  pub before : (h : ℕ) → h < first → (row_at rows h).left < a
  pub from : (h : ℕ) → first ≤ h → h < length rows → a ≤ (row_at rows h).left

-- the firsts of the symbols below a are found, and no rule before `first` has a left symbol from a on
pub record FirstsTo (rows : List Row) (firsts : List ℕ) (a first : ℕ) : Type 0 where
  pub size : length firsts ≡ 65
  pub few : first ≤ length rows
  pub before : (h : ℕ) → h < first → (row_at rows h).left < a
  pub found : (b : ℕ) → b < a → IsFirst rows b (get_or firsts b 0)

module _ {rows : List Row} (up : LeftsAscend rows) where
  pub first_is : {a first : ℕ} → first ≤ length rows → ((h : ℕ) → h < first → (row_at rows h).left < a)
      → (first < length rows → a ≤ (row_at rows first).left) → IsFirst rows a first
  first_is {a} {first} few before there = record { few = few; before = before; from = λ h l m. go h l m (ℕ_discrete h first) }
    where
      go : (h : ℕ) → first ≤ h → h < length rows → Dec (h ≡ first) → a ≤ (row_at rows h).left
      go h l m (yes e) = rw e (there (omega arith))
      go h l m (no ne) = omega (arith, there (omega arith), up.ascend first h (omega arith) m)

  pub firsts_more : {firsts : List ℕ} {a first next : ℕ} → FirstsTo rows firsts a first → a < 65 → next ≤ length rows
      → ((h : ℕ) → first ≤ h → h < next → (row_at rows h).left < a)
      → (next < length rows → a ≤ (row_at rows next).left) → FirstsTo rows (set firsts a next) (a + 1) next
  firsts_more {firsts} {a} {first} {next} f low few between there = record {
    size = length-set firsts a next ∙ f.size;
    few = few;
    before = λ h l. omega (arith, under h l);
    found = λ b l. go b l (ℕ_discrete b a);
  }
    where
      under : (h : ℕ) → h < next → (row_at rows h).left < a
      under h l = pick h l (cases_lt h first)
        where
          pick : (h : ℕ) → h < next → (h < first) ⊎ (first ≤ h) → (row_at rows h).left < a
          pick h l (inl m) = f.before h m
          pick h l (inr m) = between h m l

      go : (b : ℕ) → b < a + 1 → Dec (b ≡ a) → IsFirst rows b (get_or (set firsts a next) b 0)
      go b l (yes e) = rw (e, get_or-set_same firsts a next 0 (omega (arith, f.size))) (first_is few under there)
      go b l (no ne) = rw (get_or-set_other firsts a b next 0 ne) (f.found b (omega arith))
