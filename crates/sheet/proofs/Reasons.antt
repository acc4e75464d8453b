-- The reasons of the cells while an entry is put in, and with it all that becomes of it by taking empty parts.
-- Assumes nothing.
use Rattle.std.proofs.Common.{◌≡◌, ◌≢◌, ◌⊎◌, inl, inr, ℕ, ◌+◌, ◌*◌, ◌≤◌, ◌<◌, List, sym, ap, ◌∙◌, arith}
use native.Mathlib.Decide.{ℕ_discrete}
use mathlib.Core.List.{Memᴰ}
use Rattle.paper.specs.Multiset.{without}
use Rattle.paper.specs.Grammar.{Grammar, members}
use Rattle.paper.specs.Sheet.{rest_of}
use Rattle.tables.specs.Machine.{IsByte, Leaves}
use Rattle.tables.proofs.Masks.{mask_proper}
use Rattle.sheet.specs.Bytes.{HasByte, IsGreatestTaken}
use Rattle.sheet.specs.Cells.{stage}
use Rattle.sheet.specs.Causes.{rule_in, origin_in, byte_in, highest}
use Rattle.sheet.specs.Learning.{IsLeft, GainsLeft, AreEmptyParts}
use Rattle.sheet.specs.Stages.{stage_at, GivesByte, Reason, IsStaged, IsPut}
use Rattle.sheet.proofs.Ranking.{taken_rises}
use Rattle.sheet.proofs.Staging.{stage_given, stage_highest}

-- a cell of rule h, origin i, byte m and stage s
pub record IsCell (h i m s c : ℕ) : Type 0 where
  pub rule_is : rule_in c ≡ h
  pub origin_is : origin_in c ≡ i
  pub byte_is : byte_in c ≡ m
  pub stage_is : stage c ≡ s

pub cell_parts : {h i m : ℕ} (s word : ℕ) → h < 128 → i < 256 → m < 256 → word ≡ h * 65536 + i * 256 + m → IsCell h i m s (word + s * 8388608)
cell_parts s word l k n e = record { rule_is = omega arith; origin_is = omega arith; byte_is = omega arith; stage_is = omega arith }

-- a reason stays while lists and cells stay
pub reason_still : {g : Grammar} {row : List ℕ} {j : ℕ} {lists now : ℕ → List ℕ} {cells more : List ℕ} {h i m s : ℕ}
    → ((k p : ℕ) → k < j → Memᴰ p (lists k) → Memᴰ p (now k)) → ((c : ℕ) → Memᴰ c cells → Memᴰ c more) → Reason g row j lists cells h i m s → Reason g row j now more h i m s
reason_still up still (Reason.fresh e) = Reason.fresh e
reason_still up still (Reason.token before p e l n t) = Reason.token before p e l (up before p (omega arith) n) t
reason_still up still (Reason.part x k p f l m n t o z a) = Reason.part x k p f l m (up k p m n) t (still f o) z a
reason_still up still (Reason.empty x p d n t a) = Reason.empty x p d (still p n) t a

-- what is taken leaves a byte
pub left_byte : (g : Grammar) (h x m n : ℕ) → Leaves g h x m n → IsByte g h n
left_byte g h x m n l = rw l.becomes at (mask_proper (members g h) (without x (rest_of (members g h) m)))

-- an entry of an empty span that was left has no lower stage
left_rises : (g : Grammar) (ranks : List ℕ) (j h i s x m n : ℕ) → Leaves g h x m n → stage_at g ranks j h i m s ≤ stage_at g ranks j h i n s
left_rises g ranks j h i s x m n l = go (ℕ_discrete i j)
  where
    go : Dec (i ≡ j) → stage_at g ranks j h i m s ≤ stage_at g ranks j h i n s
    go (yes e) = omega (arith, stage_highest g ranks j h i m s e, stage_highest g ranks j h i n s e, taken_rises ranks (left_byte g h x m n l) l)
    go (no ne) = omega (arith, stage_given g ranks j h i m s ne, stage_given g ranks j h i n s ne)

-- While the entry of rule h and origin i is put in with stage s, the bytes that are pending have reasons.
pub record IsComing (g : Grammar) (row ranks : List ℕ) (j : ℕ) (lists : ℕ → List ℕ) (h i s : ℕ) (old cells pending : List ℕ) : Type 0 where
  pub staged : IsStaged g row ranks j lists cells
  pub keeps : (c : ℕ) → Memᴰ c old → Memᴰ c cells
  pub puts : (c : ℕ) → Memᴰ c cells → Memᴰ c old ⊎ IsPut i s j c
  pub waits : (m : ℕ) → HasByte pending m → Reason g row j lists cells h i m (stage_at g ranks j h i m s)

module _ {g : Grammar} {row ranks : List ℕ} {j : ℕ} where
  -- over an empty span the stage is no lower than that of the cell that it was taken from
  module _ {lists : ℕ → List ℕ} {cells : List ℕ} (staged : IsStaged g row ranks j lists cells) {h i m s : ℕ} where
    given_rises : {x p : ℕ} → IsByte g h m → Memᴰ p cells → GivesByte g x p h i m → stage p ≤ s → Dec (i ≡ j) → stage p ≤ stage_at g ranks j h i m s
    given_rises byte n t l (no ne) = omega (arith, stage_given g ranks j h i m s ne)
    given_rises {p = p} byte n t l (yes e) =
        let a : stage p ≡ highest ranks (members g (rule_in p)) (byte_in p) = staged.ranked p n (t.origin_is ∙ e) in
        let b : highest ranks (members g (rule_in p)) (byte_in p) ≡ highest ranks (members g h) (byte_in p) = ap (λ r. highest ranks (members g r) (byte_in p)) t.rule_is in
        omega (arith, stage_highest g ranks j h i m s e, taken_rises ranks byte t.leaves)

    -- what is a reason with the stage that is given is one with the stage that the entry has
    pub reason_at : IsByte g h m → Reason g row j lists cells h i m s → Reason g row j lists cells h i m (stage_at g ranks j h i m s)
    reason_at byte (Reason.fresh e) = Reason.fresh e
    reason_at byte (Reason.token before p e l n t) = Reason.token before p e l n t
    reason_at byte (Reason.part x k p f l a n t o z b) =
        let ne : i ≢ j = λ e. omega arith in
        Reason.part x k p f l a n t o z (λ e. omega (arith, b e, stage_given g ranks j h i m s ne))
    reason_at byte (Reason.empty x p d n t a) = Reason.empty x p d n t (given_rises byte n t a (ℕ_discrete i j))

  pub coming_first : {lists : ℕ → List ℕ} {h i s first : ℕ} {cells pending : List ℕ} → IsStaged g row ranks j lists cells → IsByte g h first → Reason g row j lists cells h i first s
      → ((b : ℕ) → HasByte pending b → b ≡ first) → IsComing g row ranks j lists h i s cells cells pending
  coming_first {lists} {h} {i} {s} {first} {cells} staged byte reason only = record {
    staged = staged;
    keeps = λ c n. n;
    puts = λ c n. inl n;
    waits = λ m b. let e : m ≡ first = only m b in rw e (reason_at staged byte reason);
  }

  module _ {lists : ℕ → List ℕ} {h i s : ℕ} {old cells pending : List ℕ} (v : IsComing g row ranks j lists h i s old cells pending) {m : ℕ} {less : List ℕ} (taken : IsGreatestTaken pending m less) where
    -- its key stands there
    pub coming_there : IsComing g row ranks j lists h i s old cells less
    coming_there = record { staged = v.staged; keeps = v.keeps; puts = v.puts; waits = λ b n. v.waits b ((taken.others b).0 n).0 }

    -- it comes in
    module _ {now : ℕ → List ℕ} {more : List ℕ} {x : ℕ} (cell : IsCell h i m (stage_at g ranks j h i m s) x) (small : stage_at g ranks j h i m s < 64)
        (up : (k p : ℕ) → k < j → Memᴰ p (lists k) → Memᴰ p (now k)) (still : (c : ℕ) → Memᴰ c cells → Memᴰ c more) (here : Memᴰ x more)
        (only : (c : ℕ) → Memᴰ c more → (c ≡ x) ⊎ Memᴰ c cells) where
      new_reason : Reason g row j now more h i m (stage_at g ranks j h i m s)
      new_reason = reason_still up still (v.waits m taken.was)

      pub staged_placed : IsStaged g row ranks j now more
      staged_placed = record { reasons = λ c n. reason c (only c n); ranked = λ c n. ranked c (only c n); small = λ c n. low c (only c n) }
        where
          reason : (c : ℕ) → (c ≡ x) ⊎ Memᴰ c cells → Reason g row j now more (rule_in c) (origin_in c) (byte_in c) (stage c)
          reason c (inl e) = rw (e, cell.rule_is, cell.origin_is, cell.byte_is, cell.stage_is) new_reason
          reason c (inr n) = reason_still up still (v.staged.reasons c n)

          ranked : (c : ℕ) → (c ≡ x) ⊎ Memᴰ c cells → origin_in c ≡ j → stage c ≡ highest ranks (members g (rule_in c)) (byte_in c)
          ranked c (inl e) o = rw e (
              let k : i ≡ j = sym cell.origin_is ∙ (ap origin_in (sym e) ∙ o) in
              rw (cell.rule_is, cell.byte_is) (cell.stage_is ∙ stage_highest g ranks j h i m s k))
          ranked c (inr n) o = v.staged.ranked c n o

          low : (c : ℕ) → (c ≡ x) ⊎ Memᴰ c cells → stage c < 64
          low c (inl e) = rw e (omega (arith, cell.stage_is))
          low c (inr n) = v.staged.small c n

      module _ {symbols : ℕ} {later : List ℕ} (empty : AreEmptyParts g h m symbols) (gains : GainsLeft g h m symbols less later) where
        waits_placed : (b : ℕ) → HasByte less b ⊎ IsLeft g h m symbols b → Reason g row j now more h i b (stage_at g ranks j h i b s)
        waits_placed b (inl n) = reason_still up still (v.waits b ((taken.others b).0 n).0)
        waits_placed b (inr l) =
            let leaves : Leaves g h l.symbol (byte_in x) b = rw cell.byte_is l.leaves in
            Reason.empty l.symbol x ((empty l.symbol).0 l.is_in).0 here (record { rule_is = cell.rule_is; origin_is = cell.origin_is; leaves = leaves })
            (omega (arith, cell.stage_is, left_rises g ranks j h i s l.symbol m b l.leaves))

        pub coming_placed : IsComing g row ranks j now h i s old more later
        coming_placed = record {
          staged = staged_placed;
          keeps = λ c n. still c (v.keeps c n);
          puts = λ c n. put c (only c n);
          waits = λ b n. waits_placed b ((gains b).0 n);
        }
          where
            put : (c : ℕ) → (c ≡ x) ⊎ Memᴰ c cells → Memᴰ c old ⊎ IsPut i s j c
            put c (inl e) = inr (rw e (record { origin_is = cell.origin_is; stage_is = λ l. let ne : i ≢ j = λ z. omega arith in cell.stage_is ∙ stage_given g ranks j h i m s ne }))
            put c (inr n) = v.puts c n
