-- The cells while an entry is put in, and with it all that becomes of it by taking empty parts: bytes of its rule and origin are pending.
-- Assumes nothing.
use Rattle.std.proofs.Common.{◌≡◌, ◌≢◌, ◌↔◌, ◌⊎◌, inl, inr, ℕ, ◌≤◌, ◌<◌, true, List, [], ◌∷◌, length, get_or, refl, sym, ap, ◌∙◌, arith}
use Rattle.std.proofs.Math.Seq.{slice, slice_empty}
use native.Mathlib.Decide.{ℕ_discrete}
use mathlib.Core.List.Memᴰ
use mathlib.Core.List.{Memᴰ}
use lib.Pow.{pow_pos}
use Rattle.paper.specs.Bits.{bit_at}
use Rattle.paper.specs.Multiset.{without}
use Rattle.paper.specs.Grammar.{Grammar, IsGrammar, IsNonterminal, members, left}
use Rattle.paper.specs.Derivation.{Derives}
use Rattle.paper.specs.Entry.{Entry, Found, may_take, taking}
use Rattle.paper.specs.Sheet.{word, mask, rest_of}
use Rattle.paper.specs.Building.{insert}
use Rattle.paper.proofs.SubMultisets.{listed_without}
use Rattle.paper.proofs.Words.{rest_of_mask}
use Rattle.paper.proofs.Theorem7.{tree_found}
use Rattle.paper.proofs.Trees.{derives_tree}
use Rattle.tables.specs.Machine.{IsByte, may_be_taken, Leaves}
use Rattle.tables.specs.Masks.{entry_with}
use Rattle.tables.proofs.Masks.{proper_listed, mask_proper, taken_exactly, finished_byte}
use Rattle.sheet.specs.Bytes.{HasByte, IsGreatestTaken}
use Rattle.sheet.specs.Cells.{key, Ascends}
use Rattle.sheet.specs.Growing.{entry_in, Holds, DerivesNothing, FinishedFrom, Awaited, LookedFor, IsGrowing, Grew}
use Rattle.sheet.specs.Learning.{IsNoted, IsLeft, GainsLeft, AreEmptyParts}
use Rattle.sheet.proofs.Cells.{only_new, still_ascends, holds_new, holds_still, holds_only}

-- the entry is that of rule h and origin i with a pending byte
pub record Pends (g : Grammar) (h i : ℕ) (pending : List ℕ) (e : Entry) : Type 0 where
  pub byte : ℕ
  pub is_in : HasByte pending byte
  pub is_entry : entry_with g h i byte ≡ e

-- the cell has the entry of rule h and origin i with the byte m
pub record IsCellOf (g : Grammar) (h i m x : ℕ) : Type 0 where
  pub entry_is : entry_in g x ≡ entry_with g h i m
  pub word_is : word g (entry_with g h i m) ≡ key x

-- the entry is in the cells, or it is pending
abbrev pub Comes : Grammar → ℕ → ℕ → List ℕ → List ℕ → Entry → Type 0
Comes g h i cells pending e = Holds g cells e ⊎ Pends g h i pending e

-- What holds of the cells, which were `old` before the entry with the byte `first` was put in: what of the growing list holds, but what empty parts leave
-- may be pending; what is pending is found by the steps too.
pub record IsEmptying (g : Grammar) (row : List ℕ) (j h i first : ℕ) (old cells found : List ℕ) (want : ℕ) (pending : List ℕ) : Type 0 where
  pub ascends : Ascends cells
  pub words_are : (cell : ℕ) → Memᴰ cell cells → word g (entry_in g cell) ≡ key cell
  pub sound : (e : Entry) → Holds g cells e → Found g row j e
  pub found_is : (k x : ℕ) → k < j → (bit_at x (get_or found k 0) ≡ 1) ↔ FinishedFrom g cells k x
  pub want_is : (x : ℕ) → (bit_at x want ≡ 1) ↔ (IsNonterminal g x × LookedFor g j cells x)
  pub emptied : (e : Entry) (x : ℕ) → Holds g cells e → DerivesNothing g x → may_take g x e.rest ≡ true → Comes g h i cells pending (taking x e)
  pub grew : Grew g i i old cells
  pub waits : (m : ℕ) → HasByte pending m → IsByte g h m × Found g row j (entry_with g h i m)
  pub comes : Comes g h i cells pending (entry_with g h i first)

-- at first the one byte is pending
pub emptying_first : {g : Grammar} {row : List ℕ} {j h i first : ℕ} {cells found : List ℕ} {want : ℕ} {pending : List ℕ} → IsGrowing g row j cells found want
    → IsByte g h first → Found g row j (entry_with g h i first) → ((b : ℕ) → HasByte pending b ↔ (b ≡ first))
    → IsEmptying g row j h i first cells cells found want pending
emptying_first {g} {row} {j} {h} {i} {first} s byte found only = record {
  ascends = s.ascends;
  words_are = s.words_are;
  sound = s.sound;
  found_is = s.found_is;
  want_is = s.want_is;
  emptied = λ e x m d t. inl (s.emptied e x m d t);
  grew = record { keeps = λ e m. m; origins = λ e m. inl m };
  waits = λ m b. let e = (only m).0 b in rw e (byte, found);
  comes = inr (record { byte = first; is_in = (only first).1 refl; is_entry = refl });
}

module _ {g : Grammar} {row : List ℕ} {j h i first : ℕ} {old cells found : List ℕ} {want : ℕ} {pending : List ℕ}
    (s : IsEmptying g row j h i first old cells found want pending) where
  -- at last none is
  module _ (none : (b : ℕ) → HasByte pending b → ⊥) where
    come : (e : Entry) → Comes g h i cells pending e → Holds g cells e
    come e (inl m) = m
    come e (inr p) = absurd (none p.byte p.is_in)

    pub emptying_last : IsGrowing g row j cells found want
    emptying_last = record {
      ascends = s.ascends;
      words_are = s.words_are;
      sound = s.sound;
      found_is = s.found_is;
      want_is = s.want_is;
      emptied = λ e x m d t. come (taking x e) (s.emptied e x m d t);
    }

    pub has_come : Holds g cells (entry_with g h i first)
    has_come = come (entry_with g h i first) s.comes

  -- the greatest pending byte is taken
  module _ {m : ℕ} {less : List ℕ} (taken : IsGreatestTaken pending m less) where
    -- an entry that pends is the one with this byte, or pends still
    pends : (e : Entry) → Pends g h i pending e → (e ≡ entry_with g h i m) ⊎ Pends g h i less e
    pends e p = go (ℕ_discrete p.byte m)
      where
        go : Dec (p.byte ≡ m) → (e ≡ entry_with g h i m) ⊎ Pends g h i less e
        go (yes q) = inl (sym p.is_entry ∙ ap (entry_with g h i) q)
        go (no ne) = inr (record { byte = p.byte; is_in = (taken.others p.byte).1 (p.is_in, ne); is_entry = p.is_entry })

    pub this_byte : IsByte g h m
    this_byte = (s.waits m taken.was).0

    this_found : Found g row j (entry_with g h i m)
    this_found = (s.waits m taken.was).1

    -- a cell with the word of its entry
    module _ {x : ℕ} (cell : IsCellOf g h i m x) where
      new_held : Holds g (insert key x cells) (entry_with g h i m)
      new_held = Memᴰ.cast (sym cell.entry_is) (holds_new g x cells)

      -- what pended comes, as long as what is pending then has the rest of it
      settled : {more : List ℕ} → ((b : ℕ) → HasByte less b → HasByte more b) → (e : Entry) → Comes g h i cells pending e → Comes g h i (insert key x cells) more e
      settled up e (inl n) = inl (holds_still g x cells e n)
      settled {more} up e (inr p) = go (pends e p)
        where
          go : (e ≡ entry_with g h i m) ⊎ Pends g h i less e → Comes g h i (insert key x cells) more e
          go (inl q) = inl (Memᴰ.cast q new_held)
          go (inr l) = inr (record { byte = l.byte; is_in = up l.byte l.is_in; is_entry = l.is_entry })

      holds_old : (e : Entry) → Holds g (insert key x cells) e → Holds g cells e ⊎ (e ≡ entry_with g h i m)
      holds_old e n = go (holds_only g x cells e n)
        where
          go : Holds g cells e ⊎ (e ≡ entry_in g x) → Holds g cells e ⊎ (e ≡ entry_with g h i m)
          go (inl k) = inl k
          go (inr q) = inr (q ∙ cell.entry_is)

      -- the cells are words of entries that the steps find
      pub words_now : (c : ℕ) → Memᴰ c (insert key x cells) → word g (entry_in g c) ≡ key c
      words_now c n = go (only_new x cells c n)
        where
          go : (c ≡ x) ⊎ Memᴰ c cells → word g (entry_in g c) ≡ key c
          go (inl q) = rw q (ap (word g) cell.entry_is ∙ cell.word_is)
          go (inr k) = s.words_are c k

      pub sound_now : (e : Entry) → Holds g (insert key x cells) e → Found g row j e
      sound_now e n = go (holds_old e n)
        where
          go : Holds g cells e ⊎ (e ≡ entry_with g h i m) → Found g row j e
          go (inl k) = s.sound e k
          go (inr q) = rw q this_found

      -- its key stands there already
      pub emptying_there : insert key x cells ≡ cells → IsEmptying g row j h i first old cells found want less
      emptying_there same = record {
        ascends = s.ascends;
        words_are = s.words_are;
        sound = s.sound;
        found_is = s.found_is;
        want_is = s.want_is;
        emptied = λ e y n d t. rw same at (settled {more = less} (λ b k. k) (taking y e) (s.emptied e y n d t));
        grew = s.grew;
        waits = λ b k. s.waits b ((taken.others b).0 k).0;
        comes = rw same at (settled {more = less} (λ b k. k) (entry_with g h i first) s.comes);
      }

      -- it comes in
      module _ (is : IsGrammar g) (within : j ≤ length row) (symbols : ℕ) {now_want : ℕ} {now_found : List ℕ} (more : List ℕ) (noted : IsNoted g j h i m found want now_found now_want)
          (empty : AreEmptyParts g h m symbols) (gains : GainsLeft g h m symbols less more) where
        -- ---- the sets

        found_now : (k y : ℕ) → k < j → (bit_at y (get_or now_found k 0) ≡ 1) ↔ FinishedFrom g (insert key x cells) k y
        found_now k y l = (λ b. to ((noted.finishes k y l).0 b), λ f. (noted.finishes k y l).1 (from f (holds_old f.entry f.stands)))
          where
            to : (bit_at y (get_or found k 0) ≡ 1) ⊎ ((m ≡ 0) × (k ≡ i) × (y ≡ left g h)) → FinishedFrom g (insert key x cells) k y
            to (inl b) =
                let f = (s.found_is k y l).0 b in
                record { entry = f.entry; stands = holds_still g x cells f.entry f.stands; is_finished = f.is_finished; origin_is = f.origin_is; left_is = f.left_is }
            to (inr (z, q, a)) =
                record { entry = entry_with g h i m; stands = new_held; is_finished = (finished_byte g h i this_byte).1 z; origin_is = sym q; left_is = sym a }

            from : (f : FinishedFrom g (insert key x cells) k y) → Holds g cells f.entry ⊎ (f.entry ≡ entry_with g h i m)
                → (bit_at y (get_or found k 0) ≡ 1) ⊎ ((m ≡ 0) × (k ≡ i) × (y ≡ left g h))
            from f (inl n) = inl ((s.found_is k y l).1 (record { entry = f.entry; stands = n; is_finished = f.is_finished; origin_is = f.origin_is; left_is = f.left_is }))
            from f (inr q) =
                inr ((finished_byte g h i this_byte).0 (rw q at f.is_finished), sym f.origin_is ∙ ap (λ e. e.origin) q, sym f.left_is ∙ ap (λ e. left g e.rule) q)

        want_now : (y : ℕ) → (bit_at y now_want ≡ 1) ↔ (IsNonterminal g y × LookedFor g j (insert key x cells) y)
        want_now y = (λ b. to ((noted.wants y).0 b), λ (n, l). (noted.wants y).1 (from n l))
          where
            still : LookedFor g j cells y → LookedFor g j (insert key x cells) y
            still (inl z) = inl z
            still (inr a) = inr (record { entry = a.entry; stands = holds_still g x cells a.entry a.stands; may = a.may })

            to : (bit_at y want ≡ 1) ⊎ (IsNonterminal g y × (may_be_taken g h m y ≡ true)) → IsNonterminal g y × LookedFor g j (insert key x cells) y
            to (inl b) = let w = (s.want_is y).0 b in (w.0, still w.1)
            to (inr (n, t)) = (n, inr (record { entry = entry_with g h i m; stands = new_held; may = t }))

            by : IsNonterminal g y → (a : Awaited g (insert key x cells) y) → Holds g cells a.entry ⊎ (a.entry ≡ entry_with g h i m)
                → (bit_at y want ≡ 1) ⊎ (IsNonterminal g y × (may_be_taken g h m y ≡ true))
            by n a (inl k) = inl ((s.want_is y).1 (n, inr (record { entry = a.entry; stands = k; may = a.may })))
            by n a (inr q) = inr (n, rw q at a.may)

            from : IsNonterminal g y → LookedFor g j (insert key x cells) y → (bit_at y want ≡ 1) ⊎ (IsNonterminal g y × (may_be_taken g h m y ≡ true))
            from n (inl z) = inl ((s.want_is y).1 (n, inl z))
            from n (inr a) = by n a (holds_old a.entry a.stands)

        -- ---- empty parts

        up : (b : ℕ) → HasByte less b → HasByte more b
        up b k = (gains b).1 (inl k)

        -- what is left of the new entry is pending
        left_pends : (y : ℕ) → DerivesNothing g y → may_be_taken g h m y ≡ true → Pends g h i more (taking y (entry_with g h i m))
        left_pends y d t =
            let n : ℕ = mask (members g h) (without y (rest_of (members g h) m)) in
            let l = listed_without y (members g h) (proper_listed this_byte) in
            record {
              byte = n;
              is_in = (gains n).1 (inr (record { symbol = y; is_in = (empty y).1 (d, t); leaves = record { proper = this_byte; may = t; becomes = refl } }));
              is_entry = λ k. record { rule = h; origin = i; rest = rest_of_mask (members g h) l k };
            }

        emptied_now : (e : Entry) (y : ℕ) → Holds g (insert key x cells) e → DerivesNothing g y → may_take g y e.rest ≡ true → Comes g h i (insert key x cells) more (taking y e)
        emptied_now e y n d t = go (holds_old e n)
          where
            go : Holds g cells e ⊎ (e ≡ entry_with g h i m) → Comes g h i (insert key x cells) more (taking y e)
            go (inl k) = settled up (taking y e) (s.emptied e y k d t)
            go (inr q) = inr (rw q (left_pends y d (rw q at t)))

        -- an empty part is a part that the steps find, since it reads no token
        left_found : (y : ℕ) → DerivesNothing g y → may_be_taken g h m y ≡ true → Found g row j (taking y (entry_with g h i m))
        left_found y d t =
            let no_token : Derives g (y ∷ []) (slice j j row) = rw (slice_empty j row) d in
            tree_found (derives_tree y j j (omega arith) within no_token) is.order (entry_with g h i m) this_found t

        leaves_byte : {y n : ℕ} → Leaves g h y m n → IsByte g h n
        leaves_byte {y} l = rw l.becomes at (mask_proper (members g h) (without y (rest_of (members g h) m)))

        leaves_entry : {y n : ℕ} → Leaves g h y m n → taking y (entry_with g h i m) ≡ entry_with g h i n
        leaves_entry {y} {n} l =
            let k = listed_without y (members g h) (proper_listed this_byte) in
            let r : rest_of (members g h) n ≡ without y (rest_of (members g h) m) = rw l.becomes at (rest_of_mask (members g h) k) in
            λ t. record { rule = h; origin = i; rest = sym r t }

        waits_now : (b : ℕ) → HasByte more b → IsByte g h b × Found g row j (entry_with g h i b)
        waits_now b k = go ((gains b).0 k)
          where
            go : HasByte less b ⊎ IsLeft g h m symbols b → IsByte g h b × Found g row j (entry_with g h i b)
            go (inl n) = s.waits b ((taken.others b).0 n).0
            go (inr l) = let p = (empty l.symbol).0 l.is_in in (leaves_byte l.leaves, rw (leaves_entry l.leaves) at (left_found l.symbol p.0 p.1))

        pub emptying_placed : IsEmptying g row j h i first old (insert key x cells) now_found now_want more
        emptying_placed = record {
          ascends = still_ascends x cells s.ascends;
          words_are = words_now;
          sound = sound_now;
          found_is = found_now;
          want_is = want_now;
          emptied = emptied_now;
          grew = record { keeps = λ e n. holds_still g x cells e (s.grew.keeps e n); origins = λ e n. new_origin e (holds_old e n) };
          waits = waits_now;
          comes = settled up (entry_with g h i first) s.comes;
        }
          where
            new_origin : (e : Entry) → Holds g cells e ⊎ (e ≡ entry_with g h i m) → Holds g old e ⊎ ((i ≤ e.origin) × (e.origin ≤ i))
            new_origin e (inl n) = s.grew.origins e n
            new_origin e (inr q) = inr (rw q (omega arith, omega arith))

        -- what is pending then is below the byte that was taken
        pub all_below : (b : ℕ) → HasByte more b → b < m
        all_below b k = go ((gains b).0 k)
          where
            go : HasByte less b ⊎ IsLeft g h m symbols b → b < m
            go (inl n) = let o = (taken.others b).0 n in let ne : b ≢ m = o.1 in omega (arith, taken.greatest b o.0)
            go (inr l) =
                let x = (taken_exactly g (members g h) l.symbol m b (leaves_byte l.leaves)).0 l.leaves in
                omega (arith, x.3, pow_pos x.0)

  pub all_less : {m : ℕ} {less : List ℕ} → IsGreatestTaken pending m less → (b : ℕ) → HasByte less b → b < m
  all_less {m} taken b n = let o = (taken.others b).0 n in let ne : b ≢ m = o.1 in omega (arith, taken.greatest b o.0)
