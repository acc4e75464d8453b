-- When a list is done, reasons are causes: what an empty part needs stands there too, with a lower stage.
-- Assumes nothing.
use Rattle.std.proofs.Common.{◌≡◌, ◌≢◌, true, ℕ, ◌≤◌, ◌<◌, List, [], ◌∷◌, ◌++◌, map, length, get_or, refl, sym, ap, ◌∙◌, subst, arith}
use Rattle.std.proofs.Math.Seq.{slice, slice_empty}
use Rattle.std.proofs.lemmas.List.{append-nil}
use mathlib.Core.List.Memᴰ
use mathlib.Core.List.{Memᴰ}
use Rattle.paper.specs.Multiset.{Arrangement, minus}
use Rattle.paper.specs.Grammar.{Grammar, IsGrammar, rule_count, left, members, symbols}
use Rattle.paper.specs.Derivation.{Derives}
use Rattle.paper.specs.Tree.{Parts, done, part}
use Rattle.paper.specs.Entry.{Entry, Found, fresh, finished, may_take}
use Rattle.paper.specs.Entry.Found.{predict}
use Rattle.paper.specs.Sheet.{word, entry_of, list_at}
use Rattle.paper.specs.Building.{sheet_of}
use Rattle.paper.proofs.Building.{sheet_found}
use Rattle.paper.proofs.Machine.{arranged_acceptable, arranged_minus, has_arranged}
use Rattle.paper.proofs.Multiset.{arranged_nil, arranged_sym, arranged_refl, mem_has, has_mem}
use Rattle.paper.proofs.Theorem7.{found_stands, stands_found, rest_finished}
use Rattle.paper.proofs.Trees.{derives_tree}
use Rattle.paper.proofs.Universe.{found_possible}
use Rattle.tables.specs.Machine.{IsByte, Leaves, full_byte}
use Rattle.tables.specs.Masks.{entry_with}
use Rattle.tables.specs.Table.{rank, Emptied, Ranked}
use Rattle.tables.proofs.Empties.{rank_exactly}
use Rattle.tables.proofs.Masks.{may_back, finished_byte, found_word}
use Rattle.sheet.specs.Cells.{key, stage}
use Rattle.sheet.specs.Causes.{rule_in, origin_in, byte_in, highest, IsBefore, IsFinishedOf, Cause}
use Rattle.sheet.specs.Growing.{entry_in, IsListOf, DerivesNothing}
use Rattle.sheet.specs.Stages.{GivesByte, Reason, IsStaged, IsCausedList}
use Rattle.sheet.proofs.Facts.{entry_parts, cell_byte}
use Rattle.sheet.proofs.Growth.{mem_place}
use Rattle.sheet.proofs.Ranking.{highest_below, taken_below}

-- ---- a rule whose members derive nothing is finished where it is looked for

empty_parts : {g : Grammar} {row : List ℕ} {j : ℕ} → j ≤ length row → (s : List ℕ) → ((b : ℕ) → Memᴰ b s → DerivesNothing g b) → Parts g row s j j
empty_parts within [] each = done within
empty_parts {g} {row} {j} within (a ∷ s) each =
    let nothing : Derives g (a ∷ []) (slice j j row) = rw (slice_empty j row) (each a (Memᴰ.head refl)) in
    part (derives_tree a j j (omega arith) within nothing) (empty_parts within s (λ b n. each b (Memᴰ.tail n)))

finished_found : {g : Grammar} {row : List ℕ} {j h : ℕ} → IsGrammar g → j ≤ length row → h < rule_count g → Found g row j (fresh g h j) → ((b : ℕ) → Memᴰ b (members g h) → DerivesNothing g b)
    → Found g row j (record { rule = h; origin = j; rest = [] })
finished_found {g} {row} {j} {h} is within l found each =
    let (t, arranged, acceptable) = arranged_acceptable {g = g} is.order (members g h) in
    let whole : Arrangement (t ++ []) (members g h) = rw (append-nil t) arranged in
    stands_found is.order (record {
      is_rule = l;
      origin_le = omega arith;
      list_le = within;
      found = t;
      ahead = [];
      rest_is = sym (arranged_nil (minus (members g h) t) (arranged_sym (arranged_minus t [] whole)));
      found_are = whole;
      ahead_is = arranged_refl [];
      acceptable = rw (append-nil t) acceptable;
      parts = empty_parts within t (λ b n. each b (has_mem b (members g h) (has_arranged b arranged (mem_has n))));
      sought = (found_stands is.order found).sought;
    })

-- ---- the cells of a list that is done

module _ {g : Grammar} {row : List ℕ} {j : ℕ} {cells : List ℕ} (is : IsGrammar g) (short : length row ≤ 64) (within : j ≤ length row) (list : IsListOf g row j cells) where
  -- what the steps find is in a cell
  found_cell : {e : Entry} → Found g row j e → (c : ℕ) × Memᴰ c cells × (entry_in g c ≡ e)
  found_cell {e} f =
      let m : Memᴰ (word g e) (map (word g) (list_at (sheet_of g row) j)) = Memᴰ.map (word g) ((sheet_found g row is short j e).1 f) in
      let n : Memᴰ (word g e) (map key cells) = rw list.keys_are m in
      let k = Memᴰ.of_map key cells n in
      (k.0, k.1, ap (entry_of g) k.2 ∙ found_word g is (omega arith) f)

  -- and what is in a cell the steps find
  cell_found : {c : ℕ} → Memᴰ c cells → Found g row j (entry_in g c) × (word g (entry_in g c) ≡ key c)
  cell_found {c} n =
      let m : Memᴰ (key c) (map (word g) (list_at (sheet_of g row) j)) = rw list.keys_are at (Memᴰ.map key n) in
      let k = Memᴰ.of_map (word g) (list_at (sheet_of g row) j) m in
      let f : Found g row j k.0 = (sheet_found g row is short j k.0).0 k.1 in
      let e : entry_in g c ≡ k.0 = ap (entry_of g) (sym k.2) ∙ found_word g is (omega arith) f in
      (rw e f, ap (word g) e ∙ k.2)

  parts_found : {c : ℕ} → Memᴰ c cells → Found g row j (entry_with g (rule_in c) (origin_in c) (byte_in c))
  parts_found {c} n = subst (Found g row j) (entry_parts g c) (cell_found n).0

  byte_of : {c : ℕ} → Memᴰ c cells → IsByte g (rule_in c) (byte_in c)
  byte_of {c} n = cell_byte g c is (found_possible (parts_found n)).is_rule (cell_found n).1

  -- ---- empty parts

  module _ {ranks : List ℕ} (ranked : Ranked g ranks) {lists : ℕ → List ℕ} (staged : IsStaged g row ranks j lists cells) where
    -- the members of a rule with ranks derive nothing
    member_empty : (h r : ℕ) → h < rule_count g → Emptied g ranks h r → (b : ℕ) → (k : ℕ) × (k < length (members g h)) × (get_or (members g h) k 0 ≡ b) → DerivesNothing g b
    member_empty h r l emptied b (k, m, e) =
        rw (← e) ((rank_exactly is ranked (get_or (members g h) k 0) (λ z. is.members_are h k l m)).0 (emptied.ranked k m).0)

    -- the cell in which the rule is finished has a lower stage than its rank
    rule_finished : {f h x r : ℕ} → Memᴰ f cells → entry_in g f ≡ record { rule = h; origin = j; rest = [] } → left g h ≡ x → 1 ≤ r → Emptied g ranks h r → IsFinishedOf g x j f × (stage f < r)
    rule_finished {f} {h} {x} {r} stands entry_is left_is some emptied =
        let same : entry_with g (rule_in f) (origin_in f) (byte_in f) ≡ record { rule = h; origin = j; rest = [] } = sym (entry_parts g f) ∙ entry_is in
        let rule_is : rule_in f ≡ h = ap (λ (e : Entry). e.rule) same in
        let origin_is : origin_in f ≡ j = ap (λ (e : Entry). e.origin) same in
        let ends : finished (entry_with g (rule_in f) (origin_in f) (byte_in f)) ≡ true = rest_finished (entry_with g (rule_in f) (origin_in f) (byte_in f)) (ap (λ (e : Entry). e.rest) same) in
        let low = highest_below ranks (members g h) (byte_in f) r (omega arith) (λ k m. (emptied.ranked k m).1) in (
          record {
            nothing_left = (finished_byte g (rule_in f) (origin_in f) (byte_of stands)).0 ends;
            origin_is = origin_is;
            left_is = ap (left g) rule_is ∙ left_is;
          },
          omega (arith, low, staged.ranked f stands origin_is, ap (λ n. highest ranks (members g n) (byte_in f)) rule_is),
        )

    -- x is finished over the empty span, with a lower stage than its rank
    empty_finished : {x p b : ℕ} → DerivesNothing g x → Memᴰ p cells → Leaves g (rule_in p) x (byte_in p) b → (f : ℕ) × Memᴰ f cells × IsFinishedOf g x j f × (stage f < rank ranks x)
    empty_finished {x} {p} nothing n leaves =
        let source : Found g row j (entry_with g (rule_in p) (origin_in p) (byte_in p)) = parts_found n in
        let rule : rule_in p < rule_count g = (found_possible source).is_rule in
        let (k, takeable, member) = may_back g (members g (rule_in p)) (byte_in p) x leaves.may in
        let symbol : x < symbols g = rw member at (is.members_are (rule_in p) k rule takeable.place) in
        let has_rank : 1 ≤ rank ranks x = (rank_exactly is ranked x (λ z. symbol)).1 nothing in
        finish has_rank (ranked.because x symbol has_rank) source leaves.may
      where
        finish : 1 ≤ rank ranks x → (h : ℕ) × (h < rule_count g) × (left g h ≡ x) × Emptied g ranks h (rank ranks x) → {e : Entry} → Found g row j e → may_take g x e.rest ≡ true
            → (f : ℕ) × Memᴰ f cells × IsFinishedOf g x j f × (stage f < rank ranks x)
        finish some (h, l, left_is, emptied) source may =
            let begun : Found g row j (fresh g h j) = predict h source l (rw left_is may) in
            let each : (b : ℕ) → Memᴰ b (members g h) → DerivesNothing g b = λ b m. member_empty h (rank ranks x) l emptied b (mem_place 0 (members g h) m) in
            let (f, stands, entry_is) = found_cell (finished_found is within l begun each) in
            let (z, low) = rule_finished stands entry_is left_is some emptied in
            (f, stands, z, low)

    module _ {all : ℕ → List ℕ} (here : all j ≡ cells) (before : (k : ℕ) → k < j → all k ≡ lists k) where
      stands_here : {c : ℕ} → Memᴰ c cells → Memᴰ c (all j)
      stands_here {c} n = subst (Memᴰ c) (sym here) n

      stands_before : {k c : ℕ} → k < j → Memᴰ c (lists k) → Memᴰ c (all k)
      stands_before {k} {c} l n = subst (Memᴰ c) (sym (before k l)) n

      is_before : {x p c : ℕ} → GivesByte g x p (rule_in c) (origin_in c) (byte_in c) → IsBefore g x p c
      is_before t = record { rule_is = t.rule_is; origin_is = t.origin_is; leaves = t.leaves }

      cause : (c : ℕ) → Memᴰ c cells → byte_in c ≢ full_byte g (rule_in c) → Reason g row j lists cells (rule_in c) (origin_in c) (byte_in c) (stage c) → Cause g row all j c
      cause c n some (Reason.fresh e) = absurd (some e)
      cause c n some (Reason.token e p f l m t) = Cause.token e p f l (stands_before (omega arith) m) (is_before t)
      cause c n some (Reason.part x k p f l m o t q z a) =
          Cause.part x k p f l (omega arith) (stands_before m o) (is_before t) (stands_here q) z a (λ e. absurd (let y : ⊥ = omega arith in y))
      cause c n some (Reason.empty x p d m t a) =
          let rule : rule_in p ≡ rule_in c = t.rule_is in
          let leaves : Leaves g (rule_in p) x (byte_in p) (byte_in c) = rw rule t.leaves in
          let (f, q, z, low) = empty_finished d m leaves in
          Cause.part x j p f (found_possible (parts_found n)).origin_le (omega arith) (stands_here m) (is_before t) (stands_here q) z
          (λ e. omega (arith, low, staged.ranked c n (sym e), taken_below ranks (byte_of n) t.leaves)) (λ e. a)

      pub caused_list : IsCausedList g row all j
      caused_list = record {
        caused = record { each = λ c n some. let m = subst (Memᴰ c) here n in cause c m some (staged.reasons c m) };
        small = λ c n. omega (arith, staged.small c (subst (Memᴰ c) here n));
      }
