-- The parts of a line one after the other: what the next slot's part is, and what is then left to join and to take.
-- Assumes nothing.
use mathlib.Core.Path.{◌≡◌, refl, sym, ◌∙◌, ap}
use mathlib.Core.Bool.{true, false}
use mathlib.Core.Logic.{◌↔◌, ◌≢◌}
use mathlib.Core.List.{List, [], ◌∷◌}
use Prim.Native.Nat.{ℕ, zero, suc, ◌+◌, ◌-◌, ◌*◌, ◌≤◌, ◌<◌}
use native.Mathlib.Omega.{arith}
use lib.ListN.{length, get_or, drop}
use Rattle.std.proofs.Math.ListN.{drop_of_length-le}
use Rattle.std.proofs.Common.{add-one}
use Rattle.std.proofs.Math.Seq.{drop-cons}
use Rattle.std.proofs.lemmas.Bool.{both_ways}
use Rattle.std.proofs.lemmas.List.{get_or-take, get_or-drop, length-take-le, length-drop}
use Rattle.paper.specs.Multiset.{without}
use Rattle.paper.specs.Grammar.{Grammar, StrictPartialOrder, IsGrammar, rule_count, members}
use Rattle.paper.specs.Entry.{may_take}
use Rattle.paper.specs.Sheet.{rest_of}
use Rattle.paper.specs.Lines.{line_size, line_count, line_rule, line_from, line_to, line_parts, line_slot, part_slots, line_symbol, Joins}
use Rattle.paper.proofs.Multiset.{arranged_refl, length_without}
use Rattle.paper.proofs.Machine.{acceptable_nil, acceptable_tail, taken_has, head_taken, arranged_left, taken_arranged, taken_acceptable}
use Rattle.tables.specs.Masks.{Takeable, TakenFrom}
use Rattle.tables.specs.Machine.{full_byte, IsByte, may_be_taken, Leaves}
use Rattle.tables.proofs.Masks.{full_mask, full_rest, mask_proper, may_back, take_mask, take_rest}
use Rattle.lines.specs.Parts.{Joined, DoPartsJoin}

-- the first of several slots that join, and those behind it
record Headed (g : Grammar) (row ns : List ℕ) (k slot : ℕ) (slots : List ℕ) (i j : ℕ) (s : List ℕ) : Type 0 where
  a : ℕ
  end : ℕ
  behind : List ℕ
  all : s ≡ a ∷ behind
  head : Joins g row ns k (slot ∷ []) i end (a ∷ [])
  tail : Joins g row ns k slots end j behind

one_less : (n : ℕ) → suc n - 1 ≡ n
one_less n = omega arith

module _ {g : Grammar} {row ns : List ℕ} {k : ℕ} where
  -- ---- one slot

  pub token_part : (slot i : ℕ) → slot ≡ 0 → i < length row → Joins g row ns k (slot ∷ []) i (i + 1) (get_or row i 0 ∷ [])
  token_part slot i e l = rw (e, add-one) (Joins.token l refl Joins.end)

  pub line_part : (slot i : ℕ) → slot ≢ 0 → slot - 1 < k → line_from ns (slot - 1) ≡ i
      → Joins g row ns k (slot ∷ []) i (line_to ns (slot - 1)) (line_symbol g ns (slot - 1) ∷ [])
  line_part zero i n l f = absurd (n refl)
  line_part (suc earlier) i n l f = rw one_less (Joins.part earlier (omega arith) (rw one_less at f) refl refl Joins.end)

  -- a slot that is not 0 names an earlier line that begins there
  pub named_line : {slot i e a : ℕ} → slot ≢ 0 → Joins g row ns k (slot ∷ []) i e (a ∷ []) → (slot - 1 < k) × (line_from ns (slot - 1) ≡ i)
  named_line n (Joins.token l e joins) = absurd (n refl)
  named_line n (Joins.part earlier l f t e joins) = (omega arith, rw one_less f)

  -- ---- the first of several slots

  headed : {slot i j : ℕ} {slots s : List ℕ} → Joins g row ns k (slot ∷ slots) i j s → Headed g row ns k slot slots i j s
  headed (Joins.token {a = a} {i = i} {s = s} l e joins) =
      record { a = a; end = suc i; behind = s; all = refl; head = Joins.token l e Joins.end; tail = joins }
  headed (Joins.part {a = a} {m = m} {s = s} earlier l f t e joins) =
      record { a = a; end = m; behind = s; all = refl; head = Joins.part earlier l f t e Joins.end; tail = joins }

  ahead : {slot i e a j : ℕ} {slots s : List ℕ} → Joins g row ns k (slot ∷ []) i e (a ∷ []) → Joins g row ns k slots e j s → Joins g row ns k (slot ∷ slots) i j (a ∷ s)
  ahead (Joins.token l e Joins.end) joins = Joins.token l e joins
  ahead (Joins.part earlier l f t e Joins.end) joins = Joins.part earlier l f t e joins

  -- the part is determined by its slot and begin
  once : {slot i e f a b : ℕ} → Joins g row ns k (slot ∷ []) i e (a ∷ []) → Joins g row ns k (slot ∷ []) i f (b ∷ []) → (e ≡ f) × (a ≡ b)
  once (Joins.token l e Joins.end) (Joins.token m f Joins.end) = (refl, sym e ∙ f)
  once (Joins.part earlier l f t e Joins.end) (Joins.part again m f' t' e' Joins.end) = (sym t ∙ t', sym e ∙ e')

  -- ---- what is left to join and to take

  ended : {i j : ℕ} {s : List ℕ} → Joins g row ns k [] i j s → i ≡ j
  ended Joins.end = refl

  -- as many symbols as members were taken: the parts join if they end where the line does
  none_behind : (i j : ℕ) (rest : List ℕ) → length rest ≡ 0 → Joined g row ns k [] i j rest ↔ (i ≡ j)
  none_behind i j [] l =
      (λ x. ended x.joins, λ e. record { symbols = []; joins = rw e Joins.end; arranged = arranged_refl []; acceptable = acceptable_nil g })
  none_behind i j (a ∷ rest) l = absurd (let z : ⊥ = omega arith in z)

  -- a slot that is no part
  no_part : {slot i j : ℕ} {slots rest : List ℕ} → ((e a : ℕ) → Joins g row ns k (slot ∷ []) i e (a ∷ []) → ⊥) → Joined g row ns k (slot ∷ slots) i j rest → ⊥
  no_part none x = let h = headed x.joins in none h.end h.a h.head

  same_head : {slot i e a j : ℕ} {slots s : List ℕ} → Joins g row ns k (slot ∷ []) i e (a ∷ []) → (h : Headed g row ns k slot slots i j s) → s ≡ a ∷ h.behind
  same_head p h = h.all ∙ ap (λ b. b ∷ h.behind) (sym (once p h.head).1)

  module _ (order : StrictPartialOrder g.precedes) {slot i e a j : ℕ} {slots rest : List ℕ} (p : Joins g row ns k (slot ∷ []) i e (a ∷ [])) where
    -- a part that may not be taken
    not_taken : may_take g a rest ≡ false → Joined g row ns k (slot ∷ slots) i j rest → ⊥
    not_taken f x =
        let h = headed x.joins in
        both_ways (may_take g a rest) f (head_taken order (rw (same_head p h) at x.arranged) (rw (same_head p h) at x.acceptable))

    -- a part that may be taken leaves the slots behind it, and the rest less its symbol
    one_joined : may_take g a rest ≡ true → Joined g row ns k (slot ∷ slots) i j rest ↔ Joined g row ns k slots e j (without a rest)
    one_joined m = (
      there,
      λ x. record {
        symbols = a ∷ x.symbols;
        joins = ahead p x.joins;
        arranged = taken_arranged g a rest m x.arranged;
        acceptable = taken_acceptable g a rest m x.arranged x.acceptable;
      },
    )
      where
        there : Joined g row ns k (slot ∷ slots) i j rest → Joined g row ns k slots e j (without a rest)
        there x =
            let h = headed x.joins in
            record {
              symbols = h.behind;
              joins = rw (once p h.head).0 h.tail;
              arranged = arranged_left (rw (same_head p h) at x.arranged);
              acceptable = acceptable_tail (rw (same_head p h) at x.acceptable);
            }

-- ---- the slots of a line

module _ (ns : List ℕ) (k : ℕ) (line : k < line_count ns) (few : line_parts ns k ≤ 8) where
  pub slots_length : length (part_slots ns k) ≡ line_parts ns k
  slots_length = length-take-le (line_parts ns k) (drop (line_size * k + 4) ns) (omega (arith, length-drop (line_size * k + 4) ns))

  -- the slots from slot x on
  pub slots_from : (x : ℕ) → x < line_parts ns k → drop x (part_slots ns k) ≡ line_slot ns k x ∷ drop (x + 1) (part_slots ns k)
  slots_from x l =
      let in_slots : x < length (part_slots ns k) = omega (arith, slots_length) in
      let is_slot : get_or (part_slots ns k) x 0 ≡ line_slot ns k x =
      get_or-take (line_parts ns k) (drop (line_size * k + 4) ns) x 0 l ∙ get_or-drop (line_size * k + 4) ns x 0 in
      rw (add-one, ← is_slot) (drop-cons (part_slots ns k) x 0 in_slots)

  -- none is behind the last
  pub slots_all : drop (line_parts ns k) (part_slots ns k) ≡ []
  slots_all = drop_of_length-le (part_slots ns k) (omega (arith, slots_length))

-- the rest that is left once a symbol is taken
rest_left : {g : Grammar} {s : List ℕ} {a n m : ℕ} → TakenFrom g s a n m → rest_of s m ≡ without a (rest_of s n)
rest_left {g} {s} {a} {n} {m} t = go (may_back g s n a t.may)
  where
    go : (j : ℕ) × Takeable g s n j × (get_or s j 0 ≡ a) → rest_of s m ≡ without a (rest_of s n)
    go (j, k, e) = rw (← t.becomes, ← e, take_mask t.proper k) (take_rest k)

-- ---- where the checker has got to

-- The parts in the first x slots of line k reach place i, and the byte tells the members of its rule h that are left.
pub record Reached (g : Grammar) (row ns : List ℕ) (k h x i byte : ℕ) : Type 0 where
  pub is_grammar : IsGrammar g
  pub line : k < line_count ns
  pub is_rule : h < rule_count g
  pub parts_are : line_parts ns k ≡ length (members g h)
  pub same : DoPartsJoin g row ns k ↔ Joined g row ns k (drop x (part_slots ns k)) i (line_to ns k) (rest_of (members g h) byte)
  pub proper : IsByte g h byte
  pub left : length (rest_of (members g h) byte) + x ≡ length (members g h)

-- at first none is found
pub at_first : {g : Grammar} {row ns : List ℕ} {k h i byte : ℕ} → IsGrammar g → k < line_count ns → line_rule ns k < rule_count g
    → line_parts ns k ≡ length (members g (line_rule ns k)) → h ≡ line_rule ns k → i ≡ line_from ns k → byte ≡ full_byte g h → Reached g row ns k h 0 i byte
at_first {g} {ns = ns} {k = k} is line rule parts e f b =
    let s = members g (line_rule ns k) in
    let whole : rest_of s (full_byte g (line_rule ns k)) ≡ s = ap (rest_of s) (full_mask s) ∙ full_rest s in
    rw (b, e, f)
    (record {
      is_grammar = is;
      line = line;
      is_rule = rule;
      parts_are = parts;
      same = rw whole (λ x. x, λ x. x);
      proper = mask_proper s s;
      left = rw whole (omega arith);
    })

module _ {g : Grammar} {row ns : List ℕ} {k h x i byte : ℕ} (r : Reached g row ns k h x i byte) where
  few : line_parts ns k ≤ 8
  few = omega (arith, r.parts_are, r.is_grammar.few_members h r.is_rule)

  -- at last all are found
  pub at_last : x ≡ length (members g h) → DoPartsJoin g row ns k ↔ (i ≡ line_to ns k)
  at_last last =
      let none = none_behind {g = g} {row = row} {ns = ns} {k = k} i (line_to ns k) (rest_of (members g h) byte) (omega (arith, r.left)) in
      let same = rw (last, ← r.parts_are, slots_all ns k r.line few) at r.same in
      (λ d. none.0 (same.0 d), λ e. same.1 (none.1 e))

  -- no part is in slot x
  pub stops : x < length (members g h) → ((e a : ℕ) → Joins g row ns k (line_slot ns k x ∷ []) i e (a ∷ []) → ⊥) → DoPartsJoin g row ns k → ⊥
  stops l none d = no_part none (rw (slots_from ns k r.line few x (omega (arith, r.parts_are))) at (r.same.0 d))

  module _ {e a : ℕ} (l : x < length (members g h)) (p : Joins g row ns k (line_slot ns k x ∷ []) i e (a ∷ [])) where
    -- the part in slot x may not be taken
    pub stuck : may_be_taken g h byte a ≡ false → DoPartsJoin g row ns k → ⊥
    stuck f d = not_taken r.is_grammar.order p f (rw (slots_from ns k r.line few x (omega (arith, r.parts_are))) at (r.same.0 d))

    -- the part in slot x is taken
    pub one_more : {left : ℕ} → Leaves g h a byte left → IsByte g h left → Reached g row ns k h (x + 1) e left
    one_more {left} t proper =
        let rest = rest_of (members g h) byte in
        let shorter : length (without a rest) + (x + 1) ≡ length (members g h) = omega (arith, r.left, length_without a rest (taken_has g a rest t.may)) in
        let slots = slots_from ns k r.line few x (omega (arith, r.parts_are)) in
        let on = one_joined r.is_grammar.order {rest = rest} p t.may in
        record {
          is_grammar = r.is_grammar;
          line = r.line;
          is_rule = r.is_rule;
          parts_are = r.parts_are;
          same = rw (rest_left t) (λ d. on.0 (rw slots at (r.same.0 d)), λ j. r.same.1 (rw slots (on.1 j)));
          proper = proper;
          left = rw (rest_left t) shorter;
        }
