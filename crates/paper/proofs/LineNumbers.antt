-- Laws of the twelve numbers of a line: lines stay as they are when more is appended, and a line just written reads back.
-- Assumes nothing.
use mathlib.Core.Path.{◌≡◌, refl, ◌∙◌}
use mathlib.Core.List.{List, ◌∷◌, ◌++◌, append_assoc, append-nil}
use Prim.Native.Nat.{ℕ, suc, ◌+◌, ◌-◌, ◌*◌, ◌≤◌, ◌<◌}
use native.Mathlib.Omega.{arith}
use lib.ListN.{length, get_or, take, drop, replicate, length-append, length-drop, length-replicate, get_or-replicate, get_or-append}
use lib.Seq.{take-append-le, drop-append-le, drop-append-add, get_or-append-add, take-append_seam}
use Rattle.paper.specs.Lines.{line_size, line_rule, line_from, line_to, line_parts, line_slot, part_slots}

-- the numbers after are the numbers before and some appended
pub record Extends (before after : List ℕ) : Type 0 where
  pub appended : List ℕ
  pub after_is : after ≡ before ++ appended

pub extends_refl : (ns : List ℕ) → Extends ns ns
extends_refl ns = grind (arith, append-nil)

pub extends_append : (ns more : List ℕ) → Extends ns (ns ++ more)
extends_append ns more = grind arith

pub extends_trans : {ns ms ls : List ℕ} → Extends ns ms → Extends ms ls → Extends ns ls
extends_trans {ns} d e = grind (arith, append_assoc)

-- a number of the front stays where it is
kept_number : {before after : List ℕ} → Extends before after → (p : ℕ) → p < length before → get_or after p 0 ≡ get_or before p 0
kept_number {before} d p h = rw d.after_is (get_or-append before d.appended 0 p h)

-- a part of the front stays where it is
kept_part : {before after : List ℕ} → Extends before after → (p m : ℕ) → p + m ≤ length before → take m (drop p after) ≡ take m (drop p before)
kept_part {before} d p m h = grind (arith, drop-append-le, take-append-le, length-drop)

-- line k reads the same in both
pub record Kept (before after : List ℕ) (k : ℕ) : Type 0 where
  pub rule : line_rule after k ≡ line_rule before k
  pub from : line_from after k ≡ line_from before k
  pub to : line_to after k ≡ line_to before k
  pub parts : line_parts after k ≡ line_parts before k
  pub slot : (x : ℕ) → x < 8 → line_slot after k x ≡ line_slot before k x
  pub slots : (m : ℕ) → m ≤ 8 → take m (drop (line_size * k + 4) after) ≡ take m (drop (line_size * k + 4) before)

-- The whole lines of the front stay as they are.
pub kept : {before after : List ℕ} → Extends before after → (n k : ℕ) → length before ≡ line_size * n → k < n → Kept before after k
kept d n k l h = record {
  rule = kept_number d (line_size * k) (omega arith);
  from = kept_number d (line_size * k + 1) (omega arith);
  to = kept_number d (line_size * k + 2) (omega arith);
  parts = kept_number d (line_size * k + 3) (omega arith);
  slot = λ x b. kept_number d (line_size * k + 4 + x) (omega arith);
  slots = λ m b. kept_part d (line_size * k + 4) m (omega arith);
}

-- a line as twelve numbers: rule, from, to, how many parts, and their slots with zeros up to eight
unfoldable pub line_of : ℕ → ℕ → ℕ → List ℕ → List ℕ
line_of rule from to slots = rule ∷ from ∷ to ∷ length slots ∷ (slots ++ replicate (8 - length slots) 0)

pub line_length : (rule from to : ℕ) (slots : List ℕ) → length slots ≤ 8 → length (line_of rule from to slots) ≡ line_size
unfolding line_of
line_length rule from to slots h = grind (arith, length-append, length-replicate)

-- place x of what is appended
behind : (ns line : List ℕ) (p x : ℕ) → p ≡ length ns + x → get_or (ns ++ line) p 0 ≡ get_or line x 0
behind ns line p x e = rw e (get_or-append-add ns line x 0)

-- past the slots there are zeros
padded_past : (slots : List ℕ) (x : ℕ) → length slots ≤ x → x < 8 → get_or (slots ++ replicate (8 - length slots) 0) x 0 ≡ 0
padded_past slots x h b =
    let e : x ≡ length slots + (x - length slots) = omega arith in
    rw e (get_or-append-add slots (replicate (8 - length slots) 0) (x - length slots) 0 ∙ get_or-replicate (8 - length slots) (x - length slots) 0 0 (omega arith))

-- line n of these numbers has this rule, this span and these slots
pub record Reads (ns : List ℕ) (n rule from to : ℕ) (slots : List ℕ) : Type 0 where
  pub rule_is : line_rule ns n ≡ rule
  pub from_is : line_from ns n ≡ from
  pub to_is : line_to ns n ≡ to
  pub parts_are : line_parts ns n ≡ length slots
  pub past : (x : ℕ) → length slots ≤ x → x < 8 → line_slot ns n x ≡ 0
  pub slot : (x : ℕ) → x < length slots → line_slot ns n x ≡ get_or slots x 0
  pub slots_are : part_slots ns n ≡ slots

-- the slots of a line written behind n lines
slots_back : (ns line : List ℕ) (n m : ℕ) (slots zeros : List ℕ) → length ns ≡ line_size * n → m ≡ length slots → drop 4 line ≡ slots ++ zeros
    → take m (drop (line_size * n + 4) (ns ++ line)) ≡ slots
slots_back ns line n m slots zeros l c d = grind (arith, drop-append-add, take-append_seam)

-- A line written behind n lines reads back.
pub reads_back : (ns : List ℕ) (n rule from to : ℕ) (slots : List ℕ) → length ns ≡ line_size * n
    → Reads (ns ++ line_of rule from to slots) n rule from to slots
unfolding line_of
reads_back ns n rule from to slots l =
    let zeros : List ℕ = replicate (8 - length slots) 0 in
    let line : List ℕ = rule ∷ from ∷ to ∷ length slots ∷ (slots ++ zeros) in
    record {
      rule_is = behind ns line (line_size * n) 0 (omega arith);
      from_is = behind ns line (line_size * n + 1) 1 (omega arith);
      to_is = behind ns line (line_size * n + 2) 2 (omega arith);
      parts_are = behind ns line (line_size * n + 3) 3 (omega arith);
      past = λ x h b. behind ns line (line_size * n + 4 + x) (suc (suc (suc (suc x)))) (omega arith) ∙ padded_past slots x h b;
      slot = λ x h. behind ns line (line_size * n + 4 + x) (suc (suc (suc (suc x)))) (omega arith) ∙ get_or-append slots zeros 0 x h;
      slots_are = slots_back ns line n (line_parts (ns ++ line) n) slots zeros l (behind ns line (line_size * n + 3) 3 (omega arith)) refl;
    }
