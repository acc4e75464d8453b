-- The lines of a plan are valid: what a plan says of its nodes, said of lines.
-- Assumes nothing.
use mathlib.Core.Path.{◌≡◌, refl, sym, ◌∙◌, ap}
use mathlib.Core.Bool.{◌&&◌, cond}
use mathlib.Core.List.{List, [], ◌∷◌, ◌++◌}
use Prim.Native.Nat.{ℕ, zero, suc, ◌-◌, ◌*◌, ◌^◌, ◌≤◌, ◌<◌}
use native.Mathlib.Omega.{arith}
use native.Mathlib.Nat.{mul-le-mul}
use lib.Dec.{eqb}
use lib.ListN.{length, get_or, replicate}
use borrow.Author.Tests.{eq-eqb, ne_eqb}
use Rattle.std.proofs.lemmas.Bool.Decides.{nat_tests}
use Rattle.std.specs.List.{All}
use Rattle.std.proofs.lemmas.List.Elements.{All-nil, All-cons, All-append, All-replicate}
use Rattle.paper.specs.Grammar.{Grammar, IsGrammar, left, members}
use Rattle.paper.specs.Price.{lines_bound}
use Rattle.paper.specs.Lines.{line_size, line_count, line_from, line_to, line_symbol, Joins, LineRight, Uses, WholeRight, Valid}
use Rattle.paper.proofs.Multiset.{arranged_length}
use Rattle.lines.specs.Plan.{Part, Node, place_of, slots_of, numbers_of, numbers_from, lines_of, PartsJoin, node_at, HasPart, IsPlan}
use Rattle.lines.specs.Growing.{IsNodeOf}
use Rattle.lines.proofs.PlanNumbers.{slots_length, FewParts, ReadsNode, lines_length, reads_node}

-- ---- places

-- another node is passed over
passed : (l f t x a b m k : ℕ) → (l ≡ x → f ≡ a → t ≡ b → ⊥) → m ≡ k → cond (eqb l x && (eqb f a && eqb t b)) 0 (suc m) ≡ suc k
passed l f t x a b m k n e = grind (arith, nat_tests)

-- The place of a symbol over a span is the number of the first such node.
first_place : (g : Grammar) (nodes : List Node) (k x a b : ℕ) → k < length nodes → IsNodeOf g (node_at nodes k) x a b
    → ((i : ℕ) → i < k → IsNodeOf g (node_at nodes i) x a b → ⊥) → place_of g nodes x a b ≡ k
unfolding place_of
first_place g [] k x a b l h none = absurd (omega arith)
first_place g (node ∷ nodes) zero x a b l h none = rw (eq-eqb (left g node.rule) x h.symbol, eq-eqb node.from a h.from, eq-eqb node.to b h.to)
first_place g (node ∷ nodes) (suc k) x a b l h none =
    passed (left g node.rule) node.from node.to x a b (place_of g nodes x a b) k
    (λ s f t. none 0 (omega arith) (record { symbol = s; from = f; to = t }))
    (first_place g nodes k x a b (omega arith) h (λ i c n. none (suc i) (omega arith) n))

-- In a plan no two nodes have one symbol and span, so that is the number of the node.
pub only_place : {g : Grammar} {row : List ℕ} {nodes : List Node} → IsPlan g row nodes → (k x a b : ℕ) → k < length nodes → IsNodeOf g (node_at nodes k) x a b
    → place_of g nodes x a b ≡ k
only_place {g} {nodes = nodes} plan k x a b l h =
    first_place g nodes k x a b l h (λ i c n. plan.unlike i k c l (n.symbol ∙ sym h.symbol) (n.from ∙ sym h.from) (n.to ∙ sym h.to))

-- ---- the slots of parts

parts_length : {row s : List ℕ} {parts : List Part} {a b : ℕ} → PartsJoin row parts a b s → length parts ≡ length s
parts_length PartsJoin.end = refl
parts_length (PartsJoin.token l joins) = ap suc (parts_length joins)
parts_length (PartsJoin.symbol x to l joins) = ap suc (parts_length joins)

-- the place of x from a to b is a line before line k that has this symbol and span
record IsBefore (g : Grammar) (nodes : List Node) (ns : List ℕ) (k x a b : ℕ) : Type 0 where
  below : place_of g nodes x a b < k
  symbol : line_symbol g ns (place_of g nodes x a b) ≡ x
  from : line_from ns (place_of g nodes x a b) ≡ a
  to : line_to ns (place_of g nodes x a b) ≡ b

-- Parts that join are slots that join.
slots_join : {g : Grammar} {row ns s : List ℕ} {nodes : List Node} {k a b : ℕ} {parts : List Part} → PartsJoin row parts a b s
    → ((x c d : ℕ) → HasPart parts a x c d → IsBefore g nodes ns k x c d) → Joins g row ns k (slots_of g nodes parts a) a b s
unfolding slots_of
slots_join PartsJoin.end all = Joins.end
slots_join (PartsJoin.token l joins) all = Joins.token l refl (slots_join joins (λ x c d p. all x c d (HasPart.token p)))
slots_join {g} {nodes = nodes} (PartsJoin.symbol {a = a} x to l joins) all =
    let e = all x a to HasPart.here in
    Joins.part (place_of g nodes x a to) e.below e.from e.to e.symbol (slots_join joins (λ y c d p. all y c d (HasPart.symbol p)))

-- one of the slots holds n
record HasSlot (slots : List ℕ) (n : ℕ) : Type 0 where
  slot : ℕ
  below : slot < length slots
  names : get_or slots slot 0 ≡ n

slot_behind : {slots : List ℕ} {n : ℕ} (first : ℕ) → HasSlot slots n → HasSlot (first ∷ slots) n
slot_behind first h = record { slot = suc h.slot; below = let b = h.below in omega arith; names = h.names }

-- a part that is a symbol has a slot that names its place
part_slot : (g : Grammar) (nodes : List Node) {parts : List Part} {a x b c : ℕ} → HasPart parts a x b c
    → HasSlot (slots_of g nodes parts a) (suc (place_of g nodes x b c))
unfolding slots_of
part_slot g nodes HasPart.here = record { slot = 0; below = omega arith; names = refl }
part_slot g nodes (HasPart.token p) = slot_behind 0 (part_slot g nodes p)
part_slot g nodes (HasPart.symbol {a = a} {y = y} {to = to} p) = slot_behind (suc (place_of g nodes y a to)) (part_slot g nodes p)

-- ---- the lines of a plan

module _ {g : Grammar} {row : List ℕ} {nodes : List Node} (is : IsGrammar g) (plan : IsPlan g row nodes) where
  -- no node has more than eight parts, so line k reads as node k
  pub few_parts : FewParts nodes
  few_parts k b =
      let j = plan.joined k b in
      omega (arith, parts_length j.1, arranged_length j.0 (members g (node_at nodes k).rule) j.2, is.few_members (node_at nodes k).rule (plan.rules k b))

  pub reads : (k : ℕ) → k < length nodes → ReadsNode g nodes (lines_of g nodes) k (node_at nodes k)
  reads k b = reads_node g nodes few_parts k b

  -- a part of node k that is a symbol is a line before line k
  part_before : (k : ℕ) → k < length nodes → (x c d : ℕ) → HasPart (node_at nodes k).parts (node_at nodes k).from x c d → IsBefore g nodes (lines_of g nodes) k x c d
  part_before k b x c d p =
      let e = plan.earlier k x c d b p in
      let back = reads e.0 (omega (arith, e.1)) in
      let place = only_place plan e.0 x c d (omega (arith, e.1)) (record { symbol = e.2; from = e.3; to = e.4 }) in
      record {
        below = omega (arith, e.1);
        symbol = rw place (ap (left g) back.rule_is ∙ e.2);
        from = rw place (back.from_is ∙ e.3);
        to = rw place (back.to_is ∙ e.4);
      }

  line_right : (k : ℕ) → k < length nodes → LineRight g row (lines_of g nodes) k
  line_right k b =
      let back = reads k b in
      let w = plan.within k b in
      let j = plan.joined k b in
      let node = node_at nodes k in
      let slots = slots_length g nodes node.parts node.from in
      record {
        rule_is = rw back.rule_is (plan.rules k b);
        parts_are = back.parts_are ∙ (slots ∙ (parts_length j.1 ∙ (arranged_length j.0 (members g node.rule) j.2 ∙ ap (λ h. length (members g h)) (sym back.rule_is))));
        span = rw (back.from_is, back.to_is) w.0;
        within = rw back.to_is w.1;
        past = λ x p q. back.past x (rw back.parts_are at p) q;
        symbols = j.0;
        joins = rw (back.slots_are, back.from_is, back.to_is) (slots_join j.1 (part_before k b));
        arranged = rw back.rule_is j.2;
        acceptable = j.3;
        unshared = λ i c s f t.
            let other = reads i (omega arith) in
            plan.unlike i k c b (sym (ap (left g) other.rule_is) ∙ (s ∙ ap (left g) back.rule_is)) (sym other.from_is ∙ (f ∙ back.from_is)) (sym other.to_is ∙ (t ∙ back.to_is));
      }

  -- twelve numbers for each node
  pub lines_size : length (lines_of g nodes) ≡ line_size * length nodes
  lines_size = lines_length g nodes few_parts

  -- one line for each node
  pub count_is : line_count (lines_of g nodes) ≡ length nodes
  count_is = let l = lines_size in omega arith

  line_used : (k i : ℕ) → i < length nodes → k < length nodes
      → HasPart (node_at nodes i).parts (node_at nodes i).from (left g (node_at nodes k).rule) (node_at nodes k).from (node_at nodes k).to → Uses (lines_of g nodes) i k
  line_used k i b c p =
      let back = reads i b in
      let node = node_at nodes k in
      let place = only_place plan k (left g node.rule) node.from node.to c (record { symbol = refl; from = refl; to = refl }) in
      let h = part_slot g nodes p in
      record { slot = h.slot; is_part = rw back.parts_are h.below; names = back.slot h.slot h.below ∙ (h.names ∙ ap suc place) }

  whole_right : WholeRight g row (lines_of g nodes)
  whole_right =
      let some = plan.some_node in
      let l : length nodes - 1 < length nodes = omega arith in
      let back = reads (length nodes - 1) l in
      record {
        some_line = rw count_is some;
        top = rw count_is (ap (left g) back.rule_is ∙ plan.top);
        top_from = rw count_is (back.from_is ∙ plan.top_from);
        top_to = rw count_is (back.to_is ∙ plan.top_to);
        used = λ k c. let u = plan.used k (omega (arith, count_is)) in (u.0, u.1, omega (arith, count_is, u.2), line_used k u.0 u.2 (omega (arith, count_is)) u.3);
      }

  -- The lines of a plan are valid.
  pub lines_valid : Valid g row (lines_of g nodes)
  lines_valid = record {
    whole_lines = let l = lines_size in omega arith;
    each = λ k b. line_right k (rw count_is at b);
    whole = whole_right;
  }

-- ---- the size of the numbers

abbrev IsNarrow : ℕ → Type 0
IsNarrow n = n < 2 ^ 16

slots_narrow : (g : Grammar) (all : List Node) (parts : List Part) (a : ℕ) → ((x c d : ℕ) → HasPart parts a x c d → suc (place_of g all x c d) < 2 ^ 16)
    → All IsNarrow (slots_of g all parts a)
unfolding slots_of
slots_narrow g all [] a places = All-nil IsNarrow
slots_narrow g all (Part.token ∷ parts) a places =
    All-cons IsNarrow 0 (slots_of g all parts (suc a)) (omega arith) (slots_narrow g all parts (suc a) (λ x c d p. places x c d (HasPart.token p)))
slots_narrow g all (Part.symbol x to ∷ parts) a places =
    All-cons IsNarrow (suc (place_of g all x a to)) (slots_of g all parts to) (places x a to HasPart.here) (slots_narrow g all parts to (λ y c d p. places y c d (HasPart.symbol p)))

-- what keeps the numbers of a node narrow
record IsNarrowNode (g : Grammar) (all : List Node) (node : Node) : Type 0 where
  rule : node.rule < 2 ^ 16
  from : node.from < 2 ^ 16
  to : node.to < 2 ^ 16
  few : length node.parts < 2 ^ 16
  places : (x c d : ℕ) → HasPart node.parts node.from x c d → suc (place_of g all x c d) < 2 ^ 16

numbers_narrow : (g : Grammar) (all : List Node) (node : Node) → IsNarrowNode g all node → All IsNarrow (numbers_of g all node)
numbers_narrow g all node n =
    let slots = slots_of g all node.parts node.from in
    let zeros : List ℕ = replicate (8 - length node.parts) 0 in
    let tail : All IsNarrow (slots ++ zeros) =
    All-append IsNarrow slots zeros (slots_narrow g all node.parts node.from n.places) (All-replicate IsNarrow (8 - length node.parts) 0 (omega arith)) in
    All-cons IsNarrow node.rule (node.from ∷ node.to ∷ length node.parts ∷ (slots ++ zeros)) n.rule
    (All-cons IsNarrow node.from (node.to ∷ length node.parts ∷ (slots ++ zeros)) n.from
    (All-cons IsNarrow node.to (length node.parts ∷ (slots ++ zeros)) n.to (All-cons IsNarrow (length node.parts) (slots ++ zeros) n.few tail)))

all_narrow : (g : Grammar) (all nodes : List Node) → ((k : ℕ) → k < length nodes → IsNarrowNode g all (node_at nodes k)) → All IsNarrow (numbers_from g all nodes)
unfolding numbers_from
all_narrow g all [] n = All-nil IsNarrow
all_narrow g all (node ∷ more) n =
    All-append IsNarrow (numbers_of g all node) (numbers_from g all more) (numbers_narrow g all node (n 0 (omega arith))) (all_narrow g all more (λ k b. n (suc k) (omega arith)))

-- lines of a short row are few
pub few_lines : (g : Grammar) (n : ℕ) → IsGrammar g → n ≤ 64 → lines_bound g n ≤ 12096
unfolding lines_bound
few_lines g zero is short = omega (arith, is.few_symbols, is.a_terminal)
few_lines g (suc n) is short =
    let few : g.nonterminals ≤ 63 = omega (arith, is.few_symbols, is.a_terminal) in
    let long : 3 * suc n ≤ 192 = omega arith in
    rw (ne_eqb (suc n) 0 (λ e. omega arith)) (mul-le-mul long few)

module _ {g : Grammar} {row : List ℕ} {nodes : List Node} (is : IsGrammar g) (plan : IsPlan g row nodes) where
  -- The numbers of a short plan of a short row are narrow.
  pub lines_narrow : length row ≤ 64 → length nodes < 2 ^ 16 → All IsNarrow (lines_of g nodes)
  lines_narrow short small = all_narrow g nodes nodes (λ k b.
      let w = plan.within k b in
      record {
        rule = omega (arith, plan.rules k b, is.few_rules);
        from = omega arith;
        to = omega arith;
        few = omega (arith, few_parts is plan k b);
        places = λ x c d p. let e = part_before is plan k b x c d p in let l = e.below in omega arith;
      })
