-- The numbers of the lines of a plan: line k reads as node k.
-- Assumes nothing.
use mathlib.Core.Path.{◌≡◌, refl, sym, ◌∙◌, ap}
use mathlib.Core.List.{List, [], ◌∷◌, ◌++◌, append_assoc}
use Prim.Native.Nat.{ℕ, zero, suc, ◌+◌, ◌*◌, ◌≤◌, ◌<◌}
use native.Mathlib.Omega.{arith}
use lib.ListN.{length, length-append}
use Rattle.paper.specs.Grammar.{Grammar}
use Rattle.paper.specs.Lines.{line_size, line_parts}
use Rattle.paper.proofs.LineNumbers.{Extends, extends_append, kept, line_of, line_length, Reads, reads_back}
use Rattle.lines.specs.Plan.{Part, Node, slots_of, numbers_of, numbers_from, lines_of, node_at}

-- each part has a slot
pub slots_length : (g : Grammar) (all : List Node) (parts : List Part) (a : ℕ) → length (slots_of g all parts a) ≡ length parts
unfolding slots_of
slots_length g all [] a = refl
slots_length g all (Part.token ∷ parts) a = ap suc (slots_length g all parts (suc a))
slots_length g all (Part.symbol x to ∷ parts) a = ap suc (slots_length g all parts to)

-- the numbers of a node, as a line
line_of_node : (g : Grammar) (all : List Node) (node : Node) → line_of node.rule node.from node.to (slots_of g all node.parts node.from) ≡ numbers_of g all node
unfolding line_of
line_of_node g all node = rw slots_length

-- each node has at most eight parts
abbrev pub FewParts : List Node → Type 0
FewParts nodes = (k : ℕ) → k < length nodes → length (node_at nodes k).parts ≤ 8

-- line n of these numbers is the line of the node
abbrev pub ReadsNode : Grammar → List Node → List ℕ → ℕ → Node → Type 0
ReadsNode g all ns n node = Reads ns n node.rule node.from node.to (slots_of g all node.parts node.from)

numbers_size : (g : Grammar) (all : List Node) (node : Node) → length node.parts ≤ 8 → length (numbers_of g all node) ≡ line_size
numbers_size g all node few =
    ap length (sym (line_of_node g all node)) ∙ line_length node.rule node.from node.to (slots_of g all node.parts node.from) (omega (arith, slots_length g all node.parts node.from))

numbers_length : (g : Grammar) (all nodes : List Node) → FewParts nodes → length (numbers_from g all nodes) ≡ line_size * length nodes
unfolding numbers_from
numbers_length g all [] few = refl
numbers_length g all (node ∷ more) few =
    omega (arith, length-append (numbers_of g all node) (numbers_from g all more), numbers_size g all node (few 0 (omega arith)), numbers_length g all more (λ k b. few (suc k) (omega arith)))

-- a line of the front reads on as it did
reads_kept : {before after slots : List ℕ} {k rule from to : ℕ} (n : ℕ) → Extends before after → length before ≡ line_size * n → k < n → length slots ≤ 8
    → Reads before k rule from to slots → Reads after k rule from to slots
reads_kept {before} {slots = slots} {k = k} n d l b few r =
    let same = kept d n k l b in
    record {
      rule_is = same.rule ∙ r.rule_is;
      from_is = same.from ∙ r.from_is;
      to_is = same.to ∙ r.to_is;
      parts_are = same.parts ∙ r.parts_are;
      past = λ x p q. same.slot x q ∙ r.past x p q;
      slot = λ x p. same.slot x (omega arith) ∙ r.slot x p;
      slots_are = let c = r.parts_are in rw (same.parts, same.slots (line_parts before k) (omega arith)) r.slots_are;
    }

-- the first node's line, behind n lines
reads_first : (g : Grammar) (all : List Node) (node : Node) (ns more : List ℕ) (n : ℕ) → length ns ≡ line_size * n → length node.parts ≤ 8
    → ReadsNode g all (ns ++ (numbers_of g all node ++ more)) n node
reads_first g all node ns more n l few =
    let size = numbers_size g all node few in
    let back = rw (line_of_node g all node) at (reads_back ns n node.rule node.from node.to (slots_of g all node.parts node.from) l) in
    rw (← append_assoc ns (numbers_of g all node) more)
    (reads_kept (suc n) (extends_append (ns ++ numbers_of g all node) more) (omega (arith, length-append ns (numbers_of g all node))) (omega arith)
    (omega (arith, slots_length g all node.parts node.from)) back)

-- the lines of nodes, behind n lines
reads_behind : (g : Grammar) (all nodes : List Node) → FewParts nodes → (ns : List ℕ) (n k : ℕ) → length ns ≡ line_size * n → k < length nodes
    → ReadsNode g all (ns ++ numbers_from g all nodes) (n + k) (node_at nodes k)
unfolding numbers_from
reads_behind g all [] few ns n k l b = absurd (omega arith)
reads_behind g all (node ∷ more) few ns n zero l b =
    let e : n + 0 ≡ n = omega arith in
    rw e (reads_first g all node ns (numbers_from g all more) n l (few 0 b))
reads_behind g all (node ∷ more) few ns n (suc k) l b =
    let e : n + suc k ≡ suc n + k = omega arith in
    let size = numbers_size g all node (few 0 (omega arith)) in
    rw (e, ← append_assoc ns (numbers_of g all node) (numbers_from g all more))
    (reads_behind g all more (λ i c. few (suc i) (omega arith)) (ns ++ numbers_of g all node) (suc n) k (omega (arith, length-append ns (numbers_of g all node))) (omega arith))

-- There is a line for each node,
pub lines_length : (g : Grammar) (nodes : List Node) → FewParts nodes → length (lines_of g nodes) ≡ line_size * length nodes
lines_length g nodes few = numbers_length g nodes nodes few

-- and line k reads as node k.
pub reads_node : (g : Grammar) (nodes : List Node) → FewParts nodes → (k : ℕ) → k < length nodes → ReadsNode g nodes (lines_of g nodes) k (node_at nodes k)
reads_node g nodes few k b =
    let e : 0 + k ≡ k = omega arith in
    rw e at (reads_behind g nodes nodes few [] 0 k (omega arith) b)
