-- Nodes that are a plan so far can be completed to one, if what is needed has steps: so there is room for another node while something is open.
-- Assumes nothing.
use mathlib.Core.Path.{◌≡◌, refl, sym, ◌∙◌, ap, subst, subst₃}
use mathlib.Core.Logic.{◌⊎◌, inl, inr}
use mathlib.Core.List.Memᴰ
use mathlib.Core.List.{List, [], ◌∷◌, Memᴰ, map, flat_map}
use Prim.Native.Nat.{ℕ, zero, suc, ◌+◌, ◌≤◌, ◌<◌}
use native.Mathlib.Omega.{arith}
use native.Mathlib.Decide.{dec_le}
use lib.ListN.{length, length-map}
use Rattle.paper.specs.Grammar.{Grammar, IsGrammar, symbols, left}
use Rattle.paper.specs.Price.{lines_bound}
use Rattle.paper.specs.Building.{below}
use Rattle.paper.proofs.Lists.{mem_flat_map, flat_map_mem, place_mem, mem_below, Distinct, pigeonhole}
use Rattle.lines.specs.Plan.{Part, Node, node_at, HasPart, IsPlan}
use Rattle.lines.specs.Growing.{IsNodeOf, HasNode, IsAsked, IsOpen, Growing, HasStep}
use Rattle.lines.proofs.Growing.{open_more, rank_is, find_node, growing_more, growing_all}
use Rattle.lines.proofs.Demands.{plan_fits}

-- ---- the greatest of a list

-- what holds of the first and of all behind it holds of all
each_mem : {A : Type 0} (Q : A → Type 0) {y : A} {s : List A} → Q y → ((x : A) → Memᴰ x s → Q x) → (x : A) → Memᴰ x (y ∷ s) → Q x
each_mem {A} Q {y} {s} q all x m = go (Memᴰ.cases_cons m)
  where
    go : (x ≡ y) ⊎ Memᴰ x s → Q x
    go (inl e) = subst Q (sym e) q
    go (inr n) = all x n

module _ {A : Type 0} (weight : A → ℕ) (P : A → Type 0) (decide : (x : A) → Dec (P x)) where
  -- one of the list that passes, and none that passes weighs more
  record Greatest (s : List A) : Type 0 where
    one : A
    mem : Memᴰ one s
    passes : P one
    most : (x : A) → Memᴰ x s → P x → weight x ≤ weight one

  abbrev None : List A → Type 0
  None s = (x : A) → Memᴰ x s → P x → ⊥

  heavier : {y : A} {s : List A} → (h : Greatest s) → P y → Dec (weight y ≤ weight h.one) → Greatest (y ∷ s)
  heavier h p (yes l) = record { one = h.one; mem = Memᴰ.tail h.mem; passes = h.passes; most = each_mem (λ x. P x → weight x ≤ weight h.one) (λ q. l) h.most }
  heavier {y} h p (no l) = record {
    one = y;
    mem = Memᴰ.head refl;
    passes = p;
    most = each_mem (λ x. P x → weight x ≤ weight y) (λ q. omega arith) (λ x m q. omega (arith, h.most x m q));
  }

  greatest : (s : List A) → None s ⊎ Greatest s
  greatest [] = inl (λ x m p. Memᴰ.not-nil m)
  greatest (y ∷ s) = go (greatest s) (decide y)
    where
      go : None s ⊎ Greatest s → Dec (P y) → None (y ∷ s) ⊎ Greatest (y ∷ s)
      go (inl none) (no n) = inl (each_mem (λ x. P x → ⊥) n none)
      go (inl none) (yes p) = inr (record {
        one = y;
        mem = Memᴰ.head refl;
        passes = p;
        most = each_mem (λ x. P x → weight x ≤ weight y) (λ q. omega arith) (λ x m q. absurd (none x m q));
      })
      go (inr h) (no n) = inr (record {
        one = h.one;
        mem = Memᴰ.tail h.mem;
        passes = h.passes;
        most = each_mem (λ x. P x → weight x ≤ weight h.one) (λ q. absurd (n q)) h.most;
      })
      go (inr h) (yes p) = inr (heavier h p (dec_le (weight y) (weight h.one)))

-- ---- what is asked, as a list

-- a symbol over a span
record Fact : Type 0 where
  symbol : ℕ
  from : ℕ
  to : ℕ

abbrev fact : ℕ → ℕ → ℕ → Fact
fact x a b = record { symbol = x; from = a; to = b }

-- the parts that are symbols
abbrev facts_of : List Part → ℕ → List Fact
facts_of [] a = []
facts_of (Part.token ∷ parts) a = facts_of parts (suc a)
facts_of (Part.symbol x to ∷ parts) a = fact x a to ∷ facts_of parts to

part_mem : {parts : List Part} {a x b c : ℕ} → HasPart parts a x b c → Memᴰ (fact x b c) (facts_of parts a)
part_mem HasPart.here = Memᴰ.head refl
part_mem (HasPart.token p) = part_mem p
part_mem (HasPart.symbol p) = Memᴰ.tail (part_mem p)

mem_part : (parts : List Part) (a : ℕ) (f : Fact) → Memᴰ f (facts_of parts a) → HasPart parts a f.symbol f.from f.to
mem_part [] a f m = absurd (Memᴰ.not-nil m)
mem_part (Part.token ∷ parts) a f m = HasPart.token (mem_part parts (suc a) f m)
mem_part (Part.symbol x to ∷ parts) a f m =
    each_mem (λ h. HasPart (Part.symbol x to ∷ parts) a h.symbol h.from h.to) HasPart.here (λ h n. HasPart.symbol (mem_part parts to h n)) f m

abbrev asked_facts : Grammar → List ℕ → List Node → List Fact
asked_facts g row nodes = fact g.start 0 (length row) ∷ flat_map (λ node. facts_of node.parts node.from) nodes

asked_mem : {g : Grammar} {row : List ℕ} {nodes : List Node} {x a b : ℕ} → IsAsked g row nodes x a b → Memᴰ (fact x a b) (asked_facts g row nodes)
asked_mem (IsAsked.top s f t) = Memᴰ.head (rw (s, f, t))
asked_mem {nodes = nodes} (IsAsked.part k l p) =
    Memᴰ.tail (mem_flat_map (λ node. facts_of node.parts node.from) nodes (place_mem (record { rule = 0; from = 0; to = 0; parts = [] }) nodes k l) (part_mem p))

-- the number of a node of the list
mem_place : {node : Node} (nodes : List Node) → Memᴰ node nodes → (k : ℕ) × (k < length nodes) × (node_at nodes k ≡ node)
mem_place [] m = absurd (Memᴰ.not-nil m)
mem_place {node} (other ∷ nodes) m = go (Memᴰ.cases_cons m) (λ n. mem_place nodes n)
  where
    go : (node ≡ other) ⊎ Memᴰ node nodes → (Memᴰ node nodes → (k : ℕ) × (k < length nodes) × (node_at nodes k ≡ node))
        → (k : ℕ) × (k < length (other ∷ nodes)) × (node_at (other ∷ nodes) k ≡ node)
    go (inl e) ih = (0, omega arith, sym e)
    go (inr n) ih = let h = ih n in (suc h.0, omega (arith, h.1), h.2)

mem_asked : (g : Grammar) (row : List ℕ) (nodes : List Node) (f : Fact) → Memᴰ f (asked_facts g row nodes) → IsAsked g row nodes f.symbol f.from f.to
mem_asked g row nodes f m = each_mem (λ h. IsAsked g row nodes h.symbol h.from h.to) (IsAsked.top refl refl refl) behind f m
  where
    behind : (h : Fact) → Memᴰ h (flat_map (λ node. facts_of node.parts node.from) nodes) → IsAsked g row nodes h.symbol h.from h.to
    behind h n =
        let c = flat_map_mem (λ node. facts_of node.parts node.from) nodes n in
        let k = mem_place nodes c.1 in
        IsAsked.part k.0 k.1 (rw k.2 (mem_part c.0.parts c.0.from h c.2))

-- ---- what is open, and of it that of the greatest rank

record Next (g : Grammar) (row : List ℕ) (rank : ℕ → ℕ → ℕ → ℕ) (nodes : List Node) : Type 0 where
  x : ℕ
  a : ℕ
  b : ℕ
  due : IsOpen g row nodes x a b
  most : (y c d : ℕ) → IsOpen g row nodes y c d → rank y c d ≤ rank x a b

not_dec : {P : Type 0} → Dec P → Dec (P → ⊥)
not_dec (yes p) = no (λ n. n p)
not_dec (no n) = yes n

next : (g : Grammar) (row : List ℕ) (rank : ℕ → ℕ → ℕ → ℕ) (nodes : List Node) → ((x a b : ℕ) → IsOpen g row nodes x a b → ⊥) ⊎ Next g row rank nodes
next g row rank nodes = go (greatest weight Unwritten decide (asked_facts g row nodes))
  where
    weight : Fact → ℕ
    weight f = rank f.symbol f.from f.to

    Unwritten : Fact → Type 0
    Unwritten f = HasNode g nodes f.symbol f.from f.to → ⊥

    decide : (f : Fact) → Dec (Unwritten f)
    decide f = not_dec (find_node g nodes f.symbol f.from f.to)

    go : None weight Unwritten decide (asked_facts g row nodes) ⊎ Greatest weight Unwritten decide (asked_facts g row nodes)
        → ((x a b : ℕ) → IsOpen g row nodes x a b → ⊥) ⊎ Next g row rank nodes
    go (inl none) = inl (λ x a b o. none (fact x a b) (asked_mem o.asked) o.unwritten)
    go (inr h) = inr (record {
      x = h.one.symbol;
      a = h.one.from;
      b = h.one.to;
      due = record { asked = mem_asked g row nodes h.one h.mem; unwritten = h.passes };
      most = λ y c d o. h.most (fact y c d) (asked_mem o.asked) o.unwritten;
    })

-- ---- there are only so many symbols and spans

abbrev fact_of : Grammar → Node → Fact
fact_of g node = fact (left g node.rule) node.from node.to

-- the spans of symbol x up to place n, and those of all symbols
spans_of : ℕ → ℕ → List Fact
spans_of n x = flat_map (λ a. map (λ b. fact x a b) (below (suc n))) (below (suc n))

all_facts : Grammar → ℕ → List Fact
all_facts g n = flat_map (spans_of n) (below (symbols g))

all_facts_has : (g : Grammar) (n : ℕ) (f : Fact) → f.symbol < symbols g → f.from ≤ n → f.to ≤ n → Memᴰ f (all_facts g n)
unfolding all_facts spans_of
all_facts_has g n f x a b =
    mem_flat_map (spans_of n) (below (symbols g)) (mem_below f.symbol (symbols g) x)
    (mem_flat_map (λ a. map (λ b. fact f.symbol a b) (below (suc n))) (below (suc n)) (mem_below f.from (suc n) (omega arith))
    (Memᴰ.map (λ b. fact f.symbol f.from b) (mem_below f.to (suc n) (omega arith))))

-- no two nodes have one symbol and span
distinct_facts : (g : Grammar) (nodes : List Node)
    → ((i k : ℕ) → i < k → k < length nodes → IsNodeOf g (node_at nodes i) (left g (node_at nodes k).rule) (node_at nodes k).from (node_at nodes k).to → ⊥)
    → Distinct (map (fact_of g) nodes)
distinct_facts g [] unlike = tt
distinct_facts g (node ∷ nodes) unlike = (λ m. other m, distinct_facts g nodes (λ i k c l. unlike (suc i) (suc k) (omega arith) (omega arith)))
  where
    other : Memᴰ (fact_of g node) (map (fact_of g) nodes) → ⊥
    other m =
        let h = Memᴰ.of_map (fact_of g) nodes m in
        let k = mem_place nodes h.1 in
        let same : fact_of g node ≡ fact_of g (node_at nodes k.0) = sym (ap (fact_of g) k.2 ∙ h.2) in
        unlike 0 (suc k.0) (omega arith) (omega (arith, k.1)) (record {
          symbol = ap (λ f. f.symbol) same;
          from = ap (λ f. f.from) same;
          to = ap (λ f. f.to) same;
        })

module _ {g : Grammar} {row : List ℕ} {rank : ℕ → ℕ → ℕ → ℕ} (is : IsGrammar g) where
  few_nodes : {nodes : List Node} → Growing g row rank nodes → length nodes ≤ length (all_facts g (length row))
  few_nodes {nodes} grown =
      omega (arith, length-map nodes (fact_of g), pigeonhole (map (fact_of g) nodes) (all_facts g (length row)) (distinct_facts g nodes grown.unlike) inside)
    where
      inside : (f : Fact) → Memᴰ f (map (fact_of g) nodes) → Memᴰ f (all_facts g (length row))
      inside f m =
          let h = Memᴰ.of_map (fact_of g) nodes m in
          let k = mem_place nodes h.1 in
          let s = grown.steps k.0 k.1 in
          let node = node_at nodes k.0 in
          subst (λ f. Memᴰ f (all_facts g (length row))) (ap (fact_of g) k.2 ∙ h.2)
          (all_facts_has g (length row) (fact_of g node) (is.left_is node.rule s.is_rule).below (omega arith) s.within)

  module _ {Needed : ℕ → ℕ → ℕ → Type 0} (supply : (x a b : ℕ) → Needed x a b → HasStep g row rank Needed x a b) where
    -- the nodes so far, and what is open is needed
    record Partial (nodes : List Node) : Type 0 where
      grown : Growing g row rank nodes
      needed : (x a b : ℕ) → IsOpen g row nodes x a b → Needed x a b

    one_more : {nodes : List Node} → Partial nodes → Next g row rank nodes → (node : Node) × Partial (node ∷ nodes)
    one_more {nodes} p n =
        let h = supply n.x n.a n.b (p.needed n.x n.a n.b n.due) in
        let node = h.node in
        let due : IsOpen g row nodes (left g node.rule) node.from node.to =
        subst₃ (IsOpen g row nodes) (sym h.is.symbol) (sym h.is.from) (sym h.is.to) n.due in (
          node,
          record {
            grown = growing_more p.grown node h.step due (λ y c d o. omega (arith, n.most y c d o, rank_is rank h.is));
            needed = λ x a b o. needs node h.needs (open_more node o);
          },
        )
      where
        needs : {x a b : ℕ} (node : Node) → ((y c d : ℕ) → HasPart node.parts node.from y c d → Needed y c d)
            → (IsOpen g row nodes x a b × (IsNodeOf g node x a b → ⊥)) ⊎ HasPart node.parts node.from x a b → Needed x a b
        needs {x} {a} {b} node all (inl o) = p.needed x a b o.0
        needs {x} {a} {b} node all (inr q) = all x a b q

    -- a plan with at least as many nodes
    record Longer (nodes : List Node) : Type 0 where
      all : List Node
      plan : IsPlan g row all
      more : length nodes ≤ length all

    complete : (fuel : ℕ) (nodes : List Node) → length (all_facts g (length row)) ≤ length nodes + fuel → Partial nodes → Longer nodes
    complete zero nodes room p = go (next g row rank nodes)
      where
        go : ((x a b : ℕ) → IsOpen g row nodes x a b → ⊥) ⊎ Next g row rank nodes → Longer nodes
        go (inl closed) = record { all = nodes; plan = growing_all p.grown closed; more = omega arith }
        go (inr n) = let m = one_more p n in absurd (omega (arith, few_nodes m.1.grown))
    complete (suc fuel) nodes room p = go (next g row rank nodes) (complete fuel)
      where
        go : ((x a b : ℕ) → IsOpen g row nodes x a b → ⊥) ⊎ Next g row rank nodes
            → ((more : List Node) → length (all_facts g (length row)) ≤ length more + fuel → Partial more → Longer more) → Longer nodes
        go (inl closed) ih = record { all = nodes; plan = growing_all p.grown closed; more = omega arith }
        go (inr n) ih =
            let m = one_more p n in
            let l = ih (m.0 ∷ nodes) (omega arith) m.1 in
            record { all = l.all; plan = l.plan; more = let c = l.more in omega arith }

    -- There is room for one more node while something is open.
    pub room_more : {nodes : List Node} {x a b : ℕ} → Growing g row rank nodes → ((y c d : ℕ) → IsOpen g row nodes y c d → Needed y c d)
        → IsOpen g row nodes x a b → length nodes < lines_bound g (length row)
    room_more {nodes} {x} {a} {b} grown needed due = go (next g row rank nodes)
      where
        go : ((x a b : ℕ) → IsOpen g row nodes x a b → ⊥) ⊎ Next g row rank nodes → length nodes < lines_bound g (length row)
        go (inl closed) = absurd (closed x a b due)
        go (inr n) =
            let m = one_more (record { grown = grown; needed = needed }) n in
            let l = complete (length (all_facts g (length row))) (m.0 ∷ nodes) (omega arith) m.1 in
            omega (arith, l.more, (plan_fits g row l.all is l.plan).0)
