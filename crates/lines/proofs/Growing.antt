-- A plan can be written from its last node to its first: always a node for what is open and has the greatest rank, until nothing is open.
-- Assumes nothing.
use mathlib.Core.Path.{◌≡◌, refl, sym, ◌∙◌}
use mathlib.Core.Logic.{◌⊎◌, inl, inr}
use mathlib.Core.List.{List, [], ◌∷◌}
use Prim.Native.Nat.{ℕ, zero, suc, ◌-◌, ◌≤◌, ◌<◌}
use native.Mathlib.Omega.{arith}
use native.Mathlib.Decide.{ℕ_discrete, dec_lt}
use lib.ListN.{length}
use Rattle.paper.specs.Grammar.{Grammar, left}
use Rattle.lines.specs.Plan.{Node, node_at, HasPart, IsPlan}
use Rattle.lines.specs.Growing.{IsNodeOf, HasNode, IsAsked, IsOpen, node_rank, IsStep, Growing}

-- ---- what is open

node_behind : {g : Grammar} {nodes : List Node} {x a b : ℕ} (node : Node) → HasNode g nodes x a b → HasNode g (node ∷ nodes) x a b
node_behind node h = record { number = suc h.number; below = let b = h.below in omega arith; is = h.is }

-- a node is the first, or one behind it
first_or_behind : {g : Grammar} {node : Node} {nodes : List Node} {x a b : ℕ} → HasNode g (node ∷ nodes) x a b → IsNodeOf g node x a b ⊎ HasNode g nodes x a b
first_or_behind {g} {node} {nodes} {x} {a} {b} h = go h.number h.below h.is
  where
    go : (k : ℕ) → k < length (node ∷ nodes) → IsNodeOf g (node_at (node ∷ nodes) k) x a b → IsNodeOf g node x a b ⊎ HasNode g nodes x a b
    go zero l is = inl is
    go (suc k) l is = inr (record { number = k; below = omega arith; is = is })

asked_behind : {g : Grammar} {row : List ℕ} {nodes : List Node} {x a b : ℕ} (node : Node) → IsAsked g row nodes x a b → IsAsked g row (node ∷ nodes) x a b
asked_behind node (IsAsked.top s f t) = IsAsked.top s f t
asked_behind node (IsAsked.part k l p) = IsAsked.part (suc k) (omega arith) p

-- At first the start symbol over the row is open,
pub open_first : {g : Grammar} {row : List ℕ} → IsOpen g row [] g.start 0 (length row)
open_first = record { asked = IsAsked.top refl refl refl; unwritten = λ h. let l = h.below in omega arith }

-- and nothing else is.
pub open_none : {g : Grammar} {row : List ℕ} {x a b : ℕ} → IsOpen g row [] x a b → (x ≡ g.start) × (a ≡ 0) × (b ≡ length row)
open_none {g} {row} {x} {a} {b} o = go o.asked
  where
    go : IsAsked g row [] x a b → (x ≡ g.start) × (a ≡ 0) × (b ≡ length row)
    go (IsAsked.top s f t) = (s, f, t)
    go (IsAsked.part k l p) = absurd (omega arith)

-- Behind one more node there is open what was so, that node's own symbol and span apart, and the node's parts:
pub open_more : {g : Grammar} {row : List ℕ} {nodes : List Node} {x a b : ℕ} (node : Node) → IsOpen g row (node ∷ nodes) x a b
    → (IsOpen g row nodes x a b × (IsNodeOf g node x a b → ⊥)) ⊎ HasPart node.parts node.from x a b
open_more {g} {row} {nodes} {x} {a} {b} node o = go o.asked
  where
    old : IsAsked g row nodes x a b → IsOpen g row nodes x a b × (IsNodeOf g node x a b → ⊥)
    old asked = (
      record { asked = asked; unwritten = λ h. o.unwritten (node_behind node h) },
      λ is. o.unwritten (record { number = 0; below = omega arith; is = is }),
    )

    go : IsAsked g row (node ∷ nodes) x a b → (IsOpen g row nodes x a b × (IsNodeOf g node x a b → ⊥)) ⊎ HasPart node.parts node.from x a b
    go (IsAsked.top s f t) = inl (old (IsAsked.top s f t))
    go (IsAsked.part zero l p) = inr p
    go (IsAsked.part (suc k) l p) = inl (old (IsAsked.part k (omega arith) p))

-- what was open stays so, unless it is the node's
pub open_still : {g : Grammar} {row : List ℕ} {nodes : List Node} {x a b : ℕ} (node : Node) → IsOpen g row nodes x a b → (IsNodeOf g node x a b → ⊥)
    → IsOpen g row (node ∷ nodes) x a b
open_still {g} {nodes = nodes} {x = x} {a = a} {b = b} node o other = record { asked = asked_behind node o.asked; unwritten = λ h. go (first_or_behind h) }
  where
    go : IsNodeOf g node x a b ⊎ HasNode g nodes x a b → ⊥
    go (inl is) = other is
    go (inr h) = o.unwritten h

-- a node has the rank of what it is
pub rank_is : {g : Grammar} {node : Node} {x a b : ℕ} (rank : ℕ → ℕ → ℕ → ℕ) → IsNodeOf g node x a b → node_rank g rank node ≡ rank x a b
rank_is rank is = rw (is.symbol, is.from, is.to)

-- Is one of the nodes x from a to b?
pub find_node : (g : Grammar) (nodes : List Node) (x a b : ℕ) → Dec (HasNode g nodes x a b)
find_node g [] x a b = no (λ h. let l = h.below in omega arith)
find_node g (node ∷ nodes) x a b = go (find_node g nodes x a b) (ℕ_discrete (left g node.rule) x) (ℕ_discrete node.from a) (ℕ_discrete node.to b)
  where
    other : (HasNode g nodes x a b → ⊥) → (IsNodeOf g node x a b → ⊥) → HasNode g (node ∷ nodes) x a b → ⊥
    other none n h = let c = first_or_behind h in grind arith

    go : Dec (HasNode g nodes x a b) → Dec (left g node.rule ≡ x) → Dec (node.from ≡ a) → Dec (node.to ≡ b) → Dec (HasNode g (node ∷ nodes) x a b)
    go (yes h) s f t = yes (node_behind node h)
    go (no none) (yes s) (yes f) (yes t) = yes (record { number = 0; below = omega arith; is = record { symbol = s; from = f; to = t } })
    go (no none) (no s) f t = no (other none (λ is. s is.symbol))
    go (no none) (yes s) (no f) t = no (other none (λ is. f is.from))
    go (no none) (yes s) (yes f) (no t) = no (other none (λ is. t is.to))

module _ {g : Grammar} {row : List ℕ} {rank : ℕ → ℕ → ℕ → ℕ} where
  -- ---- the beginning

  pub growing_none : Growing g row rank []
  growing_none = record {
    steps = λ k l. absurd (omega arith);
    rises = λ i k c l. absurd (omega arith);
    under = λ x a b k o l. absurd (omega arith);
    unlike = λ i k c l is. omega arith;
    top = λ k e. absurd (omega arith);
    used = λ k l. absurd (omega arith);
  }

  -- ---- one more node

  module _ {nodes : List Node} (grown : Growing g row rank nodes) (node : Node) (step : IsStep g row rank node)
      (due : IsOpen g row nodes (left g node.rule) node.from node.to) where
    under_all : (k : ℕ) → k < length nodes → node_rank g rank node ≤ node_rank g rank (node_at nodes k)
    under_all k l = grown.under (left g node.rule) node.from node.to k due l

    -- The parts of the node are open: their ranks are lower than that of any node.
    pub open_part : {x a b : ℕ} → HasPart node.parts node.from x a b → IsOpen g row (node ∷ nodes) x a b
    open_part {x} {a} {b} p = record { asked = IsAsked.part 0 (omega arith) p; unwritten = λ h. go (first_or_behind h) }
      where
        go : IsNodeOf g node x a b ⊎ HasNode g nodes x a b → ⊥
        go (inl is) = omega (arith, step.falls x a b p, rank_is rank is)
        go (inr h) = omega (arith, step.falls x a b p, rank_is rank h.is, under_all h.number h.below)

    under_more : (x a b k : ℕ) → ((y c d : ℕ) → IsOpen g row nodes y c d → rank y c d ≤ node_rank g rank node) → IsOpen g row (node ∷ nodes) x a b
        → k < length (node ∷ nodes) → rank x a b ≤ node_rank g rank (node_at (node ∷ nodes) k)
    under_more x a b k most o l = go k l (open_more node o)
      where
        go : (k : ℕ) → k < length (node ∷ nodes) → (IsOpen g row nodes x a b × (IsNodeOf g node x a b → ⊥)) ⊎ HasPart node.parts node.from x a b
            → rank x a b ≤ node_rank g rank (node_at (node ∷ nodes) k)
        go zero l (inl old) = most x a b old.0
        go (suc k) l (inl old) = grown.under x a b k old.0 (omega arith)
        go zero l (inr p) = omega (arith, step.falls x a b p)
        go (suc k) l (inr p) = omega (arith, step.falls x a b p, under_all k (omega arith))

    rises_more : (i k : ℕ) → i ≤ k → k < length (node ∷ nodes) → node_rank g rank (node_at (node ∷ nodes) i) ≤ node_rank g rank (node_at (node ∷ nodes) k)
    rises_more zero zero c l = omega arith
    rises_more zero (suc k) c l = under_all k (omega arith)
    rises_more (suc i) zero c l = absurd (omega arith)
    rises_more (suc i) (suc k) c l = grown.rises i k (omega arith) (omega arith)

    unlike_more : (i k : ℕ) → i < k → k < length (node ∷ nodes)
        → IsNodeOf g (node_at (node ∷ nodes) i) (left g (node_at (node ∷ nodes) k).rule) (node_at (node ∷ nodes) k).from (node_at (node ∷ nodes) k).to → ⊥
    unlike_more i zero c l is = omega arith
    unlike_more zero (suc k) c l is =
        due.unwritten (record { number = k; below = omega arith; is = record { symbol = sym is.symbol; from = sym is.from; to = sym is.to } })
    unlike_more (suc i) (suc k) c l is = grown.unlike i k (omega arith) (omega arith) is

    top_more : (k : ℕ) → suc k ≡ length (node ∷ nodes) → IsNodeOf g (node_at (node ∷ nodes) k) g.start 0 (length row)
    top_more zero e = go due.asked
      where
        go : IsAsked g row nodes (left g node.rule) node.from node.to → IsNodeOf g node g.start 0 (length row)
        go (IsAsked.top s f t) = record { symbol = s; from = f; to = t }
        go (IsAsked.part k l p) = absurd (omega arith)
    top_more (suc k) e = grown.top k (omega arith)

    used_more : (k : ℕ) → suc k < length (node ∷ nodes) → (i : ℕ) × (i < length (node ∷ nodes))
        × HasPart (node_at (node ∷ nodes) i).parts (node_at (node ∷ nodes) i).from (left g (node_at (node ∷ nodes) k).rule) (node_at (node ∷ nodes) k).from
        (node_at (node ∷ nodes) k).to
    used_more zero l = go due.asked
      where
        go : IsAsked g row nodes (left g node.rule) node.from node.to
            → (i : ℕ) × (i < length (node ∷ nodes)) × HasPart (node_at (node ∷ nodes) i).parts (node_at (node ∷ nodes) i).from (left g node.rule) node.from node.to
        go (IsAsked.top s f t) =
            let is = grown.top (length nodes - 1) (omega arith) in
            absurd (due.unwritten (record {
              number = length nodes - 1;
              below = omega arith;
              is = record { symbol = is.symbol ∙ sym s; from = is.from ∙ sym f; to = is.to ∙ sym t };
            }))
        go (IsAsked.part i c p) = (suc i, omega arith, p)
    used_more (suc k) l = let u = grown.used k (omega arith) in (suc u.0, omega (arith, u.1), u.2)

    -- The nodes grow on by a step for what is open and has the greatest rank.
    pub growing_more : ((x a b : ℕ) → IsOpen g row nodes x a b → rank x a b ≤ node_rank g rank node) → Growing g row rank (node ∷ nodes)
    growing_more most = record {
      steps = steps;
      rises = rises_more;
      under = λ x a b k o l. under_more x a b k most o l;
      unlike = unlike_more;
      top = top_more;
      used = used_more;
    }
      where
        steps : (k : ℕ) → k < length (node ∷ nodes) → IsStep g row rank (node_at (node ∷ nodes) k)
        steps zero l = step
        steps (suc k) l = grown.steps k (omega arith)

  -- ---- the end

  module _ {nodes : List Node} (grown : Growing g row rank nodes) (closed : (x a b : ℕ) → IsOpen g row nodes x a b → ⊥) where
    -- a part of node k that is a node is an earlier one
    earlier_node : (k x a b : ℕ) → k < length nodes → HasPart (node_at nodes k).parts (node_at nodes k).from x a b → (h : HasNode g nodes x a b) → h.number < k
    earlier_node k x a b l p h = go (dec_lt h.number k)
      where
        go : Dec (h.number < k) → h.number < k
        go (yes c) = c
        go (no c) =
            absurd (omega (arith, (grown.steps k l).falls x a b p, rank_is rank h.is, grown.rises k h.number (omega arith) h.below))

    earlier : (k x a b : ℕ) → k < length nodes → HasPart (node_at nodes k).parts (node_at nodes k).from x a b
        → (i : ℕ) × (i < k) × (left g (node_at nodes i).rule ≡ x) × ((node_at nodes i).from ≡ a) × ((node_at nodes i).to ≡ b)
    earlier k x a b l p = go (find_node g nodes x a b)
      where
        go : Dec (HasNode g nodes x a b) → (i : ℕ) × (i < k) × (left g (node_at nodes i).rule ≡ x) × ((node_at nodes i).from ≡ a) × ((node_at nodes i).to ≡ b)
        go (yes h) = (h.number, earlier_node k x a b l p h, h.is.symbol, h.is.from, h.is.to)
        go (no none) = absurd (closed x a b (record { asked = IsAsked.part k l p; unwritten = none }))

    some_node : 1 ≤ length nodes
    some_node = go (dec_lt 0 (length nodes))
      where
        go : Dec (0 < length nodes) → 1 ≤ length nodes
        go (yes l) = omega arith
        go (no n) = absurd (closed g.start 0 (length row) (record { asked = IsAsked.top refl refl refl; unwritten = λ h. let l = h.below in omega arith }))

    used_later : (k : ℕ) → suc k < length nodes → (i : ℕ) × (k < i) × (i < length nodes)
        × HasPart (node_at nodes i).parts (node_at nodes i).from (left g (node_at nodes k).rule) (node_at nodes k).from (node_at nodes k).to
    used_later k l = let u = grown.used k l in (u.0, later u.0 u.1 u.2 (dec_lt k u.0), u.1, u.2)
      where
        later : (i : ℕ) → i < length nodes
            → HasPart (node_at nodes i).parts (node_at nodes i).from (left g (node_at nodes k).rule) (node_at nodes k).from (node_at nodes k).to → Dec (k < i) → k < i
        later i c p (yes b) = b
        later i c p (no n) =
            absurd (omega (arith, (grown.steps i c).falls (left g (node_at nodes k).rule) (node_at nodes k).from (node_at nodes k).to p, grown.rises i k (omega arith) (omega arith)))

    -- Once nothing is open the nodes are a plan.
    pub growing_all : IsPlan g row nodes
    growing_all =
        let top = grown.top (length nodes - 1) (omega (arith, some_node)) in
        record {
          rules = λ k l. (grown.steps k l).is_rule;
          within = λ k l. ((grown.steps k l).span, (grown.steps k l).within);
          joined = λ k l. let s = grown.steps k l in (s.symbols, s.joins, s.arranged, s.acceptable);
          earlier = earlier;
          unlike = λ i k c l s f t. grown.unlike i k c l (record { symbol = s; from = f; to = t });
          some_node = some_node;
          top = top.symbol;
          top_from = top.from;
          top_to = top.to;
          used = used_later;
        }
