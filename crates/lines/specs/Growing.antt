-- A plan while it is written, from its last node to its first: each new node goes in front of those that it is a part of.
-- Assumes nothing.
use Rattle.std.specs.Prelude.{◌≡◌, List, ℕ, suc, ◌≤◌, ◌<◌, length}
use Rattle.paper.specs.Grammar.{Grammar, rule_count, left, members}
use Rattle.paper.specs.Multiset.{Arrangement}
use Rattle.paper.specs.Derivation.{Acceptable}
use Rattle.lines.specs.Plan.{Node, PartsJoin, node_at, HasPart}

-- the node is x from place a to place b
pub record IsNodeOf (g : Grammar) (node : Node) (x a b : ℕ) : Type 0 where
  pub symbol : left g node.rule ≡ x
  pub from : node.from ≡ a
  pub to : node.to ≡ b

-- one of the nodes is x from a to b
pub record HasNode (g : Grammar) (nodes : List Node) (x a b : ℕ) : Type 0 where
  pub number : ℕ
  pub below : number < length nodes
  pub is : IsNodeOf g (node_at nodes number) x a b

-- x from a to b is the start symbol over the row, or a part of one of the nodes
pub data IsAsked (g : Grammar) (row : List ℕ) (nodes : List Node) (x a b : ℕ) : Type 0 where
  top : x ≡ g.start → a ≡ 0 → b ≡ length row → IsAsked g row nodes x a b
  part : (k : ℕ) → k < length nodes → HasPart (node_at nodes k).parts (node_at nodes k).from x a b → IsAsked g row nodes x a b

-- and none of the nodes is it yet
pub record IsOpen (g : Grammar) (row : List ℕ) (nodes : List Node) (x a b : ℕ) : Type 0 where
  pub asked : IsAsked g row nodes x a b
  pub unwritten : HasNode g nodes x a b → ⊥

-- the rank of a node: what `rank` gives for its symbol and its span
abbrev pub node_rank : Grammar → (ℕ → ℕ → ℕ → ℕ) → Node → ℕ
node_rank g rank node = rank (left g node.rule) node.from node.to

-- The node is a rule whose members its parts are, joined and in an acceptable order; and each part that is a symbol has a lower rank.
pub record IsStep (g : Grammar) (row : List ℕ) (rank : ℕ → ℕ → ℕ → ℕ) (node : Node) : Type 0 where
  pub is_rule : node.rule < rule_count g
  pub span : node.from ≤ node.to
  pub within : node.to ≤ length row
  pub symbols : List ℕ
  pub joins : PartsJoin row node.parts node.from node.to symbols
  pub arranged : Arrangement symbols (members g node.rule)
  pub acceptable : Acceptable g symbols
  pub falls : (x a b : ℕ) → HasPart node.parts node.from x a b → rank x a b < node_rank g rank node

-- What holds of the nodes written so far: each is a step; their ranks ascend, and none of what is open has a higher one; no two have one symbol and span; the
-- last is the start symbol over the row, and every other is a part of one of them.
pub record Growing (g : Grammar) (row : List ℕ) (rank : ℕ → ℕ → ℕ → ℕ) (nodes : List Node) : Type 0 where
  pub steps : (k : ℕ) → k < length nodes → IsStep g row rank (node_at nodes k)
  pub rises : (i k : ℕ) → i ≤ k → k < length nodes → node_rank g rank (node_at nodes i) ≤ node_rank g rank (node_at nodes k)
  pub under : (x a b k : ℕ) → IsOpen g row nodes x a b → k < length nodes → rank x a b ≤ node_rank g rank (node_at nodes k)
  pub unlike : (i k : ℕ) → i < k → k < length nodes → IsNodeOf g (node_at nodes i) (left g (node_at nodes k).rule) (node_at nodes k).from (node_at nodes k).to → ⊥
  pub top : (k : ℕ) → suc k ≡ length nodes → IsNodeOf g (node_at nodes k) g.start 0 (length row)
  pub used : (k : ℕ) → suc k < length nodes → (i : ℕ) × (i < length nodes)
      × HasPart (node_at nodes i).parts (node_at nodes i).from (left g (node_at nodes k).rule) (node_at nodes k).from (node_at nodes k).to

-- x from a to b has a step whose parts are needed too
pub record HasStep (g : Grammar) (row : List ℕ) (rank : ℕ → ℕ → ℕ → ℕ) (Needed : ℕ → ℕ → ℕ → Type 0) (x a b : ℕ) : Type 0 where
  pub node : Node
  pub is : IsNodeOf g node x a b
  pub step : IsStep g row rank node
  pub needs : (y c d : ℕ) → HasPart node.parts node.from y c d → Needed y c d
