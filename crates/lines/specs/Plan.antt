-- A derivation as a list of nodes, each behind its parts, and the lines that it is written as.
-- Assumes nothing.
use Rattle.std.specs.Prelude.{◌≡◌, ◌&&◌, cond, List, [], ◌∷◌, ◌++◌, ℕ, suc, ◌-◌, ◌≤◌, ◌<◌, eqb, length, get_or, replicate}
use Rattle.paper.specs.Grammar.{Grammar, rule_count, left, members}
use Rattle.paper.specs.Multiset.{Arrangement}
use Rattle.paper.specs.Derivation.{Acceptable}

-- a part of a node: the token where it stands, or the symbol x up to place `to`
pub data Part : Type 0 where
  token : Part
  symbol : (x to : ℕ) → Part

pub record Node : Type 0 where
  pub rule : ℕ
  pub from : ℕ
  pub to : ℕ
  pub parts : List Part

-- the number of the first node with left symbol x from a to b; the count of nodes if there is none
unfoldable pub place_of : Grammar → List Node → ℕ → ℕ → ℕ → ℕ
place_of g [] x a b = 0
place_of g (node ∷ nodes) x a b = cond (eqb (left g node.rule) x && (eqb node.from a && eqb node.to b)) 0 (suc (place_of g nodes x a b))

-- the slots of parts, the first of which stands at place a
unfoldable pub slots_of : Grammar → List Node → List Part → ℕ → List ℕ
slots_of g nodes [] a = []
slots_of g nodes (Part.token ∷ parts) a = 0 ∷ slots_of g nodes parts (suc a)
slots_of g nodes (Part.symbol x to ∷ parts) a = suc (place_of g nodes x a to) ∷ slots_of g nodes parts to

-- the twelve numbers of a node
abbrev pub numbers_of : Grammar → List Node → Node → List ℕ
numbers_of g nodes node = node.rule ∷ node.from ∷ node.to ∷ length node.parts ∷ (slots_of g nodes node.parts node.from ++ replicate (8 - length node.parts) 0)

unfoldable pub numbers_from : Grammar → List Node → List Node → List ℕ
numbers_from g nodes [] = []
numbers_from g nodes (node ∷ more) = numbers_of g nodes node ++ numbers_from g nodes more

-- the lines of the nodes
abbrev pub lines_of : Grammar → List Node → List ℕ
lines_of g nodes = numbers_from g nodes nodes

-- The parts join from place a to place b, and their symbols are those of s.
pub data PartsJoin (row : List ℕ) : List Part → ℕ → ℕ → List ℕ → Type 0 where
  end : {a : ℕ} → PartsJoin row [] a a []
  token : {a b : ℕ} {parts : List Part} {s : List ℕ} → a < length row → PartsJoin row parts (suc a) b s → PartsJoin row (Part.token ∷ parts) a b (get_or row a 0 ∷ s)
  symbol : {a b : ℕ} {parts : List Part} {s : List ℕ} (x to : ℕ) → a ≤ to → PartsJoin row parts to b s → PartsJoin row (Part.symbol x to ∷ parts) a b (x ∷ s)

-- past the last there is no node
abbrev pub node_at : List Node → ℕ → Node
node_at nodes k = get_or nodes k (record { rule = 0; from = 0; to = 0; parts = [] })

-- The parts of a node, the first of which stands at place a: one of them is x from b to c.
pub data HasPart : List Part → ℕ → ℕ → ℕ → ℕ → Type 0 where
  here : {parts : List Part} {a x to : ℕ} → HasPart (Part.symbol x to ∷ parts) a x a to
  token : {parts : List Part} {a x b c : ℕ} → HasPart parts (suc a) x b c → HasPart (Part.token ∷ parts) a x b c
  symbol : {parts : List Part} {a x b c y to : ℕ} → HasPart parts to x b c → HasPart (Part.symbol y to ∷ parts) a x b c

-- The nodes are a derivation of the row: each has a rule whose members its parts are, joined and in an acceptable order; each part that is a symbol is an earlier
-- node; no two have one left symbol and span; the last is the start symbol over the row, and every other is a part of a later one.
pub record IsPlan (g : Grammar) (row : List ℕ) (nodes : List Node) : Type 0 where
  pub rules : (k : ℕ) → k < length nodes → (node_at nodes k).rule < rule_count g
  pub within : (k : ℕ) → k < length nodes → ((node_at nodes k).from ≤ (node_at nodes k).to) × ((node_at nodes k).to ≤ length row)
  pub joined : (k : ℕ) → k < length nodes → (s : List ℕ) × PartsJoin row (node_at nodes k).parts (node_at nodes k).from (node_at nodes k).to s
      × Arrangement s (members g (node_at nodes k).rule) × Acceptable g s
  pub earlier : (k x b c : ℕ) → k < length nodes → HasPart (node_at nodes k).parts (node_at nodes k).from x b c
      → (i : ℕ) × (i < k) × (left g (node_at nodes i).rule ≡ x) × ((node_at nodes i).from ≡ b) × ((node_at nodes i).to ≡ c)
  pub unlike : (i k : ℕ) → i < k → k < length nodes → left g (node_at nodes i).rule ≡ left g (node_at nodes k).rule → (node_at nodes i).from ≡ (node_at nodes k).from
      → (node_at nodes i).to ≡ (node_at nodes k).to → ⊥
  pub some_node : 1 ≤ length nodes
  pub top : left g (node_at nodes (length nodes - 1)).rule ≡ g.start
  pub top_from : (node_at nodes (length nodes - 1)).from ≡ 0
  pub top_to : (node_at nodes (length nodes - 1)).to ≡ length row
  pub used : (k : ℕ) → suc k < length nodes → (i : ℕ) × (k < i) × (i < length nodes)
      × HasPart (node_at nodes i).parts (node_at nodes i).from (left g (node_at nodes k).rule) (node_at nodes k).from (node_at nodes k).to
