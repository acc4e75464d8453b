-- Valid lines are a derivation tree of the row: each line is a node, and its parts are tokens or the trees of earlier lines.
-- Assumes nothing.
use mathlib.Core.Path.{refl, subst₃}
use mathlib.Core.List.{List}
use Prim.Native.Nat.{ℕ, zero, suc, ◌-◌, ◌≤◌, ◌<◌}
use native.Mathlib.Omega.{arith}
use lib.ListN.{length}
use Rattle.paper.specs.Grammar.{Grammar}
use Rattle.paper.specs.Tree.{Tree, Parts}
use Rattle.paper.specs.Lines.{line_count, line_rule, line_from, line_to, line_symbol, Joins, LineRight, Valid}

-- What holds of each line if it holds of all earlier ones holds of every line: parts are earlier lines.
pub earlier_first : {P : ℕ → Type 0} → ((k : ℕ) → ((earlier : ℕ) → earlier < k → P earlier) → P k) → (k : ℕ) → P k
earlier_first {P} step k = step k (below k)
  where
    below : (bound : ℕ) (k : ℕ) → k < bound → P k
    below zero k h = absurd (omega arith)
    below (suc bound) k h = step k (λ earlier e. below bound earlier (omega arith))

-- the tree of line k
abbrev pub LineTree : Grammar → List ℕ → List ℕ → ℕ → Type 0
LineTree g row ns k = Tree g row (line_symbol g ns k) (line_from ns k) (line_to ns k)

module _ {g : Grammar} {row ns : List ℕ} where
  -- slots that join are parts, if each earlier line has its tree
  joins_parts : {k i j : ℕ} {slots s : List ℕ} → ((earlier : ℕ) → earlier < k → LineTree g row ns earlier) → j ≤ length row → Joins g row ns k slots i j s → Parts g row s i j
  joins_parts trees within Joins.end = Parts.done within
  joins_parts trees within (Joins.token h e joins) = Parts.part (Tree.token h e) (joins_parts trees within joins)
  joins_parts trees within (Joins.part earlier h from to symbol joins) =
      Parts.part (subst₃ (Tree g row) symbol from to (trees earlier h)) (joins_parts trees within joins)

  -- a line that is right is a node over the trees of its parts
  line_node_lem : {k : ℕ} → LineRight g row ns k → ((earlier : ℕ) → earlier < k → LineTree g row ns earlier) → LineTree g row ns k
  line_node_lem {k} right trees = Tree.node (line_rule ns k) right.rule_is refl right.arranged right.acceptable (joins_parts trees right.within right.joins)

  -- lines that are right up to line k give the tree of line k
  pub line_tree : (k : ℕ) → ((i : ℕ) → i ≤ k → LineRight g row ns i) → LineTree g row ns k
  line_tree k right = earlier_first {P = λ m. m ≤ k → LineTree g row ns m} (λ m trees h. line_node_lem (right m h) (λ earlier e. trees earlier e (omega arith))) k (omega arith)

  -- valid lines give a tree of the whole row
  pub valid_tree : Valid g row ns → Tree g row g.start 0 (length row)
  valid_tree valid =
      let w = valid.whole in
      subst₃ (Tree g row) w.top w.top_from w.top_to (line_tree (line_count ns - 1) (λ i h. valid.each i (omega (arith, w.some_line))))
