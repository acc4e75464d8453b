-- Shieber, theorem 7, with derivation by rewriting, as S3 has it: the steps find an entry exactly if it stands. And a row is in the language exactly if it has a tree.
-- Assumes nothing.
use mathlib.Core.Logic.{◌↔◌}
use mathlib.Core.List.{List}
use Prim.Native.Nat.{ℕ}
use native.Mathlib.Omega.{arith}
use lib.ListN.{length}
use lib.Seq.{take-length}
use Rattle.paper.specs.Grammar.{Grammar, StrictPartialOrder, IsRow}
use Rattle.paper.specs.Derivation.{InLanguage}
use Rattle.paper.specs.Tree.{Tree}
use Rattle.paper.specs.Entry.{Entry, Stands, Found}
use Rattle.paper.proofs.Trees.{parts_derives, derives_parts, derives_tree, tree_derives}
use Rattle.paper.proofs.Seeking.{derives_sought, sought_derives}
use Rattle.paper.proofs.Theorem7.{StandsByTrees, found_stands, stands_found}

module _ {g : Grammar} {row : List ℕ} where
  stands_trees : {j : ℕ} {e : Entry} → Stands g row j e → StandsByTrees g row j e
  stands_trees {j} {e} s = grind (arith, derives_parts, derives_sought)

  trees_stand : {j : ℕ} {e : Entry} → StandsByTrees g row j e → Stands g row j e
  trees_stand {j} {e} s = grind (arith, sought_derives, parts_derives)

  -- to stand by rewriting and to stand by trees are the same
  pub stands_by_trees : {j : ℕ} {e : Entry} → Stands g row j e ↔ StandsByTrees g row j e
  stands_by_trees = (stands_trees, trees_stand)

  -- Shieber, theorem 7: the steps find exactly the entries that stand
  pub theorem_7 : {j : ℕ} {e : Entry} → StrictPartialOrder g.precedes → Found g row j e ↔ Stands g row j e
  theorem_7 order = (λ f. trees_stand (found_stands order f), λ s. stands_found order (stands_trees s))

  -- a row is in the language exactly if a tree reads all of it as the start symbol
  pub language_tree : IsRow g row → InLanguage g row ↔ Tree g row g.start 0 (length row)
  language_tree is_row = grind (arith, derives_tree, take-length, tree_derives)
