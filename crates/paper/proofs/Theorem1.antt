-- The sheet exists, and a row has a top exactly if it is in the language (Shieber, theorem 1).
-- Assumes nothing.
use mathlib.Core.Path.{◌≡◌, refl, sym, subst₂}
use mathlib.Core.Logic.{◌↔◌}
use mathlib.Core.Bool.{true}
use mathlib.Core.List.{List, [], ◌++◌, append-nil}
use Prim.Native.Nat.{ℕ, ◌≤◌, ◌<◌}
use native.Mathlib.Omega.{arith}
use lib.ListN.{length}
use borrow.Author.Tests.{eq-eqb}
use Rattle.paper.specs.Multiset.{Arrangement, minus}
use Rattle.paper.specs.Grammar.{Grammar, IsGrammar, IsRow, rule_count, left, members}
use Rattle.paper.specs.Derivation.{Acceptable, InLanguage}
use Rattle.paper.specs.Tree.{Tree, Parts, Sought}
use Rattle.paper.specs.Entry.{Entry, Stands, finished}
use Rattle.paper.specs.Sheet.{Sheet, list_at, IsSheet, is_top, tops}
use Rattle.paper.specs.Building.{sheet_of}
use Rattle.paper.proofs.Multiset.{arranged_refl, arranged_sym, arranged_nil}
use Rattle.paper.proofs.Machine.{arranged_minus}
use Rattle.paper.proofs.Theorem7.{finished_rest, finished_tree}
use Rattle.paper.proofs.Standing.{stands_by_trees, theorem_7, language_tree}
use Rattle.paper.proofs.Building.{sheet_lists, sheet_ascending, sheet_found}
use Rattle.paper.proofs.Sums.{mem_many, many_mem}
use Rattle.paper.proofs.Universe.{entry}

-- every grammar has a sheet for every row of at most 64 tokens: the one that is built
pub sheet_exists : (g : Grammar) (row : List ℕ) → IsGrammar g → length row ≤ 64 → IsSheet g row (sheet_of g row)
sheet_exists g row is short = grind (arith, sheet_lists, sheet_found, theorem_7, sheet_ascending)

-- ---- tops

-- a top is a finished entry of the start symbol with origin 0
top_parts : (g : Grammar) (e : Entry) → is_top g e ≡ true → (e.rest ≡ []) × (e.origin ≡ 0) × (left g e.rule ≡ g.start)
unfolding is_top
top_parts g e t = grind (arith, finished_rest)

top_is : (g : Grammar) (h : ℕ) → left g h ≡ g.start → is_top g (entry h 0 []) ≡ true
unfolding is_top finished
top_is g h e = rw (eq-eqb (left g h) g.start e)

module _ {g : Grammar} {row : List ℕ} where
  -- a top that stands on the last list is a tree of the row
  top_tree : (e : Entry) → Stands g row (length row) e → is_top g e ≡ true → Tree g row g.start 0 (length row)
  top_tree e s t =
      let p = top_parts g e t in
      subst₂ (λ a i. Tree g row a i (length row)) p.2 p.1 (finished_tree (stands_by_trees.0 s) p.0)

  -- a rule of the start symbol whose parts read the whole row is an entry that stands
  whole_stands : (h : ℕ) {s : List ℕ} → h < rule_count g → left g h ≡ g.start → Arrangement s (members g h) → Acceptable g s → Parts g row s 0 (length row)
      → Stands g row (length row) (entry h 0 [])
  whole_stands h {s} l e a c parts =
      let b : Arrangement (s ++ []) (members g h) = rw (append-nil s) a in
      stands_by_trees.1
      (record {
        is_rule = l;
        origin_le = omega arith;
        list_le = omega arith;
        found = s;
        ahead = [];
        rest_is = sym (arranged_nil (minus (members g h) s) (arranged_sym (arranged_minus s [] b)));
        found_are = b;
        ahead_is = arranged_refl [];
        acceptable = rw (append-nil s) c;
        parts = parts;
        sought = rw e Sought.top;
      })

  -- a tree of the row as the start symbol has a top: the start symbol is no token
  tree_top : IsGrammar g → IsRow g row → {a i j : ℕ} → Tree g row a i j → a ≡ g.start → i ≡ 0 → j ≡ length row → (e : Entry) × Stands g row (length row) e × (is_top g e ≡ true)
  tree_top is is_row (Tree.token {i = i} l e) p q r = grind arith
  tree_top is is_row (Tree.node {s = s} h l e a c parts) p q r = grind (arith, whole_stands, top_is)

  -- Shieber, theorem 1: the last list has a top exactly if the row is in the language
  pub theorem_1 : {sheet : Sheet} → IsGrammar g → IsRow g row → IsSheet g row sheet → (1 ≤ tops g row sheet) ↔ InLanguage g row
  unfolding tops
  theorem_1 {sheet} is is_row sheet_is = (to, from)
    where
      to : 1 ≤ tops g row sheet → InLanguage g row
      to h =
          let x = many_mem (is_top g) (list_at sheet (length row)) h in
          (language_tree is_row).1 (top_tree x.0 ((sheet_is.exact (length row) x.0).0 x.1) x.2)

      from : InLanguage g row → 1 ≤ tops g row sheet
      from l =
          let x = tree_top is is_row ((language_tree is_row).0 l) refl refl refl in
          mem_many (is_top g) (list_at sheet (length row)) ((sheet_is.exact (length row) x.0).1 x.1) x.2
