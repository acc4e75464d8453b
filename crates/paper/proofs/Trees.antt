-- Trees over a row and rewriting agree: symbols derive the tokens between two places exactly if parts read them so.
-- Assumes nothing.
use mathlib.Core.Path.{◌≡◌, refl, sym, ◌∙◌, ap}
use mathlib.Core.List.{List, [], ◌∷◌, ◌++◌}
use Prim.Native.Nat.{ℕ, zero, suc, ◌+◌, ◌-◌, ◌≤◌, ◌<◌}
use native.Mathlib.Omega.{arith}
use lib.ListN.{length, get_or, take, drop, take-append-drop}
use lib.Seq.{slice, slice_empty, slice-cons, length-take-le, drop-append-le, take-take}
use Rattle.paper.specs.Grammar.{Grammar}
use Rattle.paper.specs.Derivation.{Step, Derives}
use Rattle.paper.specs.Derivation.Derives.{none, more}
use Rattle.paper.specs.Tree.{Tree, Parts}
use Rattle.paper.specs.Tree.Tree.{token, node}
use Rattle.paper.specs.Tree.Parts.{done, part}
use Rattle.paper.proofs.Rewriting.{derives_yields, derives_same, derives_append}

-- the tokens between i and k, then those between k and j
pub slice_join : (row : List ℕ) (i k j : ℕ) → i ≤ k → k ≤ j → j ≤ length row → slice i k row ++ slice k j row ≡ slice i j row
slice_join row i k j h l m =
    let short : i ≤ length (take k row) = omega (arith, length-take-le k row (omega arith)) in
    sym (drop-append-le i (take k row) (slice k j row) short) ∙ ap (drop i) (ap (◌++ slice k j row) (sym (take-take k j row l)) ∙ take-append-drop k (take j row))

slice_one : (row : List ℕ) (i : ℕ) → i < length row → slice i (suc i) row ≡ get_or row i 0 ∷ []
slice_one row i h = grind (arith, slice-cons, slice_empty)

join_span : (i k j n : ℕ) → (i ≤ k) × (k ≤ n) → (k ≤ j) × (j ≤ n) → (i ≤ j) × (j ≤ n)
join_span i k j n p q = (omega arith, q.1)

part_derives : {g : Grammar} {a : ℕ} {s : List ℕ} (row : List ℕ) (i k j : ℕ) → (i ≤ k) × (k ≤ length row) → (k ≤ j) × (j ≤ length row)
    → Derives g (a ∷ []) (slice i k row) → Derives g s (slice k j row) → Derives g (a ∷ s) (slice i j row)
part_derives row i k j p q d e = rw (slice_join row i k j p.0 q.0 q.1) at (derives_append d e)

module _ {g : Grammar} {row : List ℕ} where
  mutual
    -- a tree's places are in order and within the row
    pub tree_span : {a i j : ℕ} → Tree g row a i j → (i ≤ j) × (j ≤ length row)
    tree_span (token h e) = (omega arith, h)
    tree_span (node h l e a c p) = parts_span p

    -- and so are the places of parts
    pub parts_span : {s : List ℕ} {i j : ℕ} → Parts g row s i j → (i ≤ j) × (j ≤ length row)
    parts_span (done h) = (omega arith, h)
    parts_span (part {i = i} {k = k} {j = j} t p) = join_span i k j (length row) (tree_span t) (parts_span p)

  -- ---- parts split and join

  -- parts that read on where others end
  pub parts_join : {s t : List ℕ} {i k j : ℕ} → Parts g row s i k → Parts g row t k j → Parts g row (s ++ t) i j
  parts_join (done h) q = q
  parts_join (part x p) q = part x (parts_join p q)

  split_further : {a : ℕ} {s t : List ℕ} {i l j : ℕ} → Tree g row a i l → (k : ℕ) × Parts g row s l k × Parts g row t k j
      → (k : ℕ) × Parts g row (a ∷ s) i k × Parts g row t k j
  split_further x z = (z.0, part x z.1, z.2)

  split_here : {t : List ℕ} {i j : ℕ} → Parts g row t i j → (k : ℕ) × Parts g row [] i k × Parts g row t k j
  split_here {i = i} p = let z = parts_span p in (i, done {i = i} (omega arith), p)

  -- the parts of two rows of symbols meet at some place
  pub parts_split : (s : List ℕ) {t : List ℕ} {i j : ℕ} → Parts g row (s ++ t) i j → (k : ℕ) × Parts g row s i k × Parts g row t k j
  parts_split [] p = split_here p
  parts_split (a ∷ s) (part x p) = split_further x (parts_split s p)

  -- one symbol alone is read by its tree
  pub tree_parts : {a i j : ℕ} → Tree g row a i j → Parts g row (a ∷ []) i j
  tree_parts x = part x (done (tree_span x).1)

  pub parts_tree : {a i j : ℕ} → Parts g row (a ∷ []) i j → Tree g row a i j
  parts_tree (part x (done h)) = x

  -- one symbol more, read after the others
  pub parts_snoc : {s : List ℕ} {a i k j : ℕ} → Parts g row s i k → Tree g row a k j → Parts g row (s ++ (a ∷ [])) i j
  parts_snoc p x = parts_join p (tree_parts x)

  pub parts_unsnoc : (s : List ℕ) {a i j : ℕ} → Parts g row (s ++ (a ∷ [])) i j → (k : ℕ) × Parts g row s i k × Tree g row a k j
  parts_unsnoc s p = let z = parts_split s p in (z.0, z.1, parts_tree z.2)

  -- ---- what is read so is derived

  mutual
    -- the symbol of a tree derives the tokens that it reads
    pub tree_derives : {a i j : ℕ} → Tree g row a i j → Derives g (a ∷ []) (slice i j row)
    tree_derives (token {i = i} h e) = derives_same (sym (slice_one row i h ∙ ap (◌∷ []) e))
    tree_derives (node h l e r c p) = derives_yields (record { rule = h; is_rule = l; left_is = e; arranged = r; acceptable = c }) (parts_derives p)

    -- symbols derive the tokens that their parts read
    pub parts_derives : {s : List ℕ} {i j : ℕ} → Parts g row s i j → Derives g s (slice i j row)
    parts_derives (done {i = i} h) = derives_same (sym (slice_empty i row))
    parts_derives (part {i = i} {k = k} {j = j} x p) = part_derives row i k j (tree_span x) (parts_span p) (tree_derives x) (parts_derives p)

  -- ---- what is derived is read so

  -- a step backwards: the parts of the right side become one node
  pub step_parts : {s t : List ℕ} {i j : ℕ} → Step g s t → Parts g row t i j → Parts g row s i j
  step_parts x p =
      let y = x.yields in
      let b = parts_split x.before (rw x.next_is at p) in
      let c = parts_split x.sequence b.2 in
      rw x.whole_is (parts_join b.1 (part (node y.rule y.is_rule y.left_is y.arranged y.acceptable c.1) c.2))

  -- what derives symbols whose parts read the row between two places has parts that do
  pub parts_back : {s t : List ℕ} {i j : ℕ} → Derives g s t → Parts g row t i j → Parts g row s i j
  parts_back none p = p
  parts_back (more x d) p = step_parts x (parts_back d p)

  no_tokens : (i j : ℕ) → i + 0 ≡ j → j ≤ length row → Parts g row (slice i j row) i j
  no_tokens i j e h = let z : i ≡ j = omega arith in rw (z, slice_empty j row) (done {i = j} h)

  one_more : (i j n : ℕ) → i + suc n ≡ j → j ≤ length row → Parts g row (slice (suc i) j row) (suc i) j → Parts g row (slice i j row) i j
  one_more i j n e h p = rw (slice-cons i j row 0 (omega arith) h) (part (token {i = i} (omega arith) refl) p)

  tokens_from : (n i j : ℕ) → i + n ≡ j → j ≤ length row → Parts g row (slice i j row) i j
  tokens_from zero i j e h = no_tokens i j e h
  tokens_from (suc n) i j e h = one_more i j n e h (tokens_from n (suc i) j (omega arith) h)

  -- tokens read as themselves
  pub tokens_parts : (i j : ℕ) → i ≤ j → j ≤ length row → Parts g row (slice i j row) i j
  tokens_parts i j h l = tokens_from (j - i) i j (omega arith) l

  -- symbols that derive the tokens between two places have parts that read them
  pub derives_parts : (s : List ℕ) (i j : ℕ) → i ≤ j → j ≤ length row → Derives g s (slice i j row) → Parts g row s i j
  derives_parts s i j h l d = parts_back d (tokens_parts i j h l)

  -- and one symbol that derives them has a tree
  pub derives_tree : (a i j : ℕ) → i ≤ j → j ≤ length row → Derives g (a ∷ []) (slice i j row) → Tree g row a i j
  derives_tree a i j h l d = parts_tree (derives_parts (a ∷ []) i j h l d)
