-- Shieber, theorem 7, over trees: the steps find an entry exactly if it stands (S3).
-- Assumes nothing.
use mathlib.Core.Path.{◌≡◌, refl, sym, ◌∙◌, ap}
use mathlib.Core.Bool.{true}
use mathlib.Core.List.{List, [], ◌∷◌, ◌++◌, append-nil, append_assoc}
use Prim.Native.Nat.{ℕ, suc, ◌≤◌, ◌<◌}
use native.Mathlib.Omega.{arith}
use lib.ListN.{length, get_or}
use borrow.Author.Tests.{eqb-true}
use Rattle.std.proofs.lemmas.List.{nil_from_length}
use Rattle.paper.specs.Multiset.{Arrangement, without, minus}
use Rattle.paper.specs.Grammar.{Grammar, rule_count, left, members, StrictPartialOrder}
use Rattle.paper.specs.Derivation.{Acceptable}
use Rattle.paper.specs.Tree.{Tree, token, node, Parts, done, part, Sought, top, below}
use Rattle.paper.specs.Entry.{Entry, may_take, fresh, taking, finished, Found, start, scan, predict, complete}
use Rattle.paper.proofs.Multiset.{minus_snoc, arranged_refl, arranged_sym, arranged_trans, arranged_append, arranged_cons, arranged_nil}
use Rattle.paper.proofs.Trees.{parts_snoc}
use Rattle.paper.proofs.Machine.{acceptable_front, acceptable_back, acceptable_exchange, arranged_acceptable, head_taken, taken_arranged, taken_acceptable, may_take_all, all_taken_head, all_taken_tail, front_taken, arranged_minus}

-- an entry stands on list j, with a tree for each found member and for what its left symbol is looked for in
pub record StandsByTrees (g : Grammar) (row : List ℕ) (j : ℕ) (e : Entry) : Type 0 where
  pub is_rule : e.rule < rule_count g
  pub origin_le : e.origin ≤ j
  pub list_le : j ≤ length row
  pub found : List ℕ
  pub ahead : List ℕ
  pub rest_is : e.rest ≡ minus (members g e.rule) found
  pub found_are : Arrangement (found ++ e.rest) (members g e.rule)
  pub ahead_is : Arrangement ahead e.rest
  pub acceptable : Acceptable g (found ++ ahead)
  pub parts : Parts g row found e.origin j
  pub sought : Sought g row (left g e.rule) e.origin

-- ## Finished entries

pub finished_rest : (e : Entry) → finished e ≡ true → e.rest ≡ []
unfolding finished
finished_rest e h = nil_from_length e.rest (eqb-true (length e.rest) 0 h)

pub rest_finished : (e : Entry) → e.rest ≡ [] → finished e ≡ true
unfolding finished
rest_finished e h = cc

-- ## What the steps find stands

-- the entry with nothing found stands where its left symbol is looked for
fresh_stands : {g : Grammar} {row : List ℕ} {j : ℕ} → StrictPartialOrder g.precedes → (h : ℕ) → h < rule_count g → j ≤ length row
    → Sought g row (left g h) j → StandsByTrees g row j (fresh g h j)
unfolding minus
fresh_stands {g} {j = j} o h p q s =
    let z : j ≤ j = omega arith in
    let (t, k, f) = arranged_acceptable o (members g h) in
    record {
      is_rule = p;
      origin_le = z;
      list_le = q;
      found = [];
      ahead = t;
      rest_is = refl;
      found_are = arranged_refl (members g h);
      ahead_is = k;
      acceptable = f;
      parts = done q;
      sought = s;
    }

-- with a, which may be taken, in front of some arrangement of what is then left, the sequence is still acceptable
record Takes (g : Grammar) (a : ℕ) (e : Entry) (found : List ℕ) : Type 0 where
  ahead : List ℕ
  ahead_is : Arrangement ahead (without a e.rest)
  arranged : Arrangement (found ++ (a ∷ ahead)) (members g e.rule)
  acceptable : Acceptable g (found ++ (a ∷ ahead))

takes : {g : Grammar} {row : List ℕ} {j : ℕ} {e : Entry} → StrictPartialOrder g.precedes → (a : ℕ) (s : StandsByTrees g row j e)
    → may_take g a e.rest ≡ true → Takes g a e s.found
takes {g} {e = e} o a s m =
    let (t, k, f) = arranged_acceptable o (without a e.rest) in
    let r = taken_arranged g a e.rest m k in
    record {
      ahead = t;
      ahead_is = k;
      arranged = arranged_trans (arranged_append (arranged_refl s.found) r) s.found_are;
      acceptable = acceptable_exchange s.found s.ahead s.acceptable (arranged_trans r (arranged_sym s.ahead_is)) (taken_acceptable g a e.rest m k f);
    }

-- an entry from which a may be taken, with a tree of a from its list on: with a found too it stands where the tree ends
taking_stands : {g : Grammar} {row : List ℕ} {k j a : ℕ} {e : Entry} → StrictPartialOrder g.precedes → StandsByTrees g row k e
    → may_take g a e.rest ≡ true → Tree g row a k j → k ≤ j → j ≤ length row → StandsByTrees g row j (taking a e)
taking_stands {g} {a = a} {e = e} o s m t p q =
    let r = takes o a s m in
    record {
      is_rule = s.is_rule;
      origin_le = omega arith;
      list_le = q;
      found = s.found ++ (a ∷ []);
      ahead = r.ahead;
      rest_is = ap (without a) s.rest_is ∙ sym (minus_snoc (members g e.rule) s.found a);
      found_are = rw (append_assoc s.found (a ∷ []) (without a e.rest))
          (arranged_trans (arranged_append (arranged_refl s.found) (arranged_cons a (arranged_sym r.ahead_is))) r.arranged);
      ahead_is = r.ahead_is;
      acceptable = rw (append_assoc s.found (a ∷ []) r.ahead) r.acceptable;
      parts = parts_snoc s.parts t;
      sought = s.sought;
    }

-- a symbol that may be taken from an entry is looked for where the entry stands
sought_below : {g : Grammar} {row : List ℕ} {j a : ℕ} {e : Entry} → StrictPartialOrder g.precedes → StandsByTrees g row j e
    → may_take g a e.rest ≡ true → Sought g row a j
sought_below {a = a} {e = e} o s m =
    let r = takes o a s m in
    below e.rule s.found r.ahead s.is_rule s.sought r.arranged r.acceptable s.parts

-- a finished entry is a tree
pub finished_tree : {g : Grammar} {row : List ℕ} {j : ℕ} {e : Entry} → StandsByTrees g row j e → e.rest ≡ [] → Tree g row (left g e.rule) e.origin j
finished_tree {g} {e = e} s z =
    let k : Arrangement (s.found ++ []) (members g e.rule) = rw z at s.found_are in
    node e.rule s.is_rule refl (rw (append-nil s.found) at k) (acceptable_front s.found s.ahead s.acceptable) s.parts

-- Each kind of step leads from entries that stand to an entry that stands.
started : {g : Grammar} {row : List ℕ} → StrictPartialOrder g.precedes → (h : ℕ) → h < rule_count g → left g h ≡ g.start → StandsByTrees g row 0 (fresh g h 0)
started {g} {row} o h p q = let s : Sought g row (left g h) 0 = rw q top in fresh_stands o h p (omega arith) s

scanned : {g : Grammar} {row : List ℕ} {j : ℕ} {e : Entry} → StrictPartialOrder g.precedes → StandsByTrees g row j e → j < length row
    → may_take g (get_or row j 0) e.rest ≡ true → StandsByTrees g row (suc j) (taking (get_or row j 0) e)
scanned o s p m = taking_stands o s m (token p refl) (omega arith) (omega arith)

predicted : {g : Grammar} {row : List ℕ} {j : ℕ} {e : Entry} → StrictPartialOrder g.precedes → (h : ℕ) → StandsByTrees g row j e → h < rule_count g
    → may_take g (left g h) e.rest ≡ true → StandsByTrees g row j (fresh g h j)
predicted o h s p m = fresh_stands o h p s.list_le (sought_below o s m)

completed : {g : Grammar} {row : List ℕ} {j : ℕ} {e f : Entry} → StrictPartialOrder g.precedes → StandsByTrees g row f.origin e → StandsByTrees g row j f
    → finished f ≡ true → may_take g (left g f.rule) e.rest ≡ true → StandsByTrees g row j (taking (left g f.rule) e)
completed {f = f} o s t z m = taking_stands o s m (finished_tree t (finished_rest f z)) t.origin_le t.list_le

-- Shieber, theorem 7, one way: what the steps find stands
pub found_stands : {g : Grammar} {row : List ℕ} {j : ℕ} {e : Entry} → StrictPartialOrder g.precedes → Found g row j e → StandsByTrees g row j e
found_stands o (start h p q) = started o h p q
found_stands o (scan f p m) = scanned o (found_stands o f) p m
found_stands o (predict h f p m) = predicted o h (found_stands o f) p m
found_stands o (complete f k z m) = completed o (found_stands o f) (found_stands o k) z m

-- ## What stands, the steps find

-- the entry with the symbols of s found too
abbrev pub taking_all : List ℕ → Entry → Entry
taking_all s e = record { rule = e.rule; origin = e.origin; rest = minus e.rest s }

all_nil : {g : Grammar} {row : List ℕ} {j : ℕ} {e : Entry} → Found g row j e → Found g row j (taking_all [] e)
unfolding minus
all_nil f = f

all_cons : {g : Grammar} {row : List ℕ} {j : ℕ} (a : ℕ) (s : List ℕ) (e : Entry) → Found g row j (taking_all s (taking a e)) → Found g row j (taking_all (a ∷ s) e)
unfolding minus
all_cons a s e f = f

token_found : {g : Grammar} {row : List ℕ} {a k : ℕ} (e : Entry) → k < length row → get_or row k 0 ≡ a → Found g row k e → may_take g a e.rest ≡ true
    → Found g row (suc k) (taking a e)
token_found {g} {row} {a} {k} e p q f m = rw q at (scan f p (rw q m))

-- a whole sequence of the members may be taken in turn
whole_taken : {g : Grammar} {s : List ℕ} → StrictPartialOrder g.precedes → (h : ℕ) → Arrangement s (members g h) → Acceptable g s → may_take_all g s (members g h) ≡ true
whole_taken {g} {s} o h k f = front_taken o s [] (rw (append-nil s) k) (rw (append-nil s) f)

-- and then nothing is left
whole_finished : (g : Grammar) {s : List ℕ} (h i : ℕ) → Arrangement s (members g h) → finished (taking_all s (fresh g h i)) ≡ true
whole_finished g {s} h i k =
    rest_finished (taking_all s (fresh g h i)) (arranged_nil (minus (members g h) s) (arranged_sym (arranged_minus s [] (rw (append-nil s) k))))

node_predicted : {g : Grammar} {row : List ℕ} {a k : ℕ} (h : ℕ) {e : Entry} → h < rule_count g → left g h ≡ a → Found g row k e → may_take g a e.rest ≡ true → Found g row k (fresh g h k)
node_predicted h p q f m = predict h f p (rw q m)

node_found : {g : Grammar} {row s : List ℕ} {a k j : ℕ} (h : ℕ) (e : Entry) → left g h ≡ a → Arrangement s (members g h)
    → Found g row k e → may_take g a e.rest ≡ true → Found g row j (taking_all s (fresh g h k)) → Found g row j (taking a e)
node_found {g} {k = k} h e q r f m n = rw q at (complete f n (whole_finished g h k r) (rw q m))

-- An entry from which a may be taken, and a tree of a from its list on: the entry with a found too is found where the tree ends.
-- The same for a sequence whose symbols may be taken in turn.
mutual
  pub tree_found : {g : Grammar} {row : List ℕ} {a k j : ℕ} → Tree g row a k j → StrictPartialOrder g.precedes → (e : Entry) → Found g row k e
      → may_take g a e.rest ≡ true → Found g row j (taking a e)
  tree_found (token p q) o e f m = token_found e p q f m
  tree_found {g} {k = k} (node h p q r c ps) o e f m =
      node_found h e q r f m (parts_found ps o (fresh g h k) (node_predicted h p q f m) (whole_taken o h r c))

  pub parts_found : {g : Grammar} {row s : List ℕ} {k j : ℕ} → Parts g row s k j → StrictPartialOrder g.precedes → (e : Entry) → Found g row k e
      → may_take_all g s e.rest ≡ true → Found g row j (taking_all s e)
  parts_found (done p) o e f m = all_nil f
  parts_found {g} (part {a = a} {s = s} t ps) o e f m =
      all_cons a s e (parts_found ps o (taking a e) (tree_found t o e f (all_taken_head g a s e.rest m)) (all_taken_tail g a s e.rest m))

-- a rule found with nothing taken, and the front of an acceptable arrangement of its members read: what comes next is predicted
sought_predicts : {g : Grammar} {row : List ℕ} {a k : ℕ} → StrictPartialOrder g.precedes → (n : ℕ) {i : ℕ} (s t : List ℕ) → Arrangement (s ++ (a ∷ t)) (members g n)
    → Acceptable g (s ++ (a ∷ t)) → Parts g row s i k → Found g row i (fresh g n i) → (h : ℕ) → h < rule_count g → left g h ≡ a → Found g row k (fresh g h k)
sought_predicts {g} {a = a} o n {i} s t r c ps f h p q =
    predict h (parts_found ps o (fresh g n i) f (front_taken o s (a ∷ t) r c)) p (rw q (head_taken o (arranged_minus s (a ∷ t) r) (acceptable_back s (a ∷ t) c)))

-- a symbol that is looked for is predicted: each of its rules is found there, with nothing taken
pub sought_found : {g : Grammar} {row : List ℕ} {a i : ℕ} → StrictPartialOrder g.precedes → Sought g row a i → (h : ℕ) → h < rule_count g → left g h ≡ a
    → Found g row i (fresh g h i)
sought_found o top h p q = start h p q
sought_found o (below n s t b u r c ps) h p q = sought_predicts o n s t r c ps (sought_found o u n b refl) h p q

-- an entry is its rule, its origin and its rest
same_rest : {g : Grammar} {row : List ℕ} {j : ℕ} (e : Entry) {s : List ℕ} → e.rest ≡ s → Found g row j (record { rule = e.rule; origin = e.origin; rest = s }) → Found g row j e
same_rest {g} {row} {j} e z f = grind arith

-- Shieber, theorem 7, the other way: what stands, the steps find
pub stands_found : {g : Grammar} {row : List ℕ} {j : ℕ} {e : Entry} → StrictPartialOrder g.precedes → StandsByTrees g row j e → Found g row j e
stands_found {g} {row} {j} {e} o s =
    let r : Arrangement (s.found ++ s.ahead) (members g e.rule) = arranged_trans (arranged_append (arranged_refl s.found) s.ahead_is) s.found_are in
    let f : Found g row e.origin (fresh g e.rule e.origin) = sought_found o s.sought e.rule s.is_rule refl in
    same_rest e s.rest_is (parts_found s.parts o (fresh g e.rule e.origin) f (front_taken o s.found s.ahead r s.acceptable))
