-- Writing the lines of a tree: every row that has a tree has valid lines.
-- Assumes nothing.
use mathlib.Core.Path.{◌≡◌, refl, ◌∙◌, ap}
use mathlib.Core.Logic.{◌⊎◌, inl, inr}
use mathlib.Core.List.{List, [], ◌∷◌, ◌++◌}
use Prim.Native.Nat.{ℕ, zero, suc, ◌-◌, ◌*◌, ◌≤◌, ◌<◌, max}
use native.Mathlib.Omega.{arith}
use native.Mathlib.Decide.{dec_lt}
use lib.ListN.{length, get_or}
use Rattle.paper.specs.Multiset.{Arrangement}
use Rattle.paper.specs.Grammar.{Grammar, IsGrammar, IsRow, rule_count, left, members}
use Rattle.paper.specs.Derivation.{Acceptable}
use Rattle.paper.specs.Tree.{Tree, Parts}
use Rattle.paper.specs.Lines.{line_size, line_count, line_from, line_to, line_symbol, Joins, Valid}
use Rattle.paper.proofs.Trees.{parts_span}
use Rattle.paper.proofs.LineNumbers.{Extends, extends_refl, extends_append, extends_trans, kept, line_of, reads_back}
use Rattle.paper.proofs.LineTable.{Table, HasLine, Used, has_line_kept, has_line_before, used_kept, find_line, add_line}

-- How a tree is written: if a line of its symbol and span is in the table, nothing is added. Else its parts are written from left to right, and behind
-- them one line for the tree. If that symbol and span came with the parts, then a lower tree has them, and that one is written instead; so the line of
-- the tree is always the last, and every other new line is used.

-- how many rules stand below one another
abbrev mutual
  height : {g : Grammar} {row : List ℕ} {a i j : ℕ} → Tree g row a i j → ℕ
  height (Tree.token b e) = 0
  height (Tree.node h b e arranged acceptable parts) = suc (heights parts)

  heights : {g : Grammar} {row : List ℕ} {s : List ℕ} {i j : ℕ} → Parts g row s i j → ℕ
  heights (Parts.done b) = 0
  heights (Parts.part tree parts) = max (height tree) (heights parts)

-- a tree of height f at the most
record LowTree (g : Grammar) (row : List ℕ) (f a i j : ℕ) : Type 0 where
  tree : Tree g row a i j
  low : height tree ≤ f

-- n lines have grown to so many, each new one for a tree of height f at the most
record Growth (g : Grammar) (row : List ℕ) (f : ℕ) (before : List ℕ) (n : ℕ) (after : List ℕ) (count : ℕ) : Type 0 where
  more : n ≤ count
  extends : Extends before after
  table : Table g row after count
  trees : (k : ℕ) → n ≤ k → k < count → LowTree g row f (line_symbol g after k) (line_from after k) (line_to after k)

-- nothing is added
no_growth : {g : Grammar} {row ns : List ℕ} {n f : ℕ} → Table g row ns n → Growth g row f ns n ns n
no_growth {ns = ns} t = grind (arith, extends_refl)

growth_higher : {g : Grammar} {row before after : List ℕ} {n count f : ℕ} → Growth g row f before n after count → Growth g row (suc f) before n after count
growth_higher w = grind arith

-- one growth after another
growth_then : {g : Grammar} {row ns ms ls : List ℕ} {n m l f : ℕ} → Growth g row f ns n ms m → Growth g row f ms m ls l → Growth g row f ns n ls l
growth_then {g} {row} {ns} {ms} {ls} {n} {m} {l} {f} v w =
    let b = v.more in
    let c = w.more in
    record { more = omega arith; extends = extends_trans v.extends w.extends; table = w.table; trees = λ k p q. go k p q (dec_lt k m) }
  where
    go : (k : ℕ) → n ≤ k → k < l → Dec (k < m) → LowTree g row f (line_symbol g ls k) (line_from ls k) (line_to ls k)
    go k p q (yes r) = let same = kept w.extends m k v.table.whole r in rw (same.rule, same.from, same.to) (v.trees k p r)
    go k p q (no r) = w.trees k (omega arith) q

-- What a slot may hold for a part of symbol a over i to j: 0 for a token, or one more than the number of a line.
data Held (g : Grammar) (row ns : List ℕ) (n : ℕ) : ℕ → ℕ → ℕ → ℕ → Type 0 where
  token : {a i : ℕ} → i < length row → get_or row i 0 ≡ a → Held g row ns n 0 a i (suc i)
  line : {a i j : ℕ} (h : HasLine g ns n a i j) → Held g row ns n (suc h.line) a i j

-- a slot holds on when more is appended
held_kept : {g : Grammar} {row before after : List ℕ} {n m slot a i j : ℕ} → Table g row before n → Extends before after → n ≤ m → Held g row before n slot a i j
    → Held g row after m slot a i j
unfolding has_line_kept
held_kept t d b (Held.token h e) = Held.token h e
held_kept {m = m} t d b (Held.line h) = Held.line (has_line_kept m t d b h)

-- a slot in front of slots that join
held_joins : {g : Grammar} {row ns : List ℕ} {n slot a i k j : ℕ} {slots s : List ℕ} → Held g row ns n slot a i k → Joins g row ns n slots k j s
    → Joins g row ns n (slot ∷ slots) i j (a ∷ s)
held_joins (Held.token h e) rest = Joins.token h e rest
held_joins (Held.line h) rest = Joins.part h.line h.below h.from_is h.to_is h.symbol_is rest

-- A tree of symbol a over i to j has been written behind n lines. Of the new lines the last is the tree's, and the others are used.
record Written (g : Grammar) (row : List ℕ) (f : ℕ) (ns : List ℕ) (n a i j : ℕ) : Type 0 where
  after : List ℕ
  count : ℕ
  growth : Growth g row f ns n after count
  slot : ℕ
  held : Held g row after count slot a i j
  last : n < count → slot ≡ count
  used : (k : ℕ) → n ≤ k → suc k < count → Used after count k

-- one of the slots is line k's
record Named (slots : List ℕ) (k : ℕ) : Type 0 where
  place : ℕ
  below : place < length slots
  names : get_or slots place 0 ≡ suc k

-- A row of parts has been written behind n lines. Each new line is used, or is that of one of the parts.
record PartsWritten (g : Grammar) (row : List ℕ) (f : ℕ) (ns : List ℕ) (n : ℕ) (s : List ℕ) (i j : ℕ) : Type 0 where
  after : List ℕ
  count : ℕ
  growth : Growth g row f ns n after count
  slots : List ℕ
  joins : Joins g row after count slots i j s
  used : (k : ℕ) → n ≤ k → k < count → Used after count k ⊎ Named slots k

-- every tree of height f at the most can be written behind any table
abbrev Writes : Grammar → List ℕ → ℕ → Type 0
Writes g row f = (ns : List ℕ) (n : ℕ) → Table g row ns n → (a i j : ℕ) (t : Tree g row a i j) → height t ≤ f → Written g row f ns n a i j

-- nothing is written: the slot was there
unwritten : {g : Grammar} {row ns : List ℕ} {f n slot a i j : ℕ} → Table g row ns n → Held g row ns n slot a i j → Written g row f ns n a i j
unwritten {ns = ns} {n = n} {slot = slot} t h = record {
  after = ns;
  count = n;
  growth = no_growth t;
  slot = slot;
  held = h;
  last = λ b. absurd (omega arith);
  used = λ k b c. absurd (omega arith);
}

-- a slot in front moves the others by one place
shifted : {slots : List ℕ} {k : ℕ} (slot : ℕ) → Named slots k → Named (slot ∷ slots) k
shifted slot x = record { place = suc x.place; below = let b = x.below in omega arith; names = x.names }

-- A part and then the parts behind it.
part_then : {g : Grammar} {row ns : List ℕ} {f n a i m j : ℕ} {s : List ℕ} → IsGrammar g → (w : Written g row f ns n a i m)
    → PartsWritten g row f w.after w.count s m j → PartsWritten g row f ns n (a ∷ s) i j
part_then {n = n} is w v = record {
  after = v.after;
  count = v.count;
  growth = growth_then w.growth v.growth;
  slots = w.slot ∷ v.slots;
  joins = held_joins (held_kept w.growth.table v.growth.extends v.growth.more w.held) v.joins;
  used = λ k b c. front k b c (dec_lt k w.count) (dec_lt (suc k) w.count);
}
  where
    behind : (k : ℕ) → Used v.after v.count k ⊎ Named v.slots k → Used v.after v.count k ⊎ Named (w.slot ∷ v.slots) k
    behind k (inl u) = inl u
    behind k (inr x) = inr (shifted w.slot x)

    front : (k : ℕ) → n ≤ k → k < v.count → Dec (k < w.count) → Dec (suc k < w.count) → Used v.after v.count k ⊎ Named (w.slot ∷ v.slots) k
    front k b c (no p) q = behind k (v.used k (omega arith) c)
    front k b c (yes p) (yes q) = inl (used_kept v.count is w.growth.table v.growth.extends v.growth.more (w.used k b q))
    front k b c (yes p) (no q) = inr (record { place = 0; below = omega arith; names = let e = w.last (omega arith) in omega arith })

-- no parts, no slots
no_parts : {g : Grammar} {row ns : List ℕ} {f n i : ℕ} → Table g row ns n → PartsWritten g row f ns n [] i i
no_parts {ns = ns} {n = n} t =
    record { after = ns; count = n; growth = no_growth t; slots = []; joins = Joins.end; used = λ k b c. absurd (omega arith) }

-- A row of parts can be written if each part can.
write_parts : {g : Grammar} {row : List ℕ} {f i j : ℕ} {s : List ℕ} → IsGrammar g → Writes g row f → (parts : Parts g row s i j) → heights parts ≤ f
    → (ns : List ℕ) (n : ℕ) → Table g row ns n → PartsWritten g row f ns n s i j
write_parts is writes (Parts.done b) low ns n t = no_parts t
write_parts is writes (Parts.part {a = a} {i = i} {k = m} tree parts) low ns n t =
    let w = writes ns n t a i m tree (omega arith) in
    part_then is w (write_parts is writes parts (omega arith) w.after w.count w.growth.table)

-- one line has been written behind a table, for this tree
growth_line : {g : Grammar} {row ns : List ℕ} {f n : ℕ} (h i j : ℕ) (slots : List ℕ) → Table g row ns n → Table g row (ns ++ line_of h i j slots) (suc n)
    → LowTree g row f (left g h) i j → Growth g row f ns n (ns ++ line_of h i j slots) (suc n)
growth_line {g} {row} {ns} {f} {n} h i j slots t u tree = grind (arith, reads_back)

-- the line behind the lines of its parts uses them
used_behind : {n k : ℕ} (ns : List ℕ) (h i j : ℕ) (slots : List ℕ) → length ns ≡ line_size * n → k < n → Named slots k → Used (ns ++ line_of h i j slots) (suc n) k
used_behind {n} ns h i j slots l b x =
    let back = reads_back ns n h i j slots l in
    record {
      by = n;
      behind = b;
      below = omega arith;
      uses = record { slot = x.place; is_part = rw back.parts_are x.below; names = back.slot x.place x.below ∙ x.names };
    }

-- The line of a tree is written behind the lines of its parts.
line_behind : {g : Grammar} {row ns : List ℕ} {f n i j : ℕ} {s : List ℕ} (h : ℕ) → IsGrammar g → h < rule_count g → Arrangement s (members g h)
    → Acceptable g s → (parts : Parts g row s i j) → heights parts ≤ f → (v : PartsWritten g row f ns n s i j) → (HasLine g v.after v.count (left g h) i j → ⊥)
    → Written g row (suc f) ns n (left g h) i j
line_behind {g} {row} {ns} {f} {n} {i} {j} {s} h is b arranged acceptable parts low v none =
    let span = parts_span parts in
    let t = v.growth.table in
    let u = add_line h is t b span.0 span.1 v.joins arranged acceptable none in
    let back = reads_back v.after v.count h i j v.slots t.whole in
    record {
      after = v.after ++ line_of h i j v.slots;
      count = suc v.count;
      growth = growth_then (growth_higher v.growth)
          (growth_line h i j v.slots t u (record { tree = Tree.node h b refl arranged acceptable parts; low = omega arith }));
      slot = suc v.count;
      held = Held.line (record { line = v.count; below = omega arith; symbol_is = ap (left g) back.rule_is; from_is = back.from_is; to_is = back.to_is });
      last = λ c. refl;
      used = λ k c d. each k (omega arith) (v.used k c (omega arith));
    }
  where
    each : (k : ℕ) → k < v.count → Used v.after v.count k ⊎ Named v.slots k → Used (v.after ++ line_of h i j v.slots) (suc v.count) k
    each k c (inl u) = used_kept (suc v.count) is v.growth.table (extends_append v.after (line_of h i j v.slots)) (omega arith) u
    each k c (inr x) = used_behind v.after h i j v.slots v.growth.table.whole c x

-- If a line of this symbol and span has come with the growth, then there is a low tree of them.
brought : {g : Grammar} {row ns after : List ℕ} {f n count a i j : ℕ} → Table g row ns n → (HasLine g ns n a i j → ⊥) → Growth g row f ns n after count
    → HasLine g after count a i j → LowTree g row f a i j
brought {g} {row} {f = f} {n = n} {a = a} {i = i} {j = j} t none w l = go (dec_lt l.line n)
  where
    go : Dec (l.line < n) → LowTree g row f a i j
    go (yes b) = absurd (none (has_line_before t w.extends l b))
    go (no b) = rw (l.symbol_is, l.from_is, l.to_is) at (w.trees l.line (omega arith) l.below)

written_higher : {g : Grammar} {row ns : List ℕ} {f n a i j : ℕ} → Written g row f ns n a i j → Written g row (suc f) ns n a i j
written_higher w = grind arith

-- A tree can be written if all lower trees can.
write_node : {g : Grammar} {row : List ℕ} {f i j : ℕ} {s : List ℕ} (h : ℕ) → IsGrammar g → Writes g row f → h < rule_count g → Arrangement s (members g h)
    → Acceptable g s → (parts : Parts g row s i j) → heights parts ≤ f → (ns : List ℕ) (n : ℕ) → Table g row ns n → Written g row (suc f) ns n (left g h) i j
write_node {g} {row} {f} {i} {j} {s} h is writes b arranged acceptable parts low ns n t = there (find_line g ns (left g h) i j n)
  where
    came : (HasLine g ns n (left g h) i j → ⊥) → (v : PartsWritten g row f ns n s i j) → Dec (HasLine g v.after v.count (left g h) i j)
        → Written g row (suc f) ns n (left g h) i j
    came none v (yes l) = let x = brought t none v.growth l in written_higher (writes ns n t (left g h) i j x.tree x.low)
    came none v (no fresh) = line_behind h is b arranged acceptable parts low v fresh

    there : Dec (HasLine g ns n (left g h) i j) → Written g row (suc f) ns n (left g h) i j
    there (yes l) = unwritten t (Held.line l)
    there (no none) = let v = write_parts is writes parts low ns n t in came none v (find_line g v.after (left g h) i j v.count)

-- one more rule above
write_step : {g : Grammar} {row : List ℕ} {f : ℕ} → IsGrammar g → Writes g row f → Writes g row (suc f)
write_step is writes ns n t a i j (Tree.token b e) low = unwritten t (Held.token b e)
write_step is writes ns n t a i j (Tree.node h b e arranged acceptable parts) low = grind (arith, write_node)

-- a tree of height 0 is a token, and needs no line
write_token : {g : Grammar} {row : List ℕ} → Writes g row 0
write_token ns n t a i j (Tree.token b e) low = unwritten t (Held.token b e)
write_token ns n t a i j (Tree.node h b e arranged acceptable parts) low = absurd (omega arith)

-- Every tree can be written behind any table.
write : {g : Grammar} {row : List ℕ} → IsGrammar g → (f : ℕ) → Writes g row f
write is zero = write_token
write is (suc f) = write_step is (write is f)

-- no token is a nonterminal, so a nonterminal is held by a line
held_line : {g : Grammar} {row ns : List ℕ} {n slot a i j : ℕ} → IsRow g row → g.terminals ≤ a → Held g row ns n slot a i j
    → (l : HasLine g ns n a i j) × (slot ≡ suc l.line)
held_line tokens b (Held.token {i = i} h e) = grind arith
held_line tokens b (Held.line l) = (l, refl)

-- The start symbol written over the whole row into the empty table gives valid lines.
valid : {g : Grammar} {row : List ℕ} {f : ℕ} → IsGrammar g → IsRow g row → (w : Written g row f [] 0 g.start 0 (length row)) → Valid g row w.after
valid {g} {row} {f} is tokens w =
    let l = held_line tokens is.start_is.above w.held in
    let t = w.growth.table in
    let b = l.0.below in
    let last = w.last (omega arith) in
    let whole = t.whole in
    let same = l.1 in
    let count_is : line_count w.after ≡ w.count = omega arith in
    let top_is : line_count w.after - 1 ≡ l.0.line = omega arith in
    record {
      whole_lines = omega arith;
      each = λ k c. t.right k (rw count_is at c);
      whole = record {
        some_line = omega arith;
        top = rw top_is l.0.symbol_is;
        top_from = rw top_is l.0.from_is;
        top_to = rw top_is l.0.to_is;
        used = λ k c. let u = w.used k (omega arith) (omega arith) in let below = u.below in (u.by, u.behind, omega arith, u.uses);
      };
    }

-- the table to begin with
empty_table : {g : Grammar} {row : List ℕ} → Table g row [] 0
empty_table = grind arith

-- Every row that has a tree has valid lines.
pub lines_exist : {g : Grammar} {row : List ℕ} → IsGrammar g → IsRow g row → Tree g row g.start 0 (length row) → (ns : List ℕ) × Valid g row ns
lines_exist {g} {row} is tokens tree =
    let w = write is (height tree) [] 0 empty_table g.start 0 (length row) tree (omega arith) in
    (w.after, valid is tokens w)
