-- Tables of right lines: nothing in them changes when more is appended, lines can be looked up, and a right line can be added.
-- Assumes nothing.
use mathlib.Core.Path.{◌≡◌, refl, sym, ◌∙◌, ap}
use mathlib.Core.List.{List, ◌++◌}
use Prim.Native.Nat.{ℕ, zero, suc, ◌*◌, ◌≤◌, ◌<◌}
use native.Mathlib.Omega.{arith}
use native.Mathlib.Decide.{ℕ_discrete, dec_lt}
use lib.ListN.{length, length-append}
use Rattle.paper.specs.Multiset.{Arrangement}
use Rattle.paper.specs.Grammar.{Grammar, IsGrammar, rule_count, left, members}
use Rattle.paper.specs.Derivation.{Acceptable}
use Rattle.paper.specs.Lines.{line_size, line_from, line_to, line_parts, line_symbol, Joins, LineRight, Uses}
use Rattle.paper.proofs.Multiset.{arranged_length}
use Rattle.paper.proofs.LineNumbers.{Extends, extends_append, kept, line_of, line_length, reads_back}

-- n whole lines, each of them right
pub record Table (g : Grammar) (row ns : List ℕ) (n : ℕ) : Type 0 where
  pub whole : length ns ≡ line_size * n
  pub right : (k : ℕ) → k < n → LineRight g row ns k

-- one of the first n lines is of symbol a over i to j
pub record HasLine (g : Grammar) (ns : List ℕ) (n a i j : ℕ) : Type 0 where
  pub line : ℕ
  pub below : line < n
  pub symbol_is : line_symbol g ns line ≡ a
  pub from_is : line_from ns line ≡ i
  pub to_is : line_to ns line ≡ j

-- one of the first n lines, behind line k, has line k as a part
pub record Used (ns : List ℕ) (n k : ℕ) : Type 0 where
  pub by : ℕ
  pub behind : k < by
  pub below : by < n
  pub uses : Uses ns by k

-- a right line has at most eight parts
few_parts : {g : Grammar} {row ns : List ℕ} {k : ℕ} → IsGrammar g → LineRight g row ns k → line_parts ns k ≤ 8
few_parts {ns = ns} {k = k} is r = omega arith

-- each symbol has a slot
pub joins_length : {g : Grammar} {row ns : List ℕ} {k i j : ℕ} {slots s : List ℕ} → Joins g row ns k slots i j s → length slots ≡ length s
joins_length Joins.end = refl
joins_length (Joins.token b e rest) = ap suc (joins_length rest)
joins_length (Joins.part earlier b f t e rest) = ap suc (joins_length rest)

-- Slots that join go on to do so, for a later line too.
pub joins_kept : {g : Grammar} {row before after : List ℕ} {k i j : ℕ} {slots s : List ℕ} (n later : ℕ) → length before ≡ line_size * n → Extends before after → k ≤ n
    → k ≤ later → Joins g row before k slots i j s → Joins g row after later slots i j s
joins_kept n later l d b c Joins.end = Joins.end
joins_kept n later l d b c (Joins.token h e rest) = Joins.token h e (joins_kept n later l d b c rest)
joins_kept {g = g} {k = k} n later l d b c (Joins.part earlier h f t e rest) =
    let same = kept d n earlier l (omega arith) in
    Joins.part earlier (omega arith) (same.from ∙ f) (same.to ∙ t) (ap (left g) same.rule ∙ e) (joins_kept n later l d b c rest)

-- A line that is right stays right.
line_kept : {g : Grammar} {row before after : List ℕ} (n k : ℕ) → IsGrammar g → length before ≡ line_size * n → Extends before after → k < n
    → LineRight g row before k → LineRight g row after k
line_kept {g} {row} {before} {after} n k is l d h r =
    let same = kept d n k l h in
    let few = few_parts is r in
    record {
      rule_is = rw same.rule r.rule_is;
      parts_are = rw (same.parts, same.rule) r.parts_are;
      span = rw (same.from, same.to) r.span;
      within = rw same.to r.within;
      past = λ x p q. same.slot x q ∙ r.past x (rw same.parts at p) q;
      symbols = r.symbols;
      joins = rw (same.parts, same.slots (line_parts before k) few, same.from, same.to) (joins_kept n k l d (omega arith) (omega arith) r.joins);
      arranged = rw same.rule r.arranged;
      acceptable = r.acceptable;
      unshared = λ i b s f t.
          let other = kept d n i l (omega arith) in
          r.unshared i b (sym (ap (left g) other.rule) ∙ (s ∙ ap (left g) same.rule)) (sym other.from ∙ (f ∙ same.from)) (sym other.to ∙ (t ∙ same.to));
    }

-- A line that is in the table stays in it, under its number,
unfoldable pub has_line_kept : {g : Grammar} {row before after : List ℕ} {n a i j : ℕ} (m : ℕ) → Table g row before n → Extends before after → n ≤ m
    → HasLine g before n a i j → HasLine g after m a i j
has_line_kept {g} {n = n} m t d b h =
    let same = kept d n h.line t.whole h.below in
    record {
      line = h.line;
      below = omega arith;
      symbol_is = ap (left g) same.rule ∙ h.symbol_is;
      from_is = same.from ∙ h.from_is;
      to_is = same.to ∙ h.to_is;
    }

-- one that is found later under a number of the front was there before,
pub has_line_before : {g : Grammar} {row before after : List ℕ} {n m a i j : ℕ} → Table g row before n → Extends before after
    → (h : HasLine g after m a i j) → h.line < n → HasLine g before n a i j
has_line_before {g} {n = n} t d h b =
    let same = kept d n h.line t.whole b in
    record {
      line = h.line;
      below = b;
      symbol_is = sym (ap (left g) same.rule) ∙ h.symbol_is;
      from_is = sym same.from ∙ h.from_is;
      to_is = sym same.to ∙ h.to_is;
    }

-- and a line that is used stays used.
pub used_kept : {g : Grammar} {row before after : List ℕ} {n k : ℕ} (m : ℕ) → IsGrammar g → Table g row before n → Extends before after → n ≤ m
    → Used before n k → Used after m k
used_kept {n = n} m is t d b u =
    let same = kept d n u.by t.whole u.below in
    let few = few_parts is (t.right u.by u.below) in
    let v = u.uses in
    record {
      by = u.by;
      behind = u.behind;
      below = omega arith;
      uses = record { slot = v.slot; is_part = rw same.parts v.is_part; names = same.slot v.slot (omega (arith, v.is_part)) ∙ v.names };
    }

-- one line more to look at
find_step : {g : Grammar} {ns : List ℕ} {n a i j : ℕ} → Dec (HasLine g ns n a i j) → Dec (line_symbol g ns n ≡ a) → Dec (line_from ns n ≡ i) → Dec (line_to ns n ≡ j)
    → Dec (HasLine g ns (suc n) a i j)
find_step (yes h) s f t = grind arith
find_step {n = n} (no none) (yes s) (yes f) (yes t) = grind arith
find_step (no none) (no s) f t = grind arith
find_step (no none) (yes s) (no f) t = grind arith
find_step (no none) (yes s) (yes f) (no t) = grind arith

-- Is a line of symbol a over i to j among the first n?
pub find_line : (g : Grammar) (ns : List ℕ) (a i j n : ℕ) → Dec (HasLine g ns n a i j)
find_line g ns a i j zero = no (λ h. let b = h.below in omega arith)
find_line g ns a i j (suc n) = find_step (find_line g ns a i j n) (ℕ_discrete (line_symbol g ns n) a) (ℕ_discrete (line_from ns n) i) (ℕ_discrete (line_to ns n) j)

module _ {g : Grammar} {row ns : List ℕ} {n i j : ℕ} {slots s : List ℕ} (h : ℕ) (is : IsGrammar g) (table : Table g row ns n)
    (rule_is : h < rule_count g) (span : i ≤ j) (within : j ≤ length row) (joins : Joins g row ns n slots i j s)
    (arranged : Arrangement s (members g h)) (acceptable : Acceptable g s) (none : HasLine g ns n (left g h) i j → ⊥) where
  parts_are : length slots ≡ length (members g h)
  parts_are = joins_length joins ∙ arranged_length s (members g h) arranged

  -- the line is right
  new_line : LineRight g row (ns ++ line_of h i j slots) n
  new_line =
      let back = reads_back ns n h i j slots table.whole in
      let d = extends_append ns (line_of h i j slots) in
      record {
        rule_is = rw back.rule_is rule_is;
        parts_are = rw (back.parts_are, back.rule_is) parts_are;
        span = rw (back.from_is, back.to_is) span;
        within = rw back.to_is within;
        past = λ x p q. back.past x (rw back.parts_are at p) q;
        symbols = s;
        joins = rw (back.slots_are, back.from_is, back.to_is) (joins_kept n n table.whole d (omega arith) (omega arith) joins);
        arranged = rw back.rule_is arranged;
        acceptable = acceptable;
        unshared = λ k b e f t.
            let l : HasLine g (ns ++ line_of h i j slots) n (left g h) i j =
            record { line = k; below = b; symbol_is = e ∙ ap (left g) back.rule_is; from_is = f ∙ back.from_is; to_is = t ∙ back.to_is } in
            none (has_line_before table d l b);
      }

  -- and those before it stay so
  each_line : (k : ℕ) → k < suc n → Dec (k < n) → LineRight g row (ns ++ line_of h i j slots) k
  each_line k b (yes c) = line_kept n k is table.whole (extends_append ns (line_of h i j slots)) c (table.right k c)
  each_line k b (no c) = let e : k ≡ n = omega arith in rw e new_line

  -- A right line can be added to a table that has none of its symbol and span.
  pub add_line : Table g row (ns ++ line_of h i j slots) (suc n)
  add_line =
      let few = is.few_members h rule_is in
      let size = line_length h i j slots (omega (arith, parts_are)) in
      let w = table.whole in
      record { whole = omega (arith, length-append ns (line_of h i j slots)); right = λ k b. each_line k b (dec_lt k n) }
