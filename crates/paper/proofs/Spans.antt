-- How many lines there can be: valid lines are at most 3nN, and at most N if the row is empty.
-- Over one row the lines have at most 2n-1 spans with tokens and n+1 without, and no two share left symbol and span.
-- Assumes nothing.
use mathlib.Core.Path.{◌≡◌, refl, sym, ◌∙◌, ap, subst₂}
use mathlib.Core.Logic.{◌⊎◌, inl, inr}
use mathlib.Core.Bool.{Bool, true, false}
use mathlib.Core.List.Memᴰ
use mathlib.Core.List.{List, [], ◌∷◌, ◌++◌, map, Memᴰ}
use Prim.Native.Nat.{ℕ, zero, suc, ◌+◌, ◌-◌, ◌*◌, max, ◌≤◌, ◌<◌}
use native.Mathlib.Omega.{arith}
use native.Mathlib.Nat.{mul-le-mul_left}
use lib.Dec.{eqb, ltb}
use lib.ListN.{length, get_or, length-append, length-map}
use lib.Seq.{get_or-take, get_or-drop}
use borrow.Author.Tests.{eqb-true, eqb-false, ltb-true, ltb-false}
use Rattle.paper.specs.Grammar.{Grammar, IsGrammar}
use Rattle.paper.specs.Price.{lines_bound}
use Rattle.paper.specs.Lines.{line_count, line_from, line_to, part_slots, line_symbol, Joins, LineRight, Uses, Valid}
use Rattle.paper.proofs.Lists.{Distinct, pigeonhole}
use Rattle.paper.proofs.Lines.{earlier_first}

-- from one place to another
record Span : Type 0 where
  from : ℕ
  to : ℕ

abbrev span : ℕ → ℕ → Span
span i j = record { from = i; to = j }

-- the span of line k
abbrev line_span : List ℕ → ℕ → Span
line_span ns k = span (line_from ns k) (line_to ns k)

-- How many spans with tokens there are under one span from i to j: none if it is empty, at most 2(j-i)-1 if it is among them,
-- and one fewer, so that there is room to add it, if it is not known to be.
data Few (spans : List Span) (i j : ℕ) : Type 0 where
  empty : i ≡ j → length spans ≡ 0 → Few spans i j
  full : length spans + (i + i) + 1 ≤ j + j → Memᴰ (span i j) spans → Few spans i j
  spare : length spans + (i + i) + 2 ≤ j + j → Few spans i j

-- two parts that join
few_append : {s t : List Span} {i m j : ℕ} → Few s i m → Few t m j → Few (s ++ t) i j
few_append {s} {t} (Few.empty e z) (Few.empty e' z') = Few.empty (e ∙ e') (omega (arith, length-append s t))
few_append {s} {t} (Few.empty e z) (Few.full l at) = Few.full (omega (arith, length-append s t)) (rw e (Memᴰ.append_right s at))
few_append {s} {t} (Few.empty e z) (Few.spare l) = Few.spare (omega (arith, length-append s t))
few_append {s} {t} (Few.full l at) (Few.empty e z) = Few.full (omega (arith, length-append s t)) (rw (← e) (Memᴰ.append_left t at))
few_append {s} {t} (Few.full l at) (Few.full l' at') = Few.spare (omega (arith, length-append s t))
few_append {s} {t} (Few.full l at) (Few.spare l') = Few.spare (omega (arith, length-append s t))
few_append {s} {t} (Few.spare l) (Few.empty e z) = Few.spare (omega (arith, length-append s t))
few_append {s} {t} (Few.spare l) (Few.full l' at') = Few.spare (omega (arith, length-append s t))
few_append {s} {t} (Few.spare l) (Few.spare l') = Few.spare (omega (arith, length-append s t))

-- a token has no line under it
few_token : (i : ℕ) → Few [] i (suc i)
few_token i = Few.spare (omega arith)

-- line k is line i, or a part of it, or of a part of it, and so on
data Under (ns : List ℕ) : ℕ → ℕ → Type 0 where
  itself : {k : ℕ} → Under ns k k
  below : {i m k : ℕ} → Uses ns i m → Under ns m k → Under ns i k

under_used : {ns : List ℕ} {i m k : ℕ} → Under ns i m → Uses ns m k → Under ns i k
under_used itself u = below u itself
under_used (below v r) u = below v (under_used r u)

-- the spans with tokens of all lines under these slots
record Covers (ns slots : List ℕ) (i j : ℕ) : Type 0 where
  spans : List Span
  few : Few spans i j
  all : (m k : ℕ) → Memᴰ (suc m) slots → Under ns m k → line_from ns k < line_to ns k → Memᴰ (line_span ns k) spans

covers_none : (ns : List ℕ) (i : ℕ) → Covers ns [] i i
covers_none ns i = grind arith

covers_token : (ns : List ℕ) (i : ℕ) → Covers ns (0 ∷ []) i (suc i)
covers_token ns i = record { spans = []; few = few_token i; all = λ m k at. absurd (no_line m at) }
  where
    no_line : (m : ℕ) → Memᴰ (suc m) (0 ∷ []) → ⊥
    no_line m (Memᴰ.head e) = omega arith
    no_line m (Memᴰ.tail at) = Memᴰ.not-nil at

covers_append : {ns s t : List ℕ} {i m j : ℕ} → Covers ns s i m → Covers ns t m j → Covers ns (s ++ t) i j
covers_append {ns} {s} {t} c d =
    record {
      spans = c.spans ++ d.spans;
      few = few_append c.few d.few;
      all = λ m k at under tokens. choose m k under tokens (Memᴰ.append_cases s at);
    }
  where
    choose : (m k : ℕ) → Under ns m k → line_from ns k < line_to ns k → Memᴰ (suc m) s ⊎ Memᴰ (suc m) t → Memᴰ (line_span ns k) (c.spans ++ d.spans)
    choose m k under tokens (inl at) = Memᴰ.append_left d.spans (c.all m k at under tokens)
    choose m k under tokens (inr at) = Memᴰ.append_right c.spans (d.all m k at under tokens)

-- slots that join are covered, if each earlier line is
joins_cover : {g : Grammar} {row ns : List ℕ} {k : ℕ} {slots s : List ℕ} {i j : ℕ} → ((earlier : ℕ) → earlier < k → Covers ns (suc earlier ∷ []) (line_from ns earlier) (line_to ns earlier))
    → Joins g row ns k slots i j s → Covers ns slots i j
joins_cover {ns = ns} {i = i} covers Joins.end = covers_none ns i
joins_cover {ns = ns} {i = i} covers (Joins.token h e joins) = covers_append (covers_token ns i) (joins_cover covers joins)
joins_cover {ns = ns} covers (Joins.part earlier h from to symbol joins) =
    covers_append (subst₂ (Covers ns (suc earlier ∷ [])) from to (covers earlier h)) (joins_cover covers joins)

-- the spans, and the span that is over them all
record Topped (spans : List Span) (i j : ℕ) : Type 0 where
  wider : List Span
  few : Few wider i j
  kept : (x : Span) → Memᴰ x spans → Memᴰ x wider
  top : i < j → Memᴰ (span i j) wider

-- it is among them already, or there is room for it
topped : {spans : List Span} {i j : ℕ} → Few spans i j → Topped spans i j
topped {spans} (Few.empty e z) = grind arith
topped {spans} (Few.full l at) = grind arith
topped {spans} {i} {j} (Few.spare l) =
    record {
      wider = span i j ∷ spans;
      few = Few.full (omega arith) (Memᴰ.head refl);
      kept = λ x at. Memᴰ.tail at;
      top = λ h. Memᴰ.head refl;
    }

-- a number other than 0 that is read from a list stands in it
get_or_mem : (s : List ℕ) (x m : ℕ) → get_or s x 0 ≡ suc m → Memᴰ (suc m) s
get_or_mem [] x m e = absurd (omega arith)
get_or_mem (a ∷ s) zero m e = Memᴰ.head (sym e)
get_or_mem (a ∷ s) (suc x) m e = Memᴰ.tail (get_or_mem s x m e)

-- a part of a line stands in a slot of it
uses_slot : {ns : List ℕ} {k m : ℕ} → Uses ns k m → Memᴰ (suc m) (part_slots ns k)
uses_slot {ns} {k} {m} u = grind (arith, get_or_mem, get_or-take, get_or-drop)

-- a line is covered if its slots are
covers_line : {ns : List ℕ} (k : ℕ) → Covers ns (part_slots ns k) (line_from ns k) (line_to ns k) → Covers ns (suc k ∷ []) (line_from ns k) (line_to ns k)
covers_line {ns} k c =
    record { spans = t.wider; few = t.few; all = λ m q at under tokens. found m q (same (Memᴰ.eq_of_singleton at)) under tokens }
  where
    t : Topped c.spans (line_from ns k) (line_to ns k)
    t = topped c.few

    same : {m : ℕ} → suc m ≡ suc k → m ≡ k
    same e = omega arith

    found : (m q : ℕ) → m ≡ k → Under ns m q → line_from ns q < line_to ns q → Memᴰ (line_span ns q) t.wider
    found m q e itself tokens = Memᴰ.cast (ap (line_span ns) e) (t.top (rw e at tokens))
    found m q e (below {m = x} u under) tokens = t.kept (line_span ns q) (c.all x q (uses_slot (rw e at u)) under tokens)

-- the lines of a tree: every line that is right, with all before it, is covered
line_cover : {g : Grammar} {row ns : List ℕ} (k : ℕ) → ((i : ℕ) → i ≤ k → LineRight g row ns i) → Covers ns (suc k ∷ []) (line_from ns k) (line_to ns k)
line_cover {ns = ns} k right =
    earlier_first {P = λ m. m ≤ k → Covers ns (suc m ∷ []) (line_from ns m) (line_to ns m)}
    (λ m covers h. covers_line m (joins_cover (λ earlier e. covers earlier e (omega arith)) (right m h).joins)) k (omega arith)

-- every line is under the last, for each is used by a later one; `far` bounds how far it is from the last
under_last : {g : Grammar} {row ns : List ℕ} → Valid g row ns → (far k : ℕ) → k < line_count ns → line_count ns ≤ suc k + far → Under ns (line_count ns - 1) k
under_last {ns = ns} valid zero k h near = let e : line_count ns - 1 ≡ k = omega arith in rw e itself
under_last {ns = ns} valid (suc far) k h near = go (ltb (suc k) (line_count ns)) refl (under_last valid far)
  where
    go : (t : Bool) → ltb (suc k) (line_count ns) ≡ t → ((i : ℕ) → i < line_count ns → line_count ns ≤ suc i + far → Under ns (line_count ns - 1) i)
        → Under ns (line_count ns - 1) k
    go true e later = let u = valid.whole.used k (ltb-true (suc k) (line_count ns) e) in under_used (later u.0 u.2 (omega (arith, u.1))) u.3
    go false e later = let z : line_count ns - 1 ≡ k = omega (arith, ltb-false (suc k) (line_count ns) e) in rw z itself

-- a left symbol and a span
record Node : Type 0 where
  symbol : ℕ
  over : Span

abbrev node : ℕ → Span → Node
node a x = record { symbol = a; over = x }

abbrev line_node : Grammar → List ℕ → ℕ → Node
line_node g ns k = node (line_symbol g ns k) (line_span ns k)

-- the nodes of the first k lines, the last of them first
nodes_below : Grammar → List ℕ → ℕ → List Node
nodes_below g ns zero = []
nodes_below g ns (suc k) = line_node g ns k ∷ nodes_below g ns k

length_nodes_below : (g : Grammar) (ns : List ℕ) (k : ℕ) → length (nodes_below g ns k) ≡ k
unfolding nodes_below
length_nodes_below g ns zero = refl
length_nodes_below g ns (suc k) = ap suc (length_nodes_below g ns k)

-- such a node is that of a line
node_line : (g : Grammar) (ns : List ℕ) (k : ℕ) {x : Node} → Memᴰ x (nodes_below g ns k) → (i : ℕ) × (i < k) × (x ≡ line_node g ns i)
unfolding nodes_below
node_line g ns zero at = absurd (Memᴰ.not-nil at)
node_line g ns (suc k) (Memᴰ.head e) = (k, omega arith, e)
node_line g ns (suc k) (Memᴰ.tail at) = let r = node_line g ns k at in (r.0, omega (arith, r.1), r.2)

-- no two lines share left symbol and span
nodes_once : {g : Grammar} {row ns : List ℕ} (k : ℕ) → ((i : ℕ) → i < k → LineRight g row ns i) → Distinct (nodes_below g ns k)
unfolding nodes_below
nodes_once zero right = tt
nodes_once {g} {row} {ns} (suc k) right = (λ at. new (node_line g ns k at), nodes_once k (λ i h. right i (omega arith)))
  where
    new : (i : ℕ) × (i < k) × (line_node g ns k ≡ line_node g ns i) → ⊥
    new r = (right k (omega arith)).unshared r.0 r.1 (ap (λ x. x.symbol) (sym r.2)) (ap (λ x. x.over.from) (sym r.2)) (ap (λ x. x.over.to) (sym r.2))

-- the empty spans at places 0 to n
empty_spans : ℕ → List Span
empty_spans zero = span 0 0 ∷ []
empty_spans (suc n) = span (suc n) (suc n) ∷ empty_spans n

length_empty_spans : (n : ℕ) → length (empty_spans n) ≡ suc n
unfolding empty_spans
length_empty_spans zero = refl
length_empty_spans (suc n) = ap suc (length_empty_spans n)

empty_spans_all : (n i : ℕ) → i ≤ n → Memᴰ (span i i) (empty_spans n)
unfolding empty_spans
empty_spans_all zero i h = Memᴰ.head (let e : i ≡ 0 = omega arith in ap (λ p. span p p) e)
empty_spans_all (suc n) i h = go (eqb i (suc n)) refl (empty_spans_all n i)
  where
    go : (t : Bool) → eqb i (suc n) ≡ t → (i ≤ n → Memᴰ (span i i) (empty_spans n)) → Memᴰ (span i i) (empty_spans (suc n))
    go true e ih = Memᴰ.head (ap (λ p. span p p) (eqb-true i (suc n) e))
    go false e ih = Memᴰ.tail (ih (let ne : ¬ (i ≡ suc n) = eqb-false i (suc n) e in omega arith))

-- the nodes of so many symbols, from the given one on, over these spans
nodes_over : ℕ → ℕ → List Span → List Node
nodes_over first zero spans = []
nodes_over first (suc more) spans = map (node (first + more)) spans ++ nodes_over first more spans

length_nodes_over : (first many : ℕ) (spans : List Span) → length (nodes_over first many spans) ≡ many * length spans
unfolding nodes_over
length_nodes_over first zero spans = omega arith
length_nodes_over first (suc more) spans = grind (arith, length-append, length-map, length_nodes_over first more spans)

nodes_over_all : (first many a : ℕ) (spans : List Span) {x : Span} → first ≤ a → a < first + many → Memᴰ x spans → Memᴰ (node a x) (nodes_over first many spans)
unfolding nodes_over
nodes_over_all first zero a spans low high at = absurd (omega arith)
nodes_over_all first (suc more) a spans {x} low high at = go (eqb a (first + more)) refl (λ h. nodes_over_all first more a spans low h at)
  where
    go : (t : Bool) → eqb a (first + more) ≡ t → (a < first + more → Memᴰ (node a x) (nodes_over first more spans)) → Memᴰ (node a x) (nodes_over first (suc more) spans)
    go true e ih = Memᴰ.append_left (nodes_over first more spans) (Memᴰ.cast (ap (λ b. node b x) (eqb-true a (first + more) e)) (Memᴰ.map (node (first + more)) at))
    go false e ih = Memᴰ.append_right (map (node (first + more)) spans) (ih (let ne : ¬ (a ≡ first + more) = eqb-false a (first + more) e in omega arith))

-- spans enough for all lines of a row of n tokens
record LineSpans (ns : List ℕ) (n : ℕ) : Type 0 where
  spans : List Span
  few : length spans ≤ max 1 (3 * n)
  all : (k : ℕ) → k < line_count ns → Memᴰ (line_span ns k) spans

-- with the empty spans there are 3n, or one if there is no token
few_length : {spans : List Span} {n : ℕ} → Few spans 0 n → length spans + suc n ≤ max 1 (3 * n)
few_length (Few.empty e z) = omega arith
few_length (Few.full l at) = omega arith
few_length (Few.spare l) = omega arith

valid_spans : {g : Grammar} {row ns : List ℕ} → Valid g row ns → LineSpans ns (length row)
valid_spans {g} {row} {ns} valid =
    record {
      spans = c.spans ++ empty_spans (length row);
      few = omega (arith, few_length c.few, length-append c.spans (empty_spans (length row)), length_empty_spans (length row));
      all = λ k h. go k h (ltb (line_from ns k) (line_to ns k)) refl;
    }
  where
    c : Covers ns (suc (line_count ns - 1) ∷ []) 0 (length row)
    c =
        subst₂ (Covers ns (suc (line_count ns - 1) ∷ [])) valid.whole.top_from valid.whole.top_to
        (line_cover (line_count ns - 1) (λ i h. valid.each i (omega (arith, valid.whole.some_line))))

    go : (k : ℕ) → k < line_count ns → (t : Bool) → ltb (line_from ns k) (line_to ns k) ≡ t → Memᴰ (line_span ns k) (c.spans ++ empty_spans (length row))
    go k h true e =
        Memᴰ.append_left (empty_spans (length row))
        (c.all (line_count ns - 1) k (Memᴰ.head refl) (under_last valid (line_count ns) k h (omega arith)) (ltb-true (line_from ns k) (line_to ns k) e))
    go k h false e =
        let right = valid.each k h in
        let same : line_from ns k ≡ line_to ns k = omega (arith, right.span, ltb-false (line_from ns k) (line_to ns k) e) in
        Memᴰ.append_right c.spans (Memᴰ.cast (ap (λ p. span p (line_to ns k)) same) (empty_spans_all (length row) (line_to ns k) right.within))

-- N times the number of spans is the bound L
within_bound : (g : Grammar) (n k : ℕ) → k ≤ g.nonterminals * max 1 (3 * n) → k ≤ lines_bound g n
unfolding lines_bound
within_bound g n k h = grind arith

-- valid lines are no more than the bound L
pub valid_bound : {g : Grammar} {row ns : List ℕ} → IsGrammar g → Valid g row ns → line_count ns ≤ lines_bound g (length row)
valid_bound {g} {row} {ns} is valid = within_bound g (length row) (line_count ns) bound
  where
    s : LineSpans ns (length row)
    s = valid_spans valid

    inside : (x : Node) → Memᴰ x (nodes_below g ns (line_count ns)) → Memᴰ x (nodes_over g.terminals g.nonterminals s.spans)
    inside x at =
        let r = node_line g ns (line_count ns) at in
        let left = is.left_is _ (valid.each r.0 r.1).rule_is in
        Memᴰ.cast r.2 (nodes_over_all g.terminals g.nonterminals (line_symbol g ns r.0) s.spans left.above left.below (s.all r.0 r.1))

    bound : line_count ns ≤ g.nonterminals * max 1 (3 * length row)
    bound =
        omega (
          arith,
          length_nodes_below g ns (line_count ns),
          pigeonhole (nodes_below g ns (line_count ns)) (nodes_over g.terminals g.nonterminals s.spans) (nodes_once (line_count ns) valid.each) inside,
          length_nodes_over g.terminals g.nonterminals s.spans,
          mul-le-mul_left g.nonterminals s.few,
        )
