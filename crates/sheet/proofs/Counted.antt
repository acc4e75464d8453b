-- The loops that count: what is counted once some rules, entries or lists are done, and at the end.
-- Assumes nothing.
use Rattle.std.proofs.Common.{IsTrue, ◌&&◌, ◌≡◌, ◌≢◌, ◌↔◌, ℕ, ◌+◌, ◌-◌, ◌*◌, ◌/◌, ◌%◌, ◌^◌, ◌≤◌, ◌<◌, Bool, true, false, eqb, List, length, get_or, set, replicate, Option, Some, None, subst, bit_and, get_or-set_other, get_or-set_same, refl, sym, ap, ◌∙◌, arith}
use Rattle.std.specs.Option.{MatchOption, is_some}
use Rattle.std.proofs.lemmas.Bool.{ne_eqb}
use borrow.Author.Tests.{eq-eqb}
use Rattle.std.proofs.Math.ListN.{length-set, length-replicate}
use native.Mathlib.Decide.{ℕ_discrete}
use Rattle.paper.specs.Bits.{bit_at}
use Rattle.paper.specs.Multiset.{bit}
use Rattle.paper.specs.Grammar.{Grammar, IsGrammar, IsNonterminal, left, members}
use Rattle.paper.specs.Image.{grammar_of}
use Rattle.paper.specs.Entry.{Entry, may_take, finished}
use Rattle.paper.specs.Sheet.{is_top, tops, rest_of, sum, many, sum_below, list_at}
use Rattle.paper.specs.Building.{sheet_of}
use Rattle.paper.specs.Demands.{IsFit}
use Rattle.paper.proofs.Bits.{clear_other, and_set}
use Rattle.paper.proofs.Multiset.{bit_le}
use Rattle.paper.proofs.Sums.{many_le}
use Rattle.tables.specs.Machine.{IsByte, may_be_taken, Leaves}
use Rattle.sheet.specs.Counting.{completed_by, rules_with, predictions_of, predict_at, waiting_at, ends, ended_at, complete_at, scan_at, steps_at}
use Rattle.sheet.specs.Growing.{IsListOf}
use Rattle.tables.specs.Masks.{entry_with}
use Rattle.tables.proofs.Masks.{finished_byte}
use Rattle.sheet.proofs.Listed.{Says}
use Rattle.sheet.proofs.Places.{zeros}
use Rattle.sheet.proofs.Growth.{entry_at, list_length}
use Rattle.sheet.proofs.Tally.{below_next, below_at_most}
use Rattle.sheet.proofs.Counting.{list_few, list_sum, predictions_few, rules_in, rules_none, rules_one, rules_taken}

-- ---- the rules of each symbol of a set

-- The rules of the symbols before are counted; those in the set are still to be.
pub record IsPredicted (g : Grammar) (h m set steps : ℕ) : Type 0 where
  pub total : steps + rules_in g set ≡ predictions_of g (rest_of (members g h) m)
  pub nonterminals : (x : ℕ) → bit_at x set ≡ 1 → IsNonterminal g x

pub predicted_first : (g : Grammar) (h m taken nonterminals : ℕ) → IsGrammar g → ((x : ℕ) → (bit_at x taken ≡ 1) ↔ (may_be_taken g h m x ≡ true))
    → ((x : ℕ) → (bit_at x nonterminals ≡ 1) ↔ IsNonterminal g x) → IsPredicted g h m (bit_and taken nonterminals) 0
predicted_first g h m taken nonterminals is may are = record {
  total = omega (arith, rules_taken g is (rest_of (members g h) m) taken nonterminals may are);
  nonterminals = λ x b. (are x).0 ((and_set x taken nonterminals).0 b).1;
}

module _ {g : Grammar} {h m set steps : ℕ} (v : IsPredicted g h m set steps) where
  pub predicted_more : (x : ℕ) → bit_at x set ≡ 1 → IsPredicted g h m (set - 2 ^ x) (steps + rules_with g x)
  predicted_more x is = record { total = omega (arith, v.total, rules_one g set x is); nonterminals = λ y b. v.nonterminals y (go y (ℕ_discrete y x) b) }
    where
      go : (y : ℕ) → Dec (y ≡ x) → bit_at y (set - 2 ^ x) ≡ 1 → bit_at y set ≡ 1
      go y (yes e) b = rw e is
      go y (no ne) b = sym (clear_other x y set is ne) ∙ b

  pub predicted_few : IsGrammar g → (x : ℕ) → bit_at x set ≡ 1 → steps + rules_with g x ≤ 96
  predicted_few is x b = omega (arith, v.total, rules_one g set x b, predictions_few g is (rest_of (members g h) m))

  pub predicted_last : set ≡ 0 → steps ≡ predictions_of g (rest_of (members g h) m)
  predicted_last e = let t = rw e at v.total in omega (arith, t, rules_none g)

-- s is what is counted over the first n entries of list j, where f says what each counts for
pub record Tallied (grammar : Grammar) (row : List ℕ) (j : ℕ) (f : Entry → ℕ) (n s : ℕ) : Type 0 where
  pub is : s ≡ sum_below n (λ k. f (entry_at grammar row j k))

pub tally_first : {grammar : Grammar} {row : List ℕ} {j : ℕ} {f : Entry → ℕ} → Tallied grammar row j f 0 0
unfolding sum_below
tally_first = record { is = refl }

module _ {image row : List ℕ} {j n h o m : ℕ} {f : Entry → ℕ} (says : Says image row j n h o m) {s : ℕ} (v : Tallied (grammar_of image) row j f n s) where
  pub tally_more : (r : ℕ) → r ≡ f (entry_with (grammar_of image) h o m) → Tallied (grammar_of image) row j f (n + 1) (s + r)
  tally_more r e = record {
    is = sym (below_next n (λ k. f (entry_at (grammar_of image) row j k)) ∙ (ap (λ a. a + f (entry_at (grammar_of image) row j n)) (sym v.is) ∙ ap (λ a. s + a) (ap f says.entry_is ∙ sym e)));
  }

  pub tally_none : f (entry_with (grammar_of image) h o m) ≡ 0 → Tallied (grammar_of image) row j f (n + 1) s
  tally_none e = record { is = let t = (tally_more 0 (sym e)).is in omega arith }

-- it is few if each counts for few
pub tally_few : {grammar : Grammar} {row : List ℕ} {j n s : ℕ} {f : Entry → ℕ} → Tallied grammar row j f n s → (c : ℕ) → ((e : Entry) → f e ≤ c) → s ≤ n * c
tally_few {grammar} {row} {j} {n} {f = f} v c h = omega (arith, v.is, below_at_most c n (λ k. f (entry_at grammar row j k)) (λ k l. h (entry_at grammar row j k)))

pub tally_last : {grammar : Grammar} {row cells : List ℕ} {j n s : ℕ} {f : Entry → ℕ} → IsListOf grammar row j cells → n ≡ length cells → Tallied grammar row j f n s
    → s ≡ sum f (list_at (sheet_of grammar row) j)
tally_last {f = f} is e v = v.is ∙ list_sum is e f

-- what an entry counts for: its predict steps; 1 if it waits for x, is finished with the number c, or is a top
abbrev pub predicts : Grammar → Entry → ℕ
predicts grammar e = predictions_of grammar e.rest

abbrev pub waits : Grammar → ℕ → Entry → ℕ
waits grammar x e = bit (may_take grammar x e.rest)

abbrev pub ended : Grammar → ℕ → Entry → ℕ
ended grammar c e = bit (ends grammar c e)

abbrev pub topped : Grammar → Entry → ℕ
topped grammar e = bit (is_top grammar e)

pub predict_last : {grammar : Grammar} {row cells : List ℕ} {j n s : ℕ} → IsListOf grammar row j cells → n ≡ length cells → Tallied grammar row j (predicts grammar) n s
    → s ≡ predict_at grammar row j
unfolding predict_at
predict_last is e v = tally_last is e v

pub predict_small : {image row cells : List ℕ} {j n s r : ℕ} (rest : List ℕ) → IsFit image row → IsListOf (grammar_of image) row j cells → n ≤ length cells
    → Tallied (grammar_of image) row j (predicts (grammar_of image)) n s → r ≡ predictions_of (grammar_of image) rest → s + r ≤ 6442451040
predict_small {image} {row} {j = j} rest fit is l v e =
    omega (arith, tally_few v 96 (λ e. predictions_few (grammar_of image) fit.is_grammar e.rest), predictions_few (grammar_of image) fit.is_grammar rest, list_few fit j, list_length is)

-- ---- who waits

pub waiting_last : {grammar : Grammar} {row cells : List ℕ} {i n s : ℕ} (x : ℕ) → IsListOf grammar row i cells → n ≡ length cells → Tallied grammar row i (waits grammar x) n s
    → s ≡ waiting_at grammar row i x
unfolding waiting_at
waiting_last x is e v = tally_last is e v

pub waiting_small : {grammar : Grammar} {row : List ℕ} {i n s : ℕ} (x : ℕ) → Tallied grammar row i (waits grammar x) n s → s ≤ n
waiting_small {grammar} x v = omega (arith, tally_few v 1 (λ e. bit_le (may_take grammar x e.rest)))

-- what taking answers says whether the symbol may be taken
pub taken_is : (grammar : Grammar) (h m x : ℕ) (o : Option ℕ) {b : Bool} → MatchOption o (may_be_taken grammar h m x ≡ false) (Leaves grammar h x m) → b ≡ is_some o
    → may_be_taken grammar h m x ≡ b
taken_is grammar h m x None k e = k ∙ sym e
taken_is grammar h m x (Some n) k e = k.may ∙ sym e

-- an entry with a byte that is not 0 is not finished
unfinished : (grammar : Grammar) (h o : ℕ) {m : ℕ} → IsByte grammar h m → m ≢ 0 → finished (entry_with grammar h o m) ≡ false
unfinished grammar h o {m} p ne = go (finished (entry_with grammar h o m)) (finished_byte grammar h o p).0
  where
    go : (b : Bool) → (b ≡ true → m ≡ 0) → b ≡ false
    go true e = absurd (ne (e refl))
    go false e = refl

-- ---- the finished entries by their numbers

-- The counts are those of the first n entries of list j.
pub record IsEnding (grammar : Grammar) (row : List ℕ) (j i n : ℕ) (counts : List ℕ) : Type 0 where
  pub long : length counts ≡ 64
  pub are : (x : ℕ) → x < 64 → Tallied grammar row j (ended grammar (64 * i + x)) n (get_or counts x 0)

pub ending_first : (grammar : Grammar) (row : List ℕ) (j i : ℕ) → IsEnding grammar row j i 0 (replicate 64 0)
ending_first grammar row j i =
    record { long = length-replicate {A = ℕ} 64 0; are = λ x l. subst (Tallied grammar row j (ended grammar (64 * i + x)) 0) (sym (zeros 64 x)) tally_first }

module _ {image row : List ℕ} (fit : IsFit image row) {j n h o m : ℕ} (among : j ≤ length row) (says : Says image row j n h o m) where
  pub symbol_small : left (grammar_of image) h < 64
  symbol_small =
      let is = fit.is_grammar.left_is h says.is_rule in
      omega (arith, is.below, fit.is_grammar.few_symbols)

  module _ {i : ℕ} {counts : List ℕ} (v : IsEnding (grammar_of image) row j i n counts) where
    -- a finished entry of origin i
    pub ending_more : (a : ℕ) → m ≡ 0 → o ≡ i → a ≡ left (grammar_of image) h → IsEnding (grammar_of image) row j i (n + 1) (set counts a (get_or counts a 0 + 1))
    unfolding ends
    ending_more a z f e = record { long = length-set counts a (get_or counts a 0 + 1) ∙ v.long; are = λ c l. go c l (ℕ_discrete c a) }
      where
        small : a < 64
        small = omega (arith, symbol_small)

        done : finished (entry_with (grammar_of image) h o m) ≡ true
        done = (finished_byte (grammar_of image) h o says.byte).1 z

        this : eqb (64 * o + left (grammar_of image) h) (64 * i + a) ≡ true
        this = eq-eqb (64 * o + left (grammar_of image) h) (64 * i + a) (omega arith)

        here : Tallied (grammar_of image) row j (ended (grammar_of image) (64 * i + a)) (n + 1) (get_or (set counts a (get_or counts a 0 + 1)) a 0)
        here =
            subst (Tallied (grammar_of image) row j (ended (grammar_of image) (64 * i + a)) (n + 1)) (sym (get_or-set_same counts a (get_or counts a 0 + 1) 0 (omega (arith, v.long, small))))
            (tally_more says (v.are a small) 1 (rw (done, this) refl))

        go : (c : ℕ) → c < 64 → Dec (c ≡ a) → Tallied (grammar_of image) row j (ended (grammar_of image) (64 * i + c)) (n + 1) (get_or (set counts a (get_or counts a 0 + 1)) c 0)
        go c l (yes g) = subst (λ c. Tallied (grammar_of image) row j (ended (grammar_of image) (64 * i + c)) (n + 1) (get_or (set counts a (get_or counts a 0 + 1)) c 0)) (sym g) here
        go c l (no ne) =
            let other : eqb (64 * o + left (grammar_of image) h) (64 * i + c) ≡ false = ne_eqb (64 * o + left (grammar_of image) h) (64 * i + c) (λ g. ne (omega arith)) in
            subst (Tallied (grammar_of image) row j (ended (grammar_of image) (64 * i + c)) (n + 1)) (sym (get_or-set_other counts a c (get_or counts a 0 + 1) 0 ne))
            (tally_none says (v.are c l) (rw (done, other) refl))

    -- one that is not finished
    pub ending_past : m ≢ 0 → IsEnding (grammar_of image) row j i (n + 1) counts
    unfolding ends
    ending_past ne = record { long = v.long; are = λ c l. tally_none says (v.are c l) (rw (unfinished (grammar_of image) h o says.byte ne) refl) }

    -- one of another origin
    pub ending_other : o ≢ i → IsEnding (grammar_of image) row j i (n + 1) counts
    unfolding ends
    ending_other ne = record { long = v.long; are = λ c l. tally_none says (v.are c l) (other c l) }
      where
        both : (b : Bool) {t : Bool} → t ≡ false → bit (b && t) ≡ 0
        both true e = rw e refl
        both false e = refl

        other : (c : ℕ) → c < 64 → ended (grammar_of image) (64 * i + c) (entry_with (grammar_of image) h o m) ≡ 0
        other c l =
            let unlike : eqb (64 * o + left (grammar_of image) h) (64 * i + c) ≡ false = ne_eqb (64 * o + left (grammar_of image) h) (64 * i + c) (λ g. ne (omega (arith, symbol_small))) in
            both (finished (entry_with (grammar_of image) h o m)) unlike

    -- one that is not both
    pub ending_not : ((m ≡ 0) × (o ≡ i) → ⊥) → IsEnding (grammar_of image) row j i (n + 1) counts
    ending_not ne = go (ℕ_discrete m 0)
      where
        go : Dec (m ≡ 0) → IsEnding (grammar_of image) row j i (n + 1) counts
        go (yes z) = ending_other (λ f. ne (z, f))
        go (no z) = ending_past z

-- what a test tells
pub test_true : {b : Bool} {P : Type 0} → IsTrue b ↔ P → b ≡ true → P
test_true t e = t.0 e

pub test_false : {b : Bool} {P : Type 0} → IsTrue b ↔ P → b ≡ false → P → ⊥
test_false t e p = let q = t.1 p in cc

pub ending_few : {image row cells : List ℕ} {j i n : ℕ} {counts : List ℕ} → IsFit image row → IsListOf (grammar_of image) row j cells → n ≤ length cells → IsEnding (grammar_of image) row j i n counts
    → (x : ℕ) → x < 64 → get_or counts x 0 < 67108864
ending_few {image} {row} {j = j} {i = i} fit is k v x l = omega (arith, tally_few (v.are x l) 1 (λ e. bit_le (ends (grammar_of image) (64 * i + x) e)), list_few fit j, list_length is)

pub ending_last : {grammar : Grammar} {row cells : List ℕ} {j i n : ℕ} {counts : List ℕ} → IsListOf grammar row j cells → n ≡ length cells → IsEnding grammar row j i n counts
    → (x : ℕ) → x < 64 → get_or counts x 0 ≡ ended_at grammar row j (64 * i + x)
unfolding ended_at
ending_last is e v x l = tally_last is e (v.are x l)

-- ---- the tops

pub tops_last : {grammar : Grammar} {row cells : List ℕ} {j n s : ℕ} → j ≡ length row → IsListOf grammar row j cells → n ≡ length cells → Tallied grammar row j (topped grammar) n s
    → s ≡ tops grammar row (sheet_of grammar row)
unfolding tops
tops_last {grammar} {row} z is e v = tally_last is e v ∙ ap (λ j. many (is_top grammar) (list_at (sheet_of grammar row) j)) z

pub tops_small : {grammar : Grammar} {row : List ℕ} {j n s : ℕ} → Tallied grammar row j (topped grammar) n s → s ≤ n
tops_small {grammar} v = omega (arith, tally_few v 1 (λ e. bit_le (is_top grammar e)))

module _ {image row : List ℕ} {j n h o m : ℕ} (says : Says image row j n h o m) {s : ℕ} (v : Tallied (grammar_of image) row j (topped (grammar_of image)) n s) where
  pub tops_more : m ≡ 0 → o ≡ 0 → eqb (left (grammar_of image) h) (grammar_of image).start ≡ true → Tallied (grammar_of image) row j (topped (grammar_of image)) (n + 1) (s + 1)
  unfolding is_top
  tops_more z y e = tally_more says v 1 (rw ((finished_byte (grammar_of image) h o says.byte).1 z, eq-eqb o 0 y, e) refl)

  pub tops_unfinished : m ≢ 0 → Tallied (grammar_of image) row j (topped (grammar_of image)) (n + 1) s
  unfolding is_top
  tops_unfinished ne = tally_none says v (rw (unfinished (grammar_of image) h o says.byte ne) refl)

  pub tops_later : m ≡ 0 → o ≢ 0 → Tallied (grammar_of image) row j (topped (grammar_of image)) (n + 1) s
  unfolding is_top
  tops_later z ne = tally_none says v (rw ((finished_byte (grammar_of image) h o says.byte).1 z, ne_eqb o 0 ne) refl)

  pub tops_other : m ≡ 0 → o ≡ 0 → eqb (left (grammar_of image) h) (grammar_of image).start ≡ false → Tallied (grammar_of image) row j (topped (grammar_of image)) (n + 1) s
  unfolding is_top
  tops_other z y e = tally_none says v (rw ((finished_byte (grammar_of image) h o says.byte).1 z, eq-eqb o 0 y, e) refl)

-- ---- the complete steps

pub completed_none : (grammar : Grammar) (row : List ℕ) (j : ℕ) → 0 ≡ sum_below 0 (completed_by grammar row j)
unfolding sum_below
completed_none grammar row j = refl

pub completed_more : (grammar : Grammar) (row : List ℕ) (j i x s : ℕ) {a w : ℕ} → x < 64
    → sum_below (64 * i) (completed_by grammar row j) + s ≡ sum_below (64 * i + x) (completed_by grammar row j)
    → a ≡ ended_at grammar row j (64 * i + x) → w ≡ waiting_at grammar row i x
    → sum_below (64 * i) (completed_by grammar row j) + (s + a * w) ≡ sum_below (64 * i + (x + 1)) (completed_by grammar row j)
completed_more grammar row j i x s {a} {w} l d e f =
    let place : (64 * i + x) / 64 ≡ i = omega arith in
    let symbol : (64 * i + x) % 64 ≡ x = omega arith in
    let here : completed_by grammar row j (64 * i + x) ≡ a * w = rw (place, symbol, e, f) in
    let next : 64 * i + (x + 1) ≡ 64 * i + x + 1 = omega arith in
    rw next (omega (arith, d, here, below_next (64 * i + x) (completed_by grammar row j)))

pub completed_past : (grammar : Grammar) (row : List ℕ) (j i x s : ℕ) {a : ℕ} → x < 64
    → sum_below (64 * i) (completed_by grammar row j) + s ≡ sum_below (64 * i + x) (completed_by grammar row j)
    → a ≡ ended_at grammar row j (64 * i + x) → a ≡ 0
    → sum_below (64 * i) (completed_by grammar row j) + s ≡ sum_below (64 * i + (x + 1)) (completed_by grammar row j)
completed_past grammar row j i x s {a} l d e z =
    let nothing : a * waiting_at grammar row i x ≡ 0 = rw z (omega arith) in
    let more = completed_more grammar row j i x s l d e refl in
    omega (arith, more, nothing)

-- ---- the steps of one list and of all

pub steps_next : (grammar : Grammar) (row : List ℕ) (j a : ℕ) {s r : ℕ} → s ≡ a + sum_below j (steps_at grammar row) → r ≡ steps_at grammar row j
    → s + r ≡ a + sum_below (j + 1) (steps_at grammar row)
steps_next grammar row j a d e = omega (arith, d, e, below_next j (steps_at grammar row))

pub steps_none : (grammar : Grammar) (row : List ℕ) → sum_below 0 (steps_at grammar row) ≡ 0
unfolding sum_below
steps_none grammar row = refl

pub rules_few : (grammar : Grammar) → IsGrammar grammar → (x : ℕ) → rules_with grammar x ≤ 96
unfolding rules_with
rules_few grammar is x = omega (arith, many_le (λ r. eqb r.left x) grammar.rules, is.few_rules)

pub steps_sum : (grammar : Grammar) (row : List ℕ) (j : ℕ) → steps_at grammar row j ≡ predict_at grammar row j + complete_at grammar row j + scan_at grammar row j
unfolding steps_at
steps_sum grammar row j = refl
