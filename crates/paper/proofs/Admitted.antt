-- What is written of a grammar is admitted and means that grammar: the image check admits exactly such images.
-- Assumes nothing.
use mathlib.Core.Path.{◌≡◌, refl, sym, ◌∙◌, ap}
use mathlib.Core.Bool.{true, and-eq-true_iff}
use mathlib.Core.Logic.{◌↔◌}
use Rattle.std.specs.Prelude.{None}
use mathlib.Core.List.{List, [], ◌∷◌, ◌++◌, map}
use Prim.Native.Nat.{ℕ, suc, ◌+◌, ◌*◌, ◌/◌, ◌%◌, ◌≤◌, ◌<◌}
use native.Mathlib.Omega.{arith}
use lib.Dec.{leb, ltb}
use lib.ListN.{length, get_or, drop, length-append, length-map}
use lib.Seq.{drop-drop, take-append_seam, drop-append_seam, take-length}
use borrow.Author.Tests.{le-leb, lt-ltb}
use Rattle.paper.specs.Multiset.{StrictlyAscending}
use Rattle.paper.specs.Grammar.{Rule, rule_count, rule_at, StrictPartialOrder, IsGrammar}
use Rattle.paper.specs.Image.{byte, offset, extent, body, contents_right, symbols_right, all_below, ascends, record_before, record_size, record_of, rule_of, record_right}
use Rattle.paper.specs.Image.{record_fault, rules_fault, rules_of, Pair, pairs_of, pair_fault, paired, chained, closing_fault, image_fault, grammar_of, image_terminals, image_symbols, image_pairs}
use Rattle.paper.specs.Records.{record_at}
use Rattle.paper.specs.Written.{AreBytes, rule_bytes, rules_bytes, rules_body, order_body, symbols_body, image_bytes, written, grammar_with, pair_key, RulesAscend, PairsOfSymbols, IsWritten}
use Rattle.paper.proofs.Records.{record_on, RightRule, RightRecords, record_bytes, record_is, record_before_lem, rules_right}
use Rattle.paper.proofs.Order.{pair_on, pairs_right}
use Rattle.paper.proofs.Written.{image_written}
use Rattle.paper.proofs.Image.{Admitted, admitted, not_refused, symbols_check, RightContents, contents_check, parts_grammar, grammar_of_bodies, image_grammar, image_rule, image_count}

-- The record of a rule, with anything behind it.

module _ (rule : Rule) (rest : List ℕ) where
  record_front : record_of (rule_bytes rule ++ rest) ≡ rule_bytes rule
  record_front = grind (arith, take-append_seam)

  record_rest : drop (record_size (rule_bytes rule ++ rest)) (rule_bytes rule ++ rest) ≡ rest
  record_rest = grind (arith, drop-append_seam)

  rule_front : rule_of (rule_bytes rule ++ rest) ≡ rule
  rule_front = grind (arith, take-append_seam)

-- Reading back what is written.

rules_read : (rules : List Rule) → rules_of (length rules) (rules_bytes rules) ≡ rules
unfolding rules_of rules_bytes
rules_read [] = refl
rules_read (rule ∷ rules) = grind (arith, rule_front, record_rest, rules_read rules)

pairs_read : (pairs : List Pair) → pairs_of (order_body pairs) ≡ pairs
unfolding pairs_of order_body
pairs_read [] = refl
pairs_read (p ∷ pairs) = ap {B = List Pair} (p ∷◌) (pairs_read pairs)

-- The bodies of an image, and its contents.

divided : (n : ℕ) → n / 256 * 256 + n % 256 ≡ n
divided n = omega arith

module _ (f s t : List ℕ) where
  extent_0 : extent (image_bytes f s t) 0 ≡ length f
  extent_0 = divided (length f)

  extent_1 : extent (image_bytes f s t) 1 ≡ length s
  extent_1 = divided (length s)

  extent_2 : extent (image_bytes f s t) 2 ≡ length t
  extent_2 = divided (length t)

  offset_1 : offset (image_bytes f s t) 1 ≡ 17 + length f
  offset_1 = divided (17 + length f)

  offset_2 : offset (image_bytes f s t) 2 ≡ 17 + length f + length s
  offset_2 = divided (17 + length f + length s)

  contents_are : RightContents (image_bytes f s t)
  contents_are = grind (arith, length-append)

  body_0 : body (image_bytes f s t) 0 ≡ f
  body_0 = grind (arith, extent_0, take-append_seam)

  behind_first : drop (17 + length f) (image_bytes f s t) ≡ s ++ t
  behind_first = sym (drop-drop (length f) 17 (image_bytes f s t)) ∙ drop-append_seam f (s ++ t)

  behind_second : drop (17 + length f + length s) (image_bytes f s t) ≡ t
  behind_second =
      sym (drop-drop (length s) (17 + length f) (image_bytes f s t)) ∙ (ap {B = List ℕ} (drop (length s)) behind_first ∙ drop-append_seam s t)

  body_1 : body (image_bytes f s t) 1 ≡ s
  body_1 = grind (arith, extent_1, behind_first, take-append_seam)

  body_2 : body (image_bytes f s t) 2 ≡ t
  body_2 = grind (arith, extent_2, behind_second, take-length)

-- What is written means its parts.
pub written_means : (terminals nonterminals start : ℕ) (rules : List Rule) (pairs : List Pair)
    → grammar_of (written terminals nonterminals start rules pairs) ≡ grammar_with terminals nonterminals start rules pairs
unfolding written parts_grammar
written_means terminals nonterminals start rules pairs =
    let f = symbols_body terminals nonterminals start in
    let s = rules_body rules in
    let t = order_body pairs in
    grammar_of_bodies (image_bytes f s t) f s t (body_0 f s t) (body_1 f s t) (body_2 f s t)
    ∙ (λ i. grammar_with terminals nonterminals start (rules_read rules i) (pairs_read pairs i))

-- The rules body is sound.

ascends_check : (least : ℕ) (s : List ℕ) → ((k : ℕ) → k < length s → least ≤ get_or s k 0) → ((i j : ℕ) → i < j → j < length s → get_or s i 0 ≤ get_or s j 0) → ascends least s ≡ true
unfolding ascends
ascends_check least [] from up = refl
ascends_check least (a ∷ s) from up =
    (and-eq-true_iff (leb least a) (ascends a s)).1 (
      le-leb least a (from 0 (omega arith)),
      ascends_check a s (λ k l. up 0 (suc k) (omega arith) (omega arith)) (λ i j l m. up (suc i) (suc j) (omega arith) (omega arith)),
    )

below_check : (limit : ℕ) (s : List ℕ) → ((k : ℕ) → k < length s → get_or s k 0 < limit) → all_below limit s ≡ true
unfolding all_below
below_check limit [] below = refl
below_check limit (a ∷ s) below =
    (and-eq-true_iff (ltb a limit) (all_below limit s)).1 (lt-ltb a limit (below 0 (omega arith)), below_check limit s (λ k l. below (suc k) (omega arith)))

record_check : (terminals symbols : ℕ) (rule : Rule) (rest : List ℕ) → RightRule terminals symbols rule → record_right terminals symbols (rule_bytes rule ++ rest) ≡ true
unfolding record_right
record_check terminals symbols rule rest right = grind (arith, length-append, take-append_seam, ascends_check, below_check)

record_sound : (terminals symbols more k : ℕ) (last : List ℕ) (rule : Rule) (rest : List ℕ) → RightRule terminals symbols rule → record_before last (rule_bytes rule) ≡ true
    → record_fault terminals symbols more (suc k) (rule_bytes rule) rest ≡ None → record_fault terminals symbols (suc more) k last (rule_bytes rule ++ rest) ≡ None
record_sound terminals symbols more k last rule rest right before ih = grind (arith, record_on, record_check, record_front, record_rest)

-- past the last there is no rule
abbrev none : Rule
none = record { left = 0; members = [] }

records_sound : (terminals symbols k : ℕ) (last : List ℕ) (rules : List Rule)
    → ((h : ℕ) → h < length rules → RightRule terminals symbols (get_or rules h none))
    → (0 < length rules → record_before last (rule_bytes (get_or rules 0 none)) ≡ true)
    → ((h k : ℕ) → h < k → k < length rules → record_before (rule_bytes (get_or rules h none)) (rule_bytes (get_or rules k none)) ≡ true)
    → record_fault terminals symbols (length rules) k last (rules_bytes rules) ≡ None
unfolding rules_bytes record_fault
records_sound terminals symbols k last [] right first up = refl
records_sound terminals symbols k last (rule ∷ rules) right first up =
    record_sound terminals symbols (length rules) k last rule (rules_bytes rules) (right 0 (omega arith)) (first (omega arith))
    (records_sound terminals symbols (suc k) (rule_bytes rule) rules (λ h l. right (suc h) (omega arith)) (λ l. up 0 1 (omega arith) (omega arith))
    (λ h j l m. up (suc h) (suc j) (omega arith) (omega arith)))

rules_sound : (terminals symbols : ℕ) (rules : List Rule) → length rules ≤ 96
    → ((h : ℕ) → h < length rules → RightRule terminals symbols (get_or rules h none))
    → ((h k : ℕ) → h < k → k < length rules → record_before (rule_bytes (get_or rules h none)) (rule_bytes (get_or rules k none)) ≡ true)
    → rules_fault terminals symbols (rules_body rules) ≡ None
unfolding rules_fault record_before
rules_sound terminals symbols rules few right up = grind (arith, records_sound)

-- The order body is sound.

-- a pair is written where it stands, and stays written where others stand before it
paired_here : (p : Pair) (pairs : List Pair) → paired (p ∷ pairs) p.earlier p.later ≡ true
unfolding paired
paired_here p pairs = grind arith

paired_there : (p : Pair) (pairs : List Pair) (a b : ℕ) → paired pairs a b ≡ true → paired (p ∷ pairs) a b ≡ true
unfolding paired
paired_there p pairs a b h = grind arith

pairs_sound : (symbols k least : ℕ) (pairs : List Pair) → ((a b : ℕ) → paired pairs a b ≡ true → (a < symbols) × (b < symbols))
    → ((i : ℕ) → i < length pairs → least ≤ get_or (map pair_key pairs) i 0)
    → ((i j : ℕ) → i < j → j < length pairs → get_or (map pair_key pairs) i 0 < get_or (map pair_key pairs) j 0)
    → pair_fault symbols k least (order_body pairs) ≡ None
unfolding order_body pair_fault
pairs_sound symbols k least [] below from up = refl
pairs_sound symbols k least (p ∷ pairs) below from up =
    let s = below p.earlier p.later (paired_here p pairs) in
    pair_on symbols k least p.earlier p.later (order_body pairs) s.0 s.1 (from 0 (omega arith))
    ∙ pairs_sound symbols (suc k) (suc (pair_key p)) pairs (λ a b h. below a b (paired_there p pairs a b h)) (λ i l. up 0 (suc i) (omega arith) (omega arith))
    (λ i j l m. up (suc i) (suc j) (omega arith) (omega arith))

-- The order is closed.

module _ (pairs : List Pair) (order : StrictPartialOrder (paired pairs)) where
  chained_on : (a b : ℕ) → paired pairs a b ≡ true → (more : List Pair) → ((c d : ℕ) → paired more c d ≡ true → paired pairs c d ≡ true) → chained pairs a b more ≡ true
  unfolding chained
  chained_on a b w [] among = refl
  chained_on a b w (q ∷ more) among = grind (arith, paired_here, chained_on a b w more (λ c d h. among c d (paired_there q more c d h)))

  apart : (a b : ℕ) → paired pairs a b ≡ true → a ≡ b → ⊥
  apart a b w e = grind arith

  closing_sound : (k : ℕ) (more : List Pair) → ((c d : ℕ) → paired more c d ≡ true → paired pairs c d ≡ true) → closing_fault pairs k more ≡ None
  unfolding closing_fault
  closing_sound k [] among = refl
  closing_sound k (p ∷ more) among = grind (arith, paired_here, chained_on, closing_sound (suc k) more (λ c d h. among c d (paired_there p more c d h)))

-- The image check admits what is written of a grammar.

bodies_admitted : (b s r p : List ℕ) → contents_right b ≡ true → body b 0 ≡ s → body b 1 ≡ r → body b 2 ≡ p → symbols_right s ≡ true
    → rules_fault (byte s 0) (byte s 0 + byte s 1) r ≡ None → pair_fault (byte s 0 + byte s 1) 0 0 p ≡ None → closing_fault (pairs_of p) 0 (pairs_of p) ≡ None → Admitted b
bodies_admitted b s r p c e f g x y z w = grind arith

module _ (terminals nonterminals start : ℕ) (rules : List Rule) (pairs : List Pair) (is : IsGrammar (grammar_with terminals nonterminals start rules pairs))
    (rules_ascend : RulesAscend (grammar_with terminals nonterminals start rules pairs)) (pairs_are : PairsOfSymbols (grammar_with terminals nonterminals start rules pairs))
    (pairs_ascend : StrictlyAscending (map pair_key pairs)) where
  symbols_sound : symbols_right (symbols_body terminals nonterminals start) ≡ true
  symbols_sound = grind (arith, symbols_check)

  rule_right : (h : ℕ) → h < length rules → RightRule terminals (terminals + nonterminals) (get_or rules h none)
  rule_right h l = grind arith

  pub written_admitted : image_fault (written terminals nonterminals start rules pairs) ≡ None
  unfolding written
  written_admitted =
      let s = symbols_body terminals nonterminals start in
      let r = rules_body rules in
      let p = order_body pairs in
      not_refused (image_bytes s r p)
      (bodies_admitted (image_bytes s r p) s r p (contents_check (image_bytes s r p) (contents_are s r p)) (body_0 s r p) (body_1 s r p) (body_2 s r p)
      symbols_sound
      (rules_sound terminals (terminals + nonterminals) rules is.few_rules rule_right rules_ascend.ascend)
      (pairs_sound (terminals + nonterminals) 0 0 pairs pairs_are.below (λ i l. omega arith) (λ i j l m. pairs_ascend.ascend i j l (omega (arith, length-map pairs pair_key))))
      ((λ i. closing_fault (pairs_read pairs i) 0 (pairs_read pairs i)) ∙ closing_sound pairs is.order 0 pairs (λ c d h. h)))

-- The parts of an admitted image.

image_ascends : (b : List ℕ) → Admitted b → RulesAscend (grammar_of b)
image_ascends b a = record { ascend = up }
  where
    run : RightRecords (image_terminals b) (image_symbols b) (byte (body b 1) 0) [] (drop 1 (body b 1))
    run = (rules_right (image_terminals b) (image_symbols b) (body b 1) a.rules).records

    bytes_are : (h : ℕ) → h < rule_count (grammar_of b) → rule_bytes (rule_at (grammar_of b) h) ≡ record_of (record_at h (drop 1 (body b 1)))
    bytes_are h l =
        let m : h < byte (body b 1) 0 = omega (arith, image_count b) in
        ap {B = List ℕ} rule_bytes (image_rule b h m) ∙ sym (record_bytes (record_at h (drop 1 (body b 1))) (record_is run h m).fits)

    up : (h k : ℕ) → h < k → k < rule_count (grammar_of b) → record_before (rule_bytes (rule_at (grammar_of b) h)) (rule_bytes (rule_at (grammar_of b) k)) ≡ true
    up h k l m = (λ i. record_before (bytes_are h (omega arith) i) (bytes_are k m i)) ∙ record_before_lem run h k l (omega (arith, image_count b))

admitted_written : (b : List ℕ) → AreBytes b → image_fault b ≡ None → IsWritten b
unfolding grammar_of
admitted_written b h n =
    let a = admitted b n in
    let p = pairs_right (image_symbols b) 0 0 (body b 2) a.pairs in
    record {
      terminals = (grammar_of b).terminals;
      nonterminals = (grammar_of b).nonterminals;
      start = (grammar_of b).start;
      rules = (grammar_of b).rules;
      pairs = image_pairs b;
      is_grammar = image_grammar b n;
      rules_ascend = image_ascends b a;
      pairs_are = record { below = p.below };
      pairs_ascend = p.ascending;
      bytes_are = image_written b h n;
    }

-- The image check admits exactly what is written of a grammar.
pub image_iff : (b : List ℕ) → AreBytes b → (image_fault b ≡ None) ↔ IsWritten b
image_iff b h = grind (arith, admitted_written, written_admitted)
