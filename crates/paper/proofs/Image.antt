-- An admitted image means a grammar: what each of the refusals 10 to 14 shuts out.
-- Assumes nothing.
use mathlib.Core.Path.{◌≡◌, refl, sym, ◌∙◌, subst⁻¹}
use mathlib.Core.Bool.{true, false}
use mathlib.Core.List.{List}
use Rattle.std.specs.Prelude.{Some, None}
use Prim.Native.Nat.{ℕ, zero, suc, ◌+◌, ◌*◌, ◌≤◌, ◌<◌}
use native.Mathlib.Omega.{arith}
use lib.ListN.{length, drop, length-drop, get_or-eq_default}
use lib.Seq.{length-take-le, get_or-take, get_or-drop}
use Rattle.paper.specs.Grammar.{Grammar, rule_count, rule_at, StrictPartialOrder, IsGrammar}
use Rattle.paper.specs.Image.{byte, two_bytes, kind, offset, extent, body, contents_right, symbols_right, rules_fault, pair_fault, closing_fault}
use Rattle.paper.specs.Image.{image_terminals, image_symbols, image_pairs, image_fault, grammar_of, house, pairs_of, rules_of, rule_of, paired}
use Rattle.paper.specs.Image.{record_fault, record_right, ascends, all_below, record_before, chained}
use Rattle.paper.specs.Records.{record_at}
use Rattle.paper.specs.Demands.{IsHouse}
use Rattle.paper.specs.declared.Refusal.{Refusal}
use Rattle.paper.specs.Written.{AreBytes}
use Rattle.paper.proofs.Records.{rules_count, rules_at, RightRule, RightRules, record_is, rules_right, rules_unlike, records_fill, place_below}
use Rattle.paper.proofs.Order.{closed_order, pairs_right, pairs_few}

-- The five tests that an image passes.
pub record Admitted (b : List ℕ) : Type 0 where
  pub contents : contents_right b ≡ true
  pub symbols : symbols_right (body b 0) ≡ true
  pub rules : rules_fault (image_terminals b) (image_symbols b) (body b 1) ≡ None
  pub pairs : pair_fault (image_symbols b) 0 0 (body b 2) ≡ None
  pub closed : closing_fault (image_pairs b) 0 (image_pairs b) ≡ None

-- What `symbols_right` says.
pub record RightSymbols (s : List ℕ) : Type 0 where
  pub size : length s ≡ 3
  pub a_terminal : 1 ≤ byte s 0
  pub a_nonterminal : 1 ≤ byte s 1
  pub few : byte s 0 + byte s 1 ≤ 64
  pub start_above : byte s 0 ≤ byte s 2
  pub start_below : byte s 2 < byte s 0 + byte s 1

-- the test and what it says, both ways
pub symbols_right_lem : (s : List ℕ) → symbols_right s ≡ true → RightSymbols s
unfolding symbols_right
symbols_right_lem s h = grind arith

pub symbols_check : (s : List ℕ) → RightSymbols s → symbols_right s ≡ true
unfolding symbols_right
symbols_check s c = grind arith

-- What `contents_right` says.
pub record RightContents (b : List ℕ) : Type 0 where
  pub size : 17 ≤ length b
  pub form : byte b 0 ≡ 1
  pub bodies : byte b 1 ≡ 3
  pub kind_0 : kind b 0 ≡ 1
  pub kind_1 : kind b 1 ≡ 2
  pub kind_2 : kind b 2 ≡ 3
  pub offset_0 : offset b 0 ≡ 17
  pub offset_1 : offset b 1 ≡ offset b 0 + extent b 0
  pub offset_2 : offset b 2 ≡ offset b 1 + extent b 1
  pub ends : length b ≡ offset b 2 + extent b 2

-- the test and what it says, both ways
pub contents_right_lem : (b : List ℕ) → contents_right b ≡ true → RightContents b
unfolding contents_right
contents_right_lem b h = grind arith

pub contents_check : (b : List ℕ) → RightContents b → contents_right b ≡ true
unfolding contents_right
contents_check b c = grind arith

-- An image is admitted where it passes the five tests ..
pub admitted : (b : List ℕ) → image_fault b ≡ None → Admitted b
unfolding image_fault
admitted b h = grind arith

-- .. and an image that passes them is admitted
pub not_refused : (b : List ℕ) → Admitted b → image_fault b ≡ None
unfolding image_fault
not_refused b a = cc

-- Each refusal holds where its test fails and those before it do not.

module _ (b : List ℕ) where
  pub refused_contents : contents_right b ≡ false → image_fault b ≡ Some (record { why = Refusal.Contents; place = 0 })
  unfolding image_fault
  refused_contents h = rw h

  module _ (contents : contents_right b ≡ true) where
    pub refused_symbols : symbols_right (body b 0) ≡ false → image_fault b ≡ Some (record { why = Refusal.Symbols; place = 0 })
    unfolding image_fault
    refused_symbols h = rw (contents, h)

    module _ (symbols : symbols_right (body b 0) ≡ true) where
      pub refused_rules : (k : ℕ) → rules_fault (image_terminals b) (image_symbols b) (body b 1) ≡ Some k → image_fault b ≡ Some (record { why = Refusal.Rules; place = k })
      unfolding image_fault
      refused_rules k h = rw (contents, symbols, h)

      module _ (rules : rules_fault (image_terminals b) (image_symbols b) (body b 1) ≡ None) where
        pub refused_pairs : (k : ℕ) → pair_fault (image_symbols b) 0 0 (body b 2) ≡ Some k → image_fault b ≡ Some (record { why = Refusal.Order; place = k })
        unfolding image_fault
        refused_pairs k h = cc

        pub refused_closing : (k : ℕ) → pair_fault (image_symbols b) 0 0 (body b 2) ≡ None → closing_fault (image_pairs b) 0 (image_pairs b) ≡ Some k
            → image_fault b ≡ Some (record { why = Refusal.Chain; place = k })
        unfolding image_fault
        refused_closing k pairs h = cc

-- A grammar from three bodies that are right.

-- the grammar of a symbols body, a rules body and an order body
unfoldable pub parts_grammar : (s r p : List ℕ) → Grammar
parts_grammar s r p =
    record { terminals = byte s 0; nonterminals = byte s 1; start = byte s 2; rules = rules_of (byte r 0) (drop 1 r); precedes = paired (pairs_of p) }

module _ (s r p : List ℕ) (symbols : RightSymbols s) (rules : RightRules (byte s 0) (byte s 0 + byte s 1) r) (order : StrictPartialOrder (paired (pairs_of p))) where
  below_count : (h : ℕ) → h < rule_count (parts_grammar s r p) → h < byte r 0
  unfolding parts_grammar
  below_count h l = omega (arith, rules_count (byte r 0) (drop 1 r))

  rule_is : (h : ℕ) → h < rule_count (parts_grammar s r p) → rule_at (parts_grammar s r p) h ≡ rule_of (record_at h (drop 1 r))
  unfolding parts_grammar
  rule_is h l = search (rules, rules_at, below_count)

  rule_right : (h : ℕ) → h < rule_count (parts_grammar s r p) → RightRule (byte s 0) (byte s 0 + byte s 1) (rule_at (parts_grammar s r p) h)
  rule_right h l = subst⁻¹ (RightRule (byte s 0) (byte s 0 + byte s 1)) (rule_is h l) (record_is rules.records h (below_count h l)).rule

  parts_grammar_lem : IsGrammar (parts_grammar s r p)
  unfolding parts_grammar
  parts_grammar_lem =
      record {
        a_terminal = symbols.a_terminal;
        a_nonterminal = symbols.a_nonterminal;
        few_symbols = symbols.few;
        start_is = record { above = symbols.start_above; below = symbols.start_below };
        few_rules = rw (rules_count (byte r 0) (drop 1 r)) rules.few;
        left_is = λ h l. record { above = (rule_right h l).left_above; below = (rule_right h l).left_below };
        few_members = λ h l. (rule_right h l).few;
        members_are = λ h k l. (rule_right h l).below k;
        members_ascend = λ h l. (rule_right h l).ascend;
        unlike =
            λ h k l m e.
            rules_unlike rules.records h k l (below_count k m) (sym (rule_is h (omega arith)) ∙ (e ∙ rule_is k m));
        order = order;
      }

-- an image means the grammar of its bodies
pub grammar_of_bodies : (b s r p : List ℕ) → body b 0 ≡ s → body b 1 ≡ r → body b 2 ≡ p → grammar_of b ≡ parts_grammar s r p
unfolding grammar_of parts_grammar
grammar_of_bodies b s r p e f g = cc

-- An admitted image means a grammar.
pub image_grammar : (b : List ℕ) → image_fault b ≡ None → IsGrammar (grammar_of b)
unfolding grammar_of parts_grammar
image_grammar b h =
    let a = admitted b h in
    parts_grammar_lem (body b 0) (body b 1) (body b 2) (symbols_right_lem (body b 0) a.symbols) (rules_right (image_terminals b) (image_symbols b) (body b 1) a.rules)
    (closed_order (image_pairs b) a.closed)

-- Rules and bodies by place.

-- there are as many rules as the first byte of the rules body says
pub image_count : (b : List ℕ) → rule_count (grammar_of b) ≡ byte (body b 1) 0
unfolding grammar_of
image_count b = simp rules_count

-- rule h is the one that record h of the rules body means
pub image_rule : (b : List ℕ) (h : ℕ) → h < byte (body b 1) 0 → rule_at (grammar_of b) h ≡ rule_of (record_at h (drop 1 (body b 1)))
unfolding grammar_of
image_rule b h l = grind (arith, rules_at)

-- each body lies inside the image
pub body_inside : (b : List ℕ) → RightContents b → (k : ℕ) → k < 3 → offset b k + extent b k ≤ length b
body_inside b c zero l = omega arith
body_inside b c (suc zero) l = omega arith
body_inside b c (suc (suc zero)) l = omega arith
body_inside b c (suc (suc (suc k))) l = absurd (omega arith)

-- and has the length that its entry tells
pub body_length : (b : List ℕ) → RightContents b → (k : ℕ) → k < 3 → length (body b k) ≡ extent b k
body_length b c k l = grind (arith, length-take-le, length-drop)

-- byte i of body k
pub body_byte : (b : List ℕ) (k i : ℕ) → i < extent b k → byte (body b k) i ≡ byte b (offset b k + i)
body_byte b k i l = grind (arith, get_or-take, get_or-drop)

-- a byte, and so is the 0 past the end
pub byte_below : (b : List ℕ) → AreBytes b → (k : ℕ) → byte b k < 256
byte_below b h k = grind (arith, get_or-eq_default)

-- an offset or a length is below 65,536
pub two_bytes_below : (b : List ℕ) → AreBytes b → (k : ℕ) → two_bytes b k < 65536
two_bytes_below b h k = omega (arith, byte_below b h k, byte_below b h (k + 1))

-- an image whose contents are right ends where the last offset and length say
pub contents_length : (b : List ℕ) → AreBytes b → RightContents b → length b ≤ 131070
contents_length b h c = omega arith

-- an admitted image has contents, symbols, at most 96 rules of 10 bytes and 4,096 pairs
pub image_length : (b : List ℕ) → Admitted b → length b ≤ 17 + 3 + (1 + 10 * 96) + 2 * 4096
image_length b a =
    let c = contents_right_lem b a.contents in
    let s = symbols_right_lem (body b 0) a.symbols in
    let r = rules_right (image_terminals b) (image_symbols b) (body b 1) a.rules in
    let x : extent b 0 ≡ 3 = sym (body_length b c 0 (omega arith)) ∙ s.size in
    let y : extent b 1 ≤ 1 + 10 * 96 =
    omega
    (arith, body_length b c 1 (omega arith), r.counted, r.few, length-drop 1 (body b 1), records_fill r.records, place_below r.records (byte (body b 1) 0) (omega arith))
    in
    let z : extent b 2 ≤ 2 * 4096 =
    omega (arith, body_length b c 2 (omega arith), (pairs_right (image_symbols b) 0 0 (body b 2) a.pairs).size, pairs_few (image_symbols b) 0 (body b 2) s.few a.pairs)
    in
    omega (arith, c.ends, c.offset_0, c.offset_1, c.offset_2)

-- The house grammar.

-- The house image is admitted.
pub house_admitted : image_fault house ≡ None
unfolding image_fault contents_right symbols_right rules_fault record_fault record_right ascends all_below record_before pair_fault pairs_of closing_fault chained
house_admitted = refl

-- The house image means it.
pub house_means : IsHouse (grammar_of house)
unfolding grammar_of rules_of pairs_of paired
house_means = grind arith
