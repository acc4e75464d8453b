-- The image of a grammar (docs/RULES.md, "The image"): refusals 10 to 14, each with the place of its first fault, and the grammar that an image means.
-- Assumes nothing.
use Rattle.std.specs.Prelude.{Option, Some, None, Bool, true, false, not, ◌&&◌, ◌||◌, cond, List, [], ◌∷◌, ℕ, zero, suc, ◌+◌, ◌*◌, eqb, leb, ltb, length, get_or, take, drop}
use Rattle.paper.specs.Grammar.{Rule, Grammar}
use Rattle.paper.specs.declared.Refusal.{Refusal}
use Rattle.paper.specs.declared.Fault.{Fault}

-- every test of the list holds
abbrev pub every : List Bool → Bool
every [] = true
every (t ∷ tests) = t && every tests

-- a byte; past the end it is 0
abbrev pub byte : List ℕ → ℕ → ℕ
byte b k = get_or b k 0

-- the number that two bytes are, from byte k on (I1)
abbrev pub two_bytes : List ℕ → ℕ → ℕ
two_bytes b k = byte b k * 256 + byte b (k + 1)

-- the kind that the contents give for body k; bodies are numbered 0, 1, 2 (I1)
abbrev pub kind : List ℕ → ℕ → ℕ
kind b k = byte b (2 + 5 * k)

-- where body k starts (I1)
abbrev pub offset : List ℕ → ℕ → ℕ
offset b k = two_bytes b (3 + 5 * k)

-- how many bytes body k has (I1)
abbrev pub extent : List ℕ → ℕ → ℕ
extent b k = two_bytes b (5 + 5 * k)

-- the bytes of body k (I1)
abbrev pub body : List ℕ → ℕ → List ℕ
body b k = take (extent b k) (drop (offset b k) b)

-- the contents are right, and the bodies fill what follows them (I1)
unfoldable pub contents_right : List ℕ → Bool
contents_right b =
    every
    (leb 17 (length b)
    ∷ eqb (byte b 0) 1
    ∷ eqb (byte b 1) 3
    ∷ eqb (kind b 0) 1
    ∷ eqb (kind b 1) 2
    ∷ eqb (kind b 2) 3
    ∷ eqb (offset b 0) 17
    ∷ eqb (offset b 1) (offset b 0 + extent b 0)
    ∷ eqb (offset b 2) (offset b 1 + extent b 1)
    ∷ eqb (length b) (offset b 2 + extent b 2)
    ∷ [])

-- the symbols body has its three bytes, and they keep to the limits (I2, G1)
unfoldable pub symbols_right : List ℕ → Bool
symbols_right s =
    every
    (eqb (length s) 3
    ∷ leb 1 (byte s 0)
    ∷ leb 1 (byte s 1)
    ∷ leb (byte s 0 + byte s 1) 64
    ∷ leb (byte s 0) (byte s 2)
    ∷ ltb (byte s 2) (byte s 0 + byte s 1)
    ∷ [])

-- each number is below the limit
unfoldable pub all_below : ℕ → List ℕ → Bool
all_below limit [] = true
all_below limit (a ∷ s) = ltb a limit && all_below limit s

-- no number is less than the one before it, nor the first less than `least` (I3)
unfoldable pub ascends : ℕ → List ℕ → Bool
ascends least [] = true
ascends least (a ∷ s) = leb least a && ascends a s

-- is the first record before the second? The first byte that differs decides, or the end of one (I3)
unfoldable pub record_before : List ℕ → List ℕ → Bool
record_before [] [] = false
record_before [] (b ∷ t) = true
record_before (a ∷ s) [] = false
record_before (a ∷ s) (b ∷ t) = ltb a b || (eqb a b && record_before s t)

-- how many bytes the record at the front of these bytes has (I3)
abbrev pub record_size : List ℕ → ℕ
record_size r = 2 + byte r 1

-- that record (I3)
abbrev pub record_of : List ℕ → List ℕ
record_of r = take (record_size r) r

-- the rule that it means (I3)
abbrev pub rule_of : List ℕ → Rule
rule_of r = record { left = byte r 0; members = take (byte r 1) (drop 2 r) }

-- a whole record stands at the front, its left symbol is a nonterminal, it has at most 8 members, these ascend and are symbols (I3, G2)
unfoldable pub record_right : ℕ → ℕ → List ℕ → Bool
record_right terminals symbols r =
    every
    (leb 2 (length r)
    ∷ leb terminals (byte r 0)
    ∷ ltb (byte r 0) symbols
    ∷ leb (byte r 1) 8
    ∷ leb (record_size r) (length r)
    ∷ ascends 0 (rule_of r).members
    ∷ all_below symbols (rule_of r).members
    ∷ [])

-- The number of the first rule at fault, if one is, among `more` records, the first of which is rule k and must come after the record `last`.
-- Bytes left over give the count of rules (I3).
unfoldable pub record_fault : ℕ → ℕ → ℕ → ℕ → List ℕ → List ℕ → Option ℕ
record_fault terminals symbols zero k last r = cond (eqb (length r) 0) None (Some k)
record_fault terminals symbols (suc more) k last r =
    elim (record_right terminals symbols r && record_before last (record_of r))
    [ true ↦ record_fault terminals symbols more (suc k) (record_of r) (drop (record_size r) r) | false ↦ Some k ]

-- the number of the first rule at fault in the rules body, if one is; a count that is missing or above 96 is a fault at rule 0 (I3, G2)
unfoldable pub rules_fault : ℕ → ℕ → List ℕ → Option ℕ
rules_fault terminals symbols r =
    elim (leb 1 (length r) && leb (byte r 0) 96) [ true ↦ record_fault terminals symbols (byte r 0) 0 [] (drop 1 r) | false ↦ Some 0 ]

-- the rules that so many records mean (I3)
unfoldable pub rules_of : ℕ → List ℕ → List Rule
rules_of zero r = []
rules_of (suc more) r = rule_of r ∷ rules_of more (drop (record_size r) r)

-- a pair of the order (I4)
pub record Pair : Type 0 where
  pub earlier : ℕ
  pub later : ℕ

-- the pairs that these bytes are, two bytes each; an odd byte at the end is left out (I4)
unfoldable pub pairs_of : List ℕ → List Pair
pairs_of [] = []
pairs_of (a ∷ []) = []
pairs_of (a ∷ b ∷ s) = record { earlier = a; later = b } ∷ pairs_of s

-- the number of the first pair, if one is, that is cut short, names no symbol or does not ascend; the first here is pair k (I4, refusal 13).
-- As a number of two bytes it is at least `least`, which is one more than the pair before it.
unfoldable pub pair_fault : ℕ → ℕ → ℕ → List ℕ → Option ℕ
pair_fault symbols k least [] = None
pair_fault symbols k least (a ∷ []) = Some k
pair_fault symbols k least (a ∷ b ∷ s) =
    elim (ltb a symbols && (ltb b symbols && leb least (a * 256 + b))) [ true ↦ pair_fault symbols (suc k) (suc (a * 256 + b)) s | false ↦ Some k ]

-- is it written that a precedes b? (I4)
unfoldable pub paired : List Pair → ℕ → ℕ → Bool
paired [] a b = false
paired (p ∷ pairs) a b = (eqb p.earlier a && eqb p.later b) || paired pairs a b

-- for each of these pairs that starts with b: a precedes its later symbol (G3)
unfoldable pub chained : List Pair → ℕ → ℕ → List Pair → Bool
chained pairs a b [] = true
chained pairs a b (q ∷ more) = (not (eqb q.earlier b) || paired pairs a q.later) && chained pairs a b more

-- the number of the first pair, if one is, that has one symbol twice, or begins a chain of two whose closing pair is missing (G3, refusal 14);
-- the first here is pair k
unfoldable pub closing_fault : List Pair → ℕ → List Pair → Option ℕ
closing_fault pairs k [] = None
closing_fault pairs k (p ∷ more) =
    elim (not (eqb p.earlier p.later) && chained pairs p.earlier p.later pairs) [ true ↦ closing_fault pairs (suc k) more | false ↦ Some k ]

-- the refusal, if something is at fault, else what the next test finds
abbrev pub refuse : Refusal → Option ℕ → Option Fault → Option Fault
refuse why None next = next
refuse why (Some k) next = Some (record { why = why; place = k })

-- a test of the whole that has no place of its own
abbrev pub wrong_if : Bool → Option ℕ
wrong_if right = cond right None (Some 0)

-- T of an image (I2)
abbrev pub image_terminals : List ℕ → ℕ
image_terminals b = byte (body b 0) 0

-- T+N of an image (I2)
abbrev pub image_symbols : List ℕ → ℕ
image_symbols b = byte (body b 0) 0 + byte (body b 0) 1

-- the pairs of an image (I4)
abbrev pub image_pairs : List ℕ → List Pair
image_pairs b = pairs_of (body b 2)

-- the first of 10 to 14 that holds, in the order of the table (R1)
unfoldable pub image_fault : List ℕ → Option Fault
image_fault b =
    refuse Refusal.Contents (wrong_if (contents_right b))
    (refuse Refusal.Symbols (wrong_if (symbols_right (body b 0)))
    (refuse Refusal.Rules (rules_fault (image_terminals b) (image_symbols b) (body b 1))
    (refuse Refusal.Order (pair_fault (image_symbols b) 0 0 (body b 2))
    (refuse Refusal.Chain (closing_fault (image_pairs b) 0 (image_pairs b))
    None))))

-- the grammar that an admitted image means (I2 to I4)
unfoldable pub grammar_of : List ℕ → Grammar
grammar_of b =
    record {
      terminals = image_terminals b;
      nonterminals = byte (body b 0) 1;
      start = byte (body b 0) 2;
      rules = rules_of (byte (body b 1) 0) (drop 1 (body b 1));
      precedes = paired (image_pairs b);
    }

-- the image of the house grammar (I5)
abbrev pub house : List ℕ
house =
    0x01 ∷ 0x03 ∷ 0x01 ∷ 0x00 ∷ 0x11 ∷ 0x00 ∷ 0x03 ∷ 0x02 ∷ 0x00 ∷ 0x14 ∷ 0x00 ∷ 0x0E ∷ 0x03 ∷ 0x00 ∷ 0x22 ∷ 0x00 ∷ 0x02 ∷ 0x04 ∷ 0x03 ∷ 0x04 ∷ 0x03 ∷ 0x04 ∷ 0x02 ∷ 0x05
    ∷ 0x06 ∷ 0x05 ∷ 0x03 ∷ 0x00 ∷ 0x01 ∷ 0x02 ∷ 0x06 ∷ 0x02 ∷ 0x01 ∷ 0x03 ∷ 0x01 ∷ 0x02 ∷ []
