-- The image of a grammar, written out from its parts (docs/RULES.md, "The image"). Image.antt reads it; this is the other way.
-- Assumes nothing.
use Rattle.std.specs.Prelude.{◌≡◌, true, List, [], ◌∷◌, ◌++◌, map, ℕ, ◌+◌, ◌*◌, ◌/◌, ◌%◌, ◌<◌, length, get_or}
use Rattle.paper.specs.Multiset.{StrictlyAscending}
use Rattle.paper.specs.Grammar.{Rule, Grammar, rule_at, rule_count, symbols, IsGrammar}
use Rattle.paper.specs.Image.{record_before, Pair, paired}

-- each number of the list is a byte
pub record AreBytes (b : List ℕ) : Type 0 where
  pub below : (k : ℕ) → k < length b → get_or b k 0 < 256

-- a number as two bytes (I1)
abbrev pub high_low : ℕ → List ℕ
high_low n = n / 256 ∷ n % 256 ∷ []

-- what the contents have for one body (I1)
abbrev pub entry_bytes : (kind offset extent : ℕ) → List ℕ
entry_bytes kind offset extent = kind ∷ (high_low offset ++ high_low extent)

-- the symbols body (I2)
abbrev pub symbols_body : (terminals nonterminals start : ℕ) → List ℕ
symbols_body terminals nonterminals start = terminals ∷ nonterminals ∷ start ∷ []

-- the record of a rule (I3)
abbrev pub rule_bytes : Rule → List ℕ
rule_bytes rule = rule.left ∷ length rule.members ∷ rule.members

-- the records of these rules, one after another (I3)
unfoldable pub rules_bytes : List Rule → List ℕ
rules_bytes [] = []
rules_bytes (rule ∷ rules) = rule_bytes rule ++ rules_bytes rules

-- the rules body (I3)
abbrev pub rules_body : List Rule → List ℕ
rules_body rules = length rules ∷ rules_bytes rules

-- the order body (I4)
unfoldable pub order_body : List Pair → List ℕ
order_body [] = []
order_body (pair ∷ pairs) = pair.earlier ∷ pair.later ∷ order_body pairs

-- the contents for three bodies of these lengths (I1)
abbrev pub contents_bytes : (first second third : ℕ) → List ℕ
contents_bytes first second third = 1 ∷ 3 ∷ (entry_bytes 1 17 first ++ (entry_bytes 2 (17 + first) second ++ entry_bytes 3 (17 + first + second) third))

-- the contents and three bodies (I1)
abbrev pub image_bytes : (first second third : List ℕ) → List ℕ
image_bytes first second third = contents_bytes (length first) (length second) (length third) ++ (first ++ (second ++ third))

-- The image of these parts (I1 to I4).
unfoldable pub written : (terminals nonterminals start : ℕ) → List Rule → List Pair → List ℕ
written terminals nonterminals start rules pairs = image_bytes (symbols_body terminals nonterminals start) (rules_body rules) (order_body pairs)

-- the grammar of these parts
abbrev pub grammar_with : (terminals nonterminals start : ℕ) → List Rule → List Pair → Grammar
grammar_with terminals nonterminals start rules pairs =
    record { terminals = terminals; nonterminals = nonterminals; start = start; rules = rules; precedes = paired pairs }

-- a pair as a number of two bytes (I4)
abbrev pub pair_key : Pair → ℕ
pair_key p = p.earlier * 256 + p.later

-- each rule is before every later one (I3)
pub record RulesAscend (g : Grammar) : Type 0 where
  pub ascend : (h k : ℕ) → h < k → k < rule_count g → record_before (rule_bytes (rule_at g h)) (rule_bytes (rule_at g k)) ≡ true

-- the order speaks of symbols of the grammar alone (G3)
pub record PairsOfSymbols (g : Grammar) : Type 0 where
  pub below : (a b : ℕ) → g.precedes a b ≡ true → (a < symbols g) × (b < symbols g)

-- The bytes are the image of some grammar (G1 to G3), its rules and pairs ascending (I3, I4).
pub record IsWritten (b : List ℕ) : Type 0 where
  pub terminals : ℕ
  pub nonterminals : ℕ
  pub start : ℕ
  pub rules : List Rule
  pub pairs : List Pair
  pub is_grammar : IsGrammar (grammar_with terminals nonterminals start rules pairs)
  pub rules_ascend : RulesAscend (grammar_with terminals nonterminals start rules pairs)
  pub pairs_are : PairsOfSymbols (grammar_with terminals nonterminals start rules pairs)
  pub pairs_ascend : StrictlyAscending (map pair_key pairs)
  pub bytes_are : b ≡ written terminals nonterminals start rules pairs
