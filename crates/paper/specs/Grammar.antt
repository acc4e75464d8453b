-- Grammars (docs/RULES.md, "Grammar and derivation"; Shieber, section 4).
-- Assumes nothing.
use Rattle.std.specs.Prelude.{◌≡◌, Bool, true, false, List, [], ℕ, ◌+◌, ◌≤◌, ◌<◌, length, get_or}
use Rattle.paper.specs.Multiset.{Ascending}

-- a rule: its left symbol, and its members, a multiset written as a list (G2)
pub record Rule : Type 0 where
  pub left : ℕ
  pub members : List ℕ

-- a grammar: T, N, the start symbol, the rules and the order (G1 to G3; Shieber, section 4); `precedes a b` says that a must precede b
pub record Grammar : Type 0 where
  pub terminals : ℕ
  pub nonterminals : ℕ
  pub start : ℕ
  pub rules : List Rule
  pub precedes : ℕ → ℕ → Bool

-- how many symbols there are: T+N (G1)
abbrev pub symbols : Grammar → ℕ
symbols g = g.terminals + g.nonterminals

-- R, the number of rules (S6)
abbrev pub rule_count : Grammar → ℕ
rule_count g = length g.rules

-- rule h; past the last there is none, and a rule with no members stands for it
abbrev pub rule_at : Grammar → ℕ → Rule
rule_at g h = get_or g.rules h (record { left = 0; members = [] })

-- the left symbol of rule h
abbrev pub left : Grammar → ℕ → ℕ
left g h = (rule_at g h).left

-- the members of rule h
abbrev pub members : Grammar → ℕ → List ℕ
members g h = (rule_at g h).members

-- a terminal: a number below T (G1)
pub record IsTerminal (g : Grammar) (a : ℕ) : Type 0 where
  pub below : a < g.terminals

-- a nonterminal: a number from T on and below T+N (G1)
pub record IsNonterminal (g : Grammar) (a : ℕ) : Type 0 where
  pub above : g.terminals ≤ a
  pub below : a < symbols g

-- a strict partial order: irreflexive and transitive, and so asymmetric too (G3)
pub record StrictPartialOrder (precedes : ℕ → ℕ → Bool) : Type 0 where
  pub irreflexive : (a : ℕ) → precedes a a ≡ false
  pub transitive : (a b c : ℕ) → precedes a b ≡ true → precedes b c ≡ true → precedes a c ≡ true

-- what holds of every grammar that is admitted (G1 to G3, with the members in the order of I3)
pub record IsGrammar (g : Grammar) : Type 0 where
  pub a_terminal : 1 ≤ g.terminals
  pub a_nonterminal : 1 ≤ g.nonterminals
  pub few_symbols : symbols g ≤ 64
  pub start_is : IsNonterminal g g.start
  pub few_rules : rule_count g ≤ 96
  pub left_is : (h : ℕ) → h < rule_count g → IsNonterminal g (left g h)
  pub few_members : (h : ℕ) → h < rule_count g → length (members g h) ≤ 8
  pub members_are : (h k : ℕ) → h < rule_count g → k < length (members g h) → get_or (members g h) k 0 < symbols g
  pub members_ascend : (h : ℕ) → h < rule_count g → Ascending (members g h)
  pub unlike : (h k : ℕ) → h < k → k < rule_count g → rule_at g h ≡ rule_at g k → ⊥
  pub order : StrictPartialOrder g.precedes

-- every token of the row is a terminal (G6)
pub record IsRow (g : Grammar) (row : List ℕ) : Type 0 where
  pub tokens_are : (k : ℕ) → k < length row → IsTerminal g (get_or row k 0)
