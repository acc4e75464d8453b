-- What a reading can cost at the most: the bounds of S6 and L4 (docs/RULES.md).
-- Assumes nothing.
use Rattle.std.specs.Prelude.{cond, ℕ, ◌+◌, ◌*◌, ◌/◌, eqb, length}
use Rattle.paper.specs.Multiset.{sub_multisets}
use Rattle.paper.specs.Grammar.{Grammar, rule_count}
use Rattle.paper.specs.Sheet.{sum}

-- D, how many rests all the rules can have (S6)
unfoldable pub rests : Grammar → ℕ
rests g = sum (λ r. length (sub_multisets r.members)) g.rules

-- the bound on K, for n tokens (S6)
unfoldable pub entries_bound : Grammar → ℕ → ℕ
entries_bound g n = rests g * (n + 1) * (n + 2) / 2

-- the bound on steps, for n tokens and so many entries (S6)
unfoldable pub steps_bound : Grammar → ℕ → ℕ → ℕ
steps_bound g n entries = rule_count g + entries + entries * rule_count g + rule_count g * rests g * (n + 1) * (n + 2) * (n + 3) / 6

-- L, the bound on lines, for n tokens (L4)
unfoldable pub lines_bound : Grammar → ℕ → ℕ
lines_bound g n = cond (eqb n 0) g.nonterminals (3 * n * g.nonterminals)
