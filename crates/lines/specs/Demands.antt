-- What is proved of plans, as statements. Each has its proof in proofs/Demands.antt.
-- Assumes nothing.
use Rattle.std.specs.Prelude.{◌≡◌, List, ℕ, ◌*◌, ◌^◌, ◌≤◌, ◌<◌, length, All}
use Rattle.paper.specs.Grammar.{Grammar, IsGrammar}
use Rattle.paper.specs.Price.{lines_bound}
use Rattle.paper.specs.Lines.{line_size, line_count, Valid}
use Rattle.lines.specs.Plan.{Node, lines_of, IsPlan}

-- The lines of a plan are valid, one for each node.
abbrev pub PlanIsValid : Type 0
PlanIsValid = (g : Grammar) (row : List ℕ) (nodes : List Node) → IsGrammar g → IsPlan g row nodes → (line_count (lines_of g nodes) ≡ length nodes) × Valid g row (lines_of g nodes)

-- No plan has more nodes than there may be lines, nor its lines more numbers.
abbrev pub PlanFits : Type 0
PlanFits = (g : Grammar) (row : List ℕ) (nodes : List Node) → IsGrammar g → IsPlan g row nodes
    → (length nodes ≤ lines_bound g (length row)) × (length (lines_of g nodes) ≤ line_size * lines_bound g (length row))

-- Each number of the lines of a plan has at most 16 bits.
abbrev pub PlanIsNarrow : Type 0
PlanIsNarrow = (g : Grammar) (row : List ℕ) (nodes : List Node) → IsGrammar g → length row ≤ 64 → IsPlan g row nodes → All (λ n. n < 2 ^ 16) (lines_of g nodes)
