-- The proofs of the statements in specs/Demands.antt, in their order.
-- Assumes nothing.
use native.Mathlib.Omega.{arith}
use lib.ListN.{length}
use Rattle.paper.proofs.Demands.{lines_bound_lem}
use Rattle.lines.specs.Plan.{lines_of}
use Rattle.lines.specs.Demands.{PlanIsValid, PlanFits, PlanIsNarrow}
use Rattle.lines.proofs.PlanLines.{count_is, lines_valid, lines_size, few_lines, lines_narrow}

pub plan_is_valid : PlanIsValid
plan_is_valid g row nodes is plan = (count_is is plan, lines_valid is plan)

pub plan_fits : PlanFits
plan_fits g row nodes is plan =
    let b = lines_bound_lem g row (lines_of g nodes) is (lines_valid is plan) in
    (omega (arith, count_is is plan), omega (arith, count_is is plan, lines_size is plan))

pub plan_is_narrow : PlanIsNarrow
plan_is_narrow g row nodes is short plan =
    let b = lines_bound_lem g row (lines_of g nodes) is (lines_valid is plan) in
    lines_narrow is plan short (omega (arith, count_is is plan, few_lines g (length row) is short))
