use Rattle.lines.proofs.Demands
use Rattle.lines.proofs.laws.plan_laws.Goals as goal

pub returns-clause-valid : goal.returns-clause-valid
returns-clause-valid c = Demands.plan_is_valid

pub returns-clause-fits : goal.returns-clause-fits
returns-clause-fits c = Demands.plan_fits

pub returns-clause-narrow : goal.returns-clause-narrow
returns-clause-narrow c = Demands.plan_is_narrow
