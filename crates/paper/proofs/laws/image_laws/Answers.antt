use Rattle.paper.proofs.Demands
use Rattle.paper.proofs.laws.image_laws.Goals as goal

pub returns-clause-admitted_is_written : goal.returns-clause-admitted_is_written
returns-clause-admitted_is_written c = Demands.admitted_is_written

pub returns-clause-admitted_is_grammar : goal.returns-clause-admitted_is_grammar
returns-clause-admitted_is_grammar c = Demands.admitted_is_grammar

pub returns-clause-row_fits : goal.returns-clause-row_fits
returns-clause-row_fits c = Demands.row_fits

pub returns-clause-house_meant : goal.returns-clause-house_meant
returns-clause-house_meant c = Demands.house_meant
