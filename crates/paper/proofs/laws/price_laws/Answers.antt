use Rattle.paper.proofs.Demands
use Rattle.paper.proofs.laws.price_laws.Goals as goal

pub returns-clause-distinct_sub_multisets : goal.returns-clause-distinct_sub_multisets
returns-clause-distinct_sub_multisets c = Demands.distinct_sub_multisets

pub returns-clause-entries : goal.returns-clause-entries
returns-clause-entries c = Demands.entries_bound_lem

pub returns-clause-steps : goal.returns-clause-steps
returns-clause-steps c = Demands.steps_bound_lem

pub returns-clause-price : goal.returns-clause-price
returns-clause-price c = Demands.steps_price
