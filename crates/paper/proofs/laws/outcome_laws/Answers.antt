use Rattle.paper.proofs.Demands
use Rattle.paper.proofs.laws.outcome_laws.Goals as goal

pub returns-clause-judged : goal.returns-clause-judged
returns-clause-judged c = Demands.judged_unique

pub returns-clause-checking : goal.returns-clause-checking
returns-clause-checking c = Demands.checking_unique

pub returns-clause-bracketing : goal.returns-clause-bracketing
returns-clause-bracketing c = Demands.bracketing_unique

pub returns-clause-view : goal.returns-clause-view
returns-clause-view c = Demands.view_unique

pub returns-clause-reading : goal.returns-clause-reading
returns-clause-reading c = Demands.reading_unique
