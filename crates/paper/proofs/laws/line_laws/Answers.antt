use Rattle.paper.proofs.Demands
use Rattle.paper.proofs.laws.line_laws.Goals as goal

pub returns-clause-exist : goal.returns-clause-exist
returns-clause-exist c = Demands.lines_exist

pub returns-clause-sound : goal.returns-clause-sound
returns-clause-sound c = Demands.lines_sound

pub returns-clause-bound : goal.returns-clause-bound
returns-clause-bound c = Demands.lines_bound_lem
