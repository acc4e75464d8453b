use Rattle.paper.proofs.Demands
use Rattle.paper.proofs.laws.sheet_laws.Goals as goal

pub returns-clause-language_by_trees : goal.returns-clause-language_by_trees
returns-clause-language_by_trees c = Demands.language_by_trees

pub returns-clause-theorem_7 : goal.returns-clause-theorem_7
returns-clause-theorem_7 c = Demands.theorem_7

pub returns-clause-theorem_1 : goal.returns-clause-theorem_1
returns-clause-theorem_1 c = Demands.theorem_1

pub returns-clause-exists : goal.returns-clause-exists
returns-clause-exists c = Demands.sheet_exists

pub returns-clause-unique : goal.returns-clause-unique
returns-clause-unique c = Demands.sheet_unique

pub returns-clause-word_read_back : goal.returns-clause-word_read_back
returns-clause-word_read_back c = Demands.word_read_back

pub returns-clause-ones_left : goal.returns-clause-ones_left
returns-clause-ones_left c = Demands.ones_left
