use Rattle.price.proofs.Demands
use Rattle.price.proofs.laws.price_holds.Goals as goal

pub returns-clause-words : goal.returns-clause-words
returns-clause-words c = Demands.words_suffice

pub returns-clause-lines : goal.returns-clause-lines
returns-clause-lines c = Demands.lines_suffice
