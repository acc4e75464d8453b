use Rattle.bench.proofs.Bench.{bench}
use Rattle.bench.proofs.Answers.{bench_answers}
use Rattle.bench.proofs.bench_laws.Goals as goal

pub returns-clause-holds : goal.returns-clause-holds
returns-clause-holds c = λ row m. bench m

pub returns-clause-answered : goal.returns-clause-answered
returns-clause-answered c = λ row entry exit answer m. bench_answers m
