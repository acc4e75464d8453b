use Rattle.std.proofs.Common.{arith}
use Rattle.std.proofs.lemmas.Bool.{false≢true}
use Rattle.lines.proofs.check.is_used.Goals as goal

pub returns : goal.returns
returns c = (λ f. absurd (false≢true f), λ (i, above, below, uses). absurd (c.loop-i.invariant i above (omega arith) uses))
