use Rattle.std.proofs.Common.{arith}
use Rattle.image.proofs.Faults.{sound_for_64}
use Rattle.image.proofs.first_fault.Goals as goal

pub first_open_chain-requires : goal.first_open_chain-requires
first_open_chain-requires c =
    sound_for_64 c.body-symbols_body.result.now c.body-pairs.result.now (grind arith) (grind arith)
