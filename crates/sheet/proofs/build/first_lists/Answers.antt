use Rattle.std.proofs.Common.{◌<◌, ◌^◌, refl, ap, ◌∙◌, arith}
use Rattle.std.proofs.lemmas.Nat.{one_shl}
use Rattle.sheet.proofs.Places.{zeros}
use Rattle.sheet.proofs.Opening.{first_opened}
use Rattle.sheet.proofs.build.first_lists.Goals as goal

pub returns-clause-state : goal.returns-clause-state
returns-clause-state c =
    let is = c.args.input.now.fits.is_grammar in
    let small : c.start.result.0 < 64 = let s = is.start_is in omega (arith, is.few_symbols, s.below, c.start.ensures) in
    λ words. first_opened is refl refl (zeros 66) (zeros 64) (one_shl c.start.result.0 64 small ∙ ap (λ n. 2 ^ n) c.start.ensures)
