use Rattle.std.proofs.Common.{◌≡◌, suc, ◌<◌, length, set, refl, ap, ◌∙◌, arith}
use Rattle.sheet.proofs.Places.{zeros}
use Rattle.sheet.proofs.Opening.{next_opened}
use Rattle.sheet.proofs.build.open_next.Goals as goal

pub returns-clause-state : goal.returns-clause-state
returns-clause-state c =
    let now = c.args.lists.now in
    let short = c.args.input.now.fits.short in
    let room : suc now.place < length now.starts = omega (arith, c.requires.more) in
    let at : c.from.result ≡ suc now.place = c.from.ensures ∙ omega arith in
    next_opened c.requires.state c.requires.list c.requires.more room (omega arith) (ap (λ n. set now.starts n now.end) at) refl (zeros 64) refl
