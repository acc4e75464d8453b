use Rattle.std.proofs.Common.{◌≡◌, None, refl, arith}
use Rattle.std.proofs.lemmas.Slice.{between_is}
use Rattle.paper.specs.Lines.{line_from, line_to}
use Rattle.paper.proofs.Demands.{view_unique}
use Rattle.lines.proofs.Answering.{places_within}
use Rattle.lines.proofs.view.view.Goals as goal

pub slice_bounds-result-count : goal.slice_bounds-result-count
slice_bounds-result-count c = let within = places_within c.in-Ok.ensures.outcome refl in let p = c.in-Ok.ensures.places in omega (arith, within.0)

pub slice_bounds-result-start : goal.slice_bounds-result-start
slice_bounds-result-start c = let within = places_within c.in-Ok.ensures.outcome refl in let p = c.in-Ok.ensures.places in omega (arith, within.0)

pub slice_bounds-result-end : goal.slice_bounds-result-end
slice_bounds-result-end c = let within = places_within c.in-Ok.ensures.outcome refl in let p = c.in-Ok.ensures.places in omega (arith, within.0, within.1)

pub returns-in-Ok-clause-outcome : goal.returns-in-Ok-clause-outcome
returns-in-Ok-clause-outcome c =
    let part = between_is c.args.tokens.now c.in-Ok.from.0 c.in-Ok.to.0 in
    (None, rw part c.in-Ok.ensures.outcome)

pub returns-in-Ok-clause-part : goal.returns-in-Ok-clause-part
returns-in-Ok-clause-part c = λ refusal o.
    let places : (c.in-Ok.from.0 ≡ line_from c.args.lines.now c.args.k) × (c.in-Ok.to.0 ≡ line_to c.args.lines.now c.args.k) = c.in-Ok.ensures.places in
    rw ((view_unique c.args.image.now c.args.tokens.now c.args.lines.now c.args.k refusal None _ _ o c.in-Ok.ensures.outcome).0, ← places.0) refl
