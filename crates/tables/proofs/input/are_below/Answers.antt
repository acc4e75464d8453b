use Rattle.std.proofs.Common.{ltb, refl, rules}
use Rattle.std.proofs.lemmas.List.Recursion.{and_is}
use Rattle.paper.specs.Image.{all_below}
use Rattle.tables.proofs.input.are_below.Goals as goal

pub returns : goal.returns
unfolding all_below
returns c = and_is (all_below c.args.limit) (λ x. ltb x c.args.limit) refl (λ _ _. refl) c.args.tokens.now 0 _ (search rules) (search rules)
