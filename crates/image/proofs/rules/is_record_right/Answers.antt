use Rattle.std.proofs.Common.{◌≡◌, ◌+◌, ◌-◌, ltb, arith, rules, tests, take, drop}
use Rattle.std.proofs.lemmas.Bool.Decides.{nat_tests}
use Rattle.std.proofs.lemmas.Iterator.{YieldsList-from_slice}
use Rattle.std.proofs.lemmas.Iterator.Search.{all_from_yields_List}
use Rattle.paper.specs.Image.{record_right}
use Rattle.image.proofs.RuleSteps.{ascends_is, all_below_is}
use Rattle.image.proofs.rules.is_record_right.Goals as goal

pub returns-then-is_sorted : goal.returns-then-is_sorted
unfolding record_right
returns-then-is_sorted c =
    let members = take (2 + c.from-size.result - 2) (drop 2 c.args.records.now) in
    let up = ascends_is members _ c.is_sorted.ensures.cases in
    let few = all_from_yields_List (λ a. ltb a c.args.symbols) _ _ c.all.result c.all.ensures.ran (YieldsList-from_slice members cc) (λ x b q k. search (rules, tests)) in
    let below = all_below_is c.args.symbols members in
    let n : 2 + c.from-size.result - 2 ≡ c.from-size.result = omega arith in
    grind (arith, nat_tests)

pub returns-else-is_sorted : goal.returns-else-is_sorted
unfolding record_right
returns-else-is_sorted c =
    let up = ascends_is (take (2 + c.from-size.result - 2) (drop 2 c.args.records.now)) _ c.is_sorted.ensures.cases in
    let n : 2 + c.from-size.result - 2 ≡ c.from-size.result = omega arith in
    grind (arith, nat_tests)
