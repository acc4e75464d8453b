use Rattle.std.proofs.Common.{◌^◌, arith}
use Rattle.std.proofs.lemmas.Nat.{mul-le}
use Rattle.price.proofs.Pricing.{product_few, products_few}
use Rattle.price.proofs.most_steps.Goals as goal

pub overflow_mul-result-4 : goal.overflow_mul-result-4
overflow_mul-result-4 c = omega (arith, product_few c.args.rules c.args.rests c.args.n c.requires.few_rules c.requires.few c.requires.short)

pub overflow_mul-result-5 : goal.overflow_mul-result-5
overflow_mul-result-5 c = omega (arith, products_few c.args.rules c.args.rests c.args.n c.requires.few_rules c.requires.few c.requires.short)

pub overflow_add-result-6 : goal.overflow_add-result-6
overflow_add-result-6 c =
    omega (
      arith,
      products_few c.args.rules c.args.rests c.args.n c.requires.few_rules c.requires.few c.requires.short,
      mul-le c.args.entries c.args.rules (2 ^ 32) 96 c.requires.few_entries c.requires.few_rules,
    )
