use Rattle.std.proofs.Common.{ap, sym, ◌∙◌, take, get_or}
use Rattle.paper.proofs.Image.{image_grammar}
use Rattle.paper.specs.Image.{grammar_of}
use Rattle.tables.proofs.Admitting.{is_filled, front_ascends, front_small, tabled_is, ranked_is, empties, nonterminals_are}
use Rattle.tables.proofs.admit.table_of.Goals as goal

pub slice_bounds-filled-end : goal.slice_bounds-filled-end
slice_bounds-filled-end c =
    let f = is_filled c.args.image.now c.requires c.body-rules.result.now c.from-count.result c.rows_of-rows.result c.body-rules.ensures c.from-count.ensures c.rows_of-rows.ensures.long c.rows_of-rows.ensures.rows in
    sym f.size

pub firsts_of-firsts-requires-clause-ascend : goal.firsts_of-firsts-requires-clause-ascend
firsts_of-firsts-requires-clause-ascend c =
    let f = is_filled c.args.image.now c.requires c.body-rules.result.now c.from-count.result c.rows_of-rows.result c.body-rules.ensures c.from-count.ensures c.rows_of-rows.ensures.long c.rows_of-rows.ensures.rows in
    front_ascends c.args.image.now c.requires f

pub ranks_of-ranks-requires : goal.ranks_of-ranks-requires
ranks_of-ranks-requires c =
    let f = is_filled c.args.image.now c.requires c.body-rules.result.now c.from-count.result c.rows_of-rows.result c.body-rules.ensures c.from-count.ensures c.rows_of-rows.ensures.long c.rows_of-rows.ensures.rows in
    front_small c.args.image.now c.requires f

pub invariant_of-result : goal.invariant_of-result
unfolding grammar_of
invariant_of-result c =
    let f = is_filled c.args.image.now c.requires c.body-rules.result.now c.from-count.result c.rows_of-rows.result c.body-rules.ensures c.from-count.ensures c.rows_of-rows.ensures.long c.rows_of-rows.ensures.rows in
    let is = image_grammar c.args.image.now c.requires in
    let front = take c.from-count.result c.rows_of-rows.result in
    let size = f.size ∙ f.count_is in
    let given = c.ranks_of-ranks.ensures.given.1 in
    let terminals = ap (λ s. get_or s 0 0) c.body-symbols.ensures in
    let nonterminals = ap (λ s. get_or s 1 0) c.body-symbols.ensures in
    record {
      admitted = c.requires;
      is_grammar = is;
      tabled = tabled_is is front size f.front f.count_is f.wide c.firsts_of-firsts.ensures.few c.firsts_of-firsts.ensures.before c.firsts_of-firsts.ensures.from;
      ranked = ranked_is is front size f.front given c.ranks_of-ranks.ensures.closed;
      terminals_are = terminals;
      nonterminals_are = nonterminals;
      start_is = c.from.ensures ∙ ap (λ s. get_or s 2 0) c.body-symbols.ensures;
      nonterminals_in = nonterminals_are (grammar_of c.args.image.now) _ _ c.set_from.result terminals nonterminals c.set_from.ensures;
      empties_in = empties is front size f.front given c.ranks_of-ranks.ensures.closed c.ranked_set.result c.ranked_set.ensures;
    }
