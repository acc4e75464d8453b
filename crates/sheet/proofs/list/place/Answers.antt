use Rattle.std.proofs.Common.{rules, arith}
use Rattle.sheet.proofs.Inserting.{place_found, answer_there, answer_full, answer_placed}
use Rattle.sheet.proofs.list.place.Goals as goal
use Rattle.sheet.proofs.list.place.Goals.{else-at-end-via-then-at-end+else-words-at, else-at-end-via-else-at-end}

pub returns-then-words-at : goal.returns-then-words-at
returns-then-words-at c =
    let place = place_found c.args.cell c.args.base c.partition_point.result c.args.end c.args.words.now c.requires.ascends c.partition_point.ensures.bound
    c.partition_point.ensures.partitioned (λ a r q k. search rules) in
    answer_there _ _ _ _ _ c.requires.list c.requires.within place c.if-at-end.true c.if-words-at.true

pub returns-then-words-end : goal.returns-then-words-end
returns-then-words-end c =
    let place = place_found c.args.cell c.args.base c.partition_point.result c.args.end c.args.words.now c.requires.ascends c.partition_point.ensures.bound
    c.partition_point.ensures.partitioned (λ a r q k. search rules) in
    answer_full _ _ _ _ _ c.requires.list c.requires.within place
    (λ l e. elim c.else-at-end.branch [ else-at-end-via-then-at-end+else-words-at w ↦ w.if-words-at.false e | else-at-end-via-else-at-end w ↦ omega arith ])
    c.if-words-end.true

pub returns : goal.returns
returns c =
    let place = place_found c.args.cell c.args.base c.partition_point.result c.args.end c.args.words.now c.requires.ascends c.partition_point.ensures.bound
    c.partition_point.ensures.partitioned (λ a r q k. search rules) in
    answer_placed _ _ _ _ _ c.requires.list c.requires.within place
    (λ l e. elim c.else-at-end.branch [ else-at-end-via-then-at-end+else-words-at w ↦ w.if-words-at.false e | else-at-end-via-else-at-end w ↦ omega arith ])
    _ c.if-words-end.false c.copy_within.ensures.after
