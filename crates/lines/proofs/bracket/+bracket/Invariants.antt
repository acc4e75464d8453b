use Rattle.std.proofs.Common.{List, ℕ, ◌+◌, ◌*◌}
use Rattle.paper.specs.Image.{grammar_of}
use Rattle.lines.proofs.Writing.{IsPut}
use Rattle.lines.proofs.Spelling.{Spelled}
use Rattle.lines.proofs.bracket.+bracket.Given as goal

abbrev pub decreases-put_line : goal.decreases-put_line
decreases-put_line l = 2 * l.k + 1

abbrev pub decreases-put_parts : goal.decreases-put_parts
decreases-put_parts l = 2 * l.k

abbrev pub invariant-put_parts-loop-x : goal.invariant-put_parts-loop-x
invariant-put_parts-loop-x l = record {
  done : List ℕ;
  put : IsPut l.limit l.fn.buffer l.fn.at done l.at l.buffer;
  spelled : Spelled (grammar_of l.input.grammar.now) l.input.tokens.now l.lines l.k l.x l.place done;
}
