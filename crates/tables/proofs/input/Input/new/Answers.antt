use Rattle.std.proofs.Common.{sym, arith}
use Rattle.std.proofs.lemmas.Grind.{merely}
use Rattle.paper.proofs.Records.{all_below_lem}
use Rattle.tables.proofs.input.Input.new.Goals as goal

pub invariant_of-result : goal.invariant_of-result
invariant_of-result c =
    record {
      fits = record {
        is_grammar = rw (← c.grammar.view_is) c.grammar.invariant.is_grammar;
        short = omega arith;
        is_row = record {
          tokens_are = λ k l. record { below = all_below_lem _ c.args.tokens.now (rw c.terminals.ensures at (sym c.if-not-are_below.ensures)) k l };
        };
      };
      ranked = merely c.ranks.ensures;
    }
