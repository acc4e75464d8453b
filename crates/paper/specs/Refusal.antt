-- The refusals (docs/RULES.md, "What comes back").
-- Assumes nothing.
use Rattle.std.specs.Prelude.{ℕ}
use Rattle.paper.specs.declared.Refusal.{Refusal}
use Rattle.paper.specs.declared.Refusal.TheVariants.{Contents, Symbols, Rules, Order, Chain, LongRow, StrangeToken, FewStarts, FewLines, FewWords, InvalidLines, LongBracket, NoLine}

-- the number that the table has for each refusal (R2)
abbrev pub number_of : Refusal → ℕ
number_of Contents = 10
number_of Symbols = 11
number_of Rules = 12
number_of Order = 13
number_of Chain = 14
number_of LongRow = 20
number_of StrangeToken = 21
number_of FewStarts = 22
number_of FewLines = 23
number_of FewWords = 24
number_of InvalidLines = 30
number_of LongBracket = 31
number_of NoLine = 32
