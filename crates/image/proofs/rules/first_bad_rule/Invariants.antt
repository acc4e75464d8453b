use Rattle.std.proofs.Common.{◌≡◌, ◌-◌}
use Rattle.paper.specs.Image.{rules_fault, record_fault}
use Rattle.image.proofs.rules.first_bad_rule.Given as goal

abbrev pub invariant-loop-h : goal.invariant-loop-h
invariant-loop-h l = rules_fault l.terminals l.symbols l.rules ≡ record_fault l.terminals l.symbols (l.count - l.h) l.h l.last l.records
