use Rattle.std.proofs.Common.{◌≡◌, ℕ, ◌≤◌, get_or}
use Rattle.sheet.proofs.bytes.ByteSet.take_greatest.Given as goal

abbrev pub invariant-loop-left : goal.invariant-loop-left
invariant-loop-left l = (l.self ≡ l.fn.self) × (l.left ≤ 4) × ((k : ℕ) → l.left ≤ k → get_or l.self.words k 0 ≡ 0)
