-- There is one sheet only for a grammar and a row.
-- Assumes nothing.
use mathlib.Core.Path.{◌≡◌, sym, ◌∙◌}
use mathlib.Core.List.{List, [], map}
use Prim.Native.Nat.{ℕ}
use native.Mathlib.Omega.{arith}
use lib.Seq.{ext_get_or}
use Rattle.paper.specs.Grammar.{Grammar}
use Rattle.paper.specs.Sheet.{Sheet, IsSheet, list_at, word}
use Rattle.paper.proofs.Closure.{Climbs, ascending_climbs, climbs_same}

-- the words of each list ascend
pub sheet_climbs : {g : Grammar} {row : List ℕ} {s : Sheet} → IsSheet g row s → (j : ℕ) → Climbs 0 (map (word g) (list_at s j))
sheet_climbs {g} {row} {s} p j = grind (arith, ascending_climbs)

-- two sheets of one grammar and row are equal
pub sheet_unique : {g : Grammar} {row : List ℕ} {s t : Sheet} → IsSheet g row s → IsSheet g row t → s ≡ t
sheet_unique {g} {row} {s} {t} p q =
    ext_get_or [] s t (p.lists ∙ sym q.lists)
    (λ j l. climbs_same (word g) 0 0 (list_at s j) (list_at t j) (sheet_climbs p j) (sheet_climbs q j) (λ e m. (q.exact j e).1 ((p.exact j e).0 m)) (λ e m. (p.exact j e).1 ((q.exact j e).0 m)))
