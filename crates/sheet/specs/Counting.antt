-- What is counted over one list of the sheet.
-- Assumes nothing.
use Rattle.std.specs.Prelude.{◌/◌, ◌%◌, Bool, ◌&&◌, cond, List, ℕ, ◌+◌, ◌*◌, eqb, ltb, length, get_or}
use Rattle.paper.specs.Multiset.{keep}
use Rattle.paper.specs.Grammar.{Grammar, left}
use Rattle.paper.specs.Entry.{Entry, may_take, finished}
use Rattle.paper.specs.Sheet.{sum, many, list_at, waiting}
use Rattle.paper.specs.Building.{sheet_of}

-- how many rules have the left symbol x
unfoldable pub rules_with : Grammar → ℕ → ℕ
rules_with g x = many (λ r. eqb r.left x) g.rules

-- the predict steps of an entry with this rest: how many rules have a left symbol that may be taken from it
unfoldable pub predictions_of : Grammar → List ℕ → ℕ
predictions_of g rest = many (λ r. may_take g r.left rest) g.rules

-- the predict steps of list j
unfoldable pub predict_at : Grammar → List ℕ → ℕ → ℕ
predict_at g row j = sum (λ e. predictions_of g e.rest) (list_at (sheet_of g row) j)

-- how many entries of list i wait for x
unfoldable pub waiting_at : Grammar → List ℕ → ℕ → ℕ → ℕ
waiting_at g row i x = many (λ e. may_take g x e.rest) (list_at (sheet_of g row) i)

-- finished, and of the origin and left symbol that c stands for: 64 times the one and the other
unfoldable pub ends : Grammar → ℕ → Entry → Bool
ends g c f = finished f && eqb (64 * f.origin + left g f.rule) c

-- how many such entries list j has
unfoldable pub ended_at : Grammar → List ℕ → ℕ → ℕ → ℕ
ended_at g row j c = many (ends g c) (list_at (sheet_of g row) j)

-- the complete steps of list j with finished entries of the origin and left symbol that c stands for
abbrev pub completed_by : Grammar → List ℕ → ℕ → ℕ → ℕ
completed_by g row j c = ended_at g row j c * waiting_at g row (c / 64) (c % 64)

-- the complete steps of list j
unfoldable pub complete_at : Grammar → List ℕ → ℕ → ℕ
complete_at g row j = sum (λ f. length (waiting g (left g f.rule) (list_at (sheet_of g row) f.origin))) (keep finished (list_at (sheet_of g row) j))

-- the scan steps of list j
unfoldable pub scan_at : Grammar → List ℕ → ℕ → ℕ
scan_at g row j = cond (ltb j (length row)) (waiting_at g row j (get_or row j 0)) 0

-- the steps of list j
unfoldable pub steps_at : Grammar → List ℕ → ℕ → ℕ
steps_at g row j = predict_at g row j + complete_at g row j + scan_at g row j
