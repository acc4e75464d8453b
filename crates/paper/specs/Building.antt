-- The sheet as a total function of grammar and row: the steps (S5; Shieber, section 5) taken in rounds until a list has nothing new.
-- Assumes nothing.
use Rattle.std.specs.Prelude.{◌≡◌, true, false, cond, ℕ, zero, suc, ◌*◌, ◌<◌, eqb, ltb, length, get_or}
use mathlib.Core.List.{List, [], ◌∷◌, ◌++◌, Memᴰ, map, flat_map}
use Rattle.paper.specs.Multiset.{keep}
use Rattle.paper.specs.Grammar.{Grammar, rule_count, left}
use Rattle.paper.specs.Entry.{Entry, may_take, fresh, taking, finished}
use Rattle.paper.specs.Sheet.{Sheet, list_at, word, waiting}
use Rattle.paper.specs.Price.{rests}

-- x at its place in a list that ascends by key; nothing if its key is there
unfoldable pub insert {ℓ} : {A : Type ℓ} → (A → ℕ) → A → List A → List A
insert key x [] = x ∷ []
insert key x (y ∷ s) = cond (ltb (key x) (key y)) (x ∷ y ∷ s) (y ∷ cond (eqb (key x) (key y)) s (insert key x s))

-- several at their places, one after another
unfoldable pub insert_all {ℓ} : {A : Type ℓ} → (A → ℕ) → List A → List A → List A
insert_all key [] s = s
insert_all key (x ∷ more) s = insert_all key more (insert key x s)

-- A round inserts all consequences of the list as it stands; rounds go on until nothing is new, or the fuel is out.
unfoldable pub close {ℓ} : {A : Type ℓ} → (A → ℕ) → (List A → List A) → ℕ → List A → List A
close key consequences zero s = s
close key consequences (suc fuel) s =
    let next = insert_all key (consequences s) s in
    elim (eqb (length next) (length s)) [ true ↦ s | false ↦ close key consequences fuel next ]

-- the numbers below n
unfoldable pub below : ℕ → List ℕ
below zero = []
below (suc n) = n ∷ below n

-- what list 0 begins with: the rules of the start symbol; and a later list: the entries of the list before with the token between them found (S5: start, scan)
unfoldable pub seeds : Grammar → List ℕ → Sheet → ℕ → List Entry
seeds g row lists zero = map (λ h. fresh g h 0) (keep (λ h. eqb (left g h) g.start) (below (rule_count g)))
seeds g row lists (suc j) = map (taking (get_or row j 0)) (waiting g (get_or row j 0) (list_at lists j))

-- what an entry on list j predicts: the rules whose left symbol may be taken from it (S5)
unfoldable pub predicted : Grammar → ℕ → Entry → List Entry
predicted g j e = map (λ h. fresh g h j) (keep (λ h. may_take g (left g h) e.rest) (below (rule_count g)))

-- what a finished entry completes: those that wait for its left symbol on the list of its origin (S5)
unfoldable pub completed : Grammar → Sheet → Entry → List Entry
completed g lists f = cond (finished f) (map (taking (left g f.rule)) (waiting g (left g f.rule) (list_at lists f.origin))) []

-- all that the entries of list j predict and complete; lists 0 to j - 1 are done
unfoldable pub consequences : Grammar → ℕ → Sheet → List Entry → List Entry
consequences g j lists list = flat_map (λ e. predicted g j e ++ completed g (lists ++ (list ∷ [])) e) list

-- List j from the lists before it. It has no more entries than there are rests and origins, and each round but the last adds one.
unfoldable pub next_list : Grammar → List ℕ → ℕ → Sheet → List Entry
next_list g row j lists = close (word g) (consequences g j lists) (suc (rests g * suc j)) (insert_all (word g) (seeds g row lists j) [])

-- the first m lists
unfoldable pub first_lists : Grammar → List ℕ → ℕ → Sheet
first_lists g row zero = []
first_lists g row (suc m) = let lists = first_lists g row m in lists ++ (next_list g row m lists ∷ [])

-- the whole sheet, lists 0 to n (S1)
unfoldable pub sheet_of : Grammar → List ℕ → Sheet
sheet_of g row = first_lists g row (suc (length row))

-- The lists lack nothing that a step leads to (S5).
pub record IsClosed (g : Grammar) (row : List ℕ) (sheet : Sheet) : Type 0 where
  pub start : (h : ℕ) → h < rule_count g → left g h ≡ g.start → Memᴰ (fresh g h 0) (list_at sheet 0)
  pub scan : (j : ℕ) (e : Entry) → Memᴰ e (list_at sheet j) → j < length row → may_take g (get_or row j 0) e.rest ≡ true
      → Memᴰ (taking (get_or row j 0) e) (list_at sheet (suc j))
  pub predict : (j h : ℕ) (e : Entry) → Memᴰ e (list_at sheet j) → h < rule_count g → may_take g (left g h) e.rest ≡ true
      → Memᴰ (fresh g h j) (list_at sheet j)
  pub complete : (j : ℕ) (e f : Entry) → Memᴰ e (list_at sheet f.origin) → Memᴰ f (list_at sheet j) → finished f ≡ true
      → may_take g (left g f.rule) e.rest ≡ true → Memᴰ (taking (left g f.rule) e) (list_at sheet j)
