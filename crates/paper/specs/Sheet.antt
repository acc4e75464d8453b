-- The sheet: the words of entries, the lists, and what is counted over them (docs/RULES.md, "The sheet").
-- Assumes nothing.
use Rattle.std.specs.Prelude.{◌≡◌, Bool, ◌&&◌, cond, ◌↔◌, ℕ, zero, suc, ◌+◌, ◌*◌, ◌/◌, ◌%◌, eqb, leb, length, get_or}
use mathlib.Core.List.{List, [], ◌∷◌, Memᴰ, map}
use Rattle.paper.specs.Multiset.{bit, count, keep, StrictlyAscending}
use Rattle.paper.specs.Grammar.{Grammar, left, members}
use Rattle.paper.specs.Entry.{Entry, may_take, finished, Stands}

-- the byte that a rest is, a bit for each member that is left (S7). Of equal members the last are left: so a member is left if it and its equals
-- behind it are no more than the rest has.
unfoldable pub mask : List ℕ → List ℕ → ℕ
mask [] rest = 0
mask (a ∷ members) rest = bit (leb (count a (a ∷ members)) (count a rest)) + 2 * mask members rest

-- the word that an entry is (S7)
unfoldable pub word : Grammar → Entry → ℕ
word g e = e.rule * 65536 + e.origin * 256 + mask (members g e.rule) e.rest

-- the rest that a byte is: the members whose bit is set (S7)
unfoldable pub rest_of : List ℕ → ℕ → List ℕ
rest_of [] byte = []
rest_of (a ∷ members) byte = cond (eqb (byte % 2) 1) (a ∷ rest_of members (byte / 2)) (rest_of members (byte / 2))

-- the entry that a word is (S7)
unfoldable pub entry_of : Grammar → ℕ → Entry
entry_of g w = record { rule = w / 65536; origin = w / 256 % 256; rest = rest_of (members g (w / 65536)) (w % 256) }

-- lists 0 to n, each a list of entries (S1)
abbrev pub Sheet : Type 0
Sheet = List (List Entry)

-- list j; past the last there is none, and an empty list stands for it
abbrev pub list_at : Sheet → ℕ → List Entry
list_at sheet j = get_or sheet j []

-- the sheet of the row: its lists (S1), on each just what stands there (S3), by ascending words (S8)
pub record IsSheet (g : Grammar) (row : List ℕ) (sheet : Sheet) : Type 0 where
  pub lists : length sheet ≡ suc (length row)
  pub exact : (j : ℕ) (e : Entry) → Memᴰ e (list_at sheet j) ↔ Stands g row j e
  pub ascending : (j : ℕ) → StrictlyAscending (map (word g) (list_at sheet j))

-- the sum of a number for each element
unfoldable pub sum {ℓ} : {A : Type ℓ} → (A → ℕ) → List A → ℕ
sum f [] = 0
sum f (x ∷ s) = f x + sum f s

-- how many elements pass the test
abbrev pub many {ℓ} : {A : Type ℓ} → (A → Bool) → List A → ℕ
many p s = sum (λ x. bit (p x)) s

-- the sum of a number for each of 0 to n - 1
unfoldable pub sum_below : ℕ → (ℕ → ℕ) → ℕ
sum_below zero f = 0
sum_below (suc n) f = sum_below n f + f n

-- K, the number of entries (S6)
unfoldable pub entries : Sheet → ℕ
entries sheet = sum length sheet

-- start: how many rules the start symbol has (S5)
unfoldable pub start_steps : Grammar → ℕ
start_steps g = many (λ r. eqb r.left g.start) g.rules

-- scan: how many entries may take the token behind their list (S5)
unfoldable pub scan_steps : Grammar → List ℕ → Sheet → ℕ
scan_steps g row sheet = sum_below (length row) (λ j. many (λ e. may_take g (get_or row j 0) e.rest) (list_at sheet j))

-- predict: how many times a rule's left symbol may be taken from an entry (S5)
unfoldable pub predict_steps : Grammar → Sheet → ℕ
predict_steps g sheet = sum (sum (λ e. many (λ r. may_take g r.left e.rest) g.rules)) sheet

-- the entries from which a may be taken: they wait for a (S4)
unfoldable pub waiting : Grammar → ℕ → List Entry → List Entry
waiting g a list = keep (λ e. may_take g a e.rest) list

-- complete: how many times a finished entry has an entry that waits for it on the list of its origin (S5)
unfoldable pub complete_steps : Grammar → Sheet → ℕ
complete_steps g sheet = sum (sum (λ f. length (waiting g (left g f.rule) (list_at sheet f.origin)))) (map (keep finished) sheet)

-- all four kinds of steps (S5)
unfoldable pub steps : Grammar → List ℕ → Sheet → ℕ
steps g row sheet = start_steps g + scan_steps g row sheet + predict_steps g sheet + complete_steps g sheet

-- finished, of the start symbol, begun at place 0: a top if it is on the last list (S9)
unfoldable pub is_top : Grammar → Entry → Bool
is_top g e = finished e && (eqb e.origin 0 && eqb (left g e.rule) g.start)

-- how many tops there are (S9)
unfoldable pub tops : Grammar → List ℕ → Sheet → ℕ
tops g row sheet = many (is_top g) (list_at sheet (length row))
