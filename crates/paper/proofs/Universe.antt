-- The entries that a list can have at all: their number, and that no two of them have one word.
-- Assumes nothing.
use mathlib.Core.Path.{◌≡◌, ap}
use mathlib.Core.List.Memᴰ
use mathlib.Core.List.{List, [], ◌∷◌, ◌++◌, Memᴰ, map}
use Prim.Native.Nat.{ℕ, zero, suc, ◌+◌, ◌*◌, ◌≤◌, ◌<◌}
use native.Mathlib.Omega.{arith}
use native.Mathlib.Nat.{mul-suc, add-mul, mul-zero, zero-mul}
use native.Mathlib.Decide.{dec_lt}
use lib.ListN.{length, get_or, length-append, length-map}
use Rattle.paper.specs.Multiset.{sub_multisets}
use Rattle.paper.specs.Grammar.{Grammar, Rule, IsGrammar, rule_count, left, members}
use Rattle.paper.specs.Entry.{Entry, Stands, Found, fresh, taking}
use Rattle.paper.specs.Entry.Found.{start, scan, predict, complete}
use Rattle.paper.specs.Sheet.{sum, word}
use Rattle.paper.specs.Price.{rests}
use Rattle.paper.proofs.Lists.{Distinct, pigeonhole}
use Rattle.paper.proofs.SubMultisets.{Listed, listed_all, listed_without, listed_minus}
use Rattle.paper.proofs.Words.{word_same}

-- an entry that list j can have: a rule there is, an origin up to j, a sub-multiset of the rule's members
pub record Possible (g : Grammar) (j : ℕ) (e : Entry) : Type 0 where
  pub is_rule : e.rule < rule_count g
  pub origin_le : e.origin ≤ j
  pub listed : Listed e.rest (members g e.rule)

pub possible_fresh : (g : Grammar) (h j : ℕ) → h < rule_count g → Possible g j (fresh g h j)
possible_fresh g h j l = grind (arith, listed_all)

-- what is taken leaves a possible entry, on any later list too
pub possible_taking : {g : Grammar} {i : ℕ} {e : Entry} (a j : ℕ) → i ≤ j → Possible g i e → Possible g j (taking a e)
possible_taking {g} {i} {e} a j l p = grind (arith, listed_without)

-- what the steps find is possible
pub found_possible : {g : Grammar} {row : List ℕ} {j : ℕ} {e : Entry} → Found g row j e → Possible g j e
found_possible {g} (start h l s) = possible_fresh g h 0 l
found_possible {g} {row} (scan {j = j} f l m) = possible_taking (get_or row j 0) (suc j) (omega arith) (found_possible f)
found_possible {g} (predict {j = j} h f l m) = possible_fresh g h j l
found_possible {g} (complete {j = j} {f = t} f k d m) = possible_taking (left g t.rule) j (found_possible k).origin_le (found_possible f)

-- what stands is possible
pub stands_possible : {g : Grammar} {row : List ℕ} {j : ℕ} {e : Entry} → Stands g row j e → Possible g j e
stands_possible {g} {row} {j} {e} s =
    record { is_rule = s.is_rule; origin_le = s.origin_le; listed = Memᴰ.cast s.rest_is (listed_minus (members g e.rule) s.found) }

-- words tell the possible entries apart
pub possible_same : (g : Grammar) → IsGrammar g → (j : ℕ) → j < 256 → (e f : Entry) → Possible g j e → Possible g j f → word g e ≡ word g f → e ≡ f
possible_same g is j l e f p q w = word_same g is e f p.is_rule q.is_rule (omega arith) (omega arith) p.listed q.listed w

-- ---- the list of them

abbrev pub entry : ℕ → ℕ → List ℕ → Entry
entry h i r = record { rule = h; origin = i; rest = r }

-- rule h with each of the rests and each origin below n
unfoldable pub with_origins : ℕ → List (List ℕ) → ℕ → List Entry
with_origins h listed zero = []
with_origins h listed (suc i) = map (entry h i) listed ++ with_origins h listed i

-- the rules, numbered from h on, with each of their rests and each origin below n
with_rules : ℕ → ℕ → List Rule → List Entry
with_rules h n [] = []
with_rules h n (r ∷ rules) = with_origins h (sub_multisets r.members) n ++ with_rules (suc h) n rules

-- all the entries that list j can have
pub universe : Grammar → ℕ → List Entry
universe g j = with_rules 0 (suc j) g.rules

length_with_origins : (h : ℕ) (listed : List (List ℕ)) (n : ℕ) → length (with_origins h listed n) ≡ length listed * n
unfolding with_origins
length_with_origins h listed zero = omega (arith, mul-zero (length listed))
length_with_origins h listed (suc i) =
    omega (arith, length-append (map (entry h i) listed) (with_origins h listed i), length-map listed (entry h i), length_with_origins h listed i, mul-suc (length listed) i)

length_with_rules : (h n : ℕ) (rules : List Rule) → length (with_rules h n rules) ≡ sum (λ r. length (sub_multisets r.members)) rules * n
unfolding with_rules sum
length_with_rules h n [] = omega (arith, zero-mul n)
length_with_rules h n (r ∷ rules) = search (rules, length-append, length_with_origins, add-mul, length_with_rules (suc h) n rules)

-- there are D(j + 1) of them
pub universe_size : (g : Grammar) (j : ℕ) → length (universe g j) ≡ rests g * suc j
unfolding universe rests
universe_size g j = length_with_rules 0 (suc j) g.rules

pub with_origins_has : (h i : ℕ) {r : List ℕ} (listed : List (List ℕ)) (n : ℕ) → i < n → Memᴰ r listed → Memᴰ (entry h i r) (with_origins h listed n)
unfolding with_origins
with_origins_has h i listed zero l m = absurd (omega arith)
with_origins_has h i {r} listed (suc n) l m = go (dec_lt i n) (λ k. with_origins_has h i listed n k m)
  where
    go : Dec (i < n) → (i < n → Memᴰ (entry h i r) (with_origins h listed n)) → Memᴰ (entry h i r) (map (entry h n) listed ++ with_origins h listed n)
    go (yes k) ih = Memᴰ.append_right (map (entry h n) listed) (ih k)
    go (no k) ih = let e : i ≡ n = omega arith in Memᴰ.append_left (with_origins h listed n) (Memᴰ.cast (ap (λ x. entry h x r) e) (Memᴰ.map (entry h n) m))

with_rules_has : (h k i n : ℕ) {r : List ℕ} (rules : List Rule) → k < length rules → i < n → Memᴰ r (sub_multisets (get_or rules k (record { left = 0; members = [] })).members)
    → Memᴰ (entry (h + k) i r) (with_rules h n rules)
unfolding with_rules
with_rules_has h k i n [] l j m = absurd (omega arith)
with_rules_has h zero i n {r} (q ∷ rules) l j m =
    let e : h + 0 ≡ h = omega arith in
    Memᴰ.append_left (with_rules (suc h) n rules) (Memᴰ.cast (ap (λ x. entry x i r) e) (with_origins_has h i (sub_multisets q.members) n j m))
with_rules_has h (suc k) i n {r} (q ∷ rules) l j m =
    let e : h + suc k ≡ suc h + k = omega arith in
    Memᴰ.append_right (with_origins h (sub_multisets q.members) n) (Memᴰ.cast (ap (λ x. entry x i r) e) (with_rules_has (suc h) k i n rules (omega arith) j m))

-- every possible entry is among them
pub universe_has : (g : Grammar) (j : ℕ) (e : Entry) → Possible g j e → Memᴰ e (universe g j)
unfolding universe
universe_has g j e p =
    let z : e.rule ≡ 0 + e.rule = omega arith in
    Memᴰ.cast (ap (λ h. entry h e.origin e.rest) z) (with_rules_has 0 e.rule e.origin (suc j) g.rules p.is_rule (omega arith) p.listed)

-- a list of possible entries without repeats has at most D(j + 1)
pub possible_few : (g : Grammar) (j : ℕ) (list : List Entry) → Distinct list → ((e : Entry) → Memᴰ e list → Possible g j e) → length list ≤ rests g * suc j
possible_few g j list d h = omega (arith, pigeonhole list (universe g j) d (λ e m. universe_has g j e (h e m)), universe_size g j)
