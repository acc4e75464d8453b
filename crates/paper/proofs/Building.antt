-- The sheet that is built is right: its lists hold exactly what the steps find, in ascending order of words.
-- Assumes nothing.
use mathlib.Core.Path.{◌≡◌, refl, ◌∙◌, ap}
use mathlib.Core.Logic.{◌↔◌, ◌⊎◌, inl, inr}
use mathlib.Core.Bool.{true}
use mathlib.Core.List.Memᴰ
use mathlib.Core.List.{List, [], ◌∷◌, ◌++◌, Memᴰ, map}
use Prim.Native.Nat.{ℕ, zero, suc, ◌*◌, ◌≤◌, ◌<◌}
use native.Mathlib.Omega.{arith}
use native.Mathlib.Decide.{dec_lt}
use lib.Dec.{eqb}
use lib.ListN.{length, get_or, length-append, get_or-append, get_or-eq_default}
use lib.Seq.{get_or_at}
use borrow.Author.Tests.{eqb-true, eq-eqb}
use Rattle.paper.specs.Multiset.{keep, StrictlyAscending}
use Rattle.paper.specs.Grammar.{Grammar, IsGrammar, rule_count, left}
use Rattle.paper.specs.Entry.{Entry, Found, fresh, taking, may_take, finished}
use Rattle.paper.specs.Entry.Found.{start, scan, predict, complete}
use Rattle.paper.specs.Sheet.{Sheet, list_at, word, waiting}
use Rattle.paper.specs.Price.{rests}
use Rattle.paper.specs.Building.{insert_all, below, seeds, predicted, completed, consequences, next_list, first_lists, sheet_of, IsClosed}
use Rattle.paper.proofs.Lists.{mem_keep, keep_mem, mem_flat_map, flat_map_mem, mem_below, below_mem}
use Rattle.paper.proofs.Closure.{Climbs, climbs_ascending, Every, insert_all_climbs, every_insert_all, insert_all_has, close_keeps, close_climbs, close_every, close_closed}
use Rattle.paper.proofs.Universe.{found_possible, possible_same, universe, universe_size, universe_has}

-- a closed sheet has all that the steps find
pub closed_found : {g : Grammar} {row : List ℕ} {j : ℕ} {e : Entry} {sheet : Sheet} → IsClosed g row sheet → Found g row j e → Memᴰ e (list_at sheet j)
closed_found c (start h l s) = c.start h l s
closed_found c (scan {j = j} {e = e} f l m) = c.scan j e (closed_found c f) l m
closed_found c (predict {j = j} {e = e} h f l m) = c.predict j h e (closed_found c f) l m
closed_found c (complete {j = j} {e = e} {f = t} f k d m) = c.complete j e t (closed_found c f) (closed_found c k) d m

-- ---- one more list

-- what holds of the lists there are, of the new one and of no list holds of every list
grown : (Q : ℕ → List Entry → Type 0) (sheet : Sheet) (list : List Entry) (m : ℕ) → length sheet ≡ m → ((j : ℕ) → j < m → Q j (list_at sheet j)) → Q m list → ((j : ℕ) → Q j [])
    → (j : ℕ) → Q j (list_at (sheet ++ (list ∷ [])) j)
grown Q sheet list m len old new none j = grind (arith, get_or-append, get_or_at, get_or-eq_default, length-append)

module _ (g : Grammar) where
  -- ---- what the steps give

  mem_predicted : (j h : ℕ) (e : Entry) → h < rule_count g → may_take g (left g h) e.rest ≡ true → Memᴰ (fresh g h j) (predicted g j e)
  unfolding predicted
  mem_predicted j h e l m = Memᴰ.map (λ k. fresh g k j) (mem_keep (λ k. may_take g (left g k) e.rest) (below (rule_count g)) (mem_below h (rule_count g) l) m)

  predicted_mem : {x : Entry} (j : ℕ) (e : Entry) → Memᴰ x (predicted g j e) → (h : ℕ) × (h < rule_count g) × (may_take g (left g h) e.rest ≡ true) × (x ≡ fresh g h j)
  unfolding predicted
  predicted_mem j e m = grind (arith, Memᴰ.of_map, keep_mem, below_mem)

  mem_waiting : {e : Entry} (a : ℕ) (list : List Entry) → Memᴰ e list → may_take g a e.rest ≡ true → Memᴰ (taking a e) (map (taking a) (waiting g a list))
  unfolding waiting
  mem_waiting a list m t = Memᴰ.map (taking a) (mem_keep (λ e. may_take g a e.rest) list m t)

  waiting_mem : {x : Entry} (a : ℕ) (list : List Entry) → Memᴰ x (map (taking a) (waiting g a list)) → (e : Entry) × Memᴰ e list × (may_take g a e.rest ≡ true) × (x ≡ taking a e)
  unfolding waiting
  waiting_mem a list m = grind (arith, Memᴰ.of_map, keep_mem)

  mem_completed : {e : Entry} (lists : Sheet) (f : Entry) → finished f ≡ true → Memᴰ e (list_at lists f.origin) → may_take g (left g f.rule) e.rest ≡ true
      → Memᴰ (taking (left g f.rule) e) (completed g lists f)
  unfolding completed
  mem_completed lists f d m t = grind (arith, mem_waiting)

  completed_mem : {x : Entry} (lists : Sheet) (f : Entry) → Memᴰ x (completed g lists f)
      → (finished f ≡ true) × ((e : Entry) × Memᴰ e (list_at lists f.origin) × (may_take g (left g f.rule) e.rest ≡ true) × (x ≡ taking (left g f.rule) e))
  unfolding completed
  completed_mem {x} lists f m = grind (arith, waiting_mem)

  -- the lists as a round sees them
  abbrev seen : Sheet → List Entry → Sheet
  seen lists list = lists ++ (list ∷ [])

  predict_consequence : (j h : ℕ) (e : Entry) (lists : Sheet) (list : List Entry) → Memᴰ e list → h < rule_count g → may_take g (left g h) e.rest ≡ true
      → Memᴰ (fresh g h j) (consequences g j lists list)
  unfolding consequences
  predict_consequence j h e lists list m l t =
      mem_flat_map (λ x. predicted g j x ++ completed g (seen lists list) x) list m (Memᴰ.append_left (completed g (seen lists list) e) (mem_predicted j h e l t))

  complete_consequence : {e : Entry} (j : ℕ) (f : Entry) (lists : Sheet) (list : List Entry) → Memᴰ e (list_at (seen lists list) f.origin) → Memᴰ f list → finished f ≡ true
      → may_take g (left g f.rule) e.rest ≡ true → Memᴰ (taking (left g f.rule) e) (consequences g j lists list)
  unfolding consequences
  complete_consequence j f lists list m n d t =
      mem_flat_map (λ x. predicted g j x ++ completed g (seen lists list) x) list n (Memᴰ.append_right (predicted g j f) (mem_completed (seen lists list) f d m t))

  -- ---- all that is built is found

  module _ (row : List ℕ) where
    -- all of every list is found there
    abbrev Sound : Sheet → Type 0
    Sound sheet = (j : ℕ) → Every (Found g row j) (list_at sheet j)

    sound_grown : (sheet : Sheet) (list : List Entry) (m : ℕ) → length sheet ≡ m → Sound sheet → Every (Found g row m) list → Sound (seen sheet list)
    sound_grown sheet list m len old new = grown (λ j s. Every (Found g row j) s) sheet list m len (λ j l. old j) new (λ j x n. absurd (Memᴰ.not-nil n))

    seeds_found : (sheet : Sheet) (m : ℕ) → m ≤ length row → Sound sheet → Every (Found g row m) (seeds g row sheet m)
    unfolding seeds
    seeds_found sheet zero l sound x n =
        let r = Memᴰ.of_map (λ h. fresh g h 0) (keep (λ h. eqb (left g h) g.start) (below (rule_count g))) n in
        let k = keep_mem (λ h. eqb (left g h) g.start) (below (rule_count g)) r.1 in
        rw (← r.2) (start r.0 (below_mem (rule_count g) k.0) (eqb-true (left g r.0) g.start k.1))
    seeds_found sheet (suc j) l sound x n =
        let r = waiting_mem (get_or row j 0) (list_at sheet j) n in
        rw r.3 (scan (sound j r.0 r.1) l r.2)

    mem_seeds_start : (sheet : Sheet) (h : ℕ) → h < rule_count g → left g h ≡ g.start → Memᴰ (fresh g h 0) (seeds g row sheet 0)
    unfolding seeds
    mem_seeds_start sheet h l s = Memᴰ.map (λ k. fresh g k 0) (mem_keep (λ k. eqb (left g k) g.start) (below (rule_count g)) (mem_below h (rule_count g) l) (eq-eqb (left g h) g.start s))

    mem_seeds_scan : {e : Entry} (sheet : Sheet) (j : ℕ) → Memᴰ e (list_at sheet j) → may_take g (get_or row j 0) e.rest ≡ true → Memᴰ (taking (get_or row j 0) e) (seeds g row sheet (suc j))
    unfolding seeds
    mem_seeds_scan sheet j m t = mem_waiting (get_or row j 0) (list_at sheet j) m t

    consequences_found : (sheet : Sheet) (m : ℕ) → length sheet ≡ m → Sound sheet → (list : List Entry) → Every (Found g row m) list → Every (Found g row m) (consequences g m sheet list)
    unfolding consequences
    consequences_found sheet m len sound list all x n =
        let r = flat_map_mem (λ e. predicted g m e ++ completed g (seen sheet list) e) list n in
        go r.0 (all r.0 r.1) (Memᴰ.append_cases (predicted g m r.0) r.2)
      where
        go : (f : Entry) → Found g row m f → Memᴰ x (predicted g m f) ⊎ Memᴰ x (completed g (seen sheet list) f) → Found g row m x
        go f h (inl p) = let r = predicted_mem m f p in rw r.3 (predict r.0 h r.1 r.2)
        go f h (inr p) =
            let c = completed_mem (seen sheet list) f p in
            let r = c.1 in
            rw r.3 (complete (sound_grown sheet list m len sound all f.origin r.0 r.1) h c.0 r.2)

    -- ---- the next list has all that the steps find on it

    module _ (is : IsGrammar g) (sheet : Sheet) (m : ℕ) (len : length sheet ≡ m) (within : m ≤ length row) (short : length row ≤ 64) (sound : Sound sheet) where
      same : (x y : Entry) → Found g row m x → Found g row m y → word g x ≡ word g y → x ≡ y
      same x y f h = grind (arith, possible_same, found_possible)

      -- what the rounds begin with
      abbrev first : List Entry
      first = insert_all (word g) (seeds g row sheet m) []

      first_found : Every (Found g row m) first
      first_found = every_insert_all (word g) (Found g row m) (seeds g row sheet m) [] (seeds_found sheet m within sound) (λ x n. absurd (Memᴰ.not-nil n))

      first_climbs : Climbs 0 (map (word g) first)
      first_climbs = insert_all_climbs (word g) (seeds g row sheet m) [] tt

      next_found : Every (Found g row m) (next_list g row m sheet)
      unfolding next_list
      next_found = close_every (word g) (consequences g m sheet) (Found g row m) (consequences_found sheet m len sound) (suc (rests g * suc m)) first first_found

      next_climbs : Climbs 0 (map (word g) (next_list g row m sheet))
      unfolding next_list
      next_climbs = close_climbs (word g) (consequences g m sheet) (suc (rests g * suc m)) first first_climbs

      next_seeds : Every (λ x. Memᴰ x (next_list g row m sheet)) (seeds g row sheet m)
      unfolding next_list
      next_seeds x n =
          close_keeps (word g) (consequences g m sheet) (suc (rests g * suc m)) first
          (insert_all_has (word g) (Found g row m) same (seeds g row sheet m) [] (seeds_found sheet m within sound) (λ y k. absurd (Memᴰ.not-nil k)) n)

      next_closed : Every (λ x. Memᴰ x (next_list g row m sheet)) (consequences g m sheet (next_list g row m sheet))
      unfolding next_list
      next_closed =
          close_closed (word g) (consequences g m sheet) (Found g row m) same (universe g m) (λ x f. universe_has g m x (found_possible f)) (consequences_found sheet m len sound)
          (suc (rests g * suc m)) first (omega (arith, universe_size g m)) first_climbs first_found

    -- ---- the first m lists

    -- the lists of a sheet under way: as many as are done, ascending, sound and closed under the steps
    record Done (m : ℕ) (sheet : Sheet) : Type 0 where
      lists : length sheet ≡ m
      climbs : (j : ℕ) → Climbs 0 (map (word g) (list_at sheet j))
      sound : Sound sheet
      begins : 0 < m → (h : ℕ) → h < rule_count g → left g h ≡ g.start → Memᴰ (fresh g h 0) (list_at sheet 0)
      scans : (j : ℕ) (e : Entry) → Memᴰ e (list_at sheet j) → suc j < m → may_take g (get_or row j 0) e.rest ≡ true → Memᴰ (taking (get_or row j 0) e) (list_at sheet (suc j))
      predicts : (j h : ℕ) (e : Entry) → Memᴰ e (list_at sheet j) → h < rule_count g → may_take g (left g h) e.rest ≡ true → Memᴰ (fresh g h j) (list_at sheet j)
      completes : (j : ℕ) (e f : Entry) → Memᴰ e (list_at sheet f.origin) → Memᴰ f (list_at sheet j) → finished f ≡ true → may_take g (left g f.rule) e.rest ≡ true
          → Memᴰ (taking (left g f.rule) e) (list_at sheet j)

    done_none : Done 0 []
    done_none = grind arith

    module _ (is : IsGrammar g) (sheet : Sheet) (m : ℕ) (done : Done m sheet) (within : m ≤ length row) (short : length row ≤ 64) where
      abbrev new : List Entry
      new = next_list g row m sheet

      at_old : (j : ℕ) → j < m → list_at (seen sheet new) j ≡ list_at sheet j
      at_old j l = grind (arith, get_or-append)

      at_new : list_at (seen sheet new) m ≡ new
      at_new = get_or_at sheet new [] [] m done.lists

      seeded : Every (λ x. Memᴰ x new) (seeds g row sheet m)
      seeded = next_seeds is sheet m done.lists within short done.sound

      closed : Every (λ x. Memᴰ x new) (consequences g m sheet new)
      closed = next_closed is sheet m done.lists within short done.sound

      more_begins : (h : ℕ) → h < rule_count g → left g h ≡ g.start → Memᴰ (fresh g h 0) (list_at (seen sheet new) 0)
      more_begins h l s = go (dec_lt 0 m)
        where
          go : Dec (0 < m) → Memᴰ (fresh g h 0) (list_at (seen sheet new) 0)
          go (yes k) = rw (at_old 0 k) (done.begins k h l s)
          go (no k) = let z : 0 ≡ m = omega arith in rw (ap (list_at (seen sheet new)) z ∙ at_new) (seeded (fresh g h 0) (rw (← z) (mem_seeds_start sheet h l s)))

      more_scans : (j : ℕ) (e : Entry) → Memᴰ e (list_at (seen sheet new) j) → suc j < suc m → may_take g (get_or row j 0) e.rest ≡ true
          → Memᴰ (taking (get_or row j 0) e) (list_at (seen sheet new) (suc j))
      more_scans j e n l t = go (dec_lt (suc j) m)
        where
          old : Memᴰ e (list_at sheet j)
          old = rw (at_old j (omega arith)) at n

          go : Dec (suc j < m) → Memᴰ (taking (get_or row j 0) e) (list_at (seen sheet new) (suc j))
          go (yes k) = rw (at_old (suc j) k) (done.scans j e old k t)
          go (no k) = let z : suc j ≡ m = omega arith in rw (ap (list_at (seen sheet new)) z ∙ at_new) (seeded (taking (get_or row j 0) e) (rw (← z) (mem_seeds_scan sheet j old t)))

      more_predicts : (j h : ℕ) (e : Entry) → Memᴰ e (list_at (seen sheet new) j) → h < rule_count g → may_take g (left g h) e.rest ≡ true → Memᴰ (fresh g h j) (list_at (seen sheet new) j)
      more_predicts =
          grown (λ j s. (h : ℕ) (e : Entry) → Memᴰ e s → h < rule_count g → may_take g (left g h) e.rest ≡ true → Memᴰ (fresh g h j) s) sheet new m done.lists
          (λ j l. done.predicts j) (λ h e n l t. closed (fresh g h m) (predict_consequence m h e sheet new n l t)) (λ j h e n. absurd (Memᴰ.not-nil n))

      old_completes : (j : ℕ) → j < m → (e f : Entry) → Memᴰ e (list_at (seen sheet new) f.origin) → Memᴰ f (list_at sheet j) → finished f ≡ true
          → may_take g (left g f.rule) e.rest ≡ true → Memᴰ (taking (left g f.rule) e) (list_at sheet j)
      old_completes j l e f n k d t =
          let o : f.origin ≤ j = (found_possible (done.sound j f k)).origin_le in
          done.completes j e f (rw (at_old f.origin (omega arith)) at n) k d t

      more_completes : (j : ℕ) (e f : Entry) → Memᴰ e (list_at (seen sheet new) f.origin) → Memᴰ f (list_at (seen sheet new) j) → finished f ≡ true
          → may_take g (left g f.rule) e.rest ≡ true → Memᴰ (taking (left g f.rule) e) (list_at (seen sheet new) j)
      more_completes =
          grown (λ j s. (e f : Entry) → Memᴰ e (list_at (seen sheet new) f.origin) → Memᴰ f s → finished f ≡ true → may_take g (left g f.rule) e.rest ≡ true
          → Memᴰ (taking (left g f.rule) e) s) sheet new m done.lists
          old_completes (λ e f n k d t. closed (taking (left g f.rule) e) (complete_consequence m f sheet new n k d t)) (λ j e f n k. absurd (Memᴰ.not-nil k))

      done_more : Done (suc m) (seen sheet new)
      done_more = record {
        lists = omega (arith, length-append sheet (new ∷ []), done.lists);
        climbs = grown (λ j s. Climbs 0 (map (word g) s)) sheet new m done.lists (λ j l. done.climbs j) (next_climbs is sheet m done.lists within short done.sound) (λ j. tt);
        sound = sound_grown sheet new m done.lists done.sound (next_found is sheet m done.lists within short done.sound);
        begins = λ l. more_begins;
        scans = more_scans;
        predicts = more_predicts;
        completes = more_completes;
      }

    done_first : IsGrammar g → length row ≤ 64 → (m : ℕ) → m ≤ suc (length row) → Done m (first_lists g row m)
    unfolding first_lists
    done_first is short zero l = done_none
    done_first is short (suc m) l = done_more is (first_lists g row m) m (done_first is short m (omega arith)) (omega arith) short

    -- ---- the whole sheet

    done_sheet : IsGrammar g → length row ≤ 64 → Done (suc (length row)) (sheet_of g row)
    unfolding sheet_of
    done_sheet is short = done_first is short (suc (length row)) (omega arith)

    length_first : (m : ℕ) → length (first_lists g row m) ≡ m
    unfolding first_lists
    length_first zero = refl
    length_first (suc m) = grind (arith, length-append, length_first m)

    -- there are lists 0 to n
    pub sheet_lists : length (sheet_of g row) ≡ suc (length row)
    unfolding sheet_of
    sheet_lists = length_first (suc (length row))

    -- words ascend within each list
    pub sheet_ascending : IsGrammar g → length row ≤ 64 → (j : ℕ) → StrictlyAscending (map (word g) (list_at (sheet_of g row) j))
    sheet_ascending is short j = climbs_ascending 0 (map (word g) (list_at (sheet_of g row) j)) ((done_sheet is short).climbs j)

    -- no step finds anything that is not there
    pub sheet_closed : IsGrammar g → length row ≤ 64 → IsClosed g row (sheet_of g row)
    sheet_closed is short =
        let d = done_sheet is short in
        record { start = d.begins (omega arith); scan = λ j e n l t. d.scans j e n (omega arith) t; predict = d.predicts; complete = d.completes }

    -- each list holds exactly what the steps find on it
    pub sheet_found : IsGrammar g → length row ≤ 64 → (j : ℕ) (e : Entry) → Memᴰ e (list_at (sheet_of g row) j) ↔ Found g row j e
    sheet_found is short j e = ((done_sheet is short).sound j e, closed_found (sheet_closed is short))
