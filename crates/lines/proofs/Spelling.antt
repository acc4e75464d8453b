-- The bracket of a line, part by part.
-- Assumes nothing.
use Rattle.std.proofs.Common.{◌≡◌, ◌≢◌, ℕ, zero, suc, ◌+◌, ◌-◌, ◌≤◌, ◌<◌, List, [], ◌∷◌, ◌++◌, length, get_or, drop, refl, sym, ap, ◌∙◌, append_assoc, append-nil, add-one, arith, length-append, inl, inr, ◌⊎◌}
use Rattle.std.proofs.lemmas.Bool.{cases_lt}
use Rattle.std.proofs.lemmas.List.{get_or_append_left, get_or_push}
use Rattle.paper.specs.Grammar.{Grammar, IsGrammar}
use Rattle.paper.specs.Lines.{line_count, line_rule, line_from, line_to, line_parts, line_slot, part_slots, Joins, LineRight, decimal, parts_text, line_text, texts_below, bracket_of}
use Rattle.lines.proofs.Parts.{slots_from, slots_all}

-- ---- the brackets of the earlier lines

texts_length : (row ns : List ℕ) (k : ℕ) → length (texts_below row ns k) ≡ k
unfolding texts_below
texts_length row ns zero = refl
texts_length row ns (suc k) = omega (arith, length-append (texts_below row ns k) (line_text row ns (texts_below row ns k) k ∷ []), texts_length row ns k)

pub text_below : (row ns : List ℕ) (k i : ℕ) → i < k → get_or (texts_below row ns k) i [] ≡ bracket_of row ns i
unfolding texts_below
text_below row ns zero i l = absurd (let z : ⊥ = omega arith in z)
text_below row ns (suc k) i l = go (cases_lt i k) (text_below row ns k i)
  where
    texts : List (List ℕ)
    texts = texts_below row ns k

    go : (i < k) ⊎ (k ≤ i) → (i < k → get_or texts i [] ≡ bracket_of row ns i) → get_or (texts ++ (line_text row ns texts k ∷ [])) i [] ≡ bracket_of row ns i
    go (inl m) below = get_or_append_left texts (line_text row ns texts k ∷ []) [] i (omega (arith, texts_length row ns k)) ∙ below m
    go (inr m) below = let same : k ≡ i = omega arith in get_or_push texts (line_text row ns texts k) [] i (texts_length row ns k ∙ same) ∙ ap (bracket_of row ns) same

-- ---- the pieces of a line

-- the text of all parts of line k
abbrev pub all_parts : List ℕ → List ℕ → ℕ → List ℕ
all_parts row ns k = parts_text row ns (texts_below row ns k) (part_slots ns k) (line_from ns k)

pub whole_text : (row ns : List ℕ) (k : ℕ)
    → ((([] ++ (40 ∷ [])) ++ decimal (line_rule ns k)) ++ all_parts row ns k) ++ (41 ∷ []) ≡ bracket_of row ns k
unfolding line_text
whole_text row ns k = ap (40 ∷◌) (append_assoc (decimal (line_rule ns k)) (all_parts row ns k) (41 ∷ []))

pub whole_length : (row ns : List ℕ) (k : ℕ) → length (bracket_of row ns k) ≡ length (decimal (line_rule ns k)) + length (all_parts row ns k) + 2
whole_length row ns k =
    let inner = decimal (line_rule ns k) in
    let parts = all_parts row ns k in
    omega (
      arith,
      ap length (whole_text row ns k),
      length-append ((([] ++ (40 ∷ [])) ++ inner) ++ parts) (41 ∷ []),
      length-append (([] ++ (40 ∷ [])) ++ inner) parts,
      length-append ([] ++ (40 ∷ [])) inner,
    )

pub few_parts : {g : Grammar} {row ns : List ℕ} {k : ℕ} → IsGrammar g → LineRight g row ns k → line_parts ns k ≤ 8
few_parts {ns = ns} {k = k} is right = omega (arith, right.parts_are, is.few_members (line_rule ns k) right.rule_is)

-- The parts in the first x slots of line k have this text and reach place i.
pub record Spelled (g : Grammar) (row ns : List ℕ) (k x i : ℕ) (text : List ℕ) : Type 0 where
  pub symbols : List ℕ
  pub joins : Joins g row ns k (drop x (part_slots ns k)) i (line_to ns k) symbols
  pub rest : text ++ parts_text row ns (texts_below row ns k) (drop x (part_slots ns k)) i ≡ all_parts row ns k

pub none_spelled : {g : Grammar} {row ns : List ℕ} {k : ℕ} → LineRight g row ns k → Spelled g row ns k 0 (line_from ns k) []
none_spelled right = record { symbols = right.symbols; joins = right.joins; rest = refl }

one_less : (n : ℕ) → suc n - 1 ≡ n
one_less n = omega arith

-- The parts in these slots, the first of which has this text and reaches this place.
record First (g : Grammar) (row ns : List ℕ) (k slot : ℕ) (slots : List ℕ) (i end : ℕ) (text : List ℕ) : Type 0 where
  symbols : List ℕ
  joins : Joins g row ns k slots end (line_to ns k) symbols
  all_is : parts_text row ns (texts_below row ns k) (slot ∷ slots) i ≡ text ++ parts_text row ns (texts_below row ns k) slots end

module _ {g : Grammar} {row ns : List ℕ} {k : ℕ} where
  token_first : {slot i : ℕ} {slots s : List ℕ} → slot ≡ 0 → Joins g row ns k (slot ∷ slots) i (line_to ns k) s
      → (i < length row) × First g row ns k slot slots i (i + 1) (32 ∷ decimal (get_or row i 0))
  unfolding parts_text
  token_first e (Joins.token {s = s} l f joins) = (l, record { symbols = s; joins = rw add-one joins; all_is = rw add-one refl })
  token_first e (Joins.part earlier l f t m joins) = absurd (let z : ⊥ = omega arith in z)

  line_first : {slot i : ℕ} {slots s : List ℕ} → slot ≢ 0 → Joins g row ns k (slot ∷ slots) i (line_to ns k) s
      → (slot - 1 < k) × First g row ns k slot slots i (line_to ns (slot - 1)) (bracket_of row ns (slot - 1))
  unfolding parts_text
  line_first n (Joins.token l f joins) = absurd (n refl)
  line_first n (Joins.part {s = s} earlier l f t m joins) =
      (omega arith, record { symbols = s; joins = rw (one_less, t) joins; all_is = rw (one_less, text_below row ns k earlier l) refl })

module _ {g : Grammar} {row ns : List ℕ} {k x i : ℕ} {text : List ℕ} (h : Spelled g row ns k x i text) where
  -- what is spelled is no longer than all
  pub spelled_within : length text ≤ length (all_parts row ns k)
  spelled_within = omega (arith, ap length h.rest, length-append text (parts_text row ns (texts_below row ns k) (drop x (part_slots ns k)) i))

  module _ (line : k < line_count ns) (few : line_parts ns k ≤ 8) where
    -- all parts are spelled
    pub all_spelled : x ≡ line_parts ns k → text ≡ all_parts row ns k
    unfolding parts_text
    all_spelled e = sym (append-nil text) ∙ rw (e, slots_all ns k line few) at h.rest

    one_spelled : (slot end : ℕ) (more : List ℕ) → drop x (part_slots ns k) ≡ slot ∷ drop (x + 1) (part_slots ns k)
        → First g row ns k slot (drop (x + 1) (part_slots ns k)) i end more → Spelled g row ns k (x + 1) end (text ++ more)
    one_spelled slot end more e f = record {
      symbols = f.symbols;
      joins = f.joins;
      rest = append_assoc text more (parts_text row ns (texts_below row ns k) (drop (x + 1) (part_slots ns k)) end)
          ∙ ap (text ++◌) (sym f.all_is) ∙ rw e at h.rest;
    }

    module _ (slot : ℕ) (l : x < line_parts ns k) (is : slot ≡ line_slot ns k x) where
      slots_are : drop x (part_slots ns k) ≡ slot ∷ drop (x + 1) (part_slots ns k)
      slots_are = rw is (slots_from ns k line few x l)

      pub token_spelled : slot ≡ 0 → (i < length row) × Spelled g row ns k (x + 1) (i + 1) ((text ++ (32 ∷ [])) ++ decimal (get_or row i 0))
      token_spelled e =
          let first = token_first e (rw slots_are at h.joins) in
          (first.0, rw append_assoc (one_spelled slot (i + 1) (32 ∷ decimal (get_or row i 0)) slots_are first.1))

      pub line_spelled : slot ≢ 0 → (slot - 1 < k) × Spelled g row ns k (x + 1) (line_to ns (slot - 1)) (text ++ bracket_of row ns (slot - 1))
      line_spelled n =
          let first = line_first n (rw slots_are at h.joins) in
          (first.0, one_spelled slot (line_to ns (slot - 1)) (bracket_of row ns (slot - 1)) slots_are first.1)
