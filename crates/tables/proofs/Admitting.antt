-- The table of an admitted image, put together.
-- Assumes nothing.
use Rattle.std.proofs.Common.{◌≡◌, ◌↔◌, ℕ, None, ◌+◌, ◌<◌, ◌≤◌, List, [], ◌∷◌, length, length-take-le, get_or, take, drop, arith, true, sym, ◌∙◌, ap}
use Rattle.paper.specs.Bits.{bit_at}
use Rattle.paper.specs.Derivation.{Derives}
use Rattle.paper.specs.Grammar.{Grammar, IsGrammar, IsNonterminal, rule_count, members, symbols}
use Rattle.paper.specs.Image.{byte, body, rule_of, contents_right, image_fault, grammar_of, pairs_of, paired}
use Rattle.paper.specs.Records.{record_at}
use Rattle.paper.proofs.Image.{RightSymbols, admitted, symbols_right_lem, image_count}
use Rattle.tables.specs.declared.Row.{Row}
use Rattle.tables.specs.Rows.{alone, AreSmall, LeftsAscend, LeftsWithin, MembersRanked, AreGiven, IsClosed}
use Rattle.tables.specs.Table.{row_at, rank, IsRowOf, Tabled, Emptied, Ranked}
use Rattle.tables.proofs.Ranks.{given_within}
use Rattle.tables.proofs.Empties.{rank_exactly}
use Rattle.tables.proofs.Filling.{order_sound, rules_counted, rules_few, records_are, later_is, rows_mean, lefts_ascend, rows_small, front_rows}

module _ (b : List ℕ) (sound : image_fault b ≡ None) where
  pub contents_sound : contents_right b ≡ true
  contents_sound = (admitted b sound).contents

  pub symbols_sound : RightSymbols (body b 0)
  symbols_sound = symbols_right_lem (body b 0) (admitted b sound).symbols

  pub symbols_size : length (body b 0) ≡ 3
  symbols_size = symbols_sound.size

  pub a_terminal : 1 ≤ byte (body b 0) 0
  a_terminal = symbols_sound.a_terminal

  pub a_nonterminal : 1 ≤ byte (body b 0) 1
  a_nonterminal = symbols_sound.a_nonterminal

  pub few_symbols : byte (body b 0) 0 + byte (body b 0) 1 ≤ 64
  few_symbols = symbols_sound.few

pub ruleset image_facts = (contents_sound, symbols_size, a_terminal, a_nonterminal, few_symbols, order_sound, rules_counted, rules_few, records_are)

-- ## The ranks

module _ {g : Grammar} (is : IsGrammar g) (rows : List Row) (size : length rows ≡ rule_count g) (are : (h : ℕ) → h < rule_count g → IsRowOf g h (row_at rows h)) where
  lefts_within : LeftsWithin g.terminals g.nonterminals rows
  lefts_within = record {
    above = λ h l. omega (arith, (are h (omega arith)).left_is, (is.left_is h (omega arith)).above);
    below = λ h l. omega (arith, (are h (omega arith)).left_is, (is.left_is h (omega arith)).below);
  }

  -- the members of a row have ranks exactly if those of its rule have
  emptied : (ranks : List ℕ) (h r : ℕ) → h < rule_count g → MembersRanked (row_at rows h) ranks r → Emptied g ranks h r
  emptied ranks h r l w = record {
    ranked = λ k m.
        let row = are h l in
        let e = row.member_is k m in
        rw e at (w.ranked k (let z : k < (row_at rows h).size = omega (arith, row.size_is) in z));
  }

  members_ranked : (ranks : List ℕ) (h r : ℕ) → h < rule_count g → Emptied g ranks h r → MembersRanked (row_at rows h) ranks r
  members_ranked ranks h r l w = record {
    ranked = λ k m.
        let row = are h l in
        let n : k < length (members g h) = omega (arith, row.size_is) in
        rw (row.member_is k n) (w.ranked k n);
  }

  module _ {ranks : List ℕ} {given : ℕ} (all : AreGiven rows ranks given) (closed : (h : ℕ) → h < length rows → IsClosed rows ranks h) where
    pub ranked_within : (a : ℕ) → 1 ≤ rank ranks a → a < symbols g
    ranked_within a some = let (h, l, e, w) = all.because a some in omega (arith, lefts_within.below h l, e)

    pub ranked_is : Ranked g ranks
    ranked_is = record {
      low = λ a l. omega (arith, all.low a, given_within g.terminals g.nonterminals lefts_within all);
      because = λ a l some. let (h, m, e, w) = all.because a some in (h, omega arith, sym (are h (omega arith)).left_is ∙ e, emptied ranks h (rank ranks a) (omega arith) w);
      closed = λ h l w.
          let wide : Emptied g ranks h 256 = record { ranked = λ k m. ((w.ranked k m).0, omega (arith, (w.ranked k m).1)) } in
          rw (are h l).left_is at (closed h (omega arith) (members_ranked ranks h 256 l wide));
    }

    pub empties : (n : ℕ) → ((x : ℕ) → (bit_at x n ≡ 1) ↔ (1 ≤ rank ranks x)) → (x : ℕ) → (bit_at x n ≡ 1) ↔ Derives g (x ∷ []) []
    empties n bits x =
        let e = rank_exactly is ranked_is x (ranked_within x) in
        (λ h. e.0 ((bits x).0 h), λ d. (bits x).1 (e.1 d))

  -- ## The firsts
  pub tabled_is : {wide : List Row} {firsts : List ℕ} {count : ℕ} → count ≡ rule_count g → ((h : ℕ) → h < rule_count g → IsRowOf g h (row_at wide h))
      → ((a : ℕ) → a ≤ 64 → get_or firsts a 0 ≤ length rows)
      → ((a h : ℕ) → a ≤ 64 → h < get_or firsts a 0 → (row_at rows h).left < a)
      → ((a h : ℕ) → a ≤ 64 → get_or firsts a 0 ≤ h → h < length rows → a ≤ (row_at rows h).left)
      → Tabled g count wide firsts
  tabled_is {wide} {firsts} {count} e wide_are few before from = record {
    count_is = e;
    rows_are = wide_are;
    first_le = λ a l. omega (arith, few a (omega (arith, is.few_symbols)));
    before = λ a h l m. omega (arith, before a h (omega (arith, is.few_symbols)) m, (are h (omega (arith, few a (omega (arith, is.few_symbols))))).left_is);
    from = λ a h l m n. omega (arith, from a h (omega (arith, is.few_symbols)) m (omega arith), (are h n).left_is);
  }

-- the set of the nonterminals
pub nonterminals_are : (g : Grammar) (t n set : ℕ) → t ≡ g.terminals → n ≡ g.nonterminals → ((x : ℕ) → (bit_at x set ≡ 1) ↔ ((t ≤ x) × (x < t + n)))
    → (x : ℕ) → (bit_at x set ≡ 1) ↔ IsNonterminal g x
nonterminals_are g t n set e f bits x = (
  λ h. let (l, m) = (bits x).0 h in record { above = omega arith; below = omega arith },
  λ w. (bits x).1 (omega (arith, w.above), omega (arith, w.below)),
)

-- ## All together

-- The first `count` rows are those of the image's rules.
pub record IsFilled (b : List ℕ) (count : ℕ) (rows : List Row) : Type 0 where
  pub count_is : count ≡ rule_count (grammar_of b)
  pub size : length (take count rows) ≡ count
  pub wide : (h : ℕ) → h < rule_count (grammar_of b) → IsRowOf (grammar_of b) h (row_at rows h)
  pub front : (h : ℕ) → h < rule_count (grammar_of b) → IsRowOf (grammar_of b) h (row_at (take count rows) h)

module _ (b : List ℕ) (sound : image_fault b ≡ None) where
  -- the rows tell the rules
  pub rows_tell : (rules order later : List ℕ) (rows : List Row) → rules ≡ body b 1 → order ≡ body b 2
      → ((x y : ℕ) → x < 64 → y < 64 → (bit_at y (get_or later x 0) ≡ 1) ↔ (paired (pairs_of order) x y ≡ true))
      → ((h : ℕ) → h < byte rules 0 → IsRowOf (alone later (rule_of (record_at h (drop 1 rules)))) 0 (row_at rows h))
      → (h : ℕ) → h < rule_count (grammar_of b) → IsRowOf (grammar_of b) h (row_at rows h)
  rows_tell rules order later rows e f bits filled = rows_mean b sound rows (later_is b sound later (rw f at bits)) (rw e at filled)

  pub is_filled : (rules : List ℕ) (count : ℕ) (rows : List Row) → rules ≡ body b 1 → count ≡ byte rules 0 → length rows ≡ 96
      → ((h : ℕ) → h < rule_count (grammar_of b) → IsRowOf (grammar_of b) h (row_at rows h)) → IsFilled b count rows
  is_filled rules count rows e count_is long wide =
      let n : count ≡ byte (body b 1) 0 = count_is ∙ ap (λ r. byte r 0) e in
      record {
        count_is = n ∙ sym (image_count b);
        size = length-take-le count rows (omega (arith, n, rules_few b sound));
        wide = wide;
        front = front_rows b sound rows count n wide;
      }

  module _ {count : ℕ} {rows : List Row} (f : IsFilled b count rows) where
    front_size : length (take count rows) ≡ byte (body b 1) 0
    front_size = f.size ∙ (f.count_is ∙ image_count b)

    pub front_ascends : LeftsAscend (take count rows)
    front_ascends = lefts_ascend b sound (take count rows) front_size f.front

    pub front_small : AreSmall (take count rows)
    front_small = rows_small b sound (take count rows) front_size f.front
