-- Text put into a buffer piece by piece.
-- Assumes nothing.
use Rattle.std.proofs.Common.{◌≡◌, ℕ, ◌+◌, ◌-◌, ◌≤◌, ◌<◌, Option, Some, None, List, [], ◌++◌, length, get_or, refl, sym, ap, ◌∙◌, inl, inr, ◌⊎◌, take, drop, append-nil, arith, length-append, length-drop}
use Rattle.std.proofs.lemmas.Bool.{le-leb, lt-leb, cases_lt}
use Rattle.std.proofs.Math.ListN.{replicate, drop_of_length-le}
use Rattle.std.proofs.lemmas.List.{get_or_append_left, get_or-append_right, get_or-take, length-take-le, ext_get_or}
use Rattle.std.specs.Option.{OnSome}
use borrow.Rule.Slice.PartMut.{put_mid}
use Rattle.paper.specs.Outcome.{padded}
use Rattle.lines.specs.Bracket.{end_within, IsWrittenAt}

-- The text was put at its place, ends here, and is within the limit if it is not empty.
pub record IsPut (limit : ℕ) (old : List ℕ) (at : ℕ) (text : List ℕ) (end : ℕ) (new : List ℕ) : Type 0 where
  pub ends : at + length text ≡ end
  pub fits : 0 < length text → end ≤ limit
  pub written : IsWrittenAt old at text new

-- ---- where a text ends

pub end_inside : (limit at : ℕ) (text : List ℕ) → at + length text ≤ limit → end_within limit at text ≡ Some (at + length text)
end_inside limit at text l = rw (le-leb (at + length text) limit l) refl

pub end_past : (limit at : ℕ) (text : List ℕ) → limit < at + length text → end_within limit at text ≡ None
end_past limit at text l = rw (lt-leb (at + length text) limit l) refl

pub ends_at : (limit at end : ℕ) (text : List ℕ) → Some end ≡ end_within limit at text → (at + length text ≡ end) × (end ≤ limit)
ends_at limit at end text e = go (cases_lt limit (at + length text))
  where
    go : (limit < at + length text) ⊎ (at + length text ≤ limit) → (at + length text ≡ end) × (end ≤ limit)
    go (inl l) = absurd (let f = end_past limit at text l in let z : ⊥ = cc in z)
    go (inr l) = let f = end_inside limit at text l in let same : at + length text ≡ end = cc in (same, omega arith)

pub passes : (limit at : ℕ) (text : List ℕ) → None ≡ end_within limit at text → limit < at + length text
passes limit at text e = go (cases_lt limit (at + length text))
  where
    go : (limit < at + length text) ⊎ (at + length text ≤ limit) → limit < at + length text
    go (inl l) = l
    go (inr l) = absurd (let f = end_inside limit at text l in let z : ⊥ = cc in z)

-- ---- one text behind the other

pub nothing_put : (limit at : ℕ) (old : List ℕ) → IsPut limit old at [] at old
nothing_put limit at old = record {
  ends = omega arith;
  fits = λ l. absurd (let z : ⊥ = omega arith in z);
  written = record { size = refl; inside = λ k l m. absurd (let z : ⊥ = omega arith in z); before = λ k l. refl; behind = λ k l. refl };
}

module _ {limit at middle : ℕ} {old mid s : List ℕ} (p : IsPut limit old at s middle mid) where
  module _ (t new : List ℕ) (w : IsWrittenAt mid middle t new) where
    inside_both : (k : ℕ) → k < length (s ++ t) → at + k < length old → get_or new (at + k) 0 ≡ get_or (s ++ t) k 0
    inside_both k l m = go (cases_lt k (length s))
      where
        go : (k < length s) ⊎ (length s ≤ k) → get_or new (at + k) 0 ≡ get_or (s ++ t) k 0
        go (inl n) =
            w.before (at + k) (omega (arith, p.ends)) ∙ p.written.inside k n m ∙ sym (get_or_append_left s t 0 k n)
        go (inr n) =
            let here : middle + (k - length s) ≡ at + k = omega (arith, p.ends) in
            let behind = get_or-append_right s t (length s) k 0 refl n in
            let put = w.inside (k - length s) (omega (arith, length-append s t)) (omega (arith, p.written.size)) in
            ap (λ x. get_or new x 0) (sym here) ∙ put ∙ sym behind

    both_written : IsWrittenAt old at (s ++ t) new
    both_written = record {
      size = w.size ∙ p.written.size;
      inside = inside_both;
      before = λ k l. w.before k (omega (arith, p.ends)) ∙ p.written.before k l;
      behind = λ k l.
          w.behind k (omega (arith, p.ends, length-append s t)) ∙ p.written.behind k (omega (arith, length-append s t));
    }

  pub put_more : {end : ℕ} (t : List ℕ) {new : List ℕ} → Some end ≡ end_within limit middle t → IsWrittenAt mid middle t new → IsPut limit old at (s ++ t) end new
  put_more {end} t {new} e w =
      let stop = ends_at limit middle end t e in
      record { ends = omega (arith, stop.0, p.ends, length-append s t); fits = λ _. stop.1; written = both_written t new w }

  -- the whole has been put
  pub all_put : middle ≤ limit → Some middle ≡ end_within limit at s
  all_put l = ap Some (sym p.ends) ∙ sym (end_inside limit at s (omega (arith, p.ends)))

  -- the next text passes the limit, and so does the whole
  pub none_put : (t all : List ℕ) → None ≡ end_within limit middle t → length s + length t ≤ length all → end_within limit at all ≡ None
  none_put t all e l = end_past limit at all (omega (arith, passes limit middle t e, p.ends))

  -- the next text is the last of the whole
  pub end_more : (t : List ℕ) → end_within limit middle t ≡ end_within limit at (s ++ t)
  end_more t = let same : middle + length t ≡ at + length (s ++ t) = omega (arith, p.ends, length-append s t) in rw same refl

  pub written_more : (t : List ℕ) (r : Option ℕ) (new : List ℕ) → OnSome r (IsWrittenAt mid middle t new) → OnSome r (IsWrittenAt old at (s ++ t) new)
  written_more t (Some end) new w = both_written t new w
  written_more t None new w = tt

  -- the limit is kept where it was kept at first
  pub put_within : at ≤ limit → middle ≤ limit
  put_within l = go (cases_lt 0 (length s))
    where
      go : (0 < length s) ⊎ (length s ≤ 0) → middle ≤ limit
      go (inl some) = p.fits some
      go (inr none) = omega (arith, p.ends)

-- ---- a buffer that the text begins

module _ {old text new : List ℕ} (w : IsWrittenAt old 0 text new) (fits : length text ≤ length old) where
  begins : take (length text) new ≡ text
  begins =
      let size : length (take (length text) new) ≡ length text = length-take-le (length text) new (omega (arith, w.size)) in
      ext_get_or 0 (take (length text) new) text size
      (λ k l.
      let m : k < length text = omega arith in
      let here : 0 + k ≡ k = omega arith in
      get_or-take (length text) new k 0 m ∙ rw here at (w.inside k m (omega arith)))

  -- the rest is filled with 0
  pub filled : (end : ℕ) (rest : List ℕ) → end ≡ length text → rest ≡ replicate (length (take (length new - end) (drop end new))) 0
      → put_mid end (length new - end) new rest ≡ padded text (length old)
  filled end rest e r =
      let over : drop (length new - end) (drop end new) ≡ [] = drop_of_length-le (drop end new) (omega (arith, length-drop end new)) in
      let size : length (take (length new - end) (drop end new)) ≡ length old - length text =
      length-take-le (length new - end) (drop end new) (omega (arith, length-drop end new)) ∙ omega (arith, w.size) in
      rw (over, append-nil, r, size, e, begins) refl
