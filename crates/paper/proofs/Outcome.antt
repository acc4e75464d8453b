-- Two permitted outcomes of one call are equal: the answers, and what is left in the buffers (for a row that is read, the lines apart).
-- Assumes nothing.
use mathlib.Core.Path.{◌≡◌, sym, ◌∙◌, ap}
use mathlib.Core.List.{List, []}
use Rattle.std.specs.Prelude.{Option, Some, None, Result, Ok, Err}
use Prim.Native.Nat.{ℕ, ◌≤◌, ◌<◌}
use native.Mathlib.Omega.{arith}
use lib.ListN.{length}
use Rattle.paper.specs.Grammar.{Grammar}
use Rattle.paper.specs.Sheet.{Sheet, IsSheet, entries}
use Rattle.paper.specs.Image.{grammar_of}
use Rattle.paper.specs.Lines.{line_count, LineRight, Valid, Judged, words_under}
use Rattle.paper.specs.Outcome.{row_refusal, padded, last_bracket, Buffers, Built, reading_number, reading_counts, ReadingOutcome, CheckingOutcome, BracketingOutcome, ViewOutcome}
use Rattle.paper.specs.Demands.{SameReading}
use Rattle.paper.specs.declared.Counts.{Counts}
use Rattle.paper.specs.declared.Reading.{Reading}
use Rattle.paper.specs.declared.Refusal.{Refusal}
use Rattle.paper.proofs.Unique.{sheet_unique}

-- the first line at fault is one
first_unique : {P : ℕ → Type 0} (j k : ℕ) → ((i : ℕ) → i < j → P i) → (P j → ⊥) → ((i : ℕ) → i < k → P i) → (P k → ⊥) → j ≡ k
first_unique j k before_j not_j before_k not_k =
    let a : ¬ (j < k) = λ h. not_j (before_k j h) in
    let b : ¬ (k < j) = λ h. not_k (before_j k h) in
    omega arith

-- the checker's judgement of lines is one
pub judged_unique : {g : Grammar} {row ns : List ℕ} {x y : Option ℕ} → Judged g row ns x → Judged g row ns y → x ≡ y
judged_unique (Judged.valid v e) (Judged.valid w f) = cc
judged_unique (Judged.valid v e) (Judged.uneven odd f) = absurd (odd v.whole_lines)
judged_unique (Judged.valid v e) (Judged.line k even below before not_k f) = absurd (not_k (v.each k below))
judged_unique (Judged.valid v e) (Judged.whole even all not_whole f) = absurd (not_whole v.whole)
judged_unique (Judged.uneven odd e) (Judged.valid w f) = absurd (odd w.whole_lines)
judged_unique (Judged.uneven odd e) (Judged.uneven odd' f) = cc
judged_unique (Judged.uneven odd e) (Judged.line k even below before not_k f) = absurd (odd even)
judged_unique (Judged.uneven odd e) (Judged.whole even all not_whole f) = cc
judged_unique (Judged.line j even below before not_j e) (Judged.valid w f) = absurd (not_j (w.each j below))
judged_unique (Judged.line j even below before not_j e) (Judged.uneven odd f) = absurd (odd even)
judged_unique {g} {row} {ns} (Judged.line j even below before not_j e) (Judged.line k even' below' before' not_k f) =
    cc (first_unique {P = LineRight g row ns} j k before not_j before' not_k)
judged_unique (Judged.line j even below before not_j e) (Judged.whole even' all not_whole f) = absurd (not_j (all j below))
judged_unique (Judged.whole even all not_whole e) (Judged.valid w f) = absurd (not_whole w.whole)
judged_unique (Judged.whole even all not_whole e) (Judged.uneven odd f) = cc
judged_unique (Judged.whole even all not_whole e) (Judged.line k even' below before not_k f) = absurd (not_k (all k below))
judged_unique (Judged.whole even all not_whole e) (Judged.whole even' all' not_whole' f) = cc

-- a refusal is not none
pub refused_not : {A : Type 0} {why : Refusal} {found : Option Refusal} → found ≡ Some why → found ≡ None → A
refused_not r n = absurd (let k : ⊥ = cc in k)

-- the checker answers one thing
pub checking_unique : {image row lines : List ℕ} {x y : Result (Option ℕ) Refusal} → CheckingOutcome image row lines x → CheckingOutcome image row lines y → x ≡ y
checking_unique (CheckingOutcome.refused why r e) (CheckingOutcome.refused why' r' f) = cc
checking_unique (CheckingOutcome.refused why r e) (CheckingOutcome.judged fault n j f) = refused_not r n
checking_unique (CheckingOutcome.judged fault n j e) (CheckingOutcome.refused why r f) = refused_not r n
checking_unique (CheckingOutcome.judged fault n j e) (CheckingOutcome.judged fault' n' j' f) = let same = judged_unique j j' in cc

-- Calls on lines end in one of four ways, by three tests in order: the row is refused, the lines are not valid, what is asked for is not there, or it is.
data End {A : Type 0} (found : Option Refusal) (valid there : Type 0) (a : Refusal → A) (b c d : A) (x : A) : Type 0 where
  refused : (why : Refusal) → found ≡ Some why → x ≡ a why → End found valid there a b c d x
  invalid : found ≡ None → (valid → ⊥) → x ≡ b → End found valid there a b c d x
  absent : found ≡ None → valid → (there → ⊥) → x ≡ c → End found valid there a b c d x
  given : found ≡ None → valid → there → x ≡ d → End found valid there a b c d x

end_unique : {A valid there : Type 0} {found : Option Refusal} {a : Refusal → A} {b c d x y : A} → End found valid there a b c d x → End found valid there a b c d y → x ≡ y
end_unique {a} (End.refused why r e) (End.refused why' r' f) = let same : why ≡ why' = cc in e ∙ (ap a same ∙ sym f)
end_unique (End.refused why r e) (End.invalid n v f) = refused_not r n
end_unique (End.refused why r e) (End.absent n v l f) = refused_not r n
end_unique (End.refused why r e) (End.given n v l f) = refused_not r n
end_unique (End.invalid n v e) (End.refused why r f) = refused_not r n
end_unique (End.invalid n v e) (End.invalid n' v' f) = cc
end_unique (End.invalid n v e) (End.absent n' v' l f) = absurd (v v')
end_unique (End.invalid n v e) (End.given n' v' l f) = absurd (v v')
end_unique (End.absent n v l e) (End.refused why r f) = refused_not r n
end_unique (End.absent n v l e) (End.invalid n' v' f) = absurd (v' v)
end_unique (End.absent n v l e) (End.absent n' v' l' f) = cc
end_unique (End.absent n v l e) (End.given n' v' l' f) = absurd (l l')
end_unique (End.given n v l e) (End.refused why r f) = refused_not r n
end_unique (End.given n v l e) (End.invalid n' v' f) = absurd (v' v)
end_unique (End.given n v l e) (End.absent n' v' l' f) = absurd (l' l)
end_unique (End.given n v l e) (End.given n' v' l' f) = cc

-- what a call on lines answers, with what it leaves or hands back
record Back (A : Type 0) : Type 0 where
  answer : A
  cells : List ℕ

abbrev back : {A : Type 0} → A → List ℕ → Back A
back x s = record { answer = x; cells = s }

bracketing_end : {image row lines entry : List ℕ} {x : Result ℕ Refusal} {s : List ℕ} → BracketingOutcome image row lines entry x s
    → End (row_refusal image row) (Valid (grammar_of image) row lines) (length (last_bracket row lines) ≤ length entry)
    (λ why. back (Err why) entry) (back (Err Refusal.InvalidLines) entry) (back (Err Refusal.LongBracket) entry)
    (back (Ok (length (last_bracket row lines))) (padded (last_bracket row lines) (length entry))) (back x s)
bracketing_end (BracketingOutcome.refused why r e p) = End.refused why r (cc)
bracketing_end (BracketingOutcome.invalid n v e p) = End.invalid n v (cc)
bracketing_end (BracketingOutcome.long n v l e p) = End.absent n v (λ h. omega arith) (cc)
bracketing_end (BracketingOutcome.written n v l e p) = End.given n v l (cc)

-- the bracket writer answers one thing, and leaves one thing in its buffer
pub bracketing_unique : {image row lines entry : List ℕ} {x y : Result ℕ Refusal} {s t : List ℕ}
    → BracketingOutcome image row lines entry x s → BracketingOutcome image row lines entry y t → (x ≡ y) × (s ≡ t)
bracketing_unique p q = let e = end_unique (bracketing_end p) (bracketing_end q) in (ap (λ z. z.answer) e, ap (λ z. z.cells) e)

view_end : {image row lines : List ℕ} {k : ℕ} {refusal : Option Refusal} {view : List ℕ} → ViewOutcome image row lines k refusal view
    → End (row_refusal image row) (Valid (grammar_of image) row lines) (k < line_count lines)
    (λ why. back (Some why) []) (back (Some Refusal.InvalidLines) []) (back (Some Refusal.NoLine) []) (back None (words_under row lines k)) (back refusal view)
view_end (ViewOutcome.refused why r e p) = End.refused why r (cc)
view_end (ViewOutcome.invalid n v e p) = End.invalid n v (cc)
view_end (ViewOutcome.absent n v l e p) = End.absent n v (λ h. omega arith) (cc)
view_end (ViewOutcome.seen n v l e p) = End.given n v l (cc)

-- the view of a line and its refusal are one
pub view_unique : {image row lines : List ℕ} {k : ℕ} {refusal refusal' : Option Refusal} {view view' : List ℕ}
    → ViewOutcome image row lines k refusal view → ViewOutcome image row lines k refusal' view' → (refusal ≡ refusal') × (view ≡ view')
view_unique p q = let e = end_unique (view_end p) (view_end q) in (ap (λ z. z.answer) e, ap (λ z. z.cells) e)

-- equal answers and equal buffers have everything in common
same_all : {g : Grammar} {row : List ℕ} {x y : Result Reading Refusal} {s t : Buffers} → x ≡ y → s ≡ t → SameReading g row x y s t
same_all e p =
    record {
      number = ap reading_number e;
      entries = ap (λ z. (reading_counts z).entries) e;
      steps = ap (λ z. (reading_counts z).steps) e;
      tops = ap (λ z. (reading_counts z).tops) e;
      sheet = ap (λ z. z.sheet) p;
      starts = ap (λ z. z.starts) p;
      answer = λ n. e;
      lines = λ n. ap (λ z. z.lines) p;
      settled = λ o. (e, p);
    }

-- the same in each field, the same
counts_path : {c d : Counts} → c.entries ≡ d.entries → c.steps ≡ d.steps → c.lines ≡ d.lines → c.tops ≡ d.tops → c ≡ d
counts_path p q r s = λ i. record { entries = p i; steps = q i; lines = r i; tops = s i }

buffers_path : {s t : Buffers} → s.sheet ≡ t.sheet → s.starts ≡ t.starts → s.lines ≡ t.lines → s ≡ t
buffers_path p q r = λ i. record { sheet = p i; starts = q i; lines = r i }

-- where one outcome has the sheet in its buffer, no other says that the sheet does not fit
fits_not_over : {image row : List ℕ} {entry exit : Buffers} {counts : Counts} (b : Built image row entry exit counts) (sheet : Sheet) → IsSheet (grammar_of image) row sheet
    → length entry.sheet < entries sheet → ⊥
fits_not_over {image} {row} b sheet is over =
    let e : entries b.sheet ≡ entries sheet = ap entries (sheet_unique b.is_sheet is) in
    omega (arith, b.fits)

module _ {image row : List ℕ} {entry exit exit' : Buffers} {counts counts' : Counts} (b : Built image row entry exit counts) (c : Built image row entry exit' counts') where
  same_sheet : b.sheet ≡ c.sheet
  same_sheet = sheet_unique b.is_sheet c.is_sheet

  same_read : {x y : Result Reading Refusal} {u v : List ℕ} → Valid (grammar_of image) row u → Valid (grammar_of image) row v
      → counts.lines ≡ line_count u → counts'.lines ≡ line_count v → exit.lines ≡ padded u (length entry.lines) → exit'.lines ≡ padded v (length entry.lines)
      → x ≡ Ok (Reading.Read counts) → y ≡ Ok (Reading.Read counts') → SameReading (grammar_of image) row x y exit exit'
  same_read {u} {v} valid valid' k k' p p' e f =
      let s = same_sheet in
      record {
        number = rw (e, f);
        entries = rw (e, f) (cc);
        steps = rw (e, f) (cc);
        tops = rw (e, f) (cc);
        sheet = cc;
        starts = cc;
        answer = λ n. absurd (n (rw e));
        lines = λ n. absurd (n (rw e));
        settled =
            λ one.
            let lines : u ≡ v = one.same u v valid valid' in
            let same : counts ≡ counts' = counts_path (cc) (cc) (cc) (cc) in
            (cc, buffers_path (cc) (cc) (cc));
      }

  same_unread : {x y : Result Reading Refusal} → counts.lines ≡ counts'.lines → exit.lines ≡ exit'.lines → x ≡ Ok (Reading.Unread counts) → y ≡ Ok (Reading.Unread counts')
      → SameReading (grammar_of image) row x y exit exit'
  same_unread p q e f =
      let s = same_sheet in
      let k : counts ≡ counts' = counts_path (cc) (cc) p (cc) in
      same_all (cc) (buffers_path (cc) (cc) q)

-- reading answers one thing, and leaves one thing in its buffers, the lines of a row that is read apart
pub reading_unique : {image row : List ℕ} {entry : Buffers} {x y : Result Reading Refusal} {s t : Buffers}
    → ReadingOutcome image row entry x s → ReadingOutcome image row entry y t → SameReading (grammar_of image) row x y s t
reading_unique (ReadingOutcome.refused why r e p) (ReadingOutcome.refused why' r' f q) = same_all (cc) (cc)
reading_unique (ReadingOutcome.refused why r e p) (ReadingOutcome.overfull n sheet is over f q) = refused_not r n
reading_unique (ReadingOutcome.refused why r e p) (ReadingOutcome.read counts n b l ns v k fits q f) = refused_not r n
reading_unique (ReadingOutcome.refused why r e p) (ReadingOutcome.unread counts n b l k q f) = refused_not r n
reading_unique (ReadingOutcome.overfull n sheet is over e p) (ReadingOutcome.refused why r f q) = refused_not r n
reading_unique (ReadingOutcome.overfull n sheet is over e p) (ReadingOutcome.overfull n' sheet' is' over' f q) = same_all (cc) (cc)
reading_unique (ReadingOutcome.overfull n sheet is over e p) (ReadingOutcome.read counts n' b l ns v k fits q f) = absurd (fits_not_over b sheet is over)
reading_unique (ReadingOutcome.overfull n sheet is over e p) (ReadingOutcome.unread counts n' b l k q f) = absurd (fits_not_over b sheet is over)
reading_unique (ReadingOutcome.read counts n b l ns v k fits p e) (ReadingOutcome.refused why r f q) = refused_not r n
reading_unique (ReadingOutcome.read counts n b l ns v k fits p e) (ReadingOutcome.overfull n' sheet is over f q) = absurd (fits_not_over b sheet is over)
reading_unique (ReadingOutcome.read counts n b l ns v k fits p e) (ReadingOutcome.read counts' n' b' l' ns' v' k' fits' q f) = same_read b b' v v' k k' p q e f
reading_unique (ReadingOutcome.read counts n b l ns v k fits p e) (ReadingOutcome.unread counts' n' b' l' k' q f) = absurd (l' l)
reading_unique (ReadingOutcome.unread counts n b l k p e) (ReadingOutcome.refused why r f q) = refused_not r n
reading_unique (ReadingOutcome.unread counts n b l k p e) (ReadingOutcome.overfull n' sheet is over f q) = absurd (fits_not_over b sheet is over)
reading_unique (ReadingOutcome.unread counts n b l k p e) (ReadingOutcome.read counts' n' b' l' ns' v' k' fits' q f) = absurd (l l')
reading_unique (ReadingOutcome.unread counts n b l k p e) (ReadingOutcome.unread counts' n' b' l' k' q f) = same_unread b b' (cc) (cc) e f
