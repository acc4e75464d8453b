-- The laws of taking: what the rest of a rule lets be taken, and that what is taken in turn is acceptable. They are all that others need of the order.
-- Assumes nothing.
use mathlib.Core.Path.{◌≡◌, refl}
use mathlib.Core.Bool.{Bool, true, false, ◌&&◌}
use mathlib.Core.Logic.{◌↔◌}
use mathlib.Core.List.{List, [], ◌∷◌, ◌++◌}
use Prim.Native.Nat.{ℕ, zero, suc, ◌<◌}
use native.Mathlib.Omega.{arith}
use lib.ListN.{length, get_or, length-append, get_or-append}
use borrow.Author.Tests.{eq-eqb}
use Rattle.std.proofs.lemmas.Bool.{and_from, or_from, or_parts, both_ways}
use Rattle.paper.specs.Multiset.{Arrangement, has, without, minus}
use Rattle.paper.specs.Grammar.{Grammar, StrictPartialOrder}
use Rattle.paper.specs.Derivation.{Acceptable}
use Rattle.paper.specs.Entry.{barred, may_take}
use Rattle.paper.proofs.Multiset.{has_count, count_has, arranged_refl, arranged_sym, arranged_trans, arranged_cons, arranged_uncons, arranged_without, arranged_append, arranged_swap}

-- ## Tests

-- ## What stands in a list

pub has_head : (a : ℕ) (s : List ℕ) → has a (a ∷ s) ≡ true
unfolding has
has_head a s = rw (eq-eqb a a refl)

pub has_tail : (a b : ℕ) (s : List ℕ) → has a s ≡ true → has a (b ∷ s) ≡ true
unfolding has
has_tail a b s h = grind arith

pub has_place : (s : List ℕ) (k : ℕ) → k < length s → has (get_or s k 0) s ≡ true
has_place [] k h = absurd (omega arith)
has_place (a ∷ s) zero h = has_head a s
has_place (a ∷ s) (suc k) h = has_tail (get_or s k 0) a s (has_place s k (omega arith))

pub has_arranged : (a : ℕ) {s t : List ℕ} → Arrangement s t → has a s ≡ true → has a t ≡ true
has_arranged a {s} {t} h m = count_has a t (omega (arith, h.counts a, has_count a s m))

-- ## Barred

pub unbarred_each : (g : Grammar) (a b : ℕ) (s : List ℕ) → barred g a s ≡ false → has b s ≡ true → g.precedes b a ≡ false
unfolding barred has
unbarred_each g a b [] h m = cc
unbarred_each g a b (c ∷ s) h m = grind (arith, unbarred_each g a b s (or_parts (g.precedes c a) (barred g a s) h).1)

pub unbarred_places : (g : Grammar) (a : ℕ) (s : List ℕ) → ((k : ℕ) → k < length s → g.precedes (get_or s k 0) a ≡ false) → barred g a s ≡ false
unfolding barred
unbarred_places g a [] f = refl
unbarred_places g a (b ∷ s) f = or_from (g.precedes b a) (barred g a s) (f 0 (omega arith)) (unbarred_places g a s (λ k h. f (suc k) (omega arith)))

pub each_unbarred : (g : Grammar) (a : ℕ) (s : List ℕ) → ((b : ℕ) → has b s ≡ true → g.precedes b a ≡ false) → barred g a s ≡ false
each_unbarred g a s f = unbarred_places g a s (λ k h. f (get_or s k 0) (has_place s k h))

-- the order in which the rest is written does not matter
pub unbarred_arranged : (g : Grammar) (a : ℕ) {s t : List ℕ} → Arrangement s t → barred g a t ≡ false → barred g a s ≡ false
unbarred_arranged g a {s} {t} h f = each_unbarred g a s (λ b m. unbarred_each g a b t f (has_arranged b h m))

pub unbarred_nil : (g : Grammar) (a : ℕ) → barred g a [] ≡ false
unfolding barred
unbarred_nil g a = refl

pub unbarred_cons : (g : Grammar) (a b : ℕ) (s : List ℕ) → g.precedes b a ≡ false → barred g a s ≡ false → barred g a (b ∷ s) ≡ false
unfolding barred
unbarred_cons g a b s = or_from (g.precedes b a) (barred g a s)

pub unbarred_tail : (g : Grammar) (a b : ℕ) (s : List ℕ) → barred g a (b ∷ s) ≡ false → barred g a s ≡ false
unfolding barred
unbarred_tail g a b s h = (or_parts (g.precedes b a) (barred g a s) h).1

-- ## Acceptable

pub acceptable_nil : (g : Grammar) → Acceptable g []
acceptable_nil g = grind arith

pub acceptable_head : {g : Grammar} {a : ℕ} {s : List ℕ} → Acceptable g (a ∷ s) → barred g a s ≡ false
acceptable_head {g} {a} {s} h = unbarred_places g a s (λ k p. h.in_order 0 (suc k) (omega arith) (omega arith))

pub acceptable_tail : {g : Grammar} {a : ℕ} {s : List ℕ} → Acceptable g (a ∷ s) → Acceptable g s
acceptable_tail h = record { in_order = λ i j p q. h.in_order (suc i) (suc j) (omega arith) (omega arith) }

-- a sequence is acceptable if nothing behind its head must precede the head, and its tail is acceptable
pub acceptable_cons : {g : Grammar} {a : ℕ} {s : List ℕ} → barred g a s ≡ false → Acceptable g s → Acceptable g (a ∷ s)
acceptable_cons {g} {a} {s} f h = grind (arith, unbarred_each, has_place)

pub acceptable_front : {g : Grammar} (s t : List ℕ) → Acceptable g (s ++ t) → Acceptable g s
acceptable_front {g} s t h = grind (arith, get_or-append, length-append)

pub acceptable_back : {g : Grammar} (s t : List ℕ) → Acceptable g (s ++ t) → Acceptable g t
acceptable_back [] t h = h
acceptable_back (a ∷ s) t h = acceptable_back s t (acceptable_tail h)

-- what follows s may be arranged anew, if the new arrangement is itself acceptable
pub acceptable_exchange : {g : Grammar} (s t : List ℕ) {u : List ℕ} → Acceptable g (s ++ t) → Arrangement u t → Acceptable g u → Acceptable g (s ++ u)
acceptable_exchange [] t h k f = f
acceptable_exchange {g} (a ∷ s) t {u} h k f =
    acceptable_cons (unbarred_arranged g a (arranged_append (arranged_refl s) k) (acceptable_head h)) (acceptable_exchange s t (acceptable_tail h) k f)

-- ## Every multiset has an acceptable arrangement

-- two neighbours change places
arranged_turn : (a b : ℕ) (s : List ℕ) → Arrangement (a ∷ (b ∷ s)) (b ∷ (a ∷ s))
arranged_turn a b s = arranged_append (arranged_swap (a ∷ []) (b ∷ [])) (arranged_refl s)

-- an acceptable arrangement of t with b put among it
record Inserted (g : Grammar) (b : ℕ) (t : List ℕ) : Type 0 where
  sequence : List ℕ
  arranged : Arrangement sequence (b ∷ t)
  acceptable : Acceptable g sequence

-- b in front, if it must precede the head: what must precede b must by transitivity precede the head too, and nothing behind the head does
inserted_front : {g : Grammar} → StrictPartialOrder g.precedes → (b c : ℕ) (t : List ℕ) → Acceptable g (c ∷ t) → g.precedes b c ≡ true → Inserted g b (c ∷ t)
inserted_front {g} o b c t h e =
    record {
      sequence = b ∷ (c ∷ t);
      arranged = arranged_refl (b ∷ (c ∷ t));
      acceptable = acceptable_cons (each_unbarred g b (c ∷ t) free) h;
    }
  where
    head_free : barred g c (c ∷ t) ≡ false
    head_free = unbarred_cons g c c t (o.irreflexive c) (acceptable_head h)

    decide : (d : ℕ) (x : Bool) → g.precedes d b ≡ x → g.precedes d c ≡ false → x ≡ false
    decide d true f k = absurd (both_ways (g.precedes d c) k (o.transitive d b c f e))
    decide d false f k = refl

    free : (d : ℕ) → has d (c ∷ t) ≡ true → g.precedes d b ≡ false
    free d m = decide d (g.precedes d b) refl (unbarred_each g c d (c ∷ t) head_free m)

-- b somewhere behind the head, if it need not precede it
inserted_behind : {g : Grammar} → (b c : ℕ) (t : List ℕ) → Acceptable g (c ∷ t) → g.precedes b c ≡ false → Inserted g b t → Inserted g b (c ∷ t)
inserted_behind {g} b c t h e r =
    record {
      sequence = c ∷ r.sequence;
      arranged = arranged_trans (arranged_cons c r.arranged) (arranged_turn c b t);
      acceptable = acceptable_cons (unbarred_arranged g c r.arranged (unbarred_cons g c b t e (acceptable_head h))) r.acceptable;
    }

inserted : {g : Grammar} → StrictPartialOrder g.precedes → (b : ℕ) (t : List ℕ) → Acceptable g t → Inserted g b t
inserted {g} o b [] h =
    record { sequence = b ∷ []; arranged = arranged_refl (b ∷ []); acceptable = acceptable_cons (unbarred_nil g b) h }
inserted {g} o b (c ∷ t) h = grind (arith, inserted_front, inserted_behind, inserted o b t (acceptable_tail h))

one_more : {g : Grammar} → StrictPartialOrder g.precedes → (a : ℕ) (s : List ℕ) → (t : List ℕ) × Arrangement t s × Acceptable g t
    → (t : List ℕ) × Arrangement t (a ∷ s) × Acceptable g t
one_more o a s (t, k, h) = let r = inserted o a t h in (r.sequence, arranged_trans r.arranged (arranged_cons a k), r.acceptable)

-- an acceptable arrangement of a multiset: there is one because the order is a strict partial order
pub arranged_acceptable : {g : Grammar} → StrictPartialOrder g.precedes → (s : List ℕ) → (t : List ℕ) × Arrangement t s × Acceptable g t
arranged_acceptable {g} o [] = ([], arranged_refl [], acceptable_nil g)
arranged_acceptable {g} o (a ∷ s) = one_more o a s (arranged_acceptable o s)

-- ## Taking one

pub taken_has : (g : Grammar) (a : ℕ) (s : List ℕ) → may_take g a s ≡ true → has a s ≡ true
unfolding may_take
taken_has g a s h = grind arith

pub taken_unbarred : (g : Grammar) (a : ℕ) (s : List ℕ) → may_take g a s ≡ true → barred g a s ≡ false
unfolding may_take
taken_unbarred g a s h = grind arith

pub may_take_lem : (g : Grammar) (a : ℕ) (s : List ℕ) → has a s ≡ true → barred g a s ≡ false → may_take g a s ≡ true
unfolding may_take
may_take_lem g a s m f = rw (m, f)

-- the head of an acceptable arrangement of the rest may be taken
pub head_taken : {g : Grammar} → StrictPartialOrder g.precedes → {a : ℕ} {t s : List ℕ} → Arrangement (a ∷ t) s → Acceptable g (a ∷ t) → may_take g a s ≡ true
head_taken {g} o {a} {t} {s} k h =
    may_take_lem g a s (has_arranged a k (has_head a t)) (unbarred_arranged g a (arranged_sym k) (unbarred_cons g a a t (o.irreflexive a) (acceptable_head h)))

-- what follows the head is an arrangement of what is left
pub arranged_left : {a : ℕ} {t s : List ℕ} → Arrangement (a ∷ t) s → Arrangement t (without a s)
arranged_left {a} {t} {s} k =
    arranged_uncons a t (without a s) (arranged_trans k (arranged_sym (arranged_without a s (has_arranged a k (has_head a t)))))

-- a symbol that may be taken, before an arrangement of what is left, makes an arrangement of the rest
pub taken_arranged : (g : Grammar) (a : ℕ) (s : List ℕ) {t : List ℕ} → may_take g a s ≡ true → Arrangement t (without a s) → Arrangement (a ∷ t) s
taken_arranged g a s m k = arranged_trans (arranged_cons a k) (arranged_without a s (taken_has g a s m))

-- and an acceptable one, if that of what is left is acceptable
pub taken_acceptable : (g : Grammar) (a : ℕ) (s : List ℕ) {t : List ℕ} → may_take g a s ≡ true → Arrangement t (without a s) → Acceptable g t → Acceptable g (a ∷ t)
taken_acceptable g a s {t} m k h =
    acceptable_cons (unbarred_tail g a a t (unbarred_arranged g a (taken_arranged g a s m k) (taken_unbarred g a s m))) h

-- ## Taking in turn

-- may the symbols be taken from the rest one after the other?
unfoldable pub may_take_all : Grammar → List ℕ → List ℕ → Bool
may_take_all g [] rest = true
may_take_all g (a ∷ s) rest = may_take g a rest && may_take_all g s (without a rest)

pub all_taken_head : (g : Grammar) (a : ℕ) (s rest : List ℕ) → may_take_all g (a ∷ s) rest ≡ true → may_take g a rest ≡ true
unfolding may_take_all
all_taken_head g a s rest = grind arith

pub all_taken_tail : (g : Grammar) (a : ℕ) (s rest : List ℕ) → may_take_all g (a ∷ s) rest ≡ true → may_take_all g s (without a rest) ≡ true
unfolding may_take_all
all_taken_tail g a s rest = grind arith

-- the front of an acceptable arrangement of the rest may be taken in turn
pub front_taken : {g : Grammar} → StrictPartialOrder g.precedes → (s t : List ℕ) {rest : List ℕ} → Arrangement (s ++ t) rest → Acceptable g (s ++ t) → may_take_all g s rest ≡ true
unfolding may_take_all
front_taken o [] t k h = refl
front_taken {g} o (a ∷ s) t {rest} k h =
    and_from (may_take g a rest) (may_take_all g s (without a rest)) (head_taken o k h) (front_taken o s t (arranged_left k) (acceptable_tail h))

-- what follows the front is an arrangement of what is then left
pub arranged_minus : (s t : List ℕ) {rest : List ℕ} → Arrangement (s ++ t) rest → Arrangement t (minus rest s)
unfolding minus
arranged_minus [] t k = k
arranged_minus (a ∷ s) t k = arranged_minus s t (arranged_left k)

-- what may be taken in turn and what is left are together an arrangement of the rest
pub all_taken_arranged : (g : Grammar) (s rest : List ℕ) {t : List ℕ} → may_take_all g s rest ≡ true → Arrangement t (minus rest s) → Arrangement (s ++ t) rest
unfolding minus
all_taken_arranged g [] rest m k = k
all_taken_arranged g (a ∷ s) rest m k =
    taken_arranged g a rest (all_taken_head g a s rest m) (all_taken_arranged g s (without a rest) (all_taken_tail g a s rest m) k)

-- what may be taken in turn, followed by an acceptable arrangement of what is left, is acceptable
pub all_taken_acceptable : (g : Grammar) (s rest : List ℕ) {t : List ℕ} → may_take_all g s rest ≡ true → Arrangement t (minus rest s) → Acceptable g t → Acceptable g (s ++ t)
unfolding minus
all_taken_acceptable g [] rest m k h = h
all_taken_acceptable g (a ∷ s) rest m k h =
    taken_acceptable g a rest (all_taken_head g a s rest m)
    (all_taken_arranged g s (without a rest) (all_taken_tail g a s rest m) k)
    (all_taken_acceptable g s (without a rest) (all_taken_tail g a s rest m) k h)

-- symbols may be taken in turn exactly if, followed by some arrangement of what is left, they are acceptable
pub taken_in_turn : {g : Grammar} → StrictPartialOrder g.precedes → (s rest : List ℕ)
    → may_take_all g s rest ≡ true ↔ ((t : List ℕ) × Arrangement (s ++ t) rest × Acceptable g (s ++ t))
taken_in_turn {g} o s rest = (λ m. ahead m, λ (t, k, h). front_taken o s t k h)
  where
    ahead : may_take_all g s rest ≡ true → (t : List ℕ) × Arrangement (s ++ t) rest × Acceptable g (s ++ t)
    ahead m = let (t, k, h) = arranged_acceptable o (minus rest s) in (t, all_taken_arranged g s rest m k, all_taken_acceptable g s rest m k h)
