-- An admitted image is the written form of its own parts, byte for byte.
-- Assumes nothing.
use mathlib.Core.Path.{◌≡◌, refl, sym, ◌∙◌, ap}
use Rattle.std.specs.Prelude.{None}
use mathlib.Core.List.{List, [], ◌∷◌, ◌++◌}
use Prim.Native.Nat.{ℕ, zero, suc, ◌+◌, ◌*◌, ◌≤◌, ◌<◌}
use native.Mathlib.Omega.{arith}
use lib.ListN.{length, take, drop, take-append-drop, length-drop, drop_of_length-le}
use lib.Seq.{drop-cons, drop-drop, take_all}
use Rattle.std.proofs.lemmas.List.{nil_from_length}
use Rattle.paper.specs.Image.{byte, kind, offset, extent, body, record_size, record_of, rule_of, rules_of, pairs_of, image_symbols, image_terminals, image_pairs, image_fault, grammar_of}
use Rattle.paper.specs.Records.{record_at}
use Rattle.paper.specs.Written.{AreBytes, entry_bytes, symbols_body, rule_bytes, rules_bytes, rules_body, order_body, contents_bytes, image_bytes, written}
use Rattle.paper.proofs.Records.{rules_count, record_bytes, record_right_lem, RightRecords, records_tail, RightRules, rules_right}
use Rattle.paper.proofs.Order.{pairs_right}
use Rattle.paper.proofs.Image.{admitted, symbols_right_lem, RightContents, contents_right_lem, body_length, byte_below}

-- n bytes from place i on, one by one
abbrev bytes_from : ℕ → ℕ → List ℕ → List ℕ
bytes_from zero i s = []
bytes_from (suc n) i s = byte s i ∷ bytes_from n (suc i) s

bytes_from_lem : (n i : ℕ) (s : List ℕ) → i + n ≤ length s → drop i s ≡ bytes_from n i s ++ drop (i + n) s
bytes_from_lem zero i s l = let e : i + 0 ≡ i = omega arith in rw e
bytes_from_lem (suc n) i s l = grind (arith, drop-cons, bytes_from_lem n (suc i) s (omega arith))

-- The bodies.

symbols_written : (s : List ℕ) → length s ≡ 3 → s ≡ symbols_body (byte s 0) (byte s 1) (byte s 2)
symbols_written s e = bytes_from_lem 3 0 s (omega arith) ∙ rw (drop_of_length-le s {i = 3} (omega arith))

record_written : (terminals symbols more : ℕ) (last r : List ℕ) → RightRecords terminals symbols (suc more) last r
    → (rest : List ℕ) → rest ≡ drop (record_size r) r → rule_bytes (rule_of r) ++ rest ≡ r
unfolding record_at
record_written terminals symbols more last r run rest e = grind (arith, record_right_lem, record_bytes, take-append-drop)

records_written : (terminals symbols more : ℕ) (last r : List ℕ) → RightRecords terminals symbols more last r → rules_bytes (rules_of more r) ≡ r
unfolding rules_bytes rules_of record_at
records_written terminals symbols zero last r run = sym (nil_from_length r run.filled)
records_written terminals symbols (suc more) last r run =
    record_written terminals symbols more last r run (rules_bytes (rules_of more (drop (record_size r) r)))
    (records_written terminals symbols more (record_of r) (drop (record_size r) r) (records_tail terminals symbols more last r run))

rules_written : (terminals symbols : ℕ) (r : List ℕ) → RightRules terminals symbols r → r ≡ rules_body (rules_of (byte r 0) (drop 1 r))
rules_written terminals symbols r right =
    let e = records_written terminals symbols (byte r 0) [] (drop 1 r) right.records in
    drop-cons r 0 0 right.counted ∙ rw (e, rules_count (byte r 0) (drop 1 r))

order_written : (p : List ℕ) → length p ≡ 2 * length (pairs_of p) → p ≡ order_body (pairs_of p)
unfolding pairs_of order_body
order_written [] e = refl
order_written (a ∷ []) e = absurd (omega arith)
order_written (a ∷ b ∷ p) e = cc (order_written p (omega arith))

-- The contents.

-- a number of two bytes has these two, high byte first
entry_written : (k a b c d kind offset : ℕ) (s t : List ℕ) → k ≡ kind → a * 256 + b ≡ offset → b < 256 → d < 256 → s ≡ t
    → k ∷ a ∷ b ∷ c ∷ d ∷ s ≡ entry_bytes kind offset (c * 256 + d) ++ t
entry_written k a b c d kind offset s t e f l m g = grind arith

contents_written : (b : List ℕ) → AreBytes b → RightContents b → b ≡ contents_bytes (extent b 0) (extent b 1) (extent b 2) ++ drop 17 b
contents_written b h c = bytes_from_lem 17 0 b c.size ∙ (λ i. c.form i ∷ c.bodies i ∷ first i)
  where
    third : byte b 12 ∷ bytes_from 4 13 b ++ drop 17 b ≡ entry_bytes 3 (17 + extent b 0 + extent b 1) (extent b 2) ++ drop 17 b
    third =
        entry_written (byte b 12) (byte b 13) (byte b 14) (byte b 15) (byte b 16) 3 (17 + extent b 0 + extent b 1) (drop 17 b) (drop 17 b)
        c.kind_2 (omega arith) (byte_below b h 14) (byte_below b h 16) refl

    second : bytes_from 5 7 b ++ (bytes_from 5 12 b ++ drop 17 b) ≡ entry_bytes 2 (17 + extent b 0) (extent b 1) ++ (entry_bytes 3 (17 + extent b 0 + extent b 1) (extent b 2) ++ drop 17 b)
    second =
        entry_written (byte b 7) (byte b 8) (byte b 9) (byte b 10) (byte b 11) 2 (17 + extent b 0) (bytes_from 5 12 b ++ drop 17 b)
        (entry_bytes 3 (17 + extent b 0 + extent b 1) (extent b 2) ++ drop 17 b) c.kind_1 (omega arith) (byte_below b h 9) (byte_below b h 11) third

    first : bytes_from 5 2 b ++ (bytes_from 5 7 b ++ (bytes_from 5 12 b ++ drop 17 b))
        ≡ entry_bytes 1 17 (extent b 0) ++ (entry_bytes 2 (17 + extent b 0) (extent b 1) ++ (entry_bytes 3 (17 + extent b 0 + extent b 1) (extent b 2) ++ drop 17 b))
    first =
        entry_written (byte b 2) (byte b 3) (byte b 4) (byte b 5) (byte b 6) 1 17 (bytes_from 5 7 b ++ (bytes_from 5 12 b ++ drop 17 b))
        (entry_bytes 2 (17 + extent b 0) (extent b 1) ++ (entry_bytes 3 (17 + extent b 0 + extent b 1) (extent b 2) ++ drop 17 b)) c.kind_0 c.offset_0
        (byte_below b h 4) (byte_below b h 6) second

-- bodies that follow one another and end with the image
bodies_follow : (b : List ℕ) (o p q x y z : ℕ) → p ≡ o + x → q ≡ p + y → length b ≡ q + z
    → drop o b ≡ take x (drop o b) ++ (take y (drop p b) ++ take z (drop q b))
bodies_follow b o p q x y z e f g =
    sym (take-append-drop x (drop o b)) ∙ ap {B = List ℕ} (take x (drop o b) ++◌) (drop-drop x o b ∙ (ap {B = List ℕ} (λ n. drop n b) (sym e) ∙ second))
  where
    third : drop q b ≡ take z (drop q b)
    third = sym (take_all z (drop q b) (omega (arith, length-drop q b)))

    second : drop p b ≡ take y (drop p b) ++ take z (drop q b)
    second =
        sym (take-append-drop y (drop p b)) ∙ ap {B = List ℕ} (take y (drop p b) ++◌) (drop-drop y p b ∙ (ap {B = List ℕ} (λ n. drop n b) (sym f) ∙ third))

-- The image.

parts_written : (b first second third : List ℕ) (x y z : ℕ) → length first ≡ x → length second ≡ y → length third ≡ z
    → b ≡ contents_bytes x y z ++ (first ++ (second ++ third)) → (f s t : List ℕ) → first ≡ f → second ≡ s → third ≡ t → b ≡ image_bytes f s t
parts_written b first second third x y z e g h k f s t u v w = cc

-- An admitted image is what is written of its own parts.
pub image_written : (b : List ℕ) → AreBytes b → image_fault b ≡ None
    → b ≡ written (grammar_of b).terminals (grammar_of b).nonterminals (grammar_of b).start (grammar_of b).rules (image_pairs b)
unfolding grammar_of written
image_written b h n =
    let a = admitted b n in
    let c = contents_right_lem b a.contents in
    let s = symbols_right_lem (body b 0) a.symbols in
    let r = rules_right (image_terminals b) (image_symbols b) (body b 1) a.rules in
    let p = pairs_right (image_symbols b) 0 0 (body b 2) a.pairs in
    let follow =
    ap {B = List ℕ} (λ k. drop k b) (sym c.offset_0)
    ∙ bodies_follow b (offset b 0) (offset b 1) (offset b 2) (extent b 0) (extent b 1) (extent b 2) c.offset_1 c.offset_2 c.ends
    in
    parts_written b (body b 0) (body b 1) (body b 2) (extent b 0) (extent b 1) (extent b 2) (body_length b c 0 (omega arith)) (body_length b c 1 (omega arith))
    (body_length b c 2 (omega arith)) (contents_written b h c ∙ ap {B = List ℕ} (contents_bytes (extent b 0) (extent b 1) (extent b 2) ++◌) follow)
    (symbols_body (byte (body b 0) 0) (byte (body b 0) 1) (byte (body b 0) 2)) (rules_body (rules_of (byte (body b 1) 0) (drop 1 (body b 1)))) (order_body (pairs_of (body b 2)))
    (symbols_written (body b 0) s.size) (rules_written (image_terminals b) (image_symbols b) (body b 1) r) (order_written (body b 2) p.size)
