-- What the price answers, from what its parts answer.
-- Assumes nothing.
use Rattle.std.proofs.Common.{ℕ, ◌≡◌, ◌+◌, ◌*◌, ◌/◌, ◌≤◌, ◌<◌, refl, Some, None, Ok, Err, cond, List, arith}
use lib.Dec.{eqb}
use Rattle.std.proofs.lemmas.Nat.{mul-le}
use Rattle.paper.specs.Grammar.{rule_count}
use Rattle.paper.specs.Price.{rests, entries_bound, steps_bound, lines_bound}
use Rattle.paper.specs.Image.{grammar_of}
use Rattle.paper.specs.Outcome.{image_refusal, price_refusal, price_of, pricing}
use Rattle.paper.specs.declared.Refusal.{Refusal}

-- no product in the bound on steps leaves 64 bits
pub product_few : (rules rests n : ℕ) → rules ≤ 96 → rests ≤ 24576 → n ≤ 64 → rules * rests * (n + 1) * (n + 2) ≤ 96 * 24576 * 65 * 66
product_few rules rests n r d l =
    let a : n + 1 ≤ 65 = omega arith in
    let b : n + 2 ≤ 66 = omega arith in
    mul-le (rules * rests * (n + 1)) (n + 2) (96 * 24576 * 65) 66 (mul-le (rules * rests) (n + 1) (96 * 24576) 65 (mul-le rules rests 96 24576 r d) a) b

pub products_few : (rules rests n : ℕ) → rules ≤ 96 → rests ≤ 24576 → n ≤ 64 → rules * rests * (n + 1) * (n + 2) * (n + 3) ≤ 96 * 24576 * 65 * 66 * 67
products_few rules rests n r d l =
    let a : n + 3 ≤ 67 = omega arith in
    mul-le (rules * rests * (n + 1) * (n + 2)) (n + 3) (96 * 24576 * 65 * 66) 67 (product_few rules rests n r d l) a

-- 10 to 14
pub refused_image : (image : List ℕ) (n : ℕ) (why : Refusal) → Some why ≡ image_refusal image → Err why ≡ pricing image n
unfolding price_refusal
refused_image image n why e = rw (← e) refl

-- 20
pub refused_length : (image : List ℕ) (n : ℕ) → None ≡ image_refusal image → 64 < n → Err Refusal.LongRow ≡ pricing image n
unfolding price_refusal
refused_length image n e l = grind (arith, e)

answered : (image : List ℕ) (n : ℕ) → None ≡ image_refusal image → n ≤ 64 → Ok (price_of (grammar_of image) n) ≡ pricing image n
unfolding price_refusal
answered image n e l = grind (arith, e)

-- the price, from its numbers: so many rules and nonterminals, rests, entries, steps and lines
pub priced : {bytes image : List ℕ} {n rules nonterminals r e s l : ℕ} → bytes ≡ image → None ≡ image_refusal image → n ≤ 64 → rules ≡ rule_count (grammar_of bytes)
    → nonterminals ≡ (grammar_of bytes).nonterminals → r ≡ rests (grammar_of bytes) → e ≡ r * (n + 1) * (n + 2) / 2
    → s ≡ rules + e + e * rules + rules * r * (n + 1) * (n + 2) * (n + 3) / 6 → l ≡ cond (eqb n 0) nonterminals (3 * n * nonterminals)
    → Ok (record { rests = r; entries = e; steps = s; lines = l }) ≡ pricing image n
unfolding price_of entries_bound steps_bound lines_bound
priced {bytes} {image} {n} same free short rules_are nonterminals_are rests_are entries_are steps_are lines_are =
    rw (steps_are, lines_are, entries_are, rests_are, rules_are, nonterminals_are, same) (answered image n free short)
