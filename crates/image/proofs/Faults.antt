-- What each call of `first_fault` needs of the tests before it, and what their answers come to.
use Rattle.std.proofs.Common.{◌≡◌, ℕ, None, ◌+◌, ◌≤◌, List, length, true}
use Rattle.paper.specs.Image.{byte, body, contents_right, symbols_right, rules_fault, pair_fault, closing_fault, image_fault, image_terminals, image_symbols, image_pairs}
use Rattle.paper.proofs.Image.{symbols_right_lem, not_refused, refused_contents, refused_symbols, refused_rules, refused_pairs, refused_closing}
use Rattle.image.proofs.PairSteps.{pair_fault_wider}

pub symbols_size : (s : List ℕ) → symbols_right s ≡ true → length s ≡ 3
symbols_size s h = (symbols_right_lem s h).size

pub symbols_few : (s : List ℕ) → symbols_right s ≡ true → byte s 0 + byte s 1 ≤ 64
symbols_few s h = (symbols_right_lem s h).few

-- pairs that are sound for the symbols of an image are sound for 64
pub sound_for_64 : (s p : List ℕ) → symbols_right s ≡ true → pair_fault (byte s 0 + byte s 1) 0 0 p ≡ None → pair_fault 64 0 0 p ≡ None
sound_for_64 s p h e = pair_fault_wider (byte s 0 + byte s 1) 64 0 0 p (symbols_few s h) e

pub no_fault : (b : List ℕ) → contents_right b ≡ true → symbols_right (body b 0) ≡ true → rules_fault (image_terminals b) (image_symbols b) (body b 1) ≡ None
    → pair_fault (image_symbols b) 0 0 (body b 2) ≡ None → closing_fault (image_pairs b) 0 (image_pairs b) ≡ None → image_fault b ≡ None
no_fault b contents symbols rules pairs closed =
    not_refused b (record { contents = contents; symbols = symbols; rules = rules; pairs = pairs; closed = closed })

pub ruleset image_faults = (refused_contents, refused_symbols, refused_rules, refused_pairs, refused_closing, no_fault, symbols_size, symbols_few)
