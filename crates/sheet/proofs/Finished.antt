-- What stands in the words when the stages are gone and zeros are behind.
-- Assumes nothing.
use Rattle.std.proofs.Common.{◌≡◌, ℕ, ◌-◌, List, [], ◌++◌, map, length, take, drop, refl, sym, ap, ◌∙◌, append-nil, arith, length-append, length-drop}
use Rattle.std.proofs.Math.ListN.{replicate, drop_of_length-le}
use Rattle.std.proofs.Math.Seq.{take_at}
use Rattle.std.proofs.lemmas.List.{length-take-le}
use borrow.Rule.Slice.PartMut.{put_mid}
use Rattle.paper.specs.Image.{grammar_of}
use Rattle.paper.specs.Sheet.{entries}
use Rattle.paper.specs.Building.{sheet_of}
use Rattle.paper.specs.Outcome.{sheet_words, padded}
use Rattle.sheet.specs.Cells.{key}
use Rattle.sheet.specs.Grown.{IsBuilt}
use Rattle.sheet.proofs.Listed.{length_words}

module _ {image row words starts : List ℕ} (built : IsBuilt image row words starts) where
  abbrev written : List ℕ
  written = sheet_words (grammar_of image) (sheet_of (grammar_of image) row)

  -- wiped up to the last entry, then filled with 0
  pub finished : (end : ℕ) (wiped rest : List ℕ) → end ≡ entries (sheet_of (grammar_of image) row) → wiped ≡ map key (take end words) ++ drop end words
      → rest ≡ replicate (length (take (length wiped - end) (drop end wiped))) 0 → put_mid end (length wiped - end) wiped rest ≡ padded written (length words)
  finished end wiped rest e w r =
      let long : length written ≡ end = length_words (grammar_of image) (sheet_of (grammar_of image) row) ∙ sym e in
      let keys : map key (take end words) ≡ written = ap (λ n. map key (take n words)) e ∙ built.words_are in
      let parts : wiped ≡ written ++ drop end words = w ∙ ap (λ k. k ++ drop end words) keys in
      let begins : take end wiped ≡ written = ap (take end) parts ∙ take_at written (drop end words) end long in
      let same : length wiped ≡ length words =
      ap length parts ∙ (length-append written (drop end words) ∙ omega (arith, long, length-drop end words, e, built.fits)) in
      let over : drop (length wiped - end) (drop end wiped) ≡ [] = drop_of_length-le (drop end wiped) (omega (arith, length-drop end wiped)) in
      let size : length (take (length wiped - end) (drop end wiped)) ≡ length words - length written =
      length-take-le (length wiped - end) (drop end wiped) (omega (arith, length-drop end wiped)) ∙ omega (arith, same, long) in
      rw (over, append-nil, r, size, begins) refl
