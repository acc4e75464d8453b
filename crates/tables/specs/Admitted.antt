-- What holds of every admitted grammar in code: its image is admitted, and its fields say what the image means.
-- Assumes nothing.
use Rattle.std.specs.Prelude.{◌≡◌, ◌↔◌, None, ℕ, List, [], ◌∷◌}
use Rattle.paper.specs.Bits.{bit_at}
use Rattle.paper.specs.Derivation.{Derives}
use Rattle.paper.specs.Grammar.{IsGrammar, IsNonterminal}
use Rattle.paper.specs.Image.{image_fault, grammar_of}
use Rattle.paper.specs.declared.SymbolNo.{SymbolNo}
use Rattle.tables.specs.declared.Row.{Row}
use Rattle.tables.specs.Table.{Tabled, Ranked}

-- the image is admitted (I1 to I4), and each field says what it means
pub record IsAdmitted (image : List ℕ) (count : ℕ) (rows : List Row) (firsts ranks : List ℕ) (terminals nonterminals : ℕ) (start : SymbolNo) (nonterminal_set empty_set : ℕ) : Type 0 where
  pub admitted : image_fault image ≡ None
  pub is_grammar : IsGrammar (grammar_of image)
  pub tabled : Tabled (grammar_of image) count rows firsts
  pub ranked : Ranked (grammar_of image) ranks
  pub terminals_are : terminals ≡ (grammar_of image).terminals
  pub nonterminals_are : nonterminals ≡ (grammar_of image).nonterminals
  pub start_is : start.0 ≡ (grammar_of image).start
  pub nonterminals_in : (x : ℕ) → (bit_at x nonterminal_set ≡ 1) ↔ IsNonterminal (grammar_of image) x
  pub empties_in : (x : ℕ) → (bit_at x empty_set ≡ 1) ↔ Derives (grammar_of image) (x ∷ []) []
