-- The proofs of the statements in specs/Demands.antt, in their order.
-- Assumes nothing.
use native.Mathlib.Omega.{arith}
use Rattle.paper.specs.Grammar.{members}
use Rattle.paper.specs.Demands.{AdmittedIsWritten, AdmittedIsGrammar, RowFits, HouseMeant, LanguageByTrees, Theorem7, Theorem1, SheetExists, SheetUnique, WordReadBack, OnesLeft, DistinctSubMultisets, EntriesBound, StepsBound, StepsPrice, LinesExist, LinesSound, LinesBound, JudgedUnique, CheckingUnique, BracketingUnique, ViewUnique, ReadingUnique}
use Rattle.paper.proofs.Admitted
use Rattle.paper.proofs.Image
use Rattle.paper.proofs.Fitness
use Rattle.paper.proofs.SubMultisets
use Rattle.paper.proofs.Words
use Rattle.paper.proofs.Universe
use Rattle.paper.proofs.Standing
use Rattle.paper.proofs.Unique
use Rattle.paper.proofs.SheetBounds
use Rattle.paper.proofs.Theorem1
use Rattle.paper.proofs.Lines
use Rattle.paper.proofs.Writing
use Rattle.paper.proofs.Spans
use Rattle.paper.proofs.Outcome

-- ---- the image

pub admitted_is_written : AdmittedIsWritten
admitted_is_written image bytes = Admitted.image_iff image bytes

pub admitted_is_grammar : AdmittedIsGrammar
admitted_is_grammar image admitted = Image.image_grammar image admitted

pub row_fits : RowFits
row_fits image row free = Fitness.row_fit image row free

pub house_meant : HouseMeant
house_meant = (Image.house_admitted, Image.house_means)

-- ---- derivation

pub language_by_trees : LanguageByTrees
language_by_trees g row is_row = Standing.language_tree is_row

-- ---- the sheet

pub theorem_7 : Theorem7
theorem_7 g row j e is = Standing.theorem_7 is.order

pub theorem_1 : Theorem1
theorem_1 g row sheet is is_row sheet_is = Theorem1.theorem_1 is is_row sheet_is

pub sheet_exists : SheetExists
sheet_exists g row is short = Theorem1.sheet_exists g row is short

pub sheet_unique : SheetUnique
sheet_unique g row s t p q = Unique.sheet_unique p q

pub word_read_back : WordReadBack
word_read_back g row j e is short stands =
    Words.entry_of_word g is e stands.is_rule (omega (arith, stands.origin_le, stands.list_le)) (Universe.stands_possible stands).listed

pub ones_left : OnesLeft
ones_left g row j e stands = Words.ones_mask (members g e.rule) (Universe.stands_possible stands).listed

-- ---- its price

pub distinct_sub_multisets : DistinctSubMultisets
distinct_sub_multisets s = record { only = λ r m a. SubMultisets.listed_count a s m; all = SubMultisets.listed_exists s; once = SubMultisets.listed_once s }

pub entries_bound_lem : EntriesBound
entries_bound_lem g row sheet is = SheetBounds.entries_bound_lem is

pub steps_bound_lem : StepsBound
steps_bound_lem g row sheet is = SheetBounds.steps_bound_lem is

pub steps_price : StepsPrice
steps_price g row sheet is = SheetBounds.steps_price is

-- ---- derivation lines

pub lines_exist : LinesExist
lines_exist g row is l = Writing.lines_exist is l.is_row ((Standing.language_tree l.is_row).0 l)

pub lines_sound : LinesSound
lines_sound g row lines is_row valid = (Standing.language_tree is_row).1 (Lines.valid_tree valid)

pub lines_bound_lem : LinesBound
lines_bound_lem g row lines is valid = Spans.valid_bound is valid

-- ---- two permitted outcomes are equal

pub judged_unique : JudgedUnique
judged_unique g row lines x y p q = Outcome.judged_unique p q

pub checking_unique : CheckingUnique
checking_unique image row lines x y p q = Outcome.checking_unique p q

pub bracketing_unique : BracketingUnique
bracketing_unique image row lines entry x y s t p q = Outcome.bracketing_unique p q

pub view_unique : ViewUnique
view_unique image row lines k x y s t p q = Outcome.view_unique p q

pub reading_unique : ReadingUnique
reading_unique image row entry x y s t p q = Outcome.reading_unique p q
