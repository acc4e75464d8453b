-- The stage with which an entry comes into a list.
-- Assumes nothing.
use Rattle.std.proofs.Common.{◌≡◌, ◌≢◌, Bool, true, false, cond, ℕ, ◌<◌, eqb, eq-eqb, List, refl}
use borrow.Author.Tests.{eqb-true}
use Rattle.paper.specs.Grammar.{Grammar, IsGrammar, members, rule_count}
use Rattle.tables.specs.Table.{Ranked}
use Rattle.sheet.specs.Causes.{highest}
use Rattle.sheet.specs.Stages.{stage_at}
use Rattle.sheet.proofs.Ranking.{highest_small}

module _ (g : Grammar) (ranks : List ℕ) (j h i m s : ℕ) where
  -- from an earlier place it is what is given
  pub stage_given : i ≢ j → stage_at g ranks j h i m s ≡ s
  unfolding stage_at
  stage_given ne = go (eqb i j) refl
    where
      go : (b : Bool) → eqb i j ≡ b → cond b (highest ranks (members g h) m) s ≡ s
      go true e = absurd (ne (eqb-true i j e))
      go false e = refl

  pub stage_highest : i ≡ j → stage_at g ranks j h i m s ≡ highest ranks (members g h) m
  unfolding stage_at
  stage_highest e = rw (eq-eqb i j e)

  pub stage_small : IsGrammar g → Ranked g ranks → h < rule_count g → s < 64 → stage_at g ranks j h i m s < 64
  unfolding stage_at
  stage_small is r l few = go (eqb i j)
    where
      go : (b : Bool) → cond b (highest ranks (members g h) m) s < 64
      go true = highest_small is r h m l
      go false = few
