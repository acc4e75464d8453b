-- The places of the records in a rules body (I3): where rule h is written.
-- Assumes nothing.
use Rattle.std.specs.Prelude.{List, ℕ, zero, suc, ◌+◌, drop}
use Rattle.paper.specs.Image.{record_size}

-- what is left of the bytes after h records: record h stands at its front
unfoldable pub record_at : ℕ → List ℕ → List ℕ
record_at zero r = r
record_at (suc h) r = record_at h (drop (record_size r) r)

-- how many bytes h records take
unfoldable pub record_place : ℕ → List ℕ → ℕ
record_place zero r = 0
record_place (suc h) r = record_size r + record_place h (drop (record_size r) r)
