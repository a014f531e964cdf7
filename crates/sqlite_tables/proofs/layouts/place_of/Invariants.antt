use Rattle.std.proofs.Common.{◌≡◌, ℕ, ◌<◌, false, slice_index_or}
use Rattle.sqlite_tables.specs.Layouts.{Layout}
use Rattle.sqlite_tables.proofs.Places.{has_name}
use Rattle.sqlite_tables.proofs.layouts.place_of.Given as goal

abbrev pub invariant-loop-place : goal.invariant-loop-place
invariant-loop-place l = (k : ℕ) (d : Layout) → k < l.place → has_name l.name (slice_index_or l.shapes k d) ≡ false
