-- The nature and the live scans of an inner wrapper, as a wrapper round it shows them.
use Rattle.std.specs.Prelude.{ℕ, true, false, map}
use Rattle.std.specs.Ordering.{nat_cmp}
use Rattle.std.specs.FinMap as finmap
use Rattle.fdw_api.specs.State.{Nature, Scan}

-- what it is, but that a refused `begin` may use a ticket number up, since the inner scan was begun and ended, and that it promises no order and
-- no limit of a scan's rows
abbrev pub round : Nature → Nature
round n = record n { skips = true; promises = false }

-- each scan by its ticket number, seen in the way of its number
abbrev pub each_seen : (ℕ → Scan → Scan) → finmap.FinMap nat_cmp Scan → finmap.FinMap nat_cmp Scan
each_seen see m = finmap.from_sorted (map (λ e. (e.0, see e.0 e.1)) (finmap.entries m))
