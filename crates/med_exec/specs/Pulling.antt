-- How many rows the boxes give for a row of a run.
use Rattle.std.specs.Prelude.{◌≡◌, ℕ, List, [], Option, None}
use Rattle.fdw_api.specs.State.{BoxState}
use Rattle.scan_loops.specs.Running.{source_at}
use Rattle.scan_loops.specs.declared.levels.LoopLevel.{LoopLevel}
use Rattle.med_exec.specs.declared.running.Rest.{Rest}
use Rattle.med_exec.specs.declared.running.Rest.TheVariants.{Answer, Stream}
use Rattle.med_exec.specs.declared.running.Run.{Run}
-- the rows that boxes give, and how OFFSET and LIMIT bound them
pub use Rattle.scan_loops.specs.Pulling.{pulled_at, PullsAtMost, PullsNone, many_in, IsBareRun, pulls_left, PullsAsked}

abbrev pub levels_left : Rest → List LoopLevel
levels_left (Answer held) = []
levels_left (Stream run) = run.levels.items

abbrev pub skip_left : Rest → ℕ
skip_left (Answer held) = 0
skip_left (Stream run) = run.skip

abbrev pub limit_left : Rest → Option ℕ
limit_left (Answer held) = None
limit_left (Stream run) = run.left

-- the levels whose scans a run holds: none where it holds its answer
abbrev pub levels_in : Run → List LoopLevel
levels_in run = levels_left run.rest

-- how many rows OFFSET has still to pass, and how many LIMIT leaves: of a run that holds its answer both are done
abbrev pub skip_in : Run → ℕ
skip_in run = skip_left run.rest

abbrev pub limit_in : Run → Option ℕ
limit_in run = limit_left run.rest

-- the slot of the box of the first level
abbrev pub slot_in : Run → ℕ
slot_in run = source_at (levels_in run) 0

-- it shows each row of one table as it comes, from the first on
abbrev pub GivesAsTheyCome : Run → Type 0
GivesAsTheyCome run = IsBareRun (levels_in run) × (skip_in run ≡ 0)

-- A run gave a row, or none: the levels are the same. One that holds its answer asks the boxes for no row. One over one table of whose rows
-- nothing is checked again asks for no more than OFFSET passes and one, and for none where LIMIT leaves none.
pub record PullsNext (run : Run) (old : List (Option BoxState)) (after : Run) (new : List (Option BoxState)) : Type 0 where
  pub same : levels_in after ≡ levels_in run
  pub none : levels_in run ≡ [] → PullsNone old new
  pub asked : IsBareRun (levels_in run) → PullsAsked (slot_in run) (skip_in run) (limit_in run) old (skip_in after) (limit_in after) new
