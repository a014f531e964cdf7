use Rattle.std.proofs.Common.{subst, List}
use Rattle.med_value.specs.Datum.{Datum}
use Rattle.wrapper_parts.specs.Rising.{AreRising}
use Rattle.jsonl_wrapper.specs.Tables.{readers_in, lines_in}
use Rattle.jsonl_wrapper.specs.Rises.{first_column}
use Rattle.jsonl_wrapper.proofs.RisingTold.{rise_known}
use Rattle.jsonl_wrapper.proofs.RisingKeys.{column_there}
use Rattle.jsonl_wrapper.proofs.placed.JsonTablePlacedTable.rises.Goals as goal

pub returns : goal.returns
returns c = λ told.
    let t = c.args.self.now in
    subst (λ (ds : List Datum). AreRising ds) (column_there (readers_in t) 0 (lines_in t))
    (rise_known (first_column (readers_in t) (lines_in t)) (t.risen told))
