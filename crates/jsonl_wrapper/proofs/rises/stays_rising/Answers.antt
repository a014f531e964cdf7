use Rattle.std.proofs.Common.{◌≡◌, true, map, length, to_z, of_z, w64, rules}
use Rattle.std.proofs.lemmas.Int.{to_z-of_z}
use Rattle.std.proofs.lemmas.List.{nil_from_length}
use Rattle.med_value.specs.Datum.{Whole}
use Rattle.wrapper_parts.specs.Staged.{change_is}
use Rattle.wrapper_parts.specs.Rising.{AreRising}
use Rattle.wrapper_parts.specs.KeepingRise.{KeepRising, RiseUpTo}
use Rattle.jsonl_wrapper.specs.Contents.{json_line}
use Rattle.jsonl_wrapper.specs.Tables.{readers_in, lines_in}
use Rattle.jsonl_wrapper.specs.Rises.{first_column}
use Rattle.jsonl_wrapper.proofs.RisingTold.{rise_known}
use Rattle.jsonl_wrapper.proofs.RisingKeys.{stays}
use Rattle.jsonl_wrapper.proofs.rises.stays_rising.Goals as goal

pub returns : goal.returns
returns c = λ told.
    let t = c.args.table.now in
    let cs = map change_is c.args.changes.now in
    let cells = first_column (readers_in t) (lines_in t) in
    let known : t.rises ≡ true = search rules in
    let rising : AreRising cells = rise_known cells (t.risen known) in
    let up : RiseUpTo cells c.in-Some.last (length (lines_in t)) = c.in-Some.ensures rising in
    let none = nil_from_length c.loop-change.changes.now c.in_default-split_first.ensures.cases in
    let keep : KeepRising cells (Whole (to_z w64 (of_z w64 c.in-Some.last))) cs = c.loop-change.invariant (rw none tt) in
    stays (readers_in t) (lines_in t) (json_line (readers_in t)) c.in-Some.last cs rising up (rw (to_z-of_z w64 c.in-Some.last up.fits) at keep)
