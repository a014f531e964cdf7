use Rattle.std.proofs.Common.{◌≡◌, true, map, string_bytes, to_z, of_z, w64, rules}
use Rattle.std.proofs.lemmas.Int.{to_z-of_z}
use Rattle.std.proofs.lemmas.List.{nil_from_length}
use Rattle.med_value.specs.Datum.{Whole}
use Rattle.wrapper_parts.specs.Staged.{change_is}
use Rattle.wrapper_parts.specs.Rising.{AreRising}
use Rattle.csv_tables.specs.Cells.{line_of}
use Rattle.csv_tables.specs.Rises.{KeepRising, RiseUpTo, first_column}
use Rattle.csv_tables.proofs.RisingKeys.{stays}
use Rattle.csv_tables.proofs.rises.stays_rising.Goals as goal

pub returns : goal.returns
returns c = λ told rises.
    let t = c.args.table.now in
    let cs = map change_is c.args.changes.now in
    let known : c.args.rises ≡ true = search rules in
    let rising : AreRising (first_column t) = rises known in
    let up : RiseUpTo (first_column t) c.in-Some.last t.rows.count = c.in-Some.ensures rising in
    let none = nil_from_length c.loop-change.changes.now c.in_default-split_first.ensures.cases in
    let keep : KeepRising (first_column t) (Whole (to_z w64 (of_z w64 c.in-Some.last))) cs = c.loop-change.invariant (rw none tt) in
    stays t (line_of (string_bytes t.layout.null)) c.in-Some.last cs rising up (rw (to_z-of_z w64 c.in-Some.last up.fits) at keep)
