use Rattle.std.proofs.Common.{◌≡◌, true, map, length, to_z, of_z, w64, rules}
use Rattle.std.proofs.lemmas.Int.{to_z-of_z}
use Rattle.std.proofs.lemmas.List.{nil_from_length}
use Rattle.med_value.specs.Datum.{Whole}
use Rattle.wrapper_parts.specs.Rising.{AreRising}
use Rattle.wrapper_parts.specs.KeepingRise.{KeepRising, RiseUpTo}
use Rattle.list_wrapper.specs.Changes.{change_is}
use Rattle.list_wrapper.specs.Scans.{keys_of}
use Rattle.list_wrapper.proofs.rises.stays_rising.Goals as goal

pub returns : goal.returns
returns c = λ told rises.
    let keys = keys_of c.args.rows.now.items in
    let cs = map change_is c.args.changes.now in
    let known : c.args.rises ≡ true = search rules in
    let rising : AreRising keys = rises known in
    let last = c.in-Some.last in
    let up : RiseUpTo keys last (length keys) = c.in-Some.ensures rising in
    let none = nil_from_length c.loop-change.changes.now c.in_default-split_first.ensures.cases in
    let keep : KeepRising keys (Whole (to_z w64 (of_z w64 last))) cs = c.loop-change.invariant (rw none tt) in
    record { last = last; rising = rising; up = up; keep = rw (to_z-of_z w64 last up.fits) at keep }
