use Rattle.std.proofs.Common.{◌≡◌, true, ap, sym, map, string_bytes}
use Rattle.wrapper_parts.specs.Staged.{change_is}
use Rattle.wrapper_parts.specs.Rising.{AreRising}
use Rattle.csv_tables.specs.Flat.{header_in}
use Rattle.csv_tables.specs.Tables.{shape_is}
use Rattle.csv_tables.specs.Rises.{first_column}
use Rattle.csv_tables.specs.Drafted.{records_before, records_kept, image_of}
use Rattle.csv_tables.proofs.RisingKeys.{after_rises}
use Rattle.csv_wrapper.proofs.Placing.{changes_refused, drafts, same_shown, told_of, told_as, told_like}
use Rattle.csv_wrapper.proofs.RisingTold.{rise_told, rise_known}
use Rattle.csv_wrapper.proofs.places.CsvPlacesPlacedTable.rewritten.Goals as goal

pub invariant_of-result : goal.invariant_of-result
invariant_of-result c =
    let t = c.args.self.table in
    let w = c.in-Ok.written in
    let was = c.in-Ok.ensures.before in
    let rose : c.args.self.rises ≡ true → AreRising (first_column t) = λ known. rise_known (first_column t) (c.args.self.risen known) in
    record {
      risen_before = λ told. told_as _ _ (c.args.self.risen told) (told_of t (string_bytes w.remote) w.layout (header_in w.before) (records_before w.rows) was);
      risen = λ told. rise_told _ (after_rises t w.layout (header_in w.after) (records_kept w.rows) (image_of w) (map change_is c.args.changes.items) (ap shape_is (sym was.layout_is)) c.in-Ok.ensures.ok
          (rw c.deref.ensures.value at (c.stays_rising-rises.ensures told rose)));
    }

pub invariant_of-result-in-Err : goal.invariant_of-result-in-Err
invariant_of-result-in-Err c = record { risen = λ told. told_like c.args.self.table _ c.in-Err.ensures.same (c.args.self.risen told) }

pub returns-in-Ok-clause-ok : goal.returns-in-Ok-clause-ok
returns-in-Ok-clause-ok c = drafts c.args.self (map change_is c.args.changes.items) c.in-Ok.written c.in-Ok.ensures.before c.in-Ok.ensures.ok

pub returns-in-Err-clause-same : goal.returns-in-Err-clause-same
returns-in-Err-clause-same c =
    let like = c.in-Err.ensures.same in
    same_shown c.args.self _ like.remote_is like.layout_is like.header_is like.records_are

pub returns-in-Err-clause-err : goal.returns-in-Err-clause-err
returns-in-Err-clause-err c = changes_refused c.args.self (map change_is c.args.changes.items) c.in-Err.field-0.fault c.in-Err.ensures.err
