use Rattle.std.proofs.Common.{◌≡◌, false, map, sym, string_bytes, rules}
use Rattle.med_value.specs.Datum.{datum, cell}
use Rattle.csv_tables.specs.Tables.{fields_at, field_size}
use Rattle.csv_tables.specs.Scans.{may_equal}
use Rattle.csv_tables.proofs.ScanLaws.{lengths_apart}
use Rattle.csv_wrapper.proofs.places.has.Goals as goal

pub returns-then-not-may_equal : goal.returns-then-not-may_equal
returns-then-not-may_equal c =
    let t = c.args.table.now in
    let v = cell (map datum c.args.params.now) c.args.found.parameter in
    let apart : may_equal (field_size (fields_at t c.args.at) c.args.found.column) v ≡ false = search rules in
    sym (lengths_apart (string_bytes t.layout.null) t.layout.kinds.items (fields_at t c.args.at) c.args.found.column v apart)
