use Rattle.std.proofs.Common.{◌≡◌, map, string_bytes, sym, rules}
use Rattle.fdw_api.specs.Kinds.{column_of, option_form}
use Rattle.csv_tables.specs.Content.{IsContent, TellsCause}
use Rattle.csv_tables.specs.Shapes.{content_causes}
use Rattle.csv_tables.specs.Flat.{header_in}
use Rattle.csv_tables.specs.Tables.{shape_is, records_of}
use Rattle.csv_tables.proofs.Planning.{headed_by}
use Rattle.csv_wrapper.proofs.Placing.{content_refused, reads_as, columns_there, names_there}
use Rattle.csv_wrapper.proofs.RisingTold.{rise_told}
use Rattle.csv_wrapper.proofs.places.CsvPlacesPlacedTable.read.Goals as goal

pub returns-in-Err-clause-err : goal.returns-in-Err-clause-err
returns-in-Err-clause-err c =
    let told : TellsCause c.in-Err.fault (content_causes (shape_is c.in_ok-layout.layout) c.args.content.items) = rw c.deref.ensures.value at c.in-Err.ensures.err in
    content_refused (map column_of c.args.columns.now) (map option_form c.args.options.now) (shape_is c.in_ok-layout.layout) c.args.content.items c.in-Err.fault c.in_ok-layout.ensures told

pub invariant_of-table : goal.invariant_of-table
invariant_of-table c =
    let l = c.in_ok-layout.layout in
    let bytes = c.args.content.items in
    let content : IsContent (shape_is l) bytes (header_in c.in-Ok.content.header) (records_of c.in-Ok.content.rows) = rw c.deref.ensures.value at c.in-Ok.ensures.ok in
    let some = names_there l (map column_of c.args.columns.now) (map option_form c.args.options.now) c.in_ok-layout.ensures (columns_there (shape_is l) bytes content.no_cause) in
    record { sized = c.in-Ok.ensures.width; named = some; headed = headed_by l bytes (header_in c.in-Ok.content.header) some (sym content.header_is) }

pub returns-clause-ok : goal.returns-clause-ok
returns-clause-ok c =
    let content : IsContent (shape_is c.in_ok-layout.layout) c.args.content.items (header_in c.in-Ok.content.header) (records_of c.in-Ok.content.rows) = rw c.deref.ensures.value at c.in-Ok.ensures.ok in
    let name : string_bytes c.in_ok-remote.remote ≡ c.args.remote.now = search rules in
    reads_as c.args.remote.now (map column_of c.args.columns.now) (map option_form c.args.options.now) c.args.content.items _ name c.in_ok-layout.ensures content

pub invariant_of-result : goal.invariant_of-result
invariant_of-result c = record { risen = λ told. rise_told _ (c.first_rises-rises.ensures told) }
