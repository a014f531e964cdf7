use Rattle.std.proofs.Common.{◌<◌, ◌≤◌, length, arith}
use Rattle.std.specs.String.{string_bytes}
use Rattle.csv_tables.specs.Tables.{cells_at, fields_at}
use Rattle.csv_tables.proofs.RowCells.{cells_length, row_step, row_done}
use Rattle.csv_tables.proofs.table.CsvTable.row.Goals as goal

pub loop-column-preserved : goal.loop-column-preserved
loop-column-preserved c =
    let s = c.args.self.now in
    let n = cells_length (string_bytes s.layout.null) s.layout.kinds.items (fields_at s c.args.at) in
    let lt : c.loop-column.column < length (cells_at s c.args.at) = omega arith in
    row_step (cells_at s c.args.at) c.loop-column.column c.loop-column.cells.items c.push.new.self.items c.in_ok-value.value lt c.loop-column.invariant c.in_ok-push.ensures.items c.in_ok-value.ensures

pub returns : goal.returns
returns c =
    let s = c.args.self.now in
    let n = cells_length (string_bytes s.layout.null) s.layout.kinds.items (fields_at s c.args.at) in
    let le : length (cells_at s c.args.at) ≤ c.loop-column.column = omega arith in
    row_done (cells_at s c.args.at) c.loop-column.column c.loop-column.cells.items le c.loop-column.invariant
