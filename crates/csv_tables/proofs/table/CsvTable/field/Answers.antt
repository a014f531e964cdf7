use Rattle.std.proofs.Common.{◌∙◌, arith}
use Rattle.csv_tables.proofs.Flat.{field_here, place_within}
use Rattle.csv_tables.proofs.table.CsvTable.field.Goals as goal
use Rattle.csv_tables.specs.Held.{held_of}

pub overflow_mul-at : goal.overflow_mul-at
overflow_mul-at c =
    let s = c.args.self.now.rows in
    let p = place_within c.args.at s.count s.width c.args.column c.requires (omega arith) in
    let w = s.whole in
    let l = c.len-fields.ensures in
    omega arith

pub overflow_add-at : goal.overflow_add-at
overflow_add-at c =
    let s = c.args.self.now.rows in
    let p = place_within c.args.at s.count s.width c.args.column c.requires (omega arith) in
    let w = s.whole in
    let l = c.len-fields.ensures in
    omega arith

pub returns : goal.returns
returns c =
    let s = c.args.self.now.rows in
    c.get.ensures.value ∙ field_here c.args.at s.width c.args.column (held_of s.fields) (omega arith)
