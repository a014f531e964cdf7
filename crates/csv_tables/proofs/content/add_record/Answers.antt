use Rattle.std.proofs.Common.{◌≡◌, ◌∙◌, sym, ◌&&◌, not, is_some, ◌+◌, true, false, length, refl, arith, rules}
use Rattle.csv.specs.Records.{fields_of}
use Rattle.csv_tables.specs.Cells.{is_readable}
use Rattle.csv_tables.specs.CsvRecords.{is_whole}
use Rattle.csv_tables.specs.Content.{rows_so_far, records_so_far}
use Rattle.csv_tables.specs.Tables.{shape_is}
use Rattle.csv_tables.proofs.Flat.{cut_length}
use Rattle.csv_tables.proofs.Gathering.{same_width}
use Rattle.csv_tables.proofs.Drafts.{tells_format, tells_text, tells_rows, row_drafted}
use Rattle.csv_tables.proofs.content.add_record.Goals as goal
use Rattle.csv_tables.specs.Held.{held_of}

pub returns-then-not-is_whole-clause-err : goal.returns-then-not-is_whole-clause-err
returns-then-not-is_whole-clause-err c = λ bytes more is.
    let shape = shape_is c.args.layout.now in
    let bad : is_whole (length c.args.layout.now.kinds.items) (fields_of c.args.row.now) ≡ false = search rules in
    tells_format shape bytes (records_so_far shape c.args.draft.now) (fields_of c.args.row.now) more is bad

pub returns-then-not-branch-clause-err : goal.returns-then-not-branch-clause-err
returns-then-not-branch-clause-err c = λ bytes more is.
    let shape = shape_is c.args.layout.now in
    let d = c.args.draft.now in
    let flag : (shape.header && not (is_some d.header)) ≡ false = search rules in
    let whole : is_whole (length c.args.layout.now.kinds.items) (fields_of c.args.row.now) ≡ true = search rules in
    let bad : is_readable shape.null shape.kinds (fields_of c.args.row.now) ≡ false = sym c.in_ok-take_fields.ensures.readable ∙ c.if-not-branch.true in
    tells_text shape bytes d.header (rows_so_far shape d) (fields_of c.args.row.now) more is flag c.requires.no_header whole bad

pub returns-then-draft-eq-ROW_LIMIT-clause-err : goal.returns-then-draft-eq-ROW_LIMIT-clause-err
returns-then-draft-eq-ROW_LIMIT-clause-err c = λ bytes more is.
    let shape = shape_is c.args.layout.now in
    let d = c.args.draft.now in
    let flag : (shape.header && not (is_some d.header)) ≡ false = search rules in
    let n = cut_length d.count (length shape.kinds) (held_of d.fields) in
    tells_rows shape bytes d.header (rows_so_far shape d) (fields_of c.args.row.now) more is flag c.requires.no_header (omega arith)

pub returns-clause-draft : goal.returns-clause-draft
returns-clause-draft c =
    let shape = shape_is c.args.layout.now in
    let d = c.args.draft.now in
    let few = c.requires.few in
    let flag : (shape.header && not (is_some d.header)) ≡ false = search rules in
    let whole : is_whole (length c.args.layout.now.kinds.items) (fields_of c.args.row.now) ≡ true = search rules in
    let good : is_readable shape.null shape.kinds (fields_of c.args.row.now) ≡ true = sym c.in_ok-take_fields.ensures.readable ∙ c.if-not-branch.false in
    (row_drafted shape d (record d { fields = c.take_fields.new.fields; count = d.count + 1 }) (fields_of c.args.row.now) c.requires refl (c.in_ok-take_fields.ensures.fields c.if-not-branch.false) (c.in_ok-take_fields.ensures.partial c.if-not-branch.false) refl (omega arith) flag whole good).0

pub returns-clause-records : goal.returns-clause-records
returns-clause-records c =
    let shape = shape_is c.args.layout.now in
    let d = c.args.draft.now in
    let few = c.requires.few in
    let flag : (shape.header && not (is_some d.header)) ≡ false = search rules in
    let whole : is_whole (length c.args.layout.now.kinds.items) (fields_of c.args.row.now) ≡ true = search rules in
    let good : is_readable shape.null shape.kinds (fields_of c.args.row.now) ≡ true = sym c.in_ok-take_fields.ensures.readable ∙ c.if-not-branch.false in
    (row_drafted shape d (record d { fields = c.take_fields.new.fields; count = d.count + 1 }) (fields_of c.args.row.now) c.requires refl (c.in_ok-take_fields.ensures.fields c.if-not-branch.false) (c.in_ok-take_fields.ensures.partial c.if-not-branch.false) refl (omega arith) flag whole good).1

pub take_fields-requires-clause-width : goal.take_fields-requires-clause-width
take_fields-requires-clause-width c =
    let whole : is_whole (length c.args.layout.now.kinds.items) (fields_of c.args.row.now) ≡ true = search rules in
    same_width (length c.args.layout.now.kinds.items) (fields_of c.args.row.now) whole
