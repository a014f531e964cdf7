use Rattle.std.proofs.Common.{◌∙◌, sym, arith}
use Rattle.csv.specs.Records.{fields_of}
use Rattle.csv_tables.proofs.FieldSteps.{text_next, text_fails, text_ends, field_less, utf8_read, utf8_refused}
use Rattle.csv_tables.proofs.content.are_texts.Goals as goal

pub loop-field-smaller : goal.loop-field-smaller
loop-field-smaller c =
    let l = field_less (fields_of c.args.row.now) c.loop-field.at c.in-Some.field.now (sym c.in-Some.ensures.value) in
    omega arith

pub loop-field-preserved : goal.loop-field-preserved
loop-field-preserved c =
    c.loop-field.invariant ∙ text_next (fields_of c.args.row.now) c.loop-field.at c.in-Some.field.now (sym c.in-Some.ensures.value)
    (utf8_read c.in-Some.field.now _ _ c.from_utf8.result c.from_utf8.ensures.cases (sym c.is_err.ensures.value ∙ c.if-is_err.false))

pub returns-then-is_err : goal.returns-then-is_err
returns-then-is_err c =
    sym (c.loop-field.invariant ∙ text_fails (fields_of c.args.row.now) c.loop-field.at c.in-Some.field.now (sym c.in-Some.ensures.value)
    (utf8_refused c.in-Some.field.now _ _ c.from_utf8.result c.from_utf8.ensures.cases (sym c.is_err.ensures.value ∙ c.if-is_err.true)))

pub returns : goal.returns
returns c = sym (c.loop-field.invariant ∙ text_ends (fields_of c.args.row.now) c.loop-field.at (sym c.in_default.ensures.value))
