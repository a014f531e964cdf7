use Rattle.std.proofs.Common.{◌∙◌, List, ap, map}
use Rattle.jsonl_wrapper.specs.declared.fields.Field.{Field}
use Rattle.jsonl_wrapper.specs.Fields.{reader_of}
use Rattle.jsonl_wrapper.specs.Objects.{cells_at}
use Rattle.jsonl_wrapper.proofs.contents.cell_of_line.Goals as goal

pub returns : goal.returns
returns c =
    c.only_cell.ensures _
    (c.in_ok-row.ensures ∙ ap (λ (fs : List Field). cells_at (map reader_of fs) c.args.line.now) c.from_ref.ensures.value)
