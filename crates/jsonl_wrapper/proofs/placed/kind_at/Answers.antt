use Rattle.std.proofs.Common.{◌≤◌, ◌<◌, sym, length, arith}
use Rattle.jsonl_wrapper.proofs.FormatLaws.{kind_there, kind_none}
use Rattle.jsonl_wrapper.proofs.placed.kind_at.Goals as goal

pub returns-then-column-len : goal.returns-then-column-len
returns-then-column-len c =
    let lt : c.args.column < length c.args.table.now.fields.items = omega arith in
    sym (kind_there c.args.table.now.fields.items c.args.column c.index.result.now lt c.index.ensures)

pub returns-else-column-len : goal.returns-else-column-len
returns-else-column-len c =
    let le : length c.args.table.now.fields.items ≤ c.args.column = omega arith in
    sym (kind_none c.args.table.now.fields.items c.args.column le)
