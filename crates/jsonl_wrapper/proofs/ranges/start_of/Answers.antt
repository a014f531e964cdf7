use Rattle.std.proofs.Common.{◌∙◌, rules, arith}
use Rattle.jsonl_wrapper.specs.Tables.{lines_in}
use Rattle.jsonl_wrapper.proofs.RangeLaws.{starts, ends}
use Rattle.jsonl_wrapper.proofs.ranges.start_of.Goals as goal

pub returns-then-at-len : goal.returns-then-at-len
returns-then-at-len c =
    let t = c.args.table.now in
    starts t.content.items t.lines.items (lines_in t) c.args.at c.index.result.now c.index.result.now (t.image c.requires.image) (omega arith) c.index.ensures

pub returns-else-at-len : goal.returns-else-at-len
returns-else-at-len c =
    let t = c.args.table.now in
    search rules ∙ ends t.content.items t.lines.items (lines_in t) c.args.at (t.image c.requires.image) (omega arith)
