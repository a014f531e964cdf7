use Rattle.std.proofs.Common.{◌≡◌, ◌∙◌, sym, length, rules}
use Rattle.jsonl_wrapper.specs.Tables.{readers_in}
use Rattle.jsonl_wrapper.proofs.FormatLaws.{rows_length}
use Rattle.jsonl_wrapper.proofs.placed.JsonTablePlacedTable.count.Goals as goal

pub returns : goal.returns
returns c =
    let t = c.args.self.now in
    let n : c.len.result ≡ length t.lines.items = search rules in
    n ∙ sym (rows_length (readers_in t) 0 t.content.items t.lines.items)
