use Rattle.std.proofs.Common.{◌≡◌, ◌∙◌, sym, length, rules}
use Rattle.tab_tests.proofs.KeptLaws.{rows_length}
use Rattle.tab_tests.proofs.tabs.TabTablePlacedTable.count.Goals as goal

pub returns : goal.returns
returns c =
    let n : c.len.result ≡ length c.args.self.now.rows.items = search rules in
    n ∙ sym (rows_length 0 c.args.self.now.rows.items)
