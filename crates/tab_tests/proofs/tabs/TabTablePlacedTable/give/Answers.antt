use Rattle.std.proofs.Common.{◌≡◌, ◌<◌, ℕ, length, subst, rules}
use Rattle.med_value.specs.Datum.{tuple}
use Rattle.tab_tests.proofs.KeptLaws.{rows_length, row_there}
use Rattle.tab_tests.proofs.tabs.TabTablePlacedTable.give.Goals as goal

pub index-row-requires : goal.index-row-requires
index-row-requires c =
    let lt : c.args.at < length c.args.self.now.rows.items = subst (λ (n : ℕ). c.args.at < n) (rows_length 0 c.args.self.now.rows.items) c.requires.within in
    search rules

pub returns-then-takes : goal.returns-then-takes
returns-then-takes c = λ r is.
    (let lt : c.args.at < length c.args.self.now.rows.items = subst (λ (n : ℕ). c.args.at < n) (rows_length 0 c.args.self.now.rows.items) c.requires.within in
    let e : tuple c.index-row.result.now ≡ r.cells = row_there 0 c.args.at c.args.self.now.rows.items c.index-row.result.now r lt c.index-row.ensures is in
    (search rules, search rules))

pub returns : goal.returns
returns c = λ r is.
    (let lt : c.args.at < length c.args.self.now.rows.items = subst (λ (n : ℕ). c.args.at < n) (rows_length 0 c.args.self.now.rows.items) c.requires.within in
    let e : tuple c.index-row.result.now ≡ r.cells = row_there 0 c.args.at c.args.self.now.rows.items c.index-row.result.now r lt c.index-row.ensures is in
    search rules)
