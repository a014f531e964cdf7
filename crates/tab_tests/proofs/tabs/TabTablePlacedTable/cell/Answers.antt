use Rattle.std.proofs.Common.{◌≡◌, ◌<◌, ◌∙◌, ℕ, List, ap, length, map, subst, rules}
use Rattle.std.proofs.lemmas.Result.{IfOk-weaker}
use Rattle.med_value.specs.Datum.{Tuple, cell, datum, tuple}
use Rattle.med_value.specs.declared.value.Value.{Value}
use Rattle.tab_tests.proofs.KeptLaws.{rows_length, row_there}
use Rattle.tab_tests.proofs.tabs.TabTablePlacedTable.cell.Goals as goal

pub index-requires : goal.index-requires
index-requires c =
    let lt : c.args.at < length c.args.self.now.rows.items = subst (λ (n : ℕ). c.args.at < n) (rows_length 0 c.args.self.now.rows.items) c.requires in
    search rules

pub returns : goal.returns
returns c = IfOk-weaker c.copy.result _ _
    (λ v h r is.
    (let lt : c.args.at < length c.args.self.now.rows.items = subst (λ (n : ℕ). c.args.at < n) (rows_length 0 c.args.self.now.rows.items) c.requires in
    let e : tuple c.index.result.now ≡ r.cells = row_there 0 c.args.at c.args.self.now.rows.items c.index.result.now r lt c.index.ensures is in
    h ∙ c.value_at.ensures ∙ ap (λ (l : List Value). cell (map datum l) c.args.column) c.deref.ensures.value ∙ ap (λ (cells : Tuple). cell cells c.args.column) e))
    c.copy.ensures.same
