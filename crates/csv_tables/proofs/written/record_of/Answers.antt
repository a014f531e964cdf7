use Rattle.std.proofs.Common.{◌≡◌, ◌<◌, ◌≤◌, ◌∙◌, ap, sym, true, map, length, rules, arith, get_or}
use Rattle.std.specs.List.{list_all, list_any}
use Rattle.std.proofs.lemmas.List.{take_all}
use Rattle.std.specs.Str.{is_utf8}
use Rattle.std.proofs.lemmas.Str.{is_utf8-from_IsUtf8}
use Rattle.csv_tables.proofs.Images.{fields_utf8}
use Rattle.med_value.specs.Datum.{datum}
use Rattle.csv_tables.specs.Cells.{reads_as_null}
use Rattle.csv_tables.specs.Rewriting.{is_storable}
use Rattle.csv_tables.proofs.ReadBack.{row_back, any_here, told_one}
use Rattle.csv_tables.proofs.written.record_of.Goals as goal

pub returns-then-reads_as_null-clause-err : goal.returns-then-reads_as_null-clause-err
returns-then-reads_as_null-clause-err c =
    let xs = c.args.row.now.cells.items in
    let v = c.value-item.result in
    let lt : c.loop-value.value-index < length xs = omega arith in
    let is : v ≡ get_or xs c.loop-value.value-index v = search rules in
    let q : reads_as_null c.args.null.now (datum v) ≡ true = search rules in
    told_one _ _ (any_here (reads_as_null c.args.null.now) xs c.loop-value.value-index v lt is q)

pub returns-clause-back : goal.returns-clause-back
returns-clause-back c =
    let xs = c.args.row.now.cells.items in
    let le : length xs ≤ c.loop-value.value-index = omega arith in
    let all = take_all c.loop-value.value-index xs le in
    λ kinds fits. row_back c.args.null.now kinds (map datum xs) fits
    (ap (λ (l : _). list_any (reads_as_null c.args.null.now) (map datum l)) (sym all) ∙ c.loop-value.invariant.clear)
    (ap (λ (l : _). list_all is_storable (map datum l)) (sym all) ∙ c.loop-value.invariant.held)

pub returns-clause-texts : goal.returns-clause-texts
returns-clause-texts c =
    let xs = c.args.row.now.cells.items in
    let le : length xs ≤ c.loop-value.value-index = omega arith in
    let all = take_all c.loop-value.value-index xs le in
    ap (list_all is_utf8) c.loop-value.invariant.same ∙ fields_utf8 c.args.null.now _ (is_utf8-from_IsUtf8 c.args.null.now c.utf8.null) c.loop-value.invariant.held
