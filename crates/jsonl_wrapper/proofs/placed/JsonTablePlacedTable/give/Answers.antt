use Rattle.std.proofs.Common.{◌≡◌, ◌<◌, ◌∙◌, ap, sym, ℕ, true, false, map, subst, rules}
use Rattle.med_value.specs.Datum.{datum}
use Rattle.fdw_api.specs.Scan.{spec_of, shown_cells}
use Rattle.wrapper_parts.specs.Scans.{takes}
use Rattle.jsonl_wrapper.specs.Tables.{readers_in, row_cells}
use Rattle.jsonl_wrapper.proofs.FormatLaws.{rows_length, given_there, left_there}
use Rattle.jsonl_wrapper.proofs.placed.JsonTablePlacedTable.give.Goals as goal

pub takes_known-requires-clause-within : goal.takes_known-requires-clause-within
takes_known-requires-clause-within c =
    let t = c.args.self.now in
    subst (λ (n : ℕ). c.args.at < n) (rows_length (readers_in t) 0 t.content.items t.lines.items) c.requires.within

pub shown-requires : goal.shown-requires
shown-requires c =
    let t = c.args.self.now in
    subst (λ (n : ℕ). c.args.at < n) (rows_length (readers_in t) 0 t.content.items t.lines.items) c.requires.within

pub row_at-requires : goal.row_at-requires
row_at-requires c =
    let t = c.args.self.now in
    subst (λ (n : ℕ). c.args.at < n) (rows_length (readers_in t) 0 t.content.items t.lines.items) c.requires.within

pub returns-in-Some-true : goal.returns-in-Some-true
returns-in-Some-true c =
    let t = c.args.self.now in
    let spec = spec_of c.args.spec.now in
    let params = map datum c.args.params.now in
    let taken : true ≡ takes spec params (row_cells t c.args.at) = search rules in
    given_there t spec params c.args.at c.in_ok-shown-in-Some-true.field-0 taken c.in_ok-shown-in-Some-true.ensures

pub returns-in-Some-false : goal.returns-in-Some-false
returns-in-Some-false c =
    let t = c.args.self.now in
    let spec = spec_of c.args.spec.now in
    let params = map datum c.args.params.now in
    let left : false ≡ takes spec params (row_cells t c.args.at) = search rules in
    left_there t spec params c.args.at left

pub returns-then-takes : goal.returns-then-takes
returns-then-takes c =
    let t = c.args.self.now in
    let spec = spec_of c.args.spec.now in
    let params = map datum c.args.params.now in
    let holds : c.takes.result ≡ true = search rules in
    given_there t spec params c.args.at c.in_ok-show-in-None.field-0 (sym holds ∙ c.takes.ensures ∙ ap (takes spec params) c.in_ok-row-in-None.ensures)
    (c.in_ok-show-in-None.ensures ∙ ap (shown_cells spec) c.in_ok-row-in-None.ensures)

pub returns : goal.returns
returns c =
    let t = c.args.self.now in
    let spec = spec_of c.args.spec.now in
    let params = map datum c.args.params.now in
    let fails : c.takes.result ≡ false = search rules in
    left_there t spec params c.args.at (sym fails ∙ c.takes.ensures ∙ ap (takes spec params) c.in_ok-row-in-None.ensures)
