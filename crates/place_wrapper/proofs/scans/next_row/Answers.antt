use Rattle.std.proofs.Common.{◌<◌, ◌≤◌, ◌∙◌, Option, ap, subst, map, arith, length, rules}
use Rattle.med_value.specs.Datum.{datum}
use Rattle.med_value.specs.declared.value.Row.{Row}
use Rattle.fdw_api.specs.Scan.{spec_of, given_row}
use Rattle.place_wrapper.specs.Forms.{GivesAt}
use Rattle.place_wrapper.proofs.Rows.{given_here, skipped_here}
use Rattle.place_wrapper.proofs.Rises.{past_end}
use Rattle.place_wrapper.proofs.scans.next_row.Goals as goal

pub returns-in-Some-clause-next : goal.returns-in-Some-clause-next
returns-in-Some-clause-next g c =
    let F = g.T.PlacedTable.form in
    let t = c.args.table.now in
    let spec = spec_of c.args.scan.now.spec in
    let params = map datum c.args.scan.now.params.items in
    let at = c.loop-at.at in
    let lt : at < length (F.rows t) = let a = c.loop-at-test.true in let b = c.requires.3.1 in omega arith in
    let bound = c.end_of-end.type_inv in
    let test = c.loop-at-test.true in
    let gives : GivesAt F t spec params at c.in_ok-cells.field-0 = search rules in (
      c.loop-at.invariant.past,
      omega arith,
      given_here F t spec params c.args.scan.now.at at c.in-Some.cells lt c.loop-at.invariant.same (subst (λ (o : Option Row). GivesAt F t spec params at o) c.in-Some.is gives),
    )

pub loop-at-preserved : goal.loop-at-preserved
loop-at-preserved g c =
    let F = g.T.PlacedTable.form in
    let t = c.args.table.now in
    let spec = spec_of c.args.scan.now.spec in
    let params = map datum c.args.scan.now.params.items in
    let at = c.loop-at.at in
    let lt : at < length (F.rows t) = let a = c.loop-at-test.true in let b = c.requires.3.1 in omega arith in
    let gives : GivesAt F t spec params at c.in_ok-cells.field-0 = search rules in
    let w = c.place_from-at-in-loop-at.ensures in
    record {
      past = let a = c.loop-at.invariant.past in let b = w.past in omega arith;
      same = c.loop-at.invariant.same ∙ skipped_here F t spec params at lt (subst (λ (o : Option Row). GivesAt F t spec params at o) c.in_default.is gives) ∙ w.same;
      on = w.on;
    }

pub returns-in-Some-clause-on : goal.returns-in-Some-clause-on
returns-in-Some-clause-on g c = c.loop-at.invariant.on (let a = c.loop-at-test.true in let b = c.requires.3.1 in omega arith)

pub place_from-at-requires-in-loop-at-clause-stands : goal.place_from-at-requires-in-loop-at-clause-stands
place_from-at-requires-in-loop-at-clause-stands g c = c.loop-at.invariant.on (let a = c.loop-at-test.true in let b = c.requires.3.1 in omega arith)

pub row_at-requires-clause-stands : goal.row_at-requires-clause-stands
row_at-requires-clause-stands g c = c.loop-at.invariant.on (let a = c.loop-at-test.true in let b = c.requires.3.1 in omega arith)

pub overflow_add-at : goal.overflow_add-at
overflow_add-at g c =
    let bound = c.end_of-end.type_inv in
    let test = c.loop-at-test.true in
    omega arith

pub returns-clause-next : goal.returns-clause-next
returns-clause-next g c =
    let F = g.T.PlacedTable.form in
    let t = c.args.table.now in
    let spec = spec_of c.args.scan.now.spec in
    let params = map datum c.args.scan.now.params.items in
    let past : c.args.scan.now.end ≤ c.loop-at.at = let no = c.loop-at-test.false in omega arith in
    ap (map (given_row spec)) c.loop-at.invariant.same ∙ past_end F t spec params c.args.scan.now.end c.loop-at.at past c.requires.3.0
