use Rattle.std.proofs.Common.{◌<◌, ◌∙◌, ◌+◌, Option, ap, subst, map, arith, length, rules}
use Rattle.med_value.specs.Datum.{datum}
use Rattle.med_value.specs.declared.value.Row.{Row}
use Rattle.fdw_api.specs.Scan.{spec_of, restriction_form}
use Rattle.place_wrapper.specs.Forms.{GivesAt}
use Rattle.place_wrapper.proofs.Rows.{given_here, skipped_here, stands_plainly}
use Rattle.place_wrapper.proofs.scans.plain_row.Goals as goal

pub returns-in-Some-clause-next : goal.returns-in-Some-clause-next
returns-in-Some-clause-next g c =
    let F = g.T.PlacedTable.form in
    let t = c.args.table.now in
    let spec = spec_of c.args.scan.now.spec in
    let params = map datum c.args.scan.now.params.items in
    let at = c.loop-place.place in
    let lt : at < length (F.rows t) = let a = c.loop-place-test.true in let b = c.count.ensures in omega arith in
    let gives : GivesAt F t spec params at c.in_ok-cells.field-0 = search rules in (
      c.loop-place.invariant.past,
      search rules,
      given_here F t spec params c.args.scan.now.at at c.in-Some.cells lt c.loop-place.invariant.same (subst (λ (o : Option Row). GivesAt F t spec params at o) c.in-Some.is gives),
    )

pub loop-place-preserved : goal.loop-place-preserved
loop-place-preserved g c =
    let F = g.T.PlacedTable.form in
    let t = c.args.table.now in
    let spec = spec_of c.args.scan.now.spec in
    let params = map datum c.args.scan.now.params.items in
    let at = c.loop-place.place in
    let lt : at < length (F.rows t) = let a = c.loop-place-test.true in let b = c.count.ensures in omega arith in
    let gives : GivesAt F t spec params at c.in_ok-cells.field-0 = search rules in
    record {
      past = let a = c.loop-place.invariant.past in omega arith;
      same = c.loop-place.invariant.same ∙ skipped_here F t spec params at lt (subst (λ (o : Option Row). GivesAt F t spec params at o) c.in_default.is gives);
    }

pub returns-in-Some-clause-on : goal.returns-in-Some-clause-on
returns-in-Some-clause-on g c =
    let F = g.T.PlacedTable.form in
    let s = c.args.scan.now in
    stands_plainly (spec_of s.spec) (map datum s.params.items) (F.rows c.args.table.now) (c.loop-place.place + 1) s.index
    (ap (map restriction_form) c.requires.plain) c.requires.serves
