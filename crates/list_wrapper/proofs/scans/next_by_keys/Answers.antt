use Rattle.std.proofs.Common.{◌<◌, ◌∙◌, length, get_or, arith, rules, ◌≤◌}
use Rattle.list_wrapper.specs.Scans.{spec_is}
use Rattle.list_wrapper.proofs.Walks.{place_here, place_past, no_place, same_place}
use Rattle.list_wrapper.proofs.scans.next_by_keys.Goals as goal

pub returns : goal.returns
returns c = no_place (spec_is c.args.scan.now) c.args.places.now c.args.rows.now.items c.args.scan.now.at c.loop-at.at c.loop-at-test.false c.loop-at.invariant.same

pub returns-then-place-len : goal.returns-then-place-len
returns-then-place-len c =
    let places = c.args.places.now in
    let rows = c.args.rows.now.items in
    let at = c.loop-at.at in
    let spec = spec_is c.args.scan.now in
    let place = get_or places at 0 in
    let row = c.at.result.now in
    let lt : at < length places = c.loop-at-test.true in
    let many = c.len.ensures in
    let test = c.if-place-len.true in
    let within : place < length rows = omega arith in
    let past = c.loop-at.invariant.past in
    let shown = c.in_ok-cells.ensures in (
      omega arith,
      search rules,
      place_here spec places rows c.args.scan.now.at at place row _ lt (same_place places at lt) within c.at.ensures c.loop-at.invariant.same shown,
    )

pub loop-at-preserved : goal.loop-at-preserved
loop-at-preserved c =
    let places = c.args.places.now in
    let rows = c.args.rows.now.items in
    let at = c.loop-at.at in
    let place = get_or places at 0 in
    let past = c.loop-at.invariant.past in
    let many = c.len.ensures in
    let test = c.if-place-len.false in
    let beyond : length rows ≤ place = omega arith in
    record {
      past = omega arith;
      same = c.loop-at.invariant.same ∙ place_past places rows at place c.loop-at-test.true (same_place places at c.loop-at-test.true) beyond;
    }
