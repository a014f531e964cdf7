use Rattle.std.proofs.Common.{◌≡◌, ◌<◌, ◌∙◌, length, true, false, arith, rules}
use Rattle.med_value.specs.Datum.{tuple}
use Rattle.wrapper_parts.specs.Scans.{takes}
use Rattle.list_wrapper.specs.Scans.{spec_is, params_of}
use Rattle.list_wrapper.proofs.Numbered.{within}
use Rattle.list_wrapper.proofs.Rows.{given_here, skipped_here, none_left}
use Rattle.list_wrapper.proofs.scans.next_in_turn.Goals as goal

pub returns-then-takes-clause-next : goal.returns-then-takes-clause-next
returns-then-takes-clause-next c =
    let rows = c.args.rows.now.items in
    let at = c.loop-at.at in
    let spec = spec_is c.args.scan.now in
    let params = params_of c.args.scan.now in
    let row = c.at-next.result.now in
    let lt : at < length rows = search rules in
    let taken : takes spec params (tuple row) ≡ true = search rules in
    let past = c.loop-at.invariant.past in
    let shown = c.in_ok-cells.ensures in (
      omega arith,
      search rules,
      given_here spec params rows c.args.scan.now.at at row _ lt c.at-next.ensures c.loop-at.invariant.same taken shown,
    )

pub returns-then-takes-clause-on : goal.returns-then-takes-clause-on
returns-then-takes-clause-on c = c.loop-at.invariant.on (within c.args.rows.now.items c.loop-at.at (let n = c.len.ensures in let t = c.loop-at-test.true in omega arith))

pub place_from-at-requires-in-loop-at-clause-stands : goal.place_from-at-requires-in-loop-at-clause-stands
place_from-at-requires-in-loop-at-clause-stands c = c.loop-at.invariant.on (within c.args.rows.now.items c.loop-at.at (let n = c.len.ensures in let t = c.loop-at-test.true in omega arith))

pub loop-at-preserved : goal.loop-at-preserved
loop-at-preserved c =
    let rows = c.args.rows.now.items in
    let at = c.loop-at.at in
    let spec = spec_is c.args.scan.now in
    let params = params_of c.args.scan.now in
    let row = c.at-next.result.now in
    let lt : at < length rows = search rules in
    let misses : takes spec params (tuple row) ≡ false = search rules in
    let w = c.place_from-at-in-loop-at.ensures in
    record {
      past = let a = c.loop-at.invariant.past in let b = w.past in omega arith;
      same = c.loop-at.invariant.same ∙ skipped_here spec params rows at row lt c.at-next.ensures misses ∙ w.same;
      on = w.on;
    }

pub returns-clause-next : goal.returns-clause-next
returns-clause-next c =
    none_left (spec_is c.args.scan.now) (params_of c.args.scan.now) c.args.rows.now.items c.args.scan.now.at c.loop-at.at (let n = c.len.ensures in let t = c.loop-at-test.false in omega arith) c.loop-at.invariant.same
