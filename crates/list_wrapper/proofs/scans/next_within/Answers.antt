use Rattle.std.proofs.Common.{◌≡◌, ◌<◌, ◌∙◌, ap, sym, map, length, true, false, arith, rules}
use Rattle.med_value.specs.Datum.{tuple}
use Rattle.fdw_api.specs.Scan.{given_row}
use Rattle.wrapper_parts.specs.Scans.{takes}
use Rattle.list_wrapper.specs.Scans.{numbered, spec_is, params_of, left_in_turn}
use Rattle.list_wrapper.proofs.Numbered.{length_numbered}
use Rattle.list_wrapper.proofs.Rows.{given_here, skipped_here}
use Rattle.list_wrapper.proofs.RisingLists.{left_from, none_behind}
use Rattle.list_wrapper.proofs.scans.next_within.Goals as goal

pub at-here-requires : goal.at-here-requires
at-here-requires c =
    let many = length_numbered 0 c.args.rows.now.items in
    let within = c.requires.2 in
    let test = c.loop-at-test.true in
    omega arith

pub loop-at-init : goal.loop-at-init
loop-at-init c =
    let s = c.args.scan.now in
    let first = c.args.span.first in
    record {
      past = omega arith;
      same = left_from (spec_is s) (params_of s) (numbered 0 c.args.rows.now.items) first c.args.span.end s.at c.requires ∙ ap (left_in_turn (spec_is s) (params_of s) (numbered 0 c.args.rows.now.items)) (sym c.later_of-at.ensures);
    }

pub returns-then-takes : goal.returns-then-takes
returns-then-takes c =
    let rows = c.args.rows.now.items in
    let at = c.loop-at.at in
    let spec = spec_is c.args.scan.now in
    let params = params_of c.args.scan.now in
    let row = c.at-here.result.now in
    let many = length_numbered 0 rows in
    let within = c.requires.2 in
    let test = c.loop-at-test.true in
    let lt : at < length rows = omega arith in
    let taken : takes spec params (tuple row) ≡ true = search rules in
    let past = c.loop-at.invariant.past in
    let shown = c.in_ok-cells.ensures in (
      omega arith,
      search rules,
      given_here spec params rows c.args.scan.now.at at row _ lt c.at-here.ensures c.loop-at.invariant.same taken shown,
    )

pub loop-at-preserved : goal.loop-at-preserved
loop-at-preserved c =
    let rows = c.args.rows.now.items in
    let at = c.loop-at.at in
    let spec = spec_is c.args.scan.now in
    let params = params_of c.args.scan.now in
    let row = c.at-here.result.now in
    let many = length_numbered 0 rows in
    let within = c.requires.2 in
    let test = c.loop-at-test.true in
    let lt : at < length rows = omega arith in
    let misses : takes spec params (tuple row) ≡ false = search rules in
    record {
      past = let a = c.loop-at.invariant.past in omega arith;
      same = c.loop-at.invariant.same ∙ skipped_here spec params rows at row lt c.at-here.ensures misses;
    }

pub returns : goal.returns
returns c =
    let spec = spec_is c.args.scan.now in
    let test = c.loop-at-test.false in
    ap (map (given_row spec)) (c.loop-at.invariant.same ∙ none_behind spec (params_of c.args.scan.now) (numbered 0 c.args.rows.now.items) c.args.span.first c.args.span.end c.loop-at.at c.requires (omega arith))
