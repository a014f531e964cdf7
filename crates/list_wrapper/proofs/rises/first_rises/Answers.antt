use Rattle.std.proofs.Common.{◌≤◌, ◌∙◌, length, ap, sym, w64, arith}
use Rattle.std.proofs.lemmas.Int.{to_z-of_z}
use Rattle.med_value.specs.Datum.{cell, tuple}
use Rattle.med_value.specs.declared.value.Row.{Row}
use Rattle.wrapper_parts.proofs.KeptRise.{up_to_more, up_to_all}
use Rattle.list_wrapper.specs.Scans.{keys_of}
use Rattle.list_wrapper.proofs.RisingLists.{key_read, key_is, keys_length}
use Rattle.list_wrapper.proofs.rises.first_rises.Goals as goal

pub loop-at-preserved : goal.loop-at-preserved
loop-at-preserved c =
    let rows = c.args.rows.now.items in
    let at = c.loop-at.at in
    let key = c.in-Some.key in
    let row = c.at.result.now in
    let found = c.in-Some.ensures in
    let is = key_read at rows row (let n = c.len.ensures in let t = c.loop-at-test.true in omega arith) ∙ ap (λ (r : Row). cell (tuple r) 0) (sym c.at.ensures) in
    rw (to_z-of_z w64 key found.0.fits) (up_to_more (keys_of rows) _ key at c.loop-at.invariant (key_is (cell (tuple row) 0) (cell (keys_of rows) at) key is found.0) found.1)

pub returns : goal.returns
returns c =
    let many = keys_length c.args.rows.now.items in
    let test = c.loop-at-test.false in
    let count = c.len.ensures in
    let all : length (keys_of c.args.rows.now.items) ≤ c.loop-at.at = omega arith in
    λ told. up_to_all (keys_of c.args.rows.now.items) _ c.loop-at.at c.loop-at.invariant all
