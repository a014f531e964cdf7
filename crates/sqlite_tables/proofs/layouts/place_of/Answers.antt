use Rattle.std.proofs.Common.{◌≡◌, ◌<◌, ◌≤◌, true, length, slice_index_or, sym, rules}
use Rattle.sqlite_tables.proofs.Places.{has_name, found_here, not_found}
use Rattle.sqlite_tables.proofs.layouts.place_of.Goals as goal

pub returns-then-eq : goal.returns-then-eq
returns-then-eq c =
    let l = c.index-shapes-place.result in
    let lt : c.loop-place.place < length c.args.shapes.now = search rules in
    let is : l ≡ slice_index_or c.args.shapes.now c.loop-place.place l = search rules in
    let here : has_name c.args.name.now l ≡ true = search rules in
    sym (found_here c.args.shapes.now c.args.name.now c.loop-place.place l lt c.loop-place.invariant is here)

pub returns : goal.returns
returns c =
    let over : length c.args.shapes.now ≤ c.loop-place.place = search rules in
    sym (not_found c.args.shapes.now c.args.name.now c.loop-place.place over c.loop-place.invariant)
