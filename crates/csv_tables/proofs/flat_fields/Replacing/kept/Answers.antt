use Rattle.std.proofs.Common.{◌≡◌, ◌+◌, ◌++◌, ap, length, arith}
use Rattle.std.proofs.lemmas.List.{drop_at, length-append}
use Rattle.wrapper_parts.specs.Splices.{front_of, middle_of, back_of}
use Rattle.csv_tables.proofs.flat_fields.Replacing.kept.Goals as goal

pub move_behind-requires-clause-can_move : goal.move_behind-requires-clause-can_move
move_behind-requires-clause-can_move c =
    let e = c.self.inside.ends in
    let a = length-append (front_of e) (middle_of e) in
    let f = ap length c.front.ensures in
    let m = ap length c.middle.ensures in
    let count : length (front_of e ++ middle_of e) ≡ length c.front.result.now + length c.middle.result.now = omega arith in
    rw (c.kept-places.ensures, drop_at (front_of e ++ middle_of e) (back_of e) _ count) c.self.invariant.can_move
