use Rattle.std.proofs.Common.{◌≡◌, ◌-◌, ◌≤◌, ◌<◌, ◌∷◌, ◌^◌, true, length, refl, arith, rules}
use Rattle.std.specs.Char.{is_ascii_digit}
use Rattle.csv_tables.proofs.Integers.{first_room, has_room, one_digit_more}
use Rattle.csv_tables.proofs.cells.short_number.Goals as goal

pub loop-first-init : goal.loop-first-init
loop-first-init c = (record { digits = refl; value = refl }, first_room (length c.args.text.now) c.requires)

pub overflow_mul-value : goal.overflow_mul-value
overflow_mul-value c =
    let lt : c.loop-first.value < 10 ^ 18 = has_room c.loop-first.value (length c.loop-first.text.now) c.loop-first.invariant.1 in
    omega arith

pub overflow_add-value : goal.overflow_add-value
overflow_add-value c =
    let lt : c.loop-first.value < 10 ^ 18 = has_room c.loop-first.value (length c.loop-first.text.now) c.loop-first.invariant.1 in
    let d : c.from.result ≡ c.in-Some.first.now - 48 = search rules in
    let high : c.in-Some.first.now ≤ 57 = search rules in
    omega arith

pub loop-first-preserved : goal.loop-first-preserved
loop-first-preserved c =
    let e : c.loop-first.text.now ≡ c.in-Some.first.now ∷ c.in-Some.others.now = search rules in
    let d : c.from.result ≡ c.in-Some.first.now - 48 = search rules in
    let is : is_ascii_digit c.in-Some.first.now ≡ true = search rules in
    let low : 48 ≤ c.in-Some.first.now = search rules in
    let high : c.in-Some.first.now ≤ 57 = search rules in
    one_digit_more c.loop-first.value c.in-Some.first.now c.from.result c.in-Some.others.now c.loop-first.text.now c.args.text.now e d is low high c.loop-first.invariant
