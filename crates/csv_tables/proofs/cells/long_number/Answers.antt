use Rattle.std.proofs.Common.{◌≡◌, ◌*◌, ◌<◌, ◌∷◌, arith, rules, sym, subst, List, ℕ}
use Rattle.csv_tables.proofs.Integers.{GoesOn, too_great}
use Rattle.csv_tables.proofs.cells.long_number.Goals as goal

pub returns-then-number-most : goal.returns-then-number-most
returns-then-number-most c =
    let lt : c.args.most < c.loop-first.number * 10 = omega arith in
    let e : c.loop-first.text.now ≡ c.in-Some.first.now ∷ c.in-Some.others.now = search rules in
    sym (too_great c.args.most c.loop-first.number c.in-Some.first.now c.in-Some.others.now c.args.text.now
    (subst (λ (l : List ℕ). GoesOn c.loop-first.number l c.args.text.now) e c.loop-first.invariant) lt)
