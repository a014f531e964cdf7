use Rattle.std.proofs.Common.{refl, rules}
use Rattle.sqlite_writes.proofs.Splits.{first_key, holdable_first, holdable_row}
use Rattle.sqlite_writes.proofs.split.has_key.Goals as goal

pub returns-in-Some-Int-clause-holdable : goal.returns-in-Some-Int-clause-holdable
returns-in-Some-Int-clause-holdable c e =
    let cells = c.args.row.now.cells.items in
    let k = c.in-Some-Int.key in
    holdable_row cells k (first_key cells c.deref.result.now c.in-Some-Int.field-0.now k c.in-Some-Int.ensures.value c.deref.ensures.value
    c.in-Some-Int.field-0-is) (search rules)

pub returns-in-Some-Text-clause-holdable : goal.returns-in-Some-Text-clause-holdable
returns-in-Some-Text-clause-holdable c e =
    holdable_first c.args.row.now.cells.items c.deref.result.now c.in-Some-Text.field-0.now c.in-Some-Text.ensures.value c.deref.ensures.value
    (rw c.in-Some-Text.field-0-is refl)

pub returns-in-Some-Bool-clause-holdable : goal.returns-in-Some-Bool-clause-holdable
returns-in-Some-Bool-clause-holdable c e =
    holdable_first c.args.row.now.cells.items c.deref.result.now c.in-Some-Bool.field-0.now c.in-Some-Bool.ensures.value c.deref.ensures.value
    (rw c.in-Some-Bool.field-0-is refl)
