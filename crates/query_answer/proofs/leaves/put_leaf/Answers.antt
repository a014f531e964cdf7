use Rattle.std.proofs.Common.{◌≡◌, ◌+◌, ◌*◌, ◌++◌, ap, ◌∙◌, length, arith}
use Rattle.med_value.specs.Datum.{cell}
use Rattle.query_answer.specs.Leaves.{leaf_values}
use Rattle.query_answer.proofs.Lifting.{given_at}
use Rattle.query_answer.proofs.leaves.put_leaf.Goals as goal

pub returns-clause-value : goal.returns-clause-value
returns-clause-value c more class =
    let old = c.args.leaves.now.items in
    let new = c.push.new.self.items in
    let e = c.len-at.ensures in
    let n : c.len-at.result ≡ length old = omega (arith, e) in
    let here : 2 * c.len-at.result ≡ 2 * length old + 0 = omega (arith, n) in
    ap (cell (leaf_values (new ++ more) class)) here ∙ given_at old new more c.args.leaf class 0 c.in_ok-push.ensures.items

pub returns-clause-beyond : goal.returns-clause-beyond
returns-clause-beyond c more class =
    let old = c.args.leaves.now.items in
    let new = c.push.new.self.items in
    let e = c.len-at.ensures in
    let n : c.len-at.result ≡ length old = omega (arith, e) in
    let here : 2 * c.len-at.result + 1 ≡ 2 * length old + 1 = omega (arith, n) in
    ap (cell (leaf_values (new ++ more) class)) here ∙ given_at old new more c.args.leaf class 1 c.in_ok-push.ensures.items
