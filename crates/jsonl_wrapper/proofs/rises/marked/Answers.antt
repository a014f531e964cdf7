use Rattle.jsonl_wrapper.proofs.RisingTold.{rise_told}
use Rattle.jsonl_wrapper.proofs.rises.marked.Goals as goal

pub invariant_of-result : goal.invariant_of-result
invariant_of-result c =
    let t = c.args.table in
    record { named = t.named; apart = t.apart; image = t.image; kept = t.kept; risen = λ told. rise_told _ (c.first_rises-rises.ensures told) }
