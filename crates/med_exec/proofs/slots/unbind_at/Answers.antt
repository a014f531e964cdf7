use Rattle.fdw_api.specs.Calls.{Unbinds}
use Rattle.med_exec.proofs.SlotLemmas.{read_at, changes_at}
use Rattle.med_exec.proofs.slots.unbind_at.Goals as goal

pub returns : goal.returns
returns g c =
    let m = g.W.Wrapper.meaning in
    let xs = c.args.slots.now.items in
    let i = c.args.slot in
    let at = read_at m _ xs i _ _ c.requires c.index_mut.ensures.value c.in-Some.is in
    changes_at m (λ old new. Unbinds old c.args.table.number new) xs i c.in-Some.b c.unbind.new.self at c.unbind.ensures
