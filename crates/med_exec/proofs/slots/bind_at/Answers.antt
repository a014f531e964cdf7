use Rattle.std.proofs.Common.{map}
use Rattle.fdw_api.specs.Prelude.{Binds, RefusesBind, column_of, option_form}
use Rattle.med_exec.proofs.SlotLemmas.{read_at, ok_changes, err_changes}
use Rattle.med_exec.proofs.slots.bind_at.Goals as goal

pub returns-clause-ok : goal.returns-clause-ok
returns-clause-ok g c =
    let m = g.W.Wrapper.meaning in
    let xs = c.args.slots.now.items in
    let i = c.args.slot in
    let at = read_at m _ xs i _ _ c.requires c.index_mut.ensures.value c.in-Some.is in
    ok_changes m (λ t old new. Binds old c.args.remote.now (map column_of c.args.columns.now) (map option_form c.args.options.now) t.number new) xs i c.in-Some.b c.bind.new.self c.bind.result at c.bind.ensures.ok

pub returns-clause-err : goal.returns-clause-err
returns-clause-err g c =
    let m = g.W.Wrapper.meaning in
    let xs = c.args.slots.now.items in
    let i = c.args.slot in
    let at = read_at m _ xs i _ _ c.requires c.index_mut.ensures.value c.in-Some.is in
    err_changes m (λ fault old new. RefusesBind old c.args.remote.now (map column_of c.args.columns.now) (map option_form c.args.options.now) fault new) xs i c.in-Some.b c.bind.new.self c.bind.result at c.bind.ensures.err
