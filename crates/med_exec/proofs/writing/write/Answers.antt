use Rattle.std.proofs.Common.{map}
use Rattle.med_value.specs.Datum.{tuple}
use Rattle.med_exec.proofs.SlotLemmas.{read_at, held_at, not_dropped, ok_changes, err_changes}
use Rattle.med_write.specs.Form.{form_of}
use Rattle.med_exec.specs.Writing.{Writes, RefusesWrite}
use Rattle.med_exec.proofs.writing.write.Goals as goal

pub write_box-requires : goal.write_box-requires
write_box-requires g c = held_at g.W.Wrapper.meaning _ c.args.slots.now.items c.args.slot _ _ c.requires c.index_mut.ensures.value c.in-Some.is

pub unreachable-requires : goal.unreachable-requires
unreachable-requires g c = not_dropped g.W.Wrapper.meaning _ c.args.slots.now.items c.args.slot _ c.requires c.index_mut.ensures.value c.in-None.is

pub returns-clause-ok : goal.returns-clause-ok
returns-clause-ok g c =
    let m = g.W.Wrapper.meaning in
    let xs = c.args.slots.now.items in
    let i = c.args.slot in
    let at = read_at m _ xs i _ _ c.requires c.index_mut.ensures.value c.in-Some.is in
    ok_changes m (λ count old new. Writes c.args.write.now.columns.items (form_of c.args.write.now.rows) (map tuple c.args.answer.now) old c.args.table.number count new) xs i c.in-Some.b c.write_box.new.b c.write_box.result at c.write_box.ensures.ok

pub returns-clause-err : goal.returns-clause-err
returns-clause-err g c =
    let m = g.W.Wrapper.meaning in
    let xs = c.args.slots.now.items in
    let i = c.args.slot in
    let at = read_at m _ xs i _ _ c.requires c.index_mut.ensures.value c.in-Some.is in
    err_changes m (λ fault old new. RefusesWrite c.args.write.now.columns.items (form_of c.args.write.now.rows) (map tuple c.args.answer.now) old c.args.table.number fault new) xs i c.in-Some.b c.write_box.new.b c.write_box.result at c.write_box.ensures.err
