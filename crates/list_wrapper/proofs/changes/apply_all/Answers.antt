use Rattle.std.proofs.Common.{◌≡◌, ◌∙◌, ◌+◌, ◌-◌, length, map, refl, arith, rules}
use Rattle.fdw_api.specs.Writes.{rows_after}
use Rattle.list_wrapper.specs.Lists.{no_line}
use Rattle.list_wrapper.specs.Scans.{numbered}
use Rattle.list_wrapper.specs.Changes.{change_is, as_held, fresh_rows}
use Rattle.list_wrapper.proofs.Kept.{fresh_count, all_applied, counted, same_length}
use Rattle.list_wrapper.proofs.RisingLists.{applied_rises}
use Rattle.list_wrapper.proofs.changes.apply_all.Goals as goal

pub returns-then-saturating_add-gt-ROW_LIMIT-clause-err :
    goal.returns-then-saturating_add-gt-ROW_LIMIT-clause-err
returns-then-saturating_add-gt-ROW_LIMIT-clause-err c =
    let rows = c.args.rows.now.items in
    let cs = c.args.changes.items in
    let n : c.len.result ≡ length rows = search rules in
    let n2 : c.len-2.result ≡ length rows = search rules in
    let l : length (rows_after no_line (numbered 0 rows) (map change_is cs)) ≡ (length rows - c.count_gone.result) + c.count_fresh-fresh.result =
    counted rows c.in_ok-gone.gone.items c.deref-3.result.now cs c.deref.result.now c.deref-2.result.now c.count_gone.result c.count_fresh-fresh.result (search rules) (search rules) (search rules) (search rules) (λ i lt. c.in_ok-gone.ensures.each i (omega arith)) c.count_gone.ensures c.count_fresh-fresh.ensures in
    (refl, omega arith)

pub write_rows-requires : goal.write_rows-requires
write_rows-requires c =
    let same : c.deref-2.result.now ≡ c.args.changes.items = search rules in
    let f = fresh_count c.deref-2.result.now in
    let g : length (fresh_rows c.args.changes.items) ≡ length (fresh_rows c.deref-2.result.now) = rw same refl in
    let h = c.count_fresh-fresh.ensures in
    let r = c.in_ok-reserve.ensures.ok in
    omega arith

pub returns-clause-ok : goal.returns-clause-ok
returns-clause-ok c =
    let n : c.len.result ≡ length c.args.rows.now.items = search rules in
    all_applied c.args.rows.now.items c.reserve.new.self.items c.write_rows.new.rows.items c.settle.new.self.items c.in_ok-gone.gone.items c.deref-5.result.now c.args.changes.items c.deref.result.now (search rules) (search rules) (search rules) (search rules) (λ i lt. c.in_ok-gone.ensures.each i (omega arith)) c.write_rows.ensures.changed c.write_rows.ensures.fresh c.write_rows.ensures.longer (c.settle.ensures ∙ c.take_out.ensures)

pub returns-clause-few : goal.returns-clause-few
returns-clause-few c =
    let rows = c.args.rows.now.items in
    let cs = c.args.changes.items in
    let n : c.len.result ≡ length rows = search rules in
    let n2 : c.len-2.result ≡ length rows = search rules in
    let w : map as_held c.settle.new.self.items ≡ rows_after no_line (numbered 0 rows) (map change_is cs) =
    all_applied rows c.reserve.new.self.items c.write_rows.new.rows.items c.settle.new.self.items c.in_ok-gone.gone.items c.deref-5.result.now cs c.deref.result.now (search rules) (search rules) (search rules) (search rules) (λ i lt. c.in_ok-gone.ensures.each i (omega arith)) c.write_rows.ensures.changed c.write_rows.ensures.fresh c.write_rows.ensures.longer (c.settle.ensures ∙ c.take_out.ensures) in
    let l : length (rows_after no_line (numbered 0 rows) (map change_is cs)) ≡ (length rows - c.count_gone.result) + c.count_fresh-fresh.result =
    counted rows c.in_ok-gone.gone.items c.deref-3.result.now cs c.deref.result.now c.deref-2.result.now c.count_gone.result c.count_fresh-fresh.result (search rules) (search rules) (search rules) (search rules) (λ i lt. c.in_ok-gone.ensures.each i (omega arith)) c.count_gone.ensures c.count_fresh-fresh.ensures in
    let s = same_length c.settle.new.self.items (rows_after no_line (numbered 0 rows) (map change_is cs)) w in
    omega arith

pub returns-clause-rises : goal.returns-clause-rises
returns-clause-rises c = λ before. c.rises_after.ensures (λ told.
    applied_rises c.args.rows.now.items c.reserve.new.self.items c.reserve.new.self.items c.write_rows.new.rows.items c.settle.new.self.items c.deref-5.result.now
    c.args.changes.items c.deref-4.result.now c.args.rises.now c.stays_rising-told.result (search rules) (search rules) (search rules)
    c.write_rows.ensures.changed c.write_rows.ensures.fresh c.write_rows.ensures.longer (c.settle.ensures ∙ c.take_out.ensures) c.stays_rising-told.ensures before told)
