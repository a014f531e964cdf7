use Rattle.std.proofs.Common.{◌≡◌, ◌∙◌, ap, refl, Some, None, true, length, map, rules}
use Rattle.std.proofs.lemmas.Option.{slice_get_within, slice_get_read}
use Rattle.fdw_api.specs.Writes.{rows_after}
use Rattle.list_wrapper.specs.declared.held_tables.Table.{Table}
use Rattle.list_wrapper.specs.Lists.{no_line, rows_fit}
use Rattle.list_wrapper.specs.Changes.{as_held, change_is, StandsFor}
use Rattle.list_wrapper.specs.Scans.{numbered}
use Rattle.list_wrapper.proofs.Closing.{kept_closes, stay_fitting, list_refuses, names_stay, same_listed, staged_there, staged_scans, written_fits, either_way, where_ok, where_err}
use Rattle.list_wrapper.proofs.RisingLists.{marked_rise, rises_set}
use Rattle.list_wrapper.proofs.list.ListWrapperWrapper.end_modify.Goals as goal

pub returns-clause-ok : goal.returns-clause-ok
returns-clause-ok c =
    let s = c.args.self.now in
    let st = c.in-Some.staged in
    let es : s.staged ≡ Some st = search rules in
    let ea : c.take.new.self ≡ None = search rules in
    let k : c.args.keep ≡ true = search rules in
    let w = staged_there s.tables.items s.bound.items s.scans st s.staged c.args.keep s.next s.pulled es c.requires in
    let b = slice_get_within s.tables.items st.table w.1 w.2 in
    let x = c.index_mut.result.now in
    let dx = slice_get_read s.tables.items (length s.tables.items) st.table x refl b c.index_mut.ensures.value in
    where_ok _ _ _ c.apply.result c.apply.ensures.ok c.apply.ensures.few
    (λ rows few u. kept_closes s.tables.items s.bound.items s.scans st s.staged c.take.new.self c.args.keep s.next s.pulled x record { name = x.name; kinds = x.kinds; rows = c.apply.new.rows } es ea k w.0 dx s.distinct refl refl rows few (staged_scans s.tables.items s.bound.items s.scans st s.staged c.args.keep s.next s.pulled es k c.requires))

pub returns-clause-err : goal.returns-clause-err
returns-clause-err c =
    let s = c.args.self.now in
    let st = c.in-Some.staged in
    let es : s.staged ≡ Some st = search rules in
    let ea : c.take.new.self ≡ None = search rules in
    let k : c.args.keep ≡ true = search rules in
    let w = staged_there s.tables.items s.bound.items s.scans st s.staged c.args.keep s.next s.pulled es c.requires in
    let b = slice_get_within s.tables.items st.table w.1 w.2 in
    let x = c.index_mut.result.now in
    let dx = slice_get_read s.tables.items (length s.tables.items) st.table x refl b c.index_mut.ensures.value in
    where_err _ (λ fault. StandsFor fault (rows_after no_line (numbered 0 x.rows.items) (map change_is st.changes.items))) _ c.apply.result c.apply.ensures.same c.apply.ensures.err
    (λ fault same why. list_refuses s.tables.items s.bound.items s.scans st s.staged c.take.new.self c.args.keep s.next s.pulled x record { name = x.name; kinds = x.kinds; rows = c.apply.new.rows } fault es ea k dx refl refl same why)

pub invariant_of-self-2 : goal.invariant_of-self-2
invariant_of-self-2 c =
    let s = c.args.self.now in
    let st = c.in-Some.staged in
    let es : s.staged ≡ Some st = search rules in
    let w = staged_there s.tables.items s.bound.items s.scans st s.staged c.args.keep s.next s.pulled es c.requires in
    let b = slice_get_within s.tables.items st.table w.1 w.2 in
    let x = c.index_mut.result.now in
    let y : Table = record { name = x.name; kinds = x.kinds; rows = c.apply.new.rows } in
    let dx = slice_get_read s.tables.items (length s.tables.items) st.table x refl b c.index_mut.ensures.value in
    let m = s.marked in
    record {
      marked = search rules;
      noted = search rules;
      rises = rises_set s.tables.items s.rising.items st.table c.apply.new.rises x y dx
          (c.apply.ensures.rises (λ mark. marked_rise s.tables.items s.rising.items st.table x _ dx s.noted c.index_mut-2.ensures.value mark s.rises)) s.rises;
      distinct = names_stay s.tables.items st.table x y dx refl ∙ s.distinct;
      typed = either_way (map as_held y.rows.items ≡ rows_after no_line (numbered 0 x.rows.items) (map change_is st.changes.items)) (y.rows.items ≡ x.rows.items) _ c.apply.result c.apply.ensures.ok c.apply.ensures.same
          (λ rows. written_fits s.tables.items st s.staged x y c.writes_are_typed.ensures es dx refl s.typed s.typed_write rows)
          (λ same. ap rows_fit (same_listed s.tables.items st.table x y dx refl refl same) ∙ s.typed);
      fitting = stay_fitting s.tables.items st.table _ s.bound.items s.scans (Some st) s.next s.pulled (staged_scans s.tables.items s.bound.items s.scans st s.staged c.args.keep s.next s.pulled es (search rules) c.requires) s.fitting;
      typed_write = search rules;
      fresh = s.fresh;
    }
