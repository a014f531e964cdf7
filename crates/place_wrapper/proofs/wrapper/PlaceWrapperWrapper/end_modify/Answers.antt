use Rattle.std.proofs.Common.{◌≡◌, ◌∙◌, Some, map, option_map, slice_set, ap, sym, true, rules}
use Rattle.std.proofs.lemmas.Option.{same_Some}
use Rattle.blob_store.specs.Names.{is_blob_name}
use Rattle.fdw_api.specs.State.{BoxTable}
use Rattle.wrapper_parts.specs.Staged.{change_is, write_is}
use Rattle.place_wrapper.specs.Boxes.{table_at}
use Rattle.place_wrapper.specs.Writes.{WritesOrNot}
use Rattle.place_wrapper.proofs.Binding.{put_there, stay_fitting, unscanned_by, write_none, set_named, set_apart, set_kept}
use Rattle.place_wrapper.proofs.Closing.{staged_scans, write_ends, stays_bound, stays_kept, stays_others, taken_within, put_back}
use Rattle.place_wrapper.proofs.wrapper.PlaceWrapperWrapper.end_modify.Goals as goal

pub index_mut-requires : goal.index_mut-requires
index_mut-requires g c =
    let s = c.args.self.now in
    let w = c.in-Some.staged in
    let x = c.in-Some-take_table.table in
    let was : table_at s.tables.items w.table ≡ Some x = sym c.in-Some-take_table.ensures.taken in
    let lt = taken_within s.tables.items c.take_table.new.tables.items w.table x was c.in-Some-take_table.ensures.room in
    search rules

pub invariant_of-self-2 : goal.invariant_of-self-2
invariant_of-self-2 g c =
    let s = c.args.self.now in
    let F = g.T.PlacedTable.form in
    let shelf = g.B.Blobs.meaning s.blobs in
    let w = c.in-Some.staged in
    let x = c.in-Some-take_table.table in
    let es : s.staged ≡ Some w = search rules in
    let k : c.args.keep ≡ true = search rules in
    let was : table_at s.tables.items w.table ≡ Some x = sym c.in-Some-take_table.ensures.taken in
    let after = g.B.Blobs.meaning c.write-table.new.blobs in
    let y = c.write-table.result.0 in
    let r = c.write-table.result.1 in
    let changes = map change_is w.changes.items in
    let taken = c.take_table.new.tables.items in
    let lt = taken_within s.tables.items taken w.table x was c.in-Some-take_table.ensures.room in
    let new = slice_set taken w.table (Some y) in
    let there = put_there taken w.table (Some y) lt in
    let others = put_back s.tables.items taken w.table (Some y) c.in-Some-take_table.ensures.others in
    let named = s.named w.table x was in
    let made : WritesOrNot F x changes y shelf after r = c.write-table.ensures in
    let bound = stays_bound F shelf after x y changes r made in
    record {
      fitting = stay_fitting F s.tables.items new s.scans.items w.table others
          (unscanned_by F shelf s.tables.items s.scans.items s.staged s.next s.pulled w.table (staged_scans F shelf s.tables.items s.scans.items w s.staged c.args.keep s.next s.pulled es k c.requires)) s.fitting;
      typed_write = write_none F _ _ (ap (option_map write_is) c.take.ensures.after);
      rising = s.rising;
      fresh = s.fresh;
      named = set_named F s.tables.items new w.table (Some y) there others
          (λ z e. ap (λ (v : g.row.T.Denot). is_blob_name (F.bound v).remote) (sym (same_Some y z e)) ∙ ap (λ (b : BoxTable). is_blob_name b.remote) bound ∙ named) s.named;
      apart = set_apart F s.tables.items new w.table (Some y) there others
          (λ z e t v ne is q. ne (s.apart t w.table v x is was (q ∙ ap (λ (u : g.row.T.Denot). (F.bound u).remote) (sym (same_Some y z e)) ∙ ap (λ (b : BoxTable). b.remote) bound))) s.apart;
      kept = set_kept F shelf after s.tables.items new w.table (Some y) there others
          (λ z e is known. stays_kept F shelf after x y changes r z e made named (λ d known. s.kept w.table x d was known) is known)
          (λ t z ne is. stays_others F shelf after x y changes r s.tables.items w.table t z made s.apart was ne is) s.kept;
    }

pub returns-clause-ok : goal.returns-clause-ok
returns-clause-ok g c =
    let s = c.args.self.now in
    let F = g.T.PlacedTable.form in
    let shelf = g.B.Blobs.meaning s.blobs in
    let w = c.in-Some.staged in
    let x = c.in-Some-take_table.table in
    let es : s.staged ≡ Some w = search rules in
    let k : c.args.keep ≡ true = search rules in
    let was : table_at s.tables.items w.table ≡ Some x = sym c.in-Some-take_table.ensures.taken in
    let after = g.B.Blobs.meaning c.write-table.new.blobs in
    let y = c.write-table.result.0 in
    let taken = c.take_table.new.tables.items in
    let lt = taken_within s.tables.items taken w.table x was c.in-Some-take_table.ensures.room in
    let there = put_there taken w.table (Some y) lt in
    let others = put_back s.tables.items taken w.table (Some y) c.in-Some-take_table.ensures.others in
    (write_ends F shelf after s.tables.items (slice_set taken w.table (Some y)) s.scans.items w s.staged c.take.new.self c.args.keep s.next s.pulled x y c.write-table.result.1
    es c.take.ensures.after k c.requires was there others (s.named w.table x was) s.kept c.write-table.ensures).0

pub returns-clause-err : goal.returns-clause-err
returns-clause-err g c =
    let s = c.args.self.now in
    let F = g.T.PlacedTable.form in
    let shelf = g.B.Blobs.meaning s.blobs in
    let w = c.in-Some.staged in
    let x = c.in-Some-take_table.table in
    let es : s.staged ≡ Some w = search rules in
    let k : c.args.keep ≡ true = search rules in
    let was : table_at s.tables.items w.table ≡ Some x = sym c.in-Some-take_table.ensures.taken in
    let after = g.B.Blobs.meaning c.write-table.new.blobs in
    let y = c.write-table.result.0 in
    let taken = c.take_table.new.tables.items in
    let lt = taken_within s.tables.items taken w.table x was c.in-Some-take_table.ensures.room in
    let there = put_there taken w.table (Some y) lt in
    let others = put_back s.tables.items taken w.table (Some y) c.in-Some-take_table.ensures.others in
    (write_ends F shelf after s.tables.items (slice_set taken w.table (Some y)) s.scans.items w s.staged c.take.new.self c.args.keep s.next s.pulled x y c.write-table.result.1
    es c.take.ensures.after k c.requires was there others (s.named w.table x was) s.kept c.write-table.ensures).1
