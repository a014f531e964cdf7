use Rattle.std.proofs.Common.{◌≡◌, ◌<◌, ◌∙◌, Some, None, map, option_map, length, slice_set, ap, sym, subst, true, rules}
use Rattle.std.specs.Option.{option_flatten}
use Rattle.std.proofs.lemmas.Option.{slice_get_within, same_Some}
use Rattle.blob_store.specs.Names.{is_blob_name}
use Rattle.blob_store.specs.Shelves.{Shelf}
use Rattle.place_wrapper.specs.Holdings.{held_under}
use Rattle.fdw_api.specs.Kinds.{column_of, option_form}
use Rattle.wrapper_parts.specs.Staged.{write_is}
use Rattle.place_wrapper.specs.Boxes.{table_at}
use Rattle.place_wrapper.proofs.Binding.{put_there, put_others, same_tables_fitting, stay_fitting, unscanned_free, write_same, write_stays, set_named, set_apart, set_kept}
use Rattle.place_wrapper.proofs.Closing.{place_binds, read_kept}
use Rattle.place_wrapper.proofs.wrapper.PlaceWrapperWrapper.bind.Goals as goal

pub invariant_of-self-in_default : goal.invariant_of-self-in_default
invariant_of-self-in_default g c =
    let s = c.args.self.now in
    let F = g.T.PlacedTable.form in
    let shelf = g.B.Blobs.meaning s.blobs in
    let after = g.B.Blobs.meaning c.read.new.self in
    let old = s.tables.items in
    let made = c.make_place.new.tables.items in
    let same = c.make_place.ensures.same in
    let r = rw (c.in-Ok-Some.field-0-is, c.in-Ok-Some.content-is) at c.in-Ok-Some.ensures.ok in
    record {
      fitting = same_tables_fitting F old made s.scans.items same s.fitting;
      typed_write = write_same F old made (option_map write_is s.staged) same s.typed_write;
      rising = s.rising;
      fresh = s.fresh;
      named = λ t x e. s.named t x (sym (same t) ∙ e);
      apart = λ t u x y a b e. s.apart t u x y (sym (same t) ∙ a) (sym (same u) ∙ b) e;
      kept = λ t x e is known. s.kept t x e (sym (same t) ∙ is) (ap (λ (z : Shelf). held_under z (F.bound x).remote) (sym r.same) ∙ known);
    }

pub index_mut-requires : goal.index_mut-requires
index_mut-requires g c = let lt = slice_get_within c.make_place.new.tables.items c.in-Ok-make_place.at None c.in-Ok-make_place.ensures.ok in search rules

pub invariant_of-self-2 : goal.invariant_of-self-2
invariant_of-self-2 g c =
    let s = c.args.self.now in
    let F = g.T.PlacedTable.form in
    let shelf = g.B.Blobs.meaning s.blobs in
    let after = g.B.Blobs.meaning c.read.new.self in
    let old = s.tables.items in
    let made = c.make_place.new.tables.items in
    let same = c.make_place.ensures.same in
    let r = rw (c.in-Ok-Some.field-0-is, c.in-Ok-Some.content-is) at c.in-Ok-Some.ensures.ok in
    let at = c.in-Ok-make_place.at in
    let x = c.in-Ok.table in
    let lt : at < length made = slice_get_within made at None c.in-Ok-make_place.ensures.ok in
    let new = slice_set made at (Some x) in
    let there = put_there made at (Some x) lt in
    let free : table_at old at ≡ None = sym (same at) ∙ ap option_flatten c.in-Ok-make_place.ensures.ok in
    let named : is_blob_name c.args.remote.now ≡ true = search rules in
    let columns = map column_of c.args.columns.now in
    let settings = map option_form c.args.options.now in
    let content = c.in-Ok-Some.content.items in
    let reads = c.in-Ok.ensures.ok in
    record {
      fitting = stay_fitting F old new s.scans.items at (λ q ne. put_others made at (Some x) q ne ∙ same q) (unscanned_free F old s.scans.items at s.fitting free) s.fitting;
      typed_write = write_stays F old new at (option_map write_is s.staged) (λ q ne. put_others made at (Some x) q ne ∙ same q) free s.typed_write;
      rising = s.rising;
      fresh = s.fresh;
      named = set_named F old new at (Some x) there (λ q ne. put_others made at (Some x) q ne ∙ same q)
          (λ y e. subst (λ (z : g.row.T.Denot). is_blob_name (F.bound z).remote ≡ true) (same_Some x y e) (ap is_blob_name reads.remote_is ∙ named)) s.named;
      apart = set_apart F old new at (Some x) there (λ q ne. put_others made at (Some x) q ne ∙ same q)
          (λ y e t z ne is q. c.requires.free t (F.bound z) (ap (option_map F.bound) is) (q ∙ ap (λ (v : g.row.T.Denot). (F.bound v).remote) (sym (same_Some x y e)) ∙ reads.remote_is)) s.apart;
      kept = set_kept F shelf after old new at (Some x) there (λ q ne. put_others made at (Some x) q ne ∙ same q)
          (λ y e is known. read_kept F shelf after c.args.remote.now columns settings content x y e r.same named r.finds reads is known)
          (λ t y ne is. ap (λ (z : Shelf). held_under z (F.bound y).remote) r.same) s.kept;
    }

pub returns-clause-ok : goal.returns-clause-ok
returns-clause-ok g c =
    let s = c.args.self.now in
    let F = g.T.PlacedTable.form in
    let shelf = g.B.Blobs.meaning s.blobs in
    let after = g.B.Blobs.meaning c.read.new.self in
    let old = s.tables.items in
    let made = c.make_place.new.tables.items in
    let same = c.make_place.ensures.same in
    let r = rw (c.in-Ok-Some.field-0-is, c.in-Ok-Some.content-is) at c.in-Ok-Some.ensures.ok in
    let at = c.in-Ok-make_place.at in
    let x = c.in-Ok.table in
    let lt : at < length made = slice_get_within made at None c.in-Ok-make_place.ensures.ok in
    let new = slice_set made at (Some x) in
    let there = put_there made at (Some x) lt in
    let free : table_at old at ≡ None = sym (same at) ∙ ap option_flatten c.in-Ok-make_place.ensures.ok in
    let named : is_blob_name c.args.remote.now ≡ true = search rules in
    let columns = map column_of c.args.columns.now in
    let settings = map option_form c.args.options.now in
    let content = c.in-Ok-Some.content.items in
    let reads = c.in-Ok.ensures.ok in
    place_binds F shelf after old new s.scans.items s.staged s.next s.pulled at c.args.remote.now columns settings content x r.same named r.finds free there (λ q ne. put_others made at (Some x) q ne ∙ same q) s.fitting reads
