use Rattle.std.proofs.Common.{◌≡◌, ◌∙◌, sym, ap, refl, subst, true, length, ◌<◌, arith, rules, bytes_eq}
use Rattle.std.proofs.lemmas.Option.{slice_get_within, slice_get_read}
use Rattle.std.specs.String.{string_bytes}
use Rattle.list_wrapper.specs.declared.held_tables.Table.{Table}
use Rattle.list_wrapper.specs.Scans.{entry_at}
use Rattle.list_wrapper.proofs.Tables.{list_binds, list_lacks, list_mismatches, some_inj}
use Rattle.list_wrapper.proofs.list.ListWrapperWrapper.bind.Goals as goal

pub returns-in_default-clause-err : goal.returns-in_default-clause-err
returns-in_default-clause-err c =
    let s = c.args.self.now in
    list_lacks s.tables.items s.bound.items s.scans s.staged s.next s.pulled _ _ _ (c.find.ensures.entry ∙ ap (entry_at s.tables.items) c.in_default.is)

pub returns-then-not-has_types-clause-err : goal.returns-then-not-has_types-clause-err
returns-then-not-has_types-clause-err c =
    let s = c.args.self.now in
    let at = c.in-Some.at in
    let lt : at < length s.tables.items = rw c.in-Some.is at c.find.ensures.within in
    let d = slice_get_read s.tables.items (length s.tables.items) at c.index.result.now refl lt c.index.ensures in
    list_mismatches s.tables.items s.bound.items s.scans s.staged s.next s.pulled at _ _ _ c.index.result.now (c.find.ensures.entry ∙ ap (entry_at s.tables.items) c.in-Some.is) d (search rules)

pub index-requires : goal.index-requires
index-requires c = let lt : c.in-Some.at < length c.args.self.now.tables.items = rw c.in-Some.is at c.find.ensures.within in search rules

pub index_mut-requires : goal.index_mut-requires
index_mut-requires c =
    let lt : c.in-Some.at < length c.args.self.now.tables.items = rw c.in-Some.is at c.find.ensures.within in
    let m = c.args.self.now.marked in
    let below : c.in-Some.at < length c.args.self.now.bound.items = omega arith in
    search rules

pub returns-clause-ok : goal.returns-clause-ok
returns-clause-ok c =
    let s = c.args.self.now in
    let w = rw c.in-Some.is at c.find.ensures.named in
    let b = slice_get_within s.tables.items c.in-Some.at w.0 w.1 in
    let m = s.marked in
    let x = c.index.result.now in
    let d = slice_get_read s.tables.items (length s.tables.items) c.in-Some.at x refl b c.index.ensures in
    let same = subst (λ (z : Table). bytes_eq (string_bytes z.name) c.args.remote.now ≡ true) (some_inj _ _ (sym w.1 ∙ d)) w.2 in
    list_binds s.tables.items s.bound.items s.scans s.staged s.next s.pulled c.in-Some.at _ _ _ x (omega arith) c.requires (c.find.ensures.entry ∙ ap (entry_at s.tables.items) c.in-Some.is) d same (search rules) s.typed
