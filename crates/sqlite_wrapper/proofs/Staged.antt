-- A change that is staged keeps a write of its table's types.
use Rattle.std.proofs.Common.{
  ◌≡◌,
  ℕ,
  Bool,
  true,
  false,
  ◌&&◌,
  List,
  [],
  ◌∷◌,
  ◌++◌,
  Option,
  Some,
  None,
  IsSome,
  IfSome,
  Result,
  Ok,
  Err,
  OnOk,
  IfErr,
  IsTrue,
  map,
  option_map,
  slice_index_or,
  refl,
  ap,
  sym,
  ◌∙◌,
  subst,
  nat_lt,
  length,
}
use Rattle.std.specs.List.{list_all}
use Rattle.std.specs.BTreeMap.{BTreeMap}
use Rattle.std.proofs.lemmas.Option.{same_Some}
use Rattle.sqlite.specs.Effect.{Database}
use Rattle.med_value.specs.declared.value.ColType.{ColType}
use Rattle.fdw_api.specs.declared.interface.Fault.{Fault}
use Rattle.fdw_api.specs.declared.interface.Fault.TheVariants.{NoMemory}
use Rattle.fdw_api.specs.Prelude.{Change, Staging, CanChange, row_of_change_fits, is_first, id_is_there}
use Rattle.sqlite_wrapper.specs.declared.scans.KeyScan.{KeyScan}
use Rattle.wrapper_parts.specs.declared.changes.StagedWrite.{StagedWrite}
use Rattle.sqlite_tables.specs.Prelude.{layout_count, kinds_in, layout_at, rows_of}
use Rattle.wrapper_parts.specs.Staged.{change_is, write_is, with_change, broken_write}
use Rattle.sqlite_writes.specs.Splitting.{IsNamedOnce}
use Rattle.sqlite_wrapper.specs.Changes.{write_fits, NamesOnce, names_rows}
use Rattle.sqlite_wrapper.proofs.Bound.{bound_within}
use Rattle.sqlite_wrapper.proofs.Kept.{within_count, some_there}
use Rattle.sqlite_wrapper.specs.Boxes.{marked_bound, rows_at, sqlite_state}
use Rattle.sqlite_wrapper.proofs.LiveScans.{at_some, if_some, bound_kinds}

one_more : (p : Change → Bool) (cs : List Change) (c : Change) → list_all p cs ≡ true → p c ≡ true → list_all p (cs ++ c ∷ []) ≡ true
one_more p [] c all one = rw one refl
one_more p (d ∷ cs) c all one = go (p d) all (λ e. one_more p cs c e one)
  where
    go : (b : Bool) → (b && list_all p cs) ≡ true → (list_all p cs ≡ true → list_all p (cs ++ c ∷ []) ≡ true)
        → (b && list_all p (cs ++ c ∷ [])) ≡ true
    go true e more = more e
    go false e more = e

there : (o : Option StagedWrite) (s : Staging) → option_map write_is o ≡ Some s → IsSome o
there None s e = absurd cc
there (Some w) s e = refl

module _ (honest : Bool) (db : Database) (bound : List Bool) (m : BTreeMap ℕ KeyScan) (staged : Option StagedWrite)
    (next pulled faults : ℕ) (change : Change)
    (can : CanChange (sqlite_state honest db bound m staged next pulled faults) change) where
  abbrev is_there : IsSome staged
  is_there = there staged can.staging can.is_staged

  abbrev write : StagedWrite
  write = (at_some staged is_there).0

  is : staged ≡ Some write
  is = (at_some staged is_there).1

  same : can.staging ≡ write_is write
  same = same_Some can.staging (write_is write) (sym can.is_staged ∙ ap (option_map write_is) is)

  fits : row_of_change_fits (kinds_in (layout_at write.table)) change ≡ true
  fits =
      let at : marked_bound (slice_index_or bound write.table false) write.table ≡ Some can.bound =
      subst (λ (z : Staging). marked_bound (slice_index_or bound z.table false) z.table ≡ Some can.bound) same can.is in
      subst (λ (k : List ColType). row_of_change_fits k change ≡ true)
      (bound_kinds (slice_index_or bound write.table false) write.table can.bound at) can.fits

  old_fits : IsTrue (write_fits (option_map write_is staged))
      → list_all (row_of_change_fits (kinds_in (layout_at write.table))) (map change_is write.changes.items) ≡ true
  old_fits typed = subst (λ (o : Option StagedWrite). IsTrue (write_fits (option_map write_is o))) is typed

  pub typed_after : {T : Type 0} (r : Result T Fault) (new : Option StagedWrite) → IsTrue (write_fits (option_map write_is staged))
      → OnOk r (IfSome staged (λ s. option_map write_is new ≡ Some (with_change s change)))
      → IfErr r (λ fault. (fault ≡ NoMemory) × IfSome staged (λ s. option_map write_is new ≡ Some (broken_write s)))
      → IsTrue (write_fits (option_map write_is new))
  typed_after (Ok x) new typed ok err =
      subst (λ (o : Option Staging). IsTrue (write_fits o)) (sym (if_some staged _ write is ok))
      (one_more (row_of_change_fits (kinds_in (layout_at write.table))) (map change_is write.changes.items) change (old_fits typed) fits)
  typed_after (Err e) new typed ok err =
      subst (λ (o : Option Staging). IsTrue (write_fits o)) (sym (if_some staged _ write is err.1)) (old_fits typed)

  -- its changes name each row once, as before
  abbrev More : Type 0
  More = (changes : List Change) (c : Change) → IsNamedOnce changes → is_first changes c ≡ true → IsNamedOnce (changes ++ c ∷ [])

  old_named : NamesOnce (option_map write_is staged) → IsNamedOnce (map change_is write.changes.items)
  old_named named = subst (λ (o : Option StagedWrite). NamesOnce (option_map write_is o)) is named

  pub named_after : More → {T : Type 0} (r : Result T Fault) (new : Option StagedWrite) → NamesOnce (option_map write_is staged)
      → OnOk r (IfSome staged (λ s. option_map write_is new ≡ Some (with_change s change)))
      → IfErr r (λ fault. (fault ≡ NoMemory) × IfSome staged (λ s. option_map write_is new ≡ Some (broken_write s)))
      → NamesOnce (option_map write_is new)
  named_after more (Ok x) new named ok err =
      subst NamesOnce (sym (if_some staged _ write is ok))
      (more (map change_is write.changes.items) change (old_named named)
      (subst (λ (z : Staging). is_first z.changes change ≡ true) same can.once))
  named_after more (Err e) new named ok err = subst NamesOnce (sym (if_some staged _ write is err.1)) (old_named named)

  within : length bound ≡ layout_count → nat_lt write.table layout_count ≡ true
  within each =
      let at : marked_bound (slice_index_or bound write.table false) write.table ≡ Some can.bound =
      subst (λ (z : Staging). marked_bound (slice_index_or bound z.table false) z.table ≡ Some can.bound) same can.is in
      within_count write.table bound each (bound_within bound write.table (some_there _ _ at))

  old_there : (honest ≡ true → names_rows db (option_map write_is staged) ≡ true) → honest ≡ true
      → list_all (id_is_there (rows_of db (layout_at write.table))) (map change_is write.changes.items) ≡ true
  old_there names h = subst (λ (o : Option StagedWrite). names_rows db (option_map write_is o) ≡ true) is (names h)

  one_there : length bound ≡ layout_count → honest ≡ true → id_is_there (rows_of db (layout_at write.table)) change ≡ true
  one_there each h =
      let at : id_is_there (rows_at db write.table) change ≡ true =
      subst (λ (z : Staging). id_is_there (rows_at db z.table) change ≡ true) same (can.there h) in
      rw (within each) at at

  pub there_more : length bound ≡ layout_count → {T : Type 0} (r : Result T Fault) (new : Option StagedWrite)
      → (honest ≡ true → names_rows db (option_map write_is staged) ≡ true)
      → OnOk r (IfSome staged (λ s. option_map write_is new ≡ Some (with_change s change)))
      → IfErr r (λ fault. (fault ≡ NoMemory) × IfSome staged (λ s. option_map write_is new ≡ Some (broken_write s)))
      → honest ≡ true → names_rows db (option_map write_is new) ≡ true
  there_more each (Ok x) new names ok err h =
      subst (λ (o : Option Staging). names_rows db o ≡ true) (sym (if_some staged _ write is ok))
      (one_more (id_is_there (rows_of db (layout_at write.table))) (map change_is write.changes.items) change (old_there names h)
      (one_there each h))
  there_more each (Err e) new names ok err h =
      subst (λ (o : Option Staging). names_rows db o ≡ true) (sym (if_some staged _ write is err.1)) (old_there names h)
