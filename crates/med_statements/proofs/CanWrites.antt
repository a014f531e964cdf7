-- A write that was bound may be asked of its box.
use Rattle.std.proofs.Common.{◌≡◌, ℕ, ◌+◌, List, Option, Some, is_some, slice_get, ap, sym, ◌∙◌, subst, arith}
use Rattle.med_value.specs.Datum.{Tuple}
use Rattle.med_value.specs.declared.value.ColType.{ColType}
use Rattle.med_syntax.specs.WriteTree.{WriteTree}
use Rattle.fdw_api.specs.Prelude.{kinds_of, BoxTable, BoxState, table_of, NoScan, IsTableOf, IsSoundBox}
use Rattle.med_exec.specs.Prelude.{BoxAt, IsTypedWrite, CanWrite}
use Rattle.med_catalog.specs.Objects.{TableObject, Objects, table_named}
use Rattle.med_binder.specs.Prelude.{Attached, shapes}
use Rattle.med_write.specs.Form.{WriteForm, form_of}
use Rattle.bind_write.specs.Meaning.{target_of, columns_in, write_meant}
use Rattle.bind_types.specs.TreeTypes.{column_kinds}
use Rattle.bind_write.proofs.Targets.{target_columns}
use Rattle.bind_write.specs.declared.bound.TableWrite.{TableWrite}
use Rattle.bind_write.specs.Binding.{IsMeantWrite}
use Rattle.med_world.specs.Engine.{IsUnstaged, IsFirst}
use Rattle.med_world.proofs.TargetRows.{first_from, first_table}
use Rattle.med_statements.specs.ReadyWrites.{IsReady, IsUnread}

one_bound : (a b : BoxTable) (o : Option BoxTable) → o ≡ Some a → o ≡ Some b → a ≡ b
one_bound a b o p q = cc

-- a table that has no live scan may be written, where nothing is staged
box_can : (s : BoxState) (number : ℕ) (kinds : List ColType) (form : WriteForm) (answer : List Tuple) → NoScan s number → IsUnstaged s → IsSoundBox s → IsTableOf s number kinds → IsTypedWrite kinds form answer → CanWrite s number form answer
box_can s number kinds form answer none unstaged sound is typed = record {
  can = record {
    is_bound = ap is_some is.1;
    no_scan = none;
    not_staged = unstaged;
  };
  typed = λ b at. subst (λ (ks : List ColType). IsTypedWrite ks form answer) (sym is.2 ∙ ap (λ (x : BoxTable). x.kinds) (one_bound is.0 b (table_of s number) is.1 at)) typed;
  once = λ honest. sound.once honest number is.0 is.1;
}

pub can_write : (o : Objects) (bound : List Attached) (boxes : List (Option BoxState)) (t : WriteTree) (w : TableWrite) (answer : List Tuple) → IsReady o bound boxes → IsUnread o bound t boxes → IsMeantWrite o bound t w
    → IsTypedWrite (column_kinds (columns_in (shapes o) (target_of t))) (write_meant (shapes o) t) answer → BoxAt boxes w.source (λ s. CanWrite s w.table.number (form_of w.write.rows) answer)
can_write o bound boxes t w answer ready unread is typed = subst (λ (n : ℕ). BoxAt boxes n (λ s. CanWrite s w.table.number (form_of w.write.rows) answer)) (sym is.there.source) (record {
  box = x.box;
  there = x.there;
  holds = subst (λ (n : ℕ). CanWrite x.box n (form_of w.write.rows) answer) (sym is.there.number)
      (box_can x.box is.there.at.number (kinds_of u.0.columns) (form_of w.write.rows) answer (unread is.there.at x.box (record { place = w.place; named = is.place; there = is.there.there }) x.there) (ready.unstaged is.there.at.source x.box x.there) (ready.sound is.there.at.source x.box x.there) x.holds
      (subst (λ (f : WriteForm). IsTypedWrite (kinds_of u.0.columns) f answer) (sym is.form) (subst (λ (ks : List ColType). IsTypedWrite ks (write_meant (shapes o) t) answer) (ap column_kinds (target_columns o (target_of t) u.0 u.2)) typed)));
})
  where
    f : (k : ℕ) × (w.place ≡ 0 + k) × IsFirst (target_of t) o.tables k
    f = first_from o.tables (target_of t) 0 w.place is.place

    u : (u : TableObject) × (slice_get o.tables f.0 ≡ Some u) × (table_named o (target_of t) ≡ Some u)
    u = first_table o.tables (target_of t) f.0 f.2

    same : w.place ≡ f.0
    same = let z : w.place ≡ 0 + f.0 = f.1 in omega (arith, z)

    x : BoxAt boxes is.there.at.source (λ s. IsTableOf s is.there.at.number (kinds_of u.0.columns))
    x = ready.tables f.0 u.0 is.there.at u.1 (ap (slice_get bound) (sym same) ∙ is.there.there)
