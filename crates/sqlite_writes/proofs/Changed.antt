-- What a statement leaves of a table, where its texts are understood or are not.
use Rattle.std.proofs.Common.{◌≡◌, ◌≢◌, inl, inr, ℕ, ℤ, true, false, List, [], ◌∷◌, Option, Some, None, refl, sym, ap, subst, ◌∙◌}
use Rattle.std.proofs.Math.Logic.{∥∥₁_elim}
use base.Stored.{Coded-set}
use mathlib.Core.Bool.{Bool-set}
use Rattle.sqlite_schema.specs.contracts.schema.Schema as schema
use Rattle.sqlite.specs.Order.{Row}
use Rattle.sqlite.specs.Effect.{Database}
use Rattle.sqlite.specs.Schema.{Schema}
use Rattle.sqlite.specs.View.{IsShaped}
use Rattle.sqlite.specs.Tree.{without_rowid, put_row}
use Rattle.sqlite.specs.Edit.{is_taken}
use Rattle.sqlite_trees.specs.declared.store.Shape.TheVariants as shape
use Rattle.sqlite_trees.specs.Props.{rows_set, IsShaped-prop}
use Rattle.sqlite_trees.specs.declared.store.Store.{Ghosts}
use Rattle.sqlite.specs.State.{State, IsLive}
use Rattle.sqlite.specs.Held.{Held, state}
use Rattle.med_value.specs.declared.value.ColType.{ColType}
use Rattle.med_value.specs.declared.value.ColType.TheVariants as types
use Rattle.med_value.specs.Datum.{Tuple}
use Rattle.sqlite_tables.specs.Prelude.{AreTexts, IsCleanAfter, IsDeleteFrom, IsInsertInto, IsKnown, IsPageOf, IsSteady, IsUnread, Layout}
use Rattle.sqlite_tables.specs.Prelude.{entries_at, entries_of, further_kinds, places, tree_of}
use Rattle.sqlite_tables.proofs.StoreTables.{steady_table}
use Rattle.sqlite_trees.proofs.TreeLemmas.{IsShaped-filter, IsShaped-put_row}
use Rattle.sqlite_tables.proofs.Settled.{tree_is}
use Rattle.sqlite_writes.specs.Writable.{IsWritable, IsWritten, IsAbsent, IsSureStep, KeepsTables, StepsTo}
use Rattle.sqlite_writes.specs.Rewriting.{has_place, stored_cells}
use Rattle.sqlite_writes.specs.Stored.{inserted_cells, is_placed, stored_row}
use Rattle.sqlite_writes.proofs.Written.{key_is_int, placed_by}
use Rattle.sqlite_writes.specs.Changes.{KeepsOthers, TakesOut, PutsIn}

Schema-set : IsSet Schema
Schema-set = Coded-set schema.the_row.coded

module _ (old new : Database) (l : Layout) (tree : ℕ) (page : IsPageOf old.schema l.page tree (places l)) where
  pub here : entries_of old l ≡ old.trees tree
  here = ap (entries_at old.trees) (tree_is old.schema l tree page)

  there : new.schema ≡ old.schema → entries_of new l ≡ new.trees tree
  there same = ap (entries_at new.trees) (ap (λ (s : Schema). tree_of s l) same ∙ tree_is old.schema l tree page)

  rows_are : (f : List Row → List Row) → new.schema ≡ old.schema → new.trees tree ≡ f (old.trees tree)
      → entries_of new l ≡ f (entries_of old l)
  rows_are f same rows = there same ∙ rows ∙ ap f (sym here)

  others_are : new.schema ≡ old.schema → KeepsOthers old new tree → KeepsTables old new l
  others_are same others other known apart = ∥∥₁_elim known (rows_set _ _) go
    where
      gone : (o : Option ℕ) → o ≡ None → tree_of old.schema other ≡ o → entries_of new other ≡ entries_of old other
      gone o none is =
          let before : entries_of old other ≡ [] = ap (entries_at old.trees) (is ∙ none) in
          let after : entries_of new other ≡ [] = ap (entries_at new.trees) (ap (λ (s : Schema). tree_of s other) same ∙ is ∙ none) in
          after ∙ sym before

      go : IsKnown old.schema other → entries_of new other ≡ entries_of old other
      go (inl h) = gone None refl (rw h.1 refl)
      go (inr h) =
          let is = tree_is old.schema other h.0 h.1 in
          let before : entries_of old other ≡ old.trees h.0 = ap (entries_at old.trees) is in
          let after : entries_of new other ≡ new.trees h.0 = ap (entries_at new.trees) (ap (λ (s : Schema). tree_of s other) same ∙ is) in
          let differ : h.1.table.tree ≢ tree = λ e. apart (is ∙ ap Some (sym h.1.tree_is ∙ e) ∙ sym (tree_is old.schema l tree page)) in
          let kept : new.trees h.0 ≡ old.trees h.0 = subst (λ (n : ℕ). new.trees n ≡ old.trees n) h.1.tree_is
          (others h.1.place h.1.table h.1.at differ) in
          after ∙ kept ∙ sym before

module _ (old new : Database) (l : Layout) (key : ℤ) (text : List ℕ) (e : text ≡ l.deleting) (writable : ∥ IsWritable old.schema l ∥₁)
    (shaped : IsShaped shape.Table (entries_of old l))
    (done : (tree : ℕ) → IsDeleteFrom old.schema text tree → IsShaped shape.Table (old.trees tree)
    → TakesOut old new tree key) (unread : IsUnread old.schema text → ⊥) where
  no_delete : IsAbsent old.schema l → ⊥
  no_delete h = unread (subst (λ (x : List ℕ). IsUnread old.schema x) (sym e) h.delete)

  taken_out : (tree : ℕ) → AreTexts old.schema l tree → TakesOut old new tree key
  taken_out tree h = done tree (subst (λ (x : List ℕ). IsDeleteFrom old.schema x tree) (sym e) h.delete) (subst
      (λ es. IsShaped shape.Table es) (here old new l tree h.page) shaped)

  pub delete_schema : new.schema ≡ old.schema
  delete_schema = ∥∥₁_elim writable (Schema-set _ _) go
    where
      go : IsWritable old.schema l → new.schema ≡ old.schema
      go (w, inl h) = absurd (no_delete h)
      go (w, inr h) = (taken_out h.0 h.1).schema

  pub delete_rows : entries_of new l ≡ without_rowid key (entries_of old l)
  delete_rows = ∥∥₁_elim writable (rows_set _ _) go
    where
      go : IsWritable old.schema l → entries_of new l ≡ without_rowid key (entries_of old l)
      go (w, inl h) = absurd (no_delete h)
      go (w, inr h) = let d = taken_out h.0 h.1 in rows_are old new l h.0 h.1.page (without_rowid key) d.schema d.rows

  pub delete_others : KeepsTables old new l
  delete_others other known apart = ∥∥₁_elim writable (rows_set _ _) go
    where
      go : IsWritable old.schema l → entries_of new other ≡ entries_of old other
      go (w, inl h) = absurd (no_delete h)
      go (w, inr h) = let d = taken_out h.0 h.1 in others_are old new l h.0 h.1.page d.schema d.others other known apart

  pub delete_ordered : IsShaped shape.Table (entries_of new l)
  delete_ordered = subst (λ es. IsShaped shape.Table es) (sym delete_rows) (IsShaped-filter shape.Table _ (entries_of old l) shaped)

module _ (old new : Database) (l : Layout) (x : Tuple) (placed : has_place l x ≡ true) (text : List ℕ) (e : text ≡ l.inserting)
    (writable : ∥ IsWritable old.schema l ∥₁) where
  abbrev row : Row
  row = stored_cells l x

  as_insert : (tree : ℕ) → AreTexts old.schema l tree → IsInsertInto old.schema text tree l.cells (further_kinds l)
  as_insert tree h = subst (λ (t : List ℕ). IsInsertInto old.schema t tree l.cells (further_kinds l)) (sym e) h.insert

  no_insert : IsAbsent old.schema l → IsUnread old.schema text
  no_insert h = subst (λ (t : List ℕ). IsUnread old.schema t) (sym e) h.insert

  -- a key that the table in the tree has is one that the table has
  pub insert_taken : ((tree : ℕ) (cells : List (Option ℕ)) (kinds : List ColType) → IsInsertInto old.schema text tree cells kinds
      → is_placed (types.Int ∷ kinds) x ≡ true → is_taken (old.trees tree) (stored_row cells (inserted_cells x)) ≡ true)
      → (IsUnread old.schema text → ⊥) → is_taken (entries_of old l) row ≡ true
  insert_taken taken unread = ∥∥₁_elim writable (Bool-set _ _) go
    where
      go : IsWritable old.schema l → is_taken (entries_of old l) row ≡ true
      go (w, inl h) = absurd (unread (no_insert h))
      go (w, inr h) =
          ap (λ es. is_taken es row) (here old new l h.0 h.1.page)
          ∙ taken h.0 l.cells (further_kinds l) (as_insert h.0 h.1) (placed_by l x w placed)

  module _ (done : (tree : ℕ) (cells : List (Option ℕ)) (kinds : List ColType) → IsInsertInto old.schema text tree cells kinds
      → is_placed (types.Int ∷ kinds) x ≡ true → PutsIn old new tree (stored_row cells (inserted_cells x)))
      (unread : IsUnread old.schema text → ⊥) where
    put_in : IsWritten l → (tree : ℕ) → AreTexts old.schema l tree → PutsIn old new tree row
    put_in w tree h = done tree l.cells (further_kinds l) (as_insert tree h) (placed_by l x w placed)

    pub insert_schema : new.schema ≡ old.schema
    insert_schema = ∥∥₁_elim writable (Schema-set _ _) go
      where
        go : IsWritable old.schema l → new.schema ≡ old.schema
        go (w, inl h) = absurd (unread (no_insert h))
        go (w, inr h) = (put_in w h.0 h.1).schema

    pub insert_free : is_taken (entries_of old l) row ≡ false
    insert_free = ∥∥₁_elim writable (Bool-set _ _) go
      where
        go : IsWritable old.schema l → is_taken (entries_of old l) row ≡ false
        go (w, inl h) = absurd (unread (no_insert h))
        go (w, inr h) = ap (λ es. is_taken es row) (here old new l h.0 h.1.page) ∙ (put_in w h.0 h.1).free

    pub insert_rows : entries_of new l ≡ put_row row (entries_of old l)
    insert_rows = ∥∥₁_elim writable (rows_set _ _) go
      where
        go : IsWritable old.schema l → entries_of new l ≡ put_row row (entries_of old l)
        go (w, inl h) = absurd (unread (no_insert h))
        go (w, inr h) = let d = put_in w h.0 h.1 in rows_are old new l h.0 h.1.page (put_row row) d.schema d.rows

    pub insert_others : KeepsTables old new l
    insert_others other known apart = ∥∥₁_elim writable (rows_set _ _) go
      where
        go : IsWritable old.schema l → entries_of new other ≡ entries_of old other
        go (w, inl h) = absurd (unread (no_insert h))
        go (w, inr h) = let d = put_in w h.0 h.1 in others_are old new l h.0 h.1.page d.schema d.others other known apart

    pub insert_ordered : IsShaped shape.Table (entries_of old l) → IsShaped shape.Table (entries_of new l)
    insert_ordered shaped = subst (λ es. IsShaped shape.Table es) (sym insert_rows) (∥∥₁_elim writable (IsShaped-prop shape.Table _) go)
      where
        go : IsWritable old.schema l → IsShaped shape.Table (put_row row (entries_of old l))
        go h = IsShaped-put_row row _ (key_is_int (further_kinds l) x (placed_by l x h.0 placed)) shaped

-- one more statement leaves the tables of the other layouts alone
pub keeps_more : (first mid last : Database) (l : Layout) → mid.schema ≡ first.schema → KeepsTables first mid l → KeepsTables mid last l
    → KeepsTables first last l
keeps_more first mid last l same one two other known apart =
    two other (subst (λ (s : Schema). ∥ IsKnown s other ∥₁) (sym same) known)
    (subst (λ (s : Schema). tree_of s other ≢ tree_of s l) (sym same) apart)
    ∙ one other known apart

-- a table of a store that does is in the order of its keys
pub entries_ordered : {S : Type 0} (g : Ghosts S) (c : Held S) (l : Layout) → IsSteady (g.view c.store) → IsLive (state g c)
    → ∥ IsWritable c.schema l ∥₁ → IsShaped shape.Table (entries_of (state g c).now l)
entries_ordered {S} g c l steady live writable = ∥∥₁_elim writable (IsShaped-prop shape.Table _) go
  where
    none : (es : List Row) → es ≡ [] → IsShaped shape.Table es
    none es e = subst (λ xs. IsShaped shape.Table xs) (sym e) (tt, tt)

    gone : IsAbsent c.schema l → tree_of c.schema l ≡ None
    gone h = rw h.page.1 refl

    go : IsWritable c.schema l → IsShaped shape.Table (entries_of (state g c).now l)
    go (w, inl h) = none _ (ap (entries_at (g.view c.store).trees) (gone h))
    go (w, inr h) = subst (λ xs. IsShaped shape.Table xs) (sym (here (state g c).now (state g c).now l h.0 h.1.page))
        (steady_table g c l.page h.0 (places l) steady live h.1.page)

-- steps in turn: of two that are sure together each is sure
pub step_first : {a b c : State} {l : Layout} → (IsCleanAfter c → IsCleanAfter b) → IsSureStep a c l → IsSureStep a b l
step_first was_clean h = record { after = was_clean h.after; inside = h.inside; writable = h.writable; ordered = h.ordered }

pub step_then : {a b c : State} {l : Layout} → StepsTo a b l → IsSureStep a c l → IsSureStep b c l
step_then {a} {b} {c} {l} steps h = record {
  after = h.after;
  inside = steps.inside;
  writable = subst (λ (s : Schema). ∥ IsWritable s l ∥₁) (sym steps.schema) h.writable;
  ordered = steps.ordered;
}

pub steps_then : {a b c : State} {l : Layout} → StepsTo a b l → StepsTo b c l → StepsTo a c l
steps_then {a} {b} {c} {l} one two = record {
  inside = two.inside;
  schema = two.schema ∙ one.schema;
  ordered = two.ordered;
  others = keeps_more a.now b.now c.now l one.schema one.others two.others;
}

-- the first step of a write, in the transaction that it begins
pub begun_step : {S : Type 0} (g : Ghosts S) (old tx mid : Held S) (l : Layout) → tx ≡ record old { in_transaction = true }
    → IsCleanAfter (state g mid) → ∥ IsWritable old.schema l ∥₁
    → IsShaped shape.Table (entries_of (state g old).now l) → IsSureStep (state g tx) (state g mid) l
begun_step {S} g old tx mid l begun after writable ordered =
    subst (λ (k : Held S). IsSureStep (state g k) (state g mid) l) (sym begun) (record {
      after = after;
      inside = refl;
      writable =
          writable;
      ordered = ordered;
    })
