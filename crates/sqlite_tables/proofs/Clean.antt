-- A call that reads only is sure where its store is steady as it ends.
use Rattle.std.proofs.Common.{◌≡◌, ℕ, inl, inr, Option, None, refl, sym, subst}
use Rattle.std.proofs.Math.Logic.{∥∥₁_elim}
use Rattle.sqlite.specs.Effect.{Database, IsDatabase}
use Rattle.sqlite.specs.State.{IsLive}
use Rattle.sqlite.specs.Held.{Held, state}
use Rattle.sqlite.specs.View.{IsShaped}
use Rattle.sqlite_trees.specs.Props.{IsShaped-prop}
use Rattle.sqlite_trees.specs.declared.store.Store.{Ghosts}
use Rattle.sqlite_trees.specs.declared.store.Shape.{Shape}
use Rattle.sqlite_trees.specs.declared.store.Shape.TheVariants as shape
use Rattle.sqlite_rules.proofs.ListLemmas.{has_got}
use Rattle.sqlite_catalog.proofs.LayoutLemmas.{objects_rise, table_shape}
use Rattle.sqlite_tables.specs.Steady.{IsSteady, IsCleanAfter}
use Rattle.sqlite_tables.specs.Layouts.{Layout, places}
use Rattle.sqlite_tables.specs.Texts.{IsPageOf}
use Rattle.sqlite_tables.specs.Tables.{IsKnown, IsSure, ReadsOnly, entries_of, entries_at, tree_of}
use Rattle.sqlite_tables.proofs.Settled.{tree_is, known_after}

module _ {S : Type 0} (g : Ghosts S) (c : Held S) (l : Layout) (steady : IsSteady (g.view c.store))
    (sound : IsDatabase (state g c).now) where
  in_tree : (tree : ℕ) → IsPageOf c.schema l.page tree (places l) → IsShaped shape.Table ((g.view c.store).trees tree)
  in_tree tree is =
      let v = g.view c.store in
      let rise = (objects_rise v steady.listed steady.ordered).0 in
      let at = (table_shape steady.listed rise sound.lists.listed is.table (has_got c.schema.tables is.place is.table is.at)).0 in
      let here : IsShaped shape.Table (v.trees is.table.tree) = subst (λ (s : Shape). IsShaped s (v.trees is.table.tree)) at
      (steady.ordered is.table.tree) in
      subst (λ (t : ℕ). IsShaped shape.Table (v.trees t)) is.tree_is here

  -- the rows that the database holds for a layout are in the order of their keys
  pub steady_entries : ∥ IsKnown c.schema l ∥₁ → IsShaped shape.Table (entries_of (state g c).now l)
  steady_entries known = ∥∥₁_elim known (IsShaped-prop shape.Table _) go
    where
      none : (o : Option ℕ) → o ≡ None → IsShaped shape.Table (entries_at (g.view c.store).trees o)
      none o e = subst (λ (p : Option ℕ). IsShaped shape.Table (entries_at (g.view c.store).trees p)) (sym e) (tt, tt)

      go : IsKnown c.schema l → IsShaped shape.Table (entries_of (state g c).now l)
      go (inl h) = none (tree_of c.schema l) (rw h.1 refl)
      go (inr h) =
          subst (λ (p : Option ℕ). IsShaped shape.Table (entries_at (g.view c.store).trees p)) (sym (tree_is c.schema l h.0 h.1))
          (in_tree h.0 h.1)

pub clean_sure : {S : Type 0} (g : Ghosts S) (old new : Held S) (l : Layout) → IsSteady (g.view new.store) → IsLive (state g old)
    → ReadsOnly (state g old) (state g new) l → ∥ IsKnown old.schema l ∥₁
    → IsSure (state g old) (state g new) l
clean_sure g old new l steady live reads known =
    let after : IsCleanAfter (state g new) = record { clean = steady.clean; is_open = steady.is_open } in
    let before = reads.was_clean after in
    let same = reads.same after known in
    let sound : IsDatabase (state g new).now = subst (λ (d : Database). IsDatabase d) (sym same) (live before.is_open).0 in
    let ordered = steady_entries g new l steady sound (known_after (state g old).now (state g new).now l same known) in
    record {
      after = after;
      known = known;
      ordered = subst (λ (d : Database). IsShaped shape.Table (entries_of d l)) same ordered;
    }
