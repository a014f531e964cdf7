-- A table of a steady store is in the order of its keys.
use Rattle.std.proofs.Common.{◌≡◌, ℕ, Bool, List, refl, true, false, sym, subst, ap, IsTrue, ◌∙◌}
use Rattle.sqlite_trees.specs.declared.store.Store.{Ghosts}
use Rattle.sqlite_trees.specs.View.{View, IsClean, IsOrdered, doubt}
use Rattle.sqlite_trees.specs.Objects.{catalog_tree, IsListed}
use Rattle.sqlite_trees.specs.declared.store.Shape.{Shape}
use Rattle.sqlite_trees.specs.declared.store.Shape.TheVariants as shape
use Rattle.sqlite.specs.View.{IsShaped}
use Rattle.sqlite.specs.State.{IsLive}
use Rattle.sqlite.specs.Held.{Held, state}
use Rattle.sqlite_rules.proofs.ListLemmas.{has_got}
use Rattle.sqlite_catalog.proofs.LayoutLemmas.{objects_rise, table_shape}
use Rattle.sqlite_tables.specs.Steady.{IsSteady}
use Rattle.sqlite_tables.specs.Texts.{IsPageOf}

pub steady_table : {S : Type 0} (g : Ghosts S) (c : Held S) (text : List ℕ) (tree : ℕ) (shown : List ℕ) → IsSteady (g.view c.store)
    → IsLive (state g c)
    → IsPageOf c.schema text tree shown → IsShaped shape.Table ((g.view c.store).trees tree)
steady_table g c text tree shown steady live is =
    let sound = (live steady.is_open).0 in
    let v = g.view c.store in
    let rise = (objects_rise v steady.listed steady.ordered).0 in
    let at = (table_shape steady.listed rise sound.lists.listed is.table (has_got c.schema.tables is.place is.table is.at)).0 in
    let here : IsShaped shape.Table (v.trees is.table.tree) = subst (λ (s : Shape). IsShaped s (v.trees is.table.tree)) at
    (steady.ordered is.table.tree) in
    subst (λ (t : ℕ). IsShaped shape.Table (v.trees t)) is.tree_is here

no_doubt : doubt true ≡ 0
unfolding doubt
no_doubt = refl

-- what laws say of a store that is shut or not clean holds of none that is not broken
pub sound_is_steady : (v : View) → (v.is_clean ≡ false → v.is_open ≡ false) → (v.is_open ≡ false → IsTrue v.is_broken)
    → (v.is_broken ≡ false → IsOrdered v.shape v.trees)
    → (v.is_broken ≡ false → IsListed (v.trees catalog_tree) v.shape v.reals) → v.is_broken ≡ false → IsSteady v
sound_is_steady v dirty shut ordered listed sound = record
    { clean = is_clean v.is_clean refl; is_open = is_up v.is_open refl; ordered = ordered sound; listed = listed sound }
  where
    not_shut : v.is_open ≡ false → ⊥
    not_shut e = let b = sym (shut e) ∙ sound in cc

    is_up : (b : Bool) → v.is_open ≡ b → IsTrue v.is_open
    is_up true e = e
    is_up false e = absurd (not_shut e)

    is_clean : (b : Bool) → v.is_clean ≡ b → IsClean v
    is_clean true e = ap doubt e ∙ no_doubt
    is_clean false e = absurd (not_shut (dirty e))
