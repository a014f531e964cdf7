-- What a page that is read, or refused, is where a text is understood or is not.
use Rattle.std.proofs.Common.{◌≡◌, ◌≢◌, ℕ, ℤ, inl, inr, List, ◌++◌, Option, Some, None, Err, map, nat_eq, take, refl, ap, sym, ◌∙◌, subst}
use Rattle.std.proofs.Math.Logic.{∥∥₁_elim}
use Rattle.sqlite.specs.Order.{Row as SqlRow}
use Rattle.sqlite.specs.Effect.{Database}
use Rattle.sqlite.specs.Schema.{Schema}
use Rattle.sqlite.specs.View.{IsShaped}
use Rattle.sqlite.specs.Listing.{understood}
use Rattle.sqlite.specs.State.{State}
use Rattle.sqlite_tables.specs.Steady.{IsCleanAfter}
use Rattle.sqlite_trees.specs.declared.store.Shape.TheVariants as shape
use Rattle.sqlite_trees.specs.Props.{IsShaped-prop, Trees-set, rows_set}
use base.Stored.{Coded-set}
use Rattle.sqlite_schema.specs.contracts.schema.Schema as schema
use Rattle.sqlite_resolve.specs.declared.error.CompileError.{CompileError}
use Rattle.sqlite_looks.specs.Pages.{range_of}
use Rattle.sqlite_tables.specs.Layouts.{Layout, places}
use Rattle.sqlite_tables.specs.Texts.{IsPageOf}
use Rattle.std.specs.List.{IsDistinct}
use Rattle.std.proofs.lemmas.Map.Keys.{IsDistinct-prop}
use Rattle.sqlite_tables.specs.Cells.{rows_in}
use Rattle.sqlite_tables.specs.Tables.{IsKnown, IsSure, ReadsOnly, rows_of, entries_of, entries_at, tree_read, tree_of, rest_of}
use Rattle.sqlite_tables.proofs.PagesJoin.{pages_join}
use Rattle.sqlite_tables.proofs.Once.{ids_once, no_rows_once}

-- the tree of a text that reads a page
pub tree_is : (schema : Schema) (l : Layout) (tree : ℕ) → IsPageOf schema l.page tree (places l) → tree_of schema l ≡ Some tree
tree_is schema l tree is = ap tree_read is.reads.is

Schema-set : IsSet Schema
Schema-set = Coded-set schema.the_row.coded

Database-set : (a b : Database) (p q : a ≡ b) → p ≡ q
Database-set a b p q = λ i j. record {
  schema = Schema-set a.schema b.schema (ap (λ (d : Database). d.schema) p) (ap (λ (d : Database). d.schema) q) i j;
  trees = Trees-set a.trees b.trees (ap (λ (d : Database). d.trees) p) (ap (λ (d : Database). d.trees) q) i j;
}

-- a page that is read, or refused, changes nothing
pub settled : {X : Type 0} (db after : Database) (l : Layout) (text : List ℕ) → text ≡ l.page → ∥ IsKnown db.schema l ∥₁
    → ((tree : ℕ) (shown : List ℕ) → IsPageOf db.schema text tree shown → after ≡ db)
    → ((fault : CompileError) → understood db.schema text ≡ Err fault → (after ≡ db) × X) → after ≡ db
settled db after l text e known f g = ∥∥₁_elim known (Database-set after db) go
  where
    go : IsKnown db.schema l → after ≡ db
    go (inl h) = (g h.0 (ap (understood db.schema) e ∙ h.1)).0
    go (inr h) = f h.0 (places l) (subst (λ (t : List ℕ). IsPageOf db.schema t h.0 (places l)) (sym e) h.1)

no_two : (a b : ⊥) → a ≡ b
no_two a b = absurd a

-- what holds of the rows of the tree that a text reads holds of those that the database holds for the layout
module _ (db : Database) (l : Layout) (text : List ℕ) (e : text ≡ l.page) where
  as_text : (tree : ℕ) → IsPageOf db.schema l.page tree (places l) → IsPageOf db.schema text tree (places l)
  as_text tree is = subst (λ (t : List ℕ). IsPageOf db.schema t tree (places l)) (sym e) is

  not_text : (fault : CompileError) → understood db.schema l.page ≡ Err fault → understood db.schema text ≡ Err fault
  not_text fault bad = ap (understood db.schema) e ∙ bad

  entries_are : (tree : ℕ) → IsPageOf db.schema l.page tree (places l) → entries_of db l ≡ db.trees tree
  entries_are tree is = ap (entries_at db.trees) (tree_is db.schema l tree is)

  pub page_rows : (low high : ℤ) (items : List SqlRow) → ∥ IsKnown db.schema l ∥₁
      → ((tree : ℕ) (shown : List ℕ) → IsPageOf db.schema text tree shown → items ≡ take 64 (range_of shown low high (db.trees tree)))
      → ((fault : CompileError) → understood db.schema text ≡ Err fault → ⊥)
      → items ≡ take 64 (range_of (places l) low high (entries_of db l))
  page_rows low high items known rows none = ∥∥₁_elim known (rows_set _ _) go
    where
      go : IsKnown db.schema l → items ≡ take 64 (range_of (places l) low high (entries_of db l))
      go (inl h) = absurd (none h.0 (not_text h.0 h.1))
      go (inr h) = rw (entries_are h.0 h.1) (rows h.0 (places l) (as_text h.0 h.1))

  pub sure_rows : (low high : ℤ) (items : List SqlRow) → ∥ IsKnown db.schema l ∥₁ → IsShaped shape.Table (entries_of db l)
      → ((tree : ℕ) (shown : List ℕ) → IsPageOf db.schema text tree shown → IsShaped shape.Table (db.trees tree)
      → items ≡ take 64 (range_of shown low high (db.trees tree)))
      → ((fault : CompileError) → understood db.schema text ≡ Err fault → ⊥)
      → items ≡ take 64 (range_of (places l) low high (entries_of db l))
  sure_rows low high items known ordered rows none = ∥∥₁_elim known (rows_set _ _) go
    where
      go : IsKnown db.schema l → items ≡ take 64 (range_of (places l) low high (entries_of db l))
      go (inl h) = absurd (none h.0 (not_text h.0 h.1))
      go (inr h) = rw (entries_are h.0 h.1)
          (rows h.0 (places l) (as_text h.0 h.1) (subst (λ (es : List SqlRow). IsShaped shape.Table es) (entries_are h.0 h.1) ordered))

  pub page_joins : (low high : ℤ) (items : List SqlRow) → ∥ IsKnown db.schema l ∥₁
      → ((tree : ℕ) (shown : List ℕ) → IsPageOf db.schema text tree shown → IsShaped shape.Table (db.trees tree))
      → ((tree : ℕ) (shown : List ℕ) → IsPageOf db.schema text tree shown → items ≡ take 64 (range_of shown low high (db.trees tree)))
      → ((fault : CompileError) → understood db.schema text ≡ Err fault → ⊥)
      → range_of (places l) low high (entries_of db l) ≡ items ++ rest_of l low high (entries_of db l) items
  page_joins low high items known shaped rows none = ∥∥₁_elim known (rows_set _ _) go
    where
      go : IsKnown db.schema l → range_of (places l) low high (entries_of db l) ≡ items ++ rest_of l low high (entries_of db l) items
      go (inl h) = absurd (none h.0 (not_text h.0 h.1))
      go (inr h) = rw (entries_are h.0 h.1)
          (pages_join l low high (db.trees h.0) items (shaped h.0 (places l) (as_text h.0 h.1)) (rows h.0 (places l) (as_text h.0 h.1)))

  -- the rows that the database holds for the layout are in the order of their keys
  pub page_ordered : ∥ IsKnown db.schema l ∥₁
      → ((tree : ℕ) (shown : List ℕ) → IsPageOf db.schema text tree shown → IsShaped shape.Table (db.trees tree))
      → IsShaped shape.Table (entries_of db l)
  page_ordered known shaped = ∥∥₁_elim known (IsShaped-prop shape.Table _) go
    where
      none : (o : Option ℕ) → o ≡ None → IsShaped shape.Table (entries_at db.trees o)
      none o e = subst (λ (p : Option ℕ). IsShaped shape.Table (entries_at db.trees p)) (sym e) (tt, tt)

      go : IsKnown db.schema l → IsShaped shape.Table (entries_of db l)
      go (inl h) = none (tree_of db.schema l) (rw h.1 refl)
      go (inr h) = subst (λ (es : List SqlRow). IsShaped shape.Table es) (sym (entries_are h.0 h.1))
          (shaped h.0 (places l) (as_text h.0 h.1))

  -- a text that was read is that of a table
  pub was_read : ∥ IsKnown db.schema l ∥₁ → ((fault : CompileError) → understood db.schema text ≡ Err fault → ⊥)
      → tree_of db.schema l ≢ None
  was_read known none gone = ∥∥₁_elim known no_two go
    where
      go : IsKnown db.schema l → ⊥
      go (inl h) = none h.0 (not_text h.0 h.1)
      go (inr h) = let e = sym gone ∙ tree_is db.schema l h.0 h.1 in absurd cc

  -- a text that was refused as a text is that of no table
  pub was_refused : ∥ IsKnown db.schema l ∥₁ → ((tree : ℕ) (shown : List ℕ) → IsPageOf db.schema text tree shown → ⊥)
      → tree_of db.schema l ≡ None
  was_refused known none = go (tree_of db.schema l) refl
    where
      gone : (t : ℕ) → tree_of db.schema l ≡ Some t → IsKnown db.schema l → ⊥
      gone t is (inl h) = let e : tree_of db.schema l ≡ None = rw h.1 refl in let f = sym e ∙ is in absurd cc
      gone t is (inr h) = none h.0 (places l) (as_text h.0 h.1)

      go : (o : Option ℕ) → tree_of db.schema l ≡ o → tree_of db.schema l ≡ None
      go None is = is
      go (Some t) is = absurd (∥∥₁_elim known no_two (gone t is))

-- no two rows of a table have one id
pub was_once : (db : Database) (l : Layout) (text : List ℕ) → text ≡ l.page → ∥ IsKnown db.schema l ∥₁
    → ((tree : ℕ) (shown : List ℕ) → IsPageOf db.schema text tree shown → IsShaped shape.Table (db.trees tree))
    → IsDistinct nat_eq (map (λ x. x.id) (rows_of db l))
was_once db l text e known shaped = ∥∥₁_elim known (IsDistinct-prop nat_eq _) go
  where
    gone : (fault : CompileError) → understood db.schema l.page ≡ Err fault → tree_of db.schema l ≡ None
    gone fault bad = rw bad refl

    go : IsKnown db.schema l → IsDistinct nat_eq (map (λ x. x.id) (rows_of db l))
    go (inl h) = subst (λ (o : Option ℕ). IsDistinct nat_eq (map (λ x. x.id) (rows_in l (entries_at db.trees o)))) (sym (gone h.0 h.1))
        (no_rows_once l)
    go (inr h) =
        subst (λ (es : List SqlRow). IsDistinct nat_eq (map (λ x. x.id) (rows_in l es))) (sym (entries_are db l text e h.0 h.1))
        (ids_once l (db.trees h.0) (shaped h.0 (places l) (as_text db l text e h.0 h.1)))

-- what is known of a layout is known where nothing was changed
pub known_after : (db after : Database) (l : Layout) → after ≡ db → ∥ IsKnown db.schema l ∥₁ → ∥ IsKnown after.schema l ∥₁
known_after db after l same known = subst (λ (d : Database). ∥ IsKnown d.schema l ∥₁) (sym same) known

-- nothing was called
pub reads_none : (s : State) (l : Layout) → ReadsOnly s s l
reads_none s l = record { was_clean = λ after. after; same = λ after known. refl }

-- two calls that read only
pub reads_then : {a b c : State} {l : Layout} → ReadsOnly a b l → ReadsOnly b c l → ReadsOnly a c l
reads_then {a} {b} {c} {l} first next = record {
  was_clean = λ after. first.was_clean (next.was_clean after);
  same = λ after known.
      let same = first.same (next.was_clean after) known in
      next.same after (known_after a.now b.now l same known) ∙ same;
}

-- of two calls that are sure together each is sure
pub sure_first : {a b c : State} {l : Layout} → ReadsOnly b c l → IsSure a c l → IsSure a b l
sure_first next sure = record { after = next.was_clean sure.after; known = sure.known; ordered = sure.ordered }

pub sure_then : {a b c : State} {l : Layout} → ReadsOnly a b l → ReadsOnly b c l → IsSure a c l → IsSure b c l
sure_then {a} {b} {c} {l} first next sure =
    let same = first.same (next.was_clean sure.after) sure.known in
    record {
      after = sure.after;
      known = known_after a.now b.now l same sure.known;
      ordered = subst (λ (d : Database). IsShaped shape.Table (entries_of d l)) (sym same) sure.ordered;
    }

-- and what the first leaves is what the second finds
pub sure_same : {a b c : State} {l : Layout} → ReadsOnly a b l → ReadsOnly b c l → IsSure a c l → b.now ≡ a.now
sure_same first next sure = first.same (next.was_clean sure.after) sure.known

-- a page that is read, or refused, by the text of a layout
pub page_reads : {X : Type 0} (old new : State) (l : Layout) (text : List ℕ) → text ≡ l.page → (IsCleanAfter new → IsCleanAfter old)
    → (IsCleanAfter new → (tree : ℕ) (shown : List ℕ) → IsPageOf old.now.schema text tree shown → new.now ≡ old.now)
    → (IsCleanAfter new → (fault : CompileError) → understood old.now.schema text ≡ Err fault → (new.now ≡ old.now) × X)
    → ReadsOnly old new l
page_reads old new l text e was_clean same unread = record {
  was_clean = was_clean;
  same = λ after known. settled old.now new.now l text e known (same after) (unread after);
}
