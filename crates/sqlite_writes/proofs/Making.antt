-- What the texts that make the tables do to a database.
use Rattle.std.proofs.Common.{◌≡◌, ◌⊎◌, ◌<◌, inl, inr, ℕ, zero, suc, [], ◌∷◌, true, false, Option, Some, None, option_map, map, Ok, Err}
use Rattle.std.proofs.Common.{Result, OnOk, refl, sym, ap, subst, ◌∙◌, codes, arith, List}
use Rattle.sqlite.specs.Schema.{Schema}
use Rattle.sqlite_schema.specs.Names.{same_name}
use Rattle.sqlite.specs.Command.TheVariants.{CreateTable}
use Rattle.sqlite.specs.Compile.{table_defined_by}
use Rattle.sqlite.specs.Change.{created, next_tree, KeepsRows}
use Rattle.sqlite.specs.Does.{Tally, lacks_sequence}
use Rattle.sqlite_tied.specs.Compute.{everything}
use Rattle.sqlite.specs.declared.error.Error.{Error}
use Rattle.sqlite.specs.Listing.{understood}
use Rattle.sqlite.specs.Effect.{Database}
use Rattle.sqlite.specs.State.{State, Writes, Executes}
use Rattle.sqlite.proofs.Callers.{IsPlain, command_of, statement_of, runs_as}
use Rattle.sqlite_tables.specs.Prelude.{AreTexts, IsDeleteFrom, IsInsertInto, IsKnown, IsPageOf, IsTableAt, Layout, entry_of}
use Rattle.sqlite_tables.specs.Prelude.{further_kinds, is_of_shape, kinds_in, layout_at, layout_count, orders, orders_table, people}
use Rattle.sqlite_tables.specs.Prelude.{people_table, places, rows_in, tree_found, tree_of}
use Rattle.fdw_api.specs.Prelude.{TableRow, Entry, Stored}
use Rattle.sqlite_trees.specs.Tree.{Trees}
use Rattle.sqlite_tables.proofs.Settled.{tree_is}
use Rattle.sqlite_writes.specs.Writable.{AreApart, IsWritable}
use Rattle.sqlite_writes.specs.Made.{no_tables, orders_alone, both_tables}
use Rattle.sqlite_writes.proofs.Written.{written_at}

abbrev pub orders_text : List ℕ
orders_text = codes "CREATE TABLE orders (id INTEGER PRIMARY KEY, part INTEGER, n INTEGER)"

abbrev pub people_text : List ℕ
people_text = codes "CREATE TABLE people (id INTEGER PRIMARY KEY, name TEXT, active INTEGER)"

orders_is : (command_of (understood no_tables orders_text) ≡ CreateTable)
    × (statement_of orders_text (understood no_tables orders_text) ≡ orders_text) × (table_defined_by orders_text ≡ Ok (orders_table 0))
unfolding understood everything
orders_is = (refl, refl, refl)

people_is : (command_of (understood orders_alone people_text) ≡ CreateTable)
    × (statement_of people_text (understood orders_alone people_text) ≡ people_text) × (table_defined_by people_text ≡ Ok (people_table 0))
unfolding understood everything
people_is = (refl, refl, refl)

orders_plain : IsPlain (understood no_tables orders_text)
unfolding understood everything
orders_plain = (refl, refl)

people_plain : IsPlain (understood orders_alone people_text)
unfolding understood everything
people_plain = (refl, refl)

-- a part that gave a value did not stop on the way
went : {B E R : Type 0} {b : B} {Stops : E → Type 0} → ((stop : E) × Stops stop × (Ok b ≡ Err stop)) ⊎ R → R
went (inl stopped) = absurd (let e = stopped.2 in cc)
went (inr on) = on

same_value : {B E : Type 0} {a b : B} → ◌≡◌ {A = Result B E} (Ok a) (Ok b) → a ≡ b
same_value e = cc

pub made_orders : (old new : State) (r : Result ℕ Error) → old.now.schema ≡ no_tables → Executes orders_text [] old new r
    → OnOk r (new.now.schema ≡ orders_alone) × OnOk r (new.now.trees 0 ≡ []) × OnOk r (new.in_transaction ≡ old.in_transaction)
made_orders old new (Err e) has h = (tt, tt, tt)
made_orders old new (Ok count) has h =
    let w = subst (λ t. Writes old new None CreateTable t [] count) orders_is.1
    (runs_as orders_text [] old new no_tables has CreateTable orders_is.0 orders_plain count h) in
    let all = went w.changed in
    let first = went all.1 in
    let made = first.1 in
    let both : Ok made.table ≡ Ok (orders_table 0) = sym made.defined ∙ orders_is.2 in
    let same : made.table ≡ orders_table 0 = cc in
    let schema : first.0.schema ≡ orders_alone = made.is ∙ ap (λ s. created s made.table) has ∙ ap (created no_tables) same in
    let plain : lacks_sequence first.0.schema ≡ false = ap lacks_sequence schema in
    let now : new.now ≡ first.0 = ap (λ (p : Tally × Database). p.1) (same_value all.2) ∙ same_value (rw plain at first.2) in (
      ap (λ (d : Database). d.schema) now ∙ schema,
      ap (λ (d : Database). d.trees 0) now
          ∙ subst (λ s. first.0.trees (next_tree s) ≡ []) has made.empty,
      w.shown.mode,
    )

pub made_people : (old new : State) (r : Result ℕ Error) → old.now.schema ≡ orders_alone → Executes people_text [] old new r
    → OnOk r (new.now.schema ≡ both_tables) × OnOk r (new.now.trees 1 ≡ []) × OnOk r (new.now.trees 0 ≡ old.now.trees 0)
    × OnOk r (new.in_transaction ≡ old.in_transaction)
made_people old new (Err e) has h = (tt, tt, tt, tt)
made_people old new (Ok count) has h =
    let w = subst (λ t. Writes old new None CreateTable t [] count) people_is.1
    (runs_as people_text [] old new orders_alone has CreateTable people_is.0 people_plain count h) in
    let all = went w.changed in
    let first = went all.1 in
    let made = first.1 in
    let both : Ok made.table ≡ Ok (people_table 0) = sym made.defined ∙ people_is.2 in
    let same : made.table ≡ people_table 0 = cc in
    let schema : first.0.schema ≡ both_tables = made.is ∙ ap (λ s. created s made.table) has ∙ ap (created orders_alone) same in
    let plain : lacks_sequence first.0.schema ≡ false = ap lacks_sequence schema in
    let now : new.now ≡ first.0 = ap (λ (p : Tally × Database). p.1) (same_value all.2) ∙ same_value (rw plain at first.2) in (
      ap (λ (d : Database). d.schema) now ∙ schema,
      ap (λ (d : Database). d.trees 1) now ∙ subst (λ s. first.0.trees (next_tree s) ≡ []) has made.empty,
      ap (λ (d : Database). d.trees 0) now ∙ (subst (λ s. KeepsRows s.tables old.now.trees first.0.trees) has made.others).0,
      w.shown.mode,
    )

orders_page : IsPageOf both_tables orders.page 0 (places orders)
unfolding understood everything
orders_page = record {
  reads = record { names = codes "id" ∷ codes "part" ∷ codes "n" ∷ []; is = refl; plain = (refl, refl); unlisted = refl };
  place = 0;
  table = orders_table 0;
  at = refl;
  tree_is = refl;
}

people_page : IsPageOf both_tables people.page 1 (places people)
unfolding understood everything
people_page = record {
  reads = record { names = codes "id" ∷ codes "name" ∷ codes "active" ∷ []; is = refl; plain = (refl, refl); unlisted = refl };
  place = 1;
  table = people_table 1;
  at = refl;
  tree_is = refl;
}

abbrev orders_target : IsTableAt both_tables 0 0
orders_target = record { table = orders_table 0; at = refl; tree_is = refl; free = λ olds news. refl }

abbrev people_target : IsTableAt both_tables 1 1
people_target = record { table = people_table 1; at = refl; tree_is = refl; free = λ olds news. refl }

orders_delete : IsDeleteFrom both_tables orders.deleting 0
unfolding understood everything
orders_delete = record { place = 0; target = orders_target; deletes = record { is = refl; plain = (refl, refl) } }

people_delete : IsDeleteFrom both_tables people.deleting 1
unfolding understood everything
people_delete = record { place = 1; target = people_target; deletes = record { is = refl; plain = (refl, refl) } }

orders_insert : IsInsertInto both_tables orders.inserting 0 orders.cells (further_kinds orders)
unfolding understood everything
orders_insert = record {
  place = 0;
  target = orders_target;
  inserts = record { is = refl; plain = (refl, refl) };
  kinds_are = refl;
  uncounted = refl;
  unstamped = refl;
}

people_insert : IsInsertInto both_tables people.inserting 1 people.cells (further_kinds people)
unfolding understood everything
people_insert = record {
  place = 1;
  target = people_target;
  inserts = record { is = refl; plain = (refl, refl) };
  kinds_are = refl;
  uncounted = refl;
  unstamped = refl;
}

orders_texts : AreTexts both_tables orders 0
orders_texts = record { page = orders_page; delete = orders_delete; insert = orders_insert; again = refl }

people_texts : AreTexts both_tables people 1
people_texts = record { page = people_page; delete = people_delete; insert = people_insert; again = refl }

-- the three texts of each layout are for the table in a tree
texts_at : (t : ℕ) → (tree : ℕ) × AreTexts both_tables (layout_at t) tree
texts_at zero = (0, orders_texts)
texts_at (suc zero) = (1, people_texts)
texts_at (suc (suc t)) = (1, people_texts)

tree_at : (t : ℕ) → tree_of both_tables (layout_at t) ≡ Some (texts_at t).0
tree_at t = tree_is both_tables (layout_at t) (texts_at t).0 (texts_at t).1.page

-- the tree of a layout is its number
own_tree : (t : ℕ) → t < layout_count → (texts_at t).0 ≡ t
unfolding texts_at
own_tree zero lt = refl
own_tree (suc zero) lt = refl
own_tree (suc (suc t)) lt = absurd (omega (arith, lt))

-- each page text is understood
pub known : (schema : Schema) (t : ℕ) → schema ≡ both_tables → ∥ IsKnown schema (layout_at t) ∥₁
known schema t is = subst (λ s. ∥ IsKnown s (layout_at t) ∥₁) (sym is) ∣ inr ((texts_at t).0, (texts_at t).1.page) ∣₁

-- all three texts of each table are understood
pub writable : (schema : Schema) (t : ℕ) → schema ≡ both_tables → ∥ IsWritable schema (layout_at t) ∥₁
writable schema t is = subst (λ s. ∥ IsWritable s (layout_at t) ∥₁) (sym is) ∣ (written_at t, inr (texts_at t)) ∣₁

abbrev get_or_zero : Option ℕ → ℕ
get_or_zero None = 0
get_or_zero (Some n) = n

-- no two of them are one table
two_tables : AreApart both_tables
two_tables t u lt lu differ one = absurd (differ (sym (own_tree t lt) ∙ ap get_or_zero (sym (tree_at t) ∙ one ∙ tree_at u) ∙ own_tree u lu))

pub apart : (schema : Schema) → schema ≡ both_tables → AreApart schema
apart schema is = subst AreApart (sym is) two_tables

-- each is of its shape
fits : (t : ℕ) → is_of_shape both_tables (layout_at t) ≡ true
unfolding same_name
fits zero = refl
fits (suc zero) = refl
fits (suc (suc t)) = refl

-- the tree that is found for a layout
found_at : (t : ℕ) → tree_found both_tables (layout_at t) ≡ Some (texts_at t).0
found_at t = rw (fits t) (tree_at t)

-- a tree without rows is a table without rows
emptied : (db : Database) (l : Layout) (tree : ℕ) → tree_found both_tables l ≡ Some tree → db.schema ≡ both_tables → db.trees tree ≡ []
    → entry_of db l ≡ Some (Stored (kinds_in l) [])
emptied db l tree at is none =
    ap (λ s. entry_in db.trees l (tree_found s l)) is ∙ ap (entry_in db.trees l) at
    ∙ ap (λ rows. Some (Stored (kinds_in l) (map (λ (r : TableRow). r.cells) (rows_in l rows)))) none
  where
    entry_in : Trees → Layout → Option ℕ → Option Entry
    entry_in trees l tree = option_map (λ t. Stored (kinds_in l) (map (λ (r : TableRow). r.cells) (rows_in l (trees t)))) tree

no_rows : (db : Database) (t : ℕ) → db.trees 0 ≡ [] → db.trees 1 ≡ [] → db.trees (texts_at t).0 ≡ []
unfolding texts_at
no_rows db zero first second = first
no_rows db (suc zero) first second = second
no_rows db (suc (suc t)) first second = second

pub entries : (db : Database) (t : ℕ) → db.schema ≡ both_tables → db.trees 0 ≡ [] → db.trees 1 ≡ []
    → entry_of db (layout_at t) ≡ Some (Stored (kinds_in (layout_at t)) [])
entries db t is first second = emptied db (layout_at t) (texts_at t).0 (found_at t) is (no_rows db t first second)
