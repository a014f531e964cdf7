-- The three texts of a shape of tables, and what they mean in a database of one such table alone.
use Rattle.std.specs.Prelude.{◌≡◌, ℕ, List, [], ◌∷◌, map, Some, None, codes, false, refl}
use Rattle.sqlite.specs.declared.types.Value.TheVariants.{Null}
use Rattle.sqlite.specs.Collation.TheVariants.{Binary}
use Rattle.sqlite.specs.Command.TheVariants.{Select, Delete, Insert}
use Rattle.sqlite.specs.Source.TheVariants.{Values}
use Rattle.sqlite.specs.Kind.{Kind}
use Rattle.sqlite.specs.Kind.TheVariants.{Integer, Text}
use Rattle.sqlite.specs.Table.{Table}
use Rattle.sqlite.specs.Schema.{Schema}
use Rattle.sqlite.specs.Given.{IsPlain}
use Rattle.sqlite.specs.Listing.{understood, reads_listing}
use Rattle.sqlite_tied.specs.Compute.{everything}
use Rattle.sqlite_looks.specs.Pages.{command_of, page_query}
use Rattle.sqlite_looks.specs.Changes.{cell_term, delete_query}
use Rattle.sqlite_tables.specs.Layouts.{Layout, further_kinds, orders, people, places}
use Rattle.sqlite_tables.specs.Texts.{IsDeleteFrom, IsInsertInto, IsPageOf, ShowsAgain}

-- under this schema the three texts of a layout are for the table in this tree: they read a page of it, take a row out, and put one in,
-- which a page then shows as it was put in
pub record AreTexts (schema : Schema) (l : Layout) (tree : ℕ) : Type 0 where
  pub page : IsPageOf schema l.page tree (places l)
  pub delete : IsDeleteFrom schema l.deleting tree
  pub insert : IsInsertInto schema l.inserting tree l.cells (further_kinds l)
  pub again : ShowsAgain l

-- the schema of a database that has one table
abbrev pub alone : Table → Schema
alone table = record { tables = table ∷ []; indexes = []; views = [] }

-- in a database of this table alone, which has the layout's name, the three texts of the layout are for it
abbrev pub IsShape : Layout → Table → Type 0
IsShape l table = (table.name ≡ l.name) × AreTexts (alone table) l table.tree

-- a table of an integer key and two further columns, which has its rows in this tree
abbrev pub keyed_table : List ℕ → ℕ → List ℕ → Kind → List ℕ → Kind → Table
keyed_table name tree second second_kind third third_kind = record {
  name = name;
  tree = tree;
  columns = (record { name = codes "id"; kind = Integer; is_strict = false; not_null = false; default = Null; collation = Binary })
      ∷ (record { name = second; kind = second_kind; is_strict = false; not_null = false; default = Null; collation = Binary })
      ∷ (record { name = third; kind = third_kind; is_strict = false; not_null = false; default = Null; collation = Binary }) ∷ [];
  key = Some 0;
  primary = 0 ∷ [];
  uniques = [];
  orders = [];
  checks = [];
  references = [];
  computed = [];
  stamps = record { places = []; terms = []; formats = [] };
  is_counted = false;
}

-- the tables of the shipped shapes, in any tree
abbrev pub orders_table : ℕ → Table
orders_table tree = keyed_table orders.name tree (codes "part") Integer (codes "n") Integer

abbrev pub people_table : ℕ → Table
people_table tree = keyed_table people.name tree (codes "name") Text (codes "active") Integer

orders_page : command_of (understood (alone (orders_table 0)) orders.page)
    ≡ Select (record { lets = []; body = page_query 0 (0 ∷ 2 ∷ 3 ∷ []) 64 }) (codes "id" ∷ codes "part" ∷ codes "n" ∷ [])
unfolding understood everything
orders_page = refl

people_page : command_of (understood (alone (people_table 0)) people.page)
    ≡ Select (record { lets = []; body = page_query 0 (0 ∷ 2 ∷ 3 ∷ []) 64 }) (codes "id" ∷ codes "name" ∷ codes "active" ∷ [])
unfolding understood everything
people_page = refl

orders_delete : command_of (understood (alone (orders_table 0)) orders.deleting) ≡ Delete 0 (record { lets = []; body = delete_query 0 })
unfolding understood everything
orders_delete = refl

people_delete : command_of (understood (alone (people_table 0)) people.deleting) ≡ Delete 0 (record { lets = []; body = delete_query 0 })
unfolding understood everything
people_delete = refl

orders_insert : command_of (understood (alone (orders_table 0)) orders.inserting) ≡ Insert 0
    (Values (map cell_term (Some 0 ∷ None ∷ Some 1 ∷ Some 2 ∷ [])) 4)
unfolding understood everything
orders_insert = refl

people_insert : command_of (understood (alone (people_table 0)) people.inserting) ≡ Insert 0
    (Values (map cell_term (Some 0 ∷ None ∷ Some 1 ∷ Some 2 ∷ [])) 4)
unfolding understood everything
people_insert = refl

orders_plain : IsPlain (understood (alone (orders_table 0)) orders.page)
    × IsPlain (understood (alone (orders_table 0)) orders.deleting) × IsPlain (understood (alone (orders_table 0)) orders.inserting)
unfolding understood everything
orders_plain = ((refl, refl), (refl, refl), (refl, refl))

people_plain : IsPlain (understood (alone (people_table 0)) people.page)
    × IsPlain (understood (alone (people_table 0)) people.deleting) × IsPlain (understood (alone (people_table 0)) people.inserting)
unfolding understood everything
people_plain = ((refl, refl), (refl, refl), (refl, refl))

unlisted : (reads_listing (alone (orders_table 0)) orders.page ≡ false) × (reads_listing (alone (people_table 0)) people.page ≡ false)
unfolding understood everything
unlisted = (refl, refl)

-- the three texts of each shipped shape are for its table
pub orders_texts : IsShape orders (orders_table 0)
orders_texts = (
  refl,
  record {
    page = record {
      reads = record { names = _; is = orders_page; plain = orders_plain.0; unlisted = unlisted.0 };
      place = 0;
      table = orders_table 0;
      at = refl;
      tree_is = refl;
    };
    delete = record {
      place = 0;
      target = record { table = orders_table 0; at = refl; tree_is = refl; free = λ olds news. refl };
      deletes = record { is = orders_delete; plain = orders_plain.1 };
    };
    insert = record {
      place = 0;
      target = record { table = orders_table 0; at = refl; tree_is = refl; free = λ olds news. refl };
      inserts = record { is = orders_insert; plain = orders_plain.2 };
      kinds_are = refl;
      uncounted = refl;
      unstamped = refl;
    };
    again = refl;
  },
)

pub people_texts : IsShape people (people_table 0)
people_texts = (
  refl,
  record {
    page = record {
      reads = record { names = _; is = people_page; plain = people_plain.0; unlisted = unlisted.1 };
      place = 0;
      table = people_table 0;
      at = refl;
      tree_is = refl;
    };
    delete = record {
      place = 0;
      target = record { table = people_table 0; at = refl; tree_is = refl; free = λ olds news. refl };
      deletes = record { is = people_delete; plain = people_plain.1 };
    };
    insert = record {
      place = 0;
      target = record { table = people_table 0; at = refl; tree_is = refl; free = λ olds news. refl };
      inserts = record { is = people_insert; plain = people_plain.2 };
      kinds_are = refl;
      uncounted = refl;
      unstamped = refl;
    };
    again = refl;
  },
)
