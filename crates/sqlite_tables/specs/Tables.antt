-- What a database holds for a layout, and the pages of its rows.
use Rattle.std.specs.Prelude.{◌≡◌, ◌⊎◌, ℕ, ℤ, pos, ◌+ℤ◌, List, [], ◌∷◌, map, length, nat_eq, if◌then◌else◌, Option, Some, None}
use Rattle.std.specs.Prelude.{option_map, Err}
use Rattle.sqlite.specs.Effect.{Database}
use Rattle.sqlite.specs.State.{State}
use Rattle.sqlite.specs.View.{IsShaped}
use Rattle.sqlite_trees.specs.declared.store.Shape.TheVariants as shape
use Rattle.sqlite.specs.Schema.{Schema}
use Rattle.sqlite.specs.Order.{Row as SqlRow}
use Rattle.sqlite.specs.Command.{Command}
use Rattle.sqlite.specs.Command.TheVariants.{Select}
use Rattle.sqlite.specs.Query.{inner}
use Rattle.sqlite_sql.specs.Query.{Join}
use Rattle.sqlite.specs.Listing.{understood}
use Rattle.sqlite_trees.specs.Tree.{Trees}
use Rattle.sqlite_resolve.specs.declared.error.CompileError.{CompileError}
use Rattle.sqlite_looks.specs.Pages.{command_of, range_of}
use Rattle.sqlite_tables.specs.Steady.{IsCleanAfter}
use Rattle.fdw_api.specs.Prelude.{TableRow, Entry, Stored}
use Rattle.sqlite_tables.specs.Layouts.{Layout, kinds_in, places}
use Rattle.sqlite_tables.specs.Texts.{IsPageOf, page_size}
use Rattle.sqlite_tables.specs.Cells.{rows_in, key_in}
use Rattle.sqlite_tables.specs.Fitting.{is_of_shape}

-- the tree that a page text reads; none where the text is not understood
abbrev pub first_tree : Join → Option ℕ
first_tree (inner t more) = Some t
first_tree _ = None

abbrev pub tree_read : Command → Option ℕ
tree_read (Select q names) = first_tree q.body.from
tree_read _ = None

abbrev pub tree_of : Schema → Layout → Option ℕ
tree_of schema l = tree_read (command_of (understood schema l.page))

abbrev pub entries_at : Trees → Option ℕ → List SqlRow
entries_at trees None = []
entries_at trees (Some t) = trees t

-- what the database holds for a layout, and its rows as the interface shows them
abbrev pub entries_of : Database → Layout → List SqlRow
entries_of db l = entries_at db.trees (tree_of db.schema l)

abbrev pub rows_of : Database → Layout → List TableRow
rows_of db l = rows_in l (entries_of db l)

-- each layout's page text either is not understood or reads a page of a table
abbrev pub IsKnown : Schema → Layout → Type 0
IsKnown schema l = ((fault : CompileError) × (understood schema l.page ≡ Err fault))
    ⊎ ((tree : ℕ) × IsPageOf schema l.page tree (places l))

-- a call on the table of a layout that changes nothing, where the disk is clean as it ends and the layout's page text is known; and then
-- the disk was clean as it began
pub record ReadsOnly (old new : State) (l : Layout) : Type 0 where
  pub was_clean : IsCleanAfter new → IsCleanAfter old
  pub same : IsCleanAfter new → ∥ IsKnown old.now.schema l ∥₁ → new.now ≡ old.now

-- what makes a call on the table of a layout sure: as it ends the disk is clean, and as it begins the layout's page text is known and the
-- table's rows are in the order of their keys. Each call over a store that always returns what was written is sure
pub record IsSure (old new : State) (l : Layout) : Type 0 where
  pub after : IsCleanAfter new
  pub known : ∥ IsKnown old.now.schema l ∥₁
  pub ordered : IsShaped shape.Table (entries_of old.now l)

-- the tree of the table that is found for a layout: none where the stored table is not of the layout's shape
abbrev pub tree_found : Schema → Layout → Option ℕ
tree_found schema l = if is_of_shape schema l then tree_of schema l else None

-- the entry of a layout: None where no table is found for it
abbrev pub entry_of : Database → Layout → Option Entry
entry_of db l = option_map (λ t. Stored (kinds_in l) (map (λ r. r.cells) (rows_in l (db.trees t)))) (tree_found db.schema l)

-- the first key after those of the rows of a page
abbrev pub behind : ℤ → List SqlRow → ℤ
behind low [] = low
behind low (r ∷ rs) = behind (key_in r +ℤ pos 1) rs

-- the rows of a key range after a page of it: those of the keys after the page where it is full, and none where it is not
abbrev pub rest_of : Layout → ℤ → ℤ → List SqlRow → List SqlRow → List SqlRow
rest_of l low high entries page = if nat_eq (length page) page_size then range_of (places l) (behind low page) high entries else []
