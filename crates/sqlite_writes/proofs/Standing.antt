-- The database at a path, over a store that always returns what was written.
use Rattle.std.proofs.Common.{◌≡◌, ◌∙◌, Bool, false, not, Option, Some, None, IfSome, IsTrue, sym, ap, subst}
use Rattle.sqlite_trees.specs.Tree.{Trees}
use Rattle.sqlite_trees.specs.declared.store.Store.{Ghosts}
use Rattle.sqlite_wal.specs.Recovery.{Image}
use Rattle.sqlite.specs.Effect.{Database, IsDatabase}
use Rattle.sqlite.specs.Files.{AreFoundIn}
use Rattle.sqlite.specs.Held.{Held, state}
use Rattle.sqlite.specs.State.{IsLive}
use Rattle.sqlite_tables.specs.Steady.{IsSteady}
use Rattle.sqlite_writes.specs.Found.{IsFoundIn, ShowsKnown}

module _ {S : Type 0} (g : Ghosts S) (c : Held S) (steady : IsSteady (g.view c.store)) where
  -- such a store is clean, and its connection sees what was committed
  found_by : (stands : Option Image) → (state g c).now ≡ (state g c).committed → IsDatabase (state g c).now → ShowsKnown stands (state g c)
      → IfSome stands (λ image. IsFoundIn image (state g c).now)
  found_by None same lists shows = tt
  found_by (Some image) same lists shows =
      let found = shows steady.clean in
      let trees : (state g c).now.trees ≡ (state g c).committed.trees = ap (λ (db : Database). db.trees) same in
      record {
        holds = λ db holds. trees ∙ found.holds db holds;
        reads = subst (λ (ts : Trees). AreFoundIn image ts) (sym trees) found.reads;
        lists = lists;
      }

  -- of files that hold those at the path
  held_there : (stands held : Option Image) → IfSome stands (λ image. held ≡ Some image) → ShowsKnown held (state g c)
      → ShowsKnown stands (state g c)
  held_there None held is shows = tt
  held_there (Some image) held is shows = subst (λ (it : Option Image). ShowsKnown it (state g c)) is shows

  -- and does so outside a transaction
  pub found_there : (stands held : Option Image) (idle : Bool) → IfSome stands (λ image. held ≡ Some image) → idle ≡ not c.in_transaction
      → c.in_transaction ≡ false → (IsTrue idle → IsTrue (state g c).is_open → (state g c).now ≡ (state g c).committed) → IsLive (state g c)
      → ShowsKnown held (state g c) → IfSome stands (λ image. IsFoundIn image (state g c).now)
  found_there stands held idle holds is none settled live shows =
      found_by stands (settled (is ∙ ap not none) steady.is_open) (live steady.is_open).0 (held_there stands held holds shows)
