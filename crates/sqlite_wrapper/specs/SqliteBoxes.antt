-- A new SQLite source.
use Rattle.std.specs.Prelude.{◌≡◌, Bool, false}
use Rattle.sqlite.specs.Effect.{Database}
use Rattle.fdw_api.specs.State.{BoxState, IsIdle}
use Rattle.sqlite_wrapper.specs.Kinds.{sqlite_kind}
use Rattle.sqlite_wrapper.specs.Boxes.{held_in}

-- a new source of this database, as honest as its store: nothing bound, live or staged, and no row given
pub record IsNewSqlite (honest : Bool) (db : Database) (s : BoxState) : Type 0 where
  pub kind : s.nature.kind ≡ sqlite_kind
  pub honest_is : s.nature.honest ≡ honest
  pub numbers : s.nature.skips ≡ false
  pub idle : IsIdle s
  pub next : s.ledger.next ≡ 0
  pub pulled : s.ledger.pulled ≡ 0
  pub faults : s.ledger.faults ≡ 0
  pub holdings : s.content.holdings ≡ held_in db
