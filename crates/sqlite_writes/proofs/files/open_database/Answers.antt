use Rattle.sqlite_writes.proofs.Standing.{found_there}
use Rattle.sqlite_writes.proofs.files.open_database.Goals as goal

pub returns-clause-there : goal.returns-clause-there
returns-clause-there g c = λ honest.
    let conn = c.in_ok-opened.opened.conn in
    found_there g.V.Store.Store conn (g.met.V.Store.SourceStore.steady honest conn.store) _ _ _ c.in_ok-files.ensures.found
    c.is_autocommit-idle.ensures.value c.in_ok-opened.ensures.idle
    c.is_autocommit-idle.ensures.settled c.schema-schema.ensures.live c.in_ok-opened.ensures.found
