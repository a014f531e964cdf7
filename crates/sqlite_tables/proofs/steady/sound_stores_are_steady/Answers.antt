use Rattle.sqlite_tables.proofs.StoreTables.{sound_is_steady}
use Rattle.sqlite_tables.proofs.steady.sound_stores_are_steady.Goals as goal

pub returns : goal.returns
returns g c s sound = sound_is_steady (g.S.Store.view s) (g.met.S.Store.shut_if_dirty s) (g.met.S.Store.broken_if_shut s)
    (g.met.S.Store.ordered s) (g.met.S.Alter.listed s) sound
