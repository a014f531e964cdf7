use Rattle.std.proofs.Common.{[], ◌∷◌, w64}
use Rattle.std.proofs.lemmas.Int.{to_z-of_z}
use Rattle.sqlite.specs.Held.{state}
use Rattle.sqlite.specs.State.{FailsToQuery, HasCleanDisk}
use Rattle.sqlite.specs.declared.types.Value.TheVariants.{Int}
use Rattle.sqlite_tables.proofs.Reported.{reported_if}
use Rattle.sqlite_tables.proofs.StoreTables.{steady_table}
use Rattle.sqlite_tables.proofs.steady.page_of.Goals as goal

pub returns-clause-rows : goal.returns-clause-rows
returns-clause-rows g c honest tree shown is =
    let s = g.met.S.SourceStore.steady honest in
    let a = to_z-of_z w64 c.args.low c.ranges.low in
    let b = to_z-of_z w64 c.args.high c.ranges.high in
    rw (a, b) at
    (c.page.ensures.rows (s c.page.new.conn.store).clean tree shown 64 is.reads
    (steady_table g.S.Store c.args.conn.now c.args.text.now tree shown (s c.args.conn.now.store) c.schema-schema.ensures.live is))

pub returns-clause-same : goal.returns-clause-same
returns-clause-same g c honest tree shown is =
    let s = g.met.S.SourceStore.steady honest (c.page.new.conn.store) in
    c.page.ensures.same s.clean s.is_open tree shown 64 is.reads

pub returns-clause-understood : goal.returns-clause-understood
returns-clause-understood g c honest tree shown is =
    c.page.ensures.understood (g.met.S.SourceStore.steady honest (c.page.new.conn.store)).clean tree shown 64 is.reads

pub returns-clause-unread : goal.returns-clause-unread
returns-clause-unread g c honest fault bad =
    let s = g.met.S.SourceStore.steady honest (c.page.new.conn.store) in
    c.page.ensures.unread s.clean s.is_open fault bad

pub returns-clause-ordered : goal.returns-clause-ordered
returns-clause-ordered g c honest tree shown is =
    steady_table g.S.Store c.args.conn.now c.args.text.now tree shown
    (g.met.S.SourceStore.steady honest c.args.conn.now.store) c.schema-schema.ensures.live is

pub returns-clause-clean_rows : goal.returns-clause-clean_rows
returns-clause-clean_rows g c after tree shown is shaped =
    let a = to_z-of_z w64 c.args.low c.ranges.low in
    let b = to_z-of_z w64 c.args.high c.ranges.high in
    rw (a, b) at (c.page.ensures.rows after.clean tree shown 64 is.reads shaped)

pub returns-clause-clean_same : goal.returns-clause-clean_same
returns-clause-clean_same g c after tree shown is = c.page.ensures.same after.clean after.is_open tree shown 64 is.reads

pub returns-clause-clean_understood : goal.returns-clause-clean_understood
returns-clause-clean_understood g c after tree shown is = c.page.ensures.understood after.clean tree shown 64 is.reads

pub returns-clause-clean_unread : goal.returns-clause-clean_unread
returns-clause-clean_unread g c after fault bad = c.page.ensures.unread after.clean after.is_open fault bad

pub returns-clause-was_clean : goal.returns-clause-was_clean
returns-clause-was_clean g c after =
    let before = c.page.ensures.was_clean after.clean after.is_open in
    record { clean = before.0; is_open = before.1 }

pub returns-clause-reported : goal.returns-clause-reported
returns-clause-reported g c =
    let a = to_z-of_z w64 c.args.low c.ranges.low in
    let b = to_z-of_z w64 c.args.high c.ranges.high in
    let told = rw (a, b) at c.page.ensures.reported in
    reported_if c.page.result (HasCleanDisk (state g.S.Store c.page.new.conn))
    (FailsToQuery c.args.text.now (Int c.args.low ∷ Int c.args.high ∷ []) (state g.S.Store c.args.conn.now)
    (state g.S.Store c.page.new.conn)) told
