use Rattle.std.proofs.Common.{◌≡◌, true, [], map, IfErr, OnOk, sym, subst}
use Rattle.sqlite.specs.Held.{state}
use Rattle.med_value.specs.Causes.{phase_of}
use Rattle.fdw_api.specs.Prelude.{IsLeast, column_of, kinds_of, is_late}
use Rattle.sqlite_tables.specs.Prelude.{Layout, IsKnown, IsSure, OnlyBy, causes_of, kinds_in, types_match}
use Rattle.sqlite_wrapper.proofs.watched.open_table.Goals as goal

pub open_shape-requires-clause-known : goal.open_shape-requires-clause-known
open_shape-requires-clause-known g c h = subst (λ (l : Layout). ∥ IsKnown c.args.conn.now.schema l ∥₁) (sym c.shape_of-shape.ensures)
    (c.requires.known h)

pub returns-clause-types : goal.returns-clause-types
returns-clause-types g c =
    subst (λ (l : Layout). OnOk c.open_shape.result (types_match (kinds_in l) (kinds_of (map column_of c.args.columns.now)) ≡ true))
    c.shape_of-shape.ensures c.open_shape.ensures.types

pub returns-clause-fits : goal.returns-clause-fits
returns-clause-fits g c = rw c.shape_of-shape.ensures at c.open_shape.ensures.fits

pub returns-clause-ok : goal.returns-clause-ok
returns-clause-ok g c =
    subst (λ (l : Layout). g.S.SourceStore.honest ≡ true → OnOk c.open_shape.result
    (causes_of (map column_of c.args.columns.now) (state g.S.Store c.args.conn.now).now l ≡ []))
    c.shape_of-shape.ensures c.open_shape.ensures.ok

pub returns-clause-count : goal.returns-clause-count
returns-clause-count g c = rw c.shape_of-shape.ensures at c.open_shape.ensures.count

pub returns-clause-once : goal.returns-clause-once
returns-clause-once g c = rw c.shape_of-shape.ensures at c.open_shape.ensures.once

pub returns-clause-refused : goal.returns-clause-refused
returns-clause-refused g c =
    subst (λ (l : Layout). IfErr c.open_shape.result (OnlyBy (λ d. (is_late (phase_of d) ≡ true)
    × (g.S.SourceStore.honest ≡ true → IsLeast (causes_of (map column_of c.args.columns.now) (state g.S.Store c.args.conn.now).now l)
    d))))
    c.shape_of-shape.ensures c.open_shape.ensures.refused

pub returns-clause-sure_ok : goal.returns-clause-sure_ok
returns-clause-sure_ok g c =
    subst (λ (l : Layout). IsSure (state g.S.Store c.args.conn.now) (state g.S.Store c.open_shape.new.conn) l
    → OnOk c.open_shape.result (causes_of (map column_of c.args.columns.now) (state g.S.Store c.args.conn.now).now l ≡ []))
    c.shape_of-shape.ensures c.open_shape.ensures.sure_ok

pub returns-clause-sure_count : goal.returns-clause-sure_count
returns-clause-sure_count g c = rw c.shape_of-shape.ensures at c.open_shape.ensures.sure_count

pub returns-clause-sure_once : goal.returns-clause-sure_once
returns-clause-sure_once g c = rw c.shape_of-shape.ensures at c.open_shape.ensures.sure_once

pub returns-clause-sure_refused : goal.returns-clause-sure_refused
returns-clause-sure_refused g c =
    subst (λ (l : Layout). IfErr c.open_shape.result (OnlyBy
    (λ d. IsSure (state g.S.Store c.args.conn.now) (state g.S.Store c.open_shape.new.conn) l
    → IsLeast (causes_of (map column_of c.args.columns.now) (state g.S.Store c.args.conn.now).now l) d)))
    c.shape_of-shape.ensures c.open_shape.ensures.sure_refused

pub returns-clause-reads : goal.returns-clause-reads
returns-clause-reads g c = rw c.shape_of-shape.ensures at c.open_shape.ensures.reads
