use Rattle.std.proofs.Common.{◌≡◌, true, IfSome, length, map, sym, subst}
use Rattle.std.specs.List.{list_all}
use Rattle.sqlite.specs.Held.{state}
use Rattle.fdw_api.specs.Prelude.{row_of_change_fits, id_is_there}
use Rattle.wrapper_parts.specs.Staged.{change_is}
use Rattle.sqlite_tables.specs.Prelude.{Layout, IsKnown, kinds_in, rows_of}
use Rattle.sqlite_writes.specs.Writable.{IsWritable}
use Rattle.sqlite_wrapper.proofs.writing.write_rows.Goals as goal

pub write_shape-requires-clause-writable : goal.write_shape-requires-clause-writable
write_shape-requires-clause-writable g c h = subst (λ (l : Layout). ∥ IsWritable c.args.conn.now.schema l ∥₁)
    (sym c.shape_of-shape.ensures) (c.requires.writable h)

pub write_shape-requires-clause-known : goal.write_shape-requires-clause-known
write_shape-requires-clause-known g c h = subst (λ (l : Layout). ∥ IsKnown c.args.conn.now.schema l ∥₁) (sym c.shape_of-shape.ensures)
    (c.requires.known h)

pub write_shape-requires-clause-fits : goal.write_shape-requires-clause-fits
write_shape-requires-clause-fits g c = subst (λ (l : Layout). list_all (row_of_change_fits (kinds_in l))
    (map change_is c.args.changes.items) ≡ true) (sym c.shape_of-shape.ensures) c.requires.fits

pub write_shape-requires-clause-there : goal.write_shape-requires-clause-there
write_shape-requires-clause-there g c h =
    subst (λ (l : Layout). list_all (id_is_there (rows_of (state g.S.Store c.args.conn.now).now l)) (map change_is c.args.changes.items)
    ≡ true) (sym c.shape_of-shape.ensures) (c.requires.there h)

pub write_shape-requires-clause-held : goal.write_shape-requires-clause-held
write_shape-requires-clause-held g c h =
    subst (λ (l : Layout). IfSome c.args.held (λ n. n ≡ length (rows_of (state g.S.Store c.args.conn.now).now l)))
    (sym c.shape_of-shape.ensures) (c.requires.held h)

pub returns-clause-made : goal.returns-clause-made
returns-clause-made g c = rw c.shape_of-shape.ensures at c.write_shape.ensures.made

pub returns-clause-count : goal.returns-clause-count
returns-clause-count g c = rw c.shape_of-shape.ensures at c.write_shape.ensures.count

pub returns-clause-refused : goal.returns-clause-refused
returns-clause-refused g c = rw c.shape_of-shape.ensures at c.write_shape.ensures.refused

pub returns-clause-sure_made : goal.returns-clause-sure_made
returns-clause-sure_made g c = rw c.shape_of-shape.ensures at c.write_shape.ensures.sure_made

pub returns-clause-sure_refused : goal.returns-clause-sure_refused
returns-clause-sure_refused g c = rw c.shape_of-shape.ensures at c.write_shape.ensures.sure_refused

pub returns-clause-sure_same : goal.returns-clause-sure_same
returns-clause-sure_same g c = rw c.shape_of-shape.ensures at c.write_shape.ensures.sure_same

pub returns-clause-reported : goal.returns-clause-reported
returns-clause-reported g c = rw c.shape_of-shape.ensures at c.write_shape.ensures.reported

pub returns-clause-sure_reported : goal.returns-clause-sure_reported
returns-clause-sure_reported g c = rw c.shape_of-shape.ensures at c.write_shape.ensures.sure_reported
