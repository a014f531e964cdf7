use Rattle.std.proofs.Common.{IfSome, sym, subst}
use Rattle.sqlite.specs.Held.{state}
use Rattle.sqlite.specs.View.{IsShaped}
use Rattle.sqlite_trees.specs.declared.store.Shape.TheVariants as stored
use Rattle.sqlite_tables.specs.Prelude.{Layout, IsKnown, IsLookup, entries_of}
use Rattle.sqlite_wrapper.proofs.lookups.look_up.Goals as goal

pub look_in-requires-clause-known : goal.look_in-requires-clause-known
look_in-requires-clause-known g c h = subst (λ (l : Layout). ∥ IsKnown c.args.conn.now.schema l ∥₁) (sym c.shape_of-shape.ensures)
    (c.requires.known h)

pub look_in-requires-clause-shaped : goal.look_in-requires-clause-shaped
look_in-requires-clause-shaped g c h = subst (λ (l : Layout). IsShaped stored.Table (entries_of (state g.S.Store c.args.conn.now).now l))
    (sym c.shape_of-shape.ensures) (c.requires.shaped h)

pub look_in-requires-clause-had : goal.look_in-requires-clause-had
look_in-requires-clause-had g c h =
    subst (λ (l : Layout). IfSome c.args.had (IsLookup l (entries_of (state g.S.Store c.args.conn.now).now l)))
    (sym c.shape_of-shape.ensures) (c.requires.had h)

pub returns-clause-answered : goal.returns-clause-answered
returns-clause-answered g c = rw c.shape_of-shape.ensures at c.look_in.ensures.answered

pub returns-clause-sure_answered : goal.returns-clause-sure_answered
returns-clause-sure_answered g c = rw c.shape_of-shape.ensures at c.look_in.ensures.sure_answered

pub returns-clause-reads : goal.returns-clause-reads
returns-clause-reads g c = rw c.shape_of-shape.ensures at c.look_in.ensures.reads
