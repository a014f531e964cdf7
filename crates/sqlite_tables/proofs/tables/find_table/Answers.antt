use Rattle.std.proofs.Common.{◌≡◌, ℕ, pos, List, [], ◌∷◌, inl, inr, true, false, refl, subst, rules}
use Rattle.sqlite.specs.Held.{state}
use Rattle.sqlite.specs.State.{FailsToQuery}
use Rattle.sqlite.specs.declared.types.Value.TheVariants.{Int}
use Rattle.sqlite_tables.specs.Fitting.{is_of_shape}
use Rattle.sqlite_tables.specs.Tables.{entries_of}
use Rattle.sqlite_tables.proofs.Once.{ids_once}
use Rattle.sqlite_tables.proofs.Settled.{settled, was_read, was_refused, was_once, page_reads}
use Rattle.sqlite_tables.proofs.Refused.{only_more}
use Rattle.sqlite_tables.proofs.Found.{fit_is_found, misfit_is_none, unread_is_none}
use Rattle.sqlite_tables.proofs.tables.find_table.Goals as goal

pub returns-in-Ok-clause-once : goal.returns-in-Ok-clause-once
returns-in-Ok-clause-once g c h =
    was_once (state g.S.Store c.args.conn.now).now c.args.shape.now c.page_text.result.now c.page_text.ensures (c.requires.known h)
    (c.page_of.ensures.ordered h)

pub returns-in-Ok-2-clause-once : goal.returns-in-Ok-2-clause-once
returns-in-Ok-2-clause-once g c h =
    was_once (state g.S.Store c.args.conn.now).now c.args.shape.now c.page_text.result.now c.page_text.ensures (c.requires.known h)
    (c.page_of.ensures.ordered h)

pub returns-in-Err-clause-once : goal.returns-in-Err-clause-once
returns-in-Err-clause-once g c h =
    was_once (state g.S.Store c.args.conn.now).now c.args.shape.now c.page_text.result.now c.page_text.ensures (c.requires.known h)
    (c.page_of.ensures.ordered h)

pub returns-in-Ok-clause-found : goal.returns-in-Ok-clause-found
returns-in-Ok-clause-found g c h =
    let fits : is_of_shape c.args.conn.now.schema c.args.shape.now ≡ true = search rules in
    fit_is_found c.args.conn.now.schema c.args.shape.now fits
    (was_read (state g.S.Store c.args.conn.now).now c.args.shape.now c.page_text.result.now c.page_text.ensures (c.requires.known h)
    (λ fault bad. (c.in-Ok.ensures.unread h fault bad).1))

pub returns-in-Err-clause-refused : goal.returns-in-Err-clause-refused
returns-in-Err-clause-refused g c =
    only_more _ _ c.fault_of_text.result
    (λ cause by. (
      by.0,
      λ h.
          unread_is_none c.args.conn.now.schema c.args.shape.now
          (was_refused (state g.S.Store c.args.conn.now).now c.args.shape.now c.page_text.result.now c.page_text.ensures
          (c.requires.known h)
          (λ tree shown is. c.in-Err.ensures.understood h tree shown is by.1.0 by.1.1)),
    ))
    c.fault_of_text.ensures.refused

pub returns-in-Ok-clause-same : goal.returns-in-Ok-clause-same
returns-in-Ok-clause-same g c h =
    settled (state g.S.Store c.args.conn.now).now
    (state g.S.Store c.page_of.new.conn).now c.args.shape.now c.page_text.result.now c.page_text.ensures (c.requires.known h)
    (c.page_of.ensures.same h) (c.page_of.ensures.unread h)

pub returns-in-Ok-2-clause-same : goal.returns-in-Ok-2-clause-same
returns-in-Ok-2-clause-same g c h =
    settled (state g.S.Store c.args.conn.now).now
    (state g.S.Store c.page_of.new.conn).now c.args.shape.now c.page_text.result.now c.page_text.ensures (c.requires.known h)
    (c.page_of.ensures.same h) (c.page_of.ensures.unread h)

pub returns-in-Err-clause-same : goal.returns-in-Err-clause-same
returns-in-Err-clause-same g c h =
    settled (state g.S.Store c.args.conn.now).now
    (state g.S.Store c.page_of.new.conn).now c.args.shape.now c.page_text.result.now c.page_text.ensures (c.requires.known h)
    (c.page_of.ensures.same h) (c.page_of.ensures.unread h)

pub returns-in-Ok-clause-sure_once : goal.returns-in-Ok-clause-sure_once
returns-in-Ok-clause-sure_once g c h = ids_once c.args.shape.now
    (entries_of (state g.S.Store c.args.conn.now).now c.args.shape.now) h.ordered

pub returns-in-Ok-2-clause-sure_once : goal.returns-in-Ok-2-clause-sure_once
returns-in-Ok-2-clause-sure_once g c h = ids_once c.args.shape.now
    (entries_of (state g.S.Store c.args.conn.now).now c.args.shape.now) h.ordered

pub returns-in-Err-clause-sure_once : goal.returns-in-Err-clause-sure_once
returns-in-Err-clause-sure_once g c h = ids_once c.args.shape.now
    (entries_of (state g.S.Store c.args.conn.now).now c.args.shape.now) h.ordered

pub returns-in-Ok-clause-sure_found : goal.returns-in-Ok-clause-sure_found
returns-in-Ok-clause-sure_found g c after known =
    let fits : is_of_shape c.args.conn.now.schema c.args.shape.now ≡ true = search rules in
    fit_is_found c.args.conn.now.schema c.args.shape.now fits
    (was_read (state g.S.Store c.args.conn.now).now c.args.shape.now c.page_text.result.now c.page_text.ensures known
    (λ fault bad. (c.in-Ok.ensures.clean_unread after fault bad).1))

pub returns-in-Ok-2-clause-sure_refused : goal.returns-in-Ok-2-clause-sure_refused
returns-in-Ok-2-clause-sure_refused g c after known =
    let misfit : is_of_shape c.args.conn.now.schema c.args.shape.now ≡ false = search rules in
    misfit_is_none c.args.conn.now.schema c.args.shape.now misfit

pub returns-in-Err-clause-sure_refused : goal.returns-in-Err-clause-sure_refused
returns-in-Err-clause-sure_refused g c =
    only_more _ _ c.fault_of_text.result
    (λ cause by after known.
    unread_is_none c.args.conn.now.schema c.args.shape.now
    (was_refused (state g.S.Store c.args.conn.now).now c.args.shape.now c.page_text.result.now c.page_text.ensures known
    (λ tree shown is. c.in-Err.ensures.clean_understood after tree shown is by.1.0 by.1.1)))
    c.fault_of_text.ensures.refused

pub returns-in-Ok-clause-reads : goal.returns-in-Ok-clause-reads
returns-in-Ok-clause-reads g c =
    page_reads (state g.S.Store c.args.conn.now)
    (state g.S.Store c.page_of.new.conn) c.args.shape.now c.page_text.result.now c.page_text.ensures c.page_of.ensures.was_clean
    c.page_of.ensures.clean_same c.page_of.ensures.clean_unread

pub returns-in-Ok-2-clause-reads : goal.returns-in-Ok-2-clause-reads
returns-in-Ok-2-clause-reads g c =
    page_reads (state g.S.Store c.args.conn.now)
    (state g.S.Store c.page_of.new.conn) c.args.shape.now c.page_text.result.now c.page_text.ensures c.page_of.ensures.was_clean
    c.page_of.ensures.clean_same c.page_of.ensures.clean_unread

pub returns-in-Err-clause-reads : goal.returns-in-Err-clause-reads
returns-in-Err-clause-reads g c =
    page_reads (state g.S.Store c.args.conn.now)
    (state g.S.Store c.page_of.new.conn) c.args.shape.now c.page_text.result.now c.page_text.ensures c.page_of.ensures.was_clean
    c.page_of.ensures.clean_same c.page_of.ensures.clean_unread

pub returns-in-Ok-2-clause-reported : goal.returns-in-Ok-2-clause-reported
returns-in-Ok-2-clause-reported g c = inl refl

pub returns-in-Err-clause-reported : goal.returns-in-Err-clause-reported
returns-in-Err-clause-reported g c = elim c.fault_of_text.ensures.is [
  | inl missing ↦ inl missing
  | inr failure ↦ inr (
    c.in-Err.error,
    failure,
    λ clean. subst (λ (text : List ℕ). FailsToQuery text (Int (pos 1) ∷ Int (pos 0) ∷ []) (state g.S.Store c.args.conn.now)
        (state g.S.Store c.page_of.new.conn) c.in-Err.error) c.page_text.ensures (c.in-Err.ensures.reported clean),
  )
]
