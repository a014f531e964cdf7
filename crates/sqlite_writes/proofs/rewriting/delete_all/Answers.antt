use Rattle.std.proofs.Common.{rules, ◌≡◌, ◌∙◌, refl, sym, ap, subst, take, get_or, pos, FitsSigned, w64}
use Rattle.std.proofs.lemmas.List.{take_more}
use Rattle.std.proofs.lemmas.Int.{to_z-of_z}
use Rattle.sqlite.specs.Held.{state}
use Rattle.sqlite.specs.Schema.{Schema}
use Rattle.sqlite.specs.Tree.{without_rowid}
use Rattle.sqlite_tables.specs.Tables.{entries_of}
use Rattle.sqlite_writes.specs.Writable.{IsWritable}
use Rattle.sqlite_writes.proofs.Loops.{without_more}
use Rattle.sqlite_writes.proofs.Changed.{keeps_more, step_first, step_then, steps_then}
use Rattle.sqlite_writes.proofs.Reaching.{got, goes_then, deleted}
use Rattle.sqlite_writes.proofs.rewriting.delete_all.Goals as goal

pub delete_row-requires-clause-writable : goal.delete_row-requires-clause-writable
delete_row-requires-clause-writable g c h =
    subst (λ (s : Schema). ∥ IsWritable s c.args.shape.now ∥₁) (sym (c.loop-key.invariant.schema h)) (c.requires.writable h)

pub loop-key-preserved : goal.loop-key-preserved
loop-key-preserved g c =
    let inv = c.loop-key.invariant in
    let old = (state g.S.Store c.args.tx.now.conn.now).now in
    let mid = (state g.S.Store c.loop-key.tx.conn.now).now in
    let new = (state g.S.Store c.delete_row.new.tx.conn.now).now in
    let t = c.args.shape.now in
    let key = get_or c.args.gone.now c.loop-key.key-index (pos 0) in
    let fits : FitsSigned w64 key = search rules in
    let e = to_z-of_z w64 key fits in
    record {
      ref = c.delete_row.ensures.same_reference ∙ inv.ref;
      schema = λ h. c.in-Ok.ensures.schema h ∙ inv.schema h;
      inside = c.in-Ok.ensures.inside;
      ordered = c.in-Ok.ensures.ordered;
      others = λ h. keeps_more old mid new t (inv.schema h) (inv.others h) (c.in-Ok.ensures.others h);
      kept = λ h. c.in-Ok.ensures.kept h ∙ inv.kept h;
      rows = λ h.
          let one : entries_of new t ≡ without_rowid key (entries_of mid t) = rw e at (c.in-Ok.ensures.rows h) in
          rw (take_more c.args.gone.now c.loop-key.key-index (pos 0) c.loop-key-test.true)
          (one ∙ ap (without_rowid key) (inv.rows h)
          ∙ sym (without_more (entries_of old t) (take c.loop-key.key-index c.args.gone.now) key));
      was_clean = λ after. inv.was_clean (c.in-Ok.ensures.was_clean after);
      goes_on = goes_then inv.goes_on c.delete_row.ensures.goes_on;
      sure_steps = λ h.
          let first = inv.sure_steps (step_first c.in-Ok.ensures.was_clean h) in
          steps_then first (c.in-Ok.ensures.sure_steps (step_then first h));
      sure_kept = λ h.
          let before = step_first c.in-Ok.ensures.was_clean h in
          c.in-Ok.ensures.sure_kept (step_then (inv.sure_steps before) h) ∙ inv.sure_kept before;
      sure_rows = λ h.
          let before = step_first c.in-Ok.ensures.was_clean h in
          let one : entries_of new t ≡ without_rowid key (entries_of mid t) =
          rw e at (c.in-Ok.ensures.sure_rows (step_then (inv.sure_steps before) h)) in
          rw (take_more c.args.gone.now c.loop-key.key-index (pos 0) c.loop-key-test.true)
          (one ∙ ap (without_rowid key) (inv.sure_rows before)
          ∙ sym (without_more (entries_of old t) (take c.loop-key.key-index c.args.gone.now) key));
    }

pub returns-in-Err-clause-sure_kept : goal.returns-in-Err-clause-sure_kept
returns-in-Err-clause-sure_kept g c h =
    let inv = c.loop-key.invariant in
    let before = step_first c.delete_row.ensures.was_clean h in
    c.delete_row.ensures.sure_kept (step_then (inv.sure_steps before) h) ∙ inv.sure_kept before

pub returns-in-Err-clause-was_clean : goal.returns-in-Err-clause-was_clean
returns-in-Err-clause-was_clean g c after = c.loop-key.invariant.was_clean (c.delete_row.ensures.was_clean after)

pub returns-in-Err-clause-goes_on : goal.returns-in-Err-clause-goes_on
returns-in-Err-clause-goes_on g c = goes_then c.loop-key.invariant.goes_on c.delete_row.ensures.goes_on

pub returns-in-Err-clause-sure_failed : goal.returns-in-Err-clause-sure_failed
returns-in-Err-clause-sure_failed g c h =
    let inv = c.loop-key.invariant in
    let old = state g.S.Store c.args.tx.now.conn.now in
    let mid = state g.S.Store c.loop-key.tx.conn.now in
    let t = c.args.shape.now in
    let i = c.loop-key.key-index in
    let key = get_or c.args.gone.now i (pos 0) in
    let fits : FitsSigned w64 key = search rules in
    let e = to_z-of_z w64 key fits in
    let before = step_first c.delete_row.ensures.was_clean h in (
      c.loop-key.tx.conn.now,
      i,
      key,
      got c.args.gone.now i key (pos 0) c.loop-key-test.true refl,
      deleted old mid t (take i c.args.gone.now) before.after (inv.sure_steps before) (inv.sure_rows before)
          (inv.sure_kept before) inv.goes_on,
      rw e at c.in-Err.ensures.reported,
    )
