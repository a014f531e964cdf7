use Rattle.std.proofs.Common.{◌≡◌, ◌∙◌, ℕ, ◌+◌, suc, true, false, List, [], sym, ap, subst, take, map, arith}
use Rattle.std.proofs.lemmas.Simd.{map-map}
use Rattle.std.proofs.lemmas.List.{take-map}
use Rattle.sqlite.specs.Held.{state}
use Rattle.sqlite.specs.Schema.{Schema}
use Rattle.sqlite.specs.Tree.{put_row}
use Rattle.sqlite.specs.Edit.{put_all, is_taken, are_fresh}
use Rattle.med_value.specs.Datum.{tuple}
use Rattle.med_value.specs.declared.value.Row.{Row}
use Rattle.sqlite_tables.specs.Tables.{entries_of}
use Rattle.sqlite_tables.proofs.Refused.{only_more}
use Rattle.sqlite.specs.Order.{Row as SqlRow}
use Rattle.sqlite_writes.specs.Writable.{IsWritable}
use Rattle.sqlite_writes.specs.Rewriting.{stored_cells}
use Rattle.sqlite_writes.proofs.Loops.{put_more, fresh_more, repeats}
use Rattle.sqlite_writes.proofs.Changed.{keeps_more, step_first, step_then, steps_then}
use Rattle.sqlite_writes.proofs.Written.{written_of}
use Rattle.sqlite_writes.specs.Failing.{Reaches}
use Rattle.sqlite_writes.proofs.Reaching.{got_map, goes_then, inserted}
use Rattle.sqlite_writes.proofs.rewriting.insert_all.Goals as goal

pub insert_row-requires-clause-writable : goal.insert_row-requires-clause-writable
insert_row-requires-clause-writable g c h =
    subst (λ (s : Schema). ∥ IsWritable s c.args.shape.now ∥₁) (sym (c.loop-row.invariant.schema h)) (c.requires.writable h)

pub loop-row-preserved : goal.loop-row-preserved
loop-row-preserved g c =
    let inv = c.loop-row.invariant in
    let old = (state g.S.Store c.args.tx.now.conn.now).now in
    let mid = (state g.S.Store c.loop-row.tx.conn.now).now in
    let new = (state g.S.Store c.insert_row.new.tx.conn.now).now in
    let t = c.args.shape.now in
    let xs = c.args.fresh.now in
    let i = c.loop-row.row-index in
    let row = c.row-item.result in
    let f = λ (r : Row). stored_cells t (tuple r) in
    let on : i + 1 ≡ suc i = omega arith in
    record {
      ref = c.insert_row.ensures.same_reference ∙ inv.ref;
      schema = λ h. c.in-Ok.ensures.schema h ∙ inv.schema h;
      inside = c.in-Ok.ensures.inside;
      ordered = c.in-Ok.ensures.ordered;
      others = λ h. keeps_more old mid new t (inv.schema h) (inv.others h) (c.in-Ok.ensures.others h);
      kept = λ h. c.in-Ok.ensures.kept h ∙ inv.kept h;
      rows = λ h.
          let before : entries_of mid t ≡ put_all (entries_of old t) (map f (take i xs)) = inv.rows h
          ∙ ap (put_all (entries_of old t)) (map-map (stored_cells t) tuple (take i xs)) in
          let after : entries_of new t ≡ put_all (entries_of old t) (map f (take (i + 1) xs)) =
          c.in-Ok.ensures.rows h ∙ ap (put_row (f row)) before
          ∙ sym (put_more f (entries_of old t) xs i row c.loop-row-test.true c.row-item.is)
          ∙ ap (λ (n : ℕ). put_all (entries_of old t) (map f (take n xs))) (sym on) in
          after ∙ ap (put_all (entries_of old t)) (sym (map-map (stored_cells t) tuple (take (i + 1) xs)));
      free = λ h.
          let es = entries_of old t in
          let before : entries_of mid t ≡ put_all es (map f (take i xs)) = inv.rows h
          ∙ ap (put_all es) (map-map (stored_cells t) tuple (take i xs)) in
          let here : is_taken (put_all es (map f (take i xs))) (f row) ≡ false =
          ap (λ (rs : List SqlRow). is_taken rs (f row)) (sym before) ∙ c.in-Ok.ensures.free h in
          let were : are_fresh es (map f (take i xs)) ≡ true = ap (are_fresh es) (sym (map-map (stored_cells t) tuple (take i xs)))
          ∙ inv.free h in
          ap (are_fresh es) (map-map (stored_cells t) tuple (take (i + 1) xs)) ∙ ap (λ (n : ℕ). are_fresh es (map f (take n xs))) on
          ∙ fresh_more f es xs i row c.loop-row-test.true c.row-item.is were here;
      was_clean = λ after. inv.was_clean (c.in-Ok.ensures.was_clean after);
      goes_on = goes_then inv.goes_on c.insert_row.ensures.goes_on;
      sure_steps = λ h.
          let first = inv.sure_steps (step_first c.in-Ok.ensures.was_clean h) in
          steps_then first (c.in-Ok.ensures.sure_steps (step_then first h));
      sure_kept = λ h.
          let sure = step_first c.in-Ok.ensures.was_clean h in
          c.in-Ok.ensures.sure_kept (step_then (inv.sure_steps sure) h) ∙ inv.sure_kept sure;
      sure_rows = λ h.
          let sure = step_first c.in-Ok.ensures.was_clean h in
          let before : entries_of mid t ≡ put_all (entries_of old t) (map f (take i xs)) = inv.sure_rows sure
          ∙ ap (put_all (entries_of old t)) (map-map (stored_cells t) tuple (take i xs)) in
          let after : entries_of new t ≡ put_all (entries_of old t) (map f (take (i + 1) xs)) =
          c.in-Ok.ensures.sure_rows (step_then (inv.sure_steps sure) h) ∙ ap (put_row (f row)) before
          ∙ sym (put_more f (entries_of old t) xs i row c.loop-row-test.true c.row-item.is)
          ∙ ap (λ (n : ℕ). put_all (entries_of old t) (map f (take n xs))) (sym on) in
          after ∙ ap (put_all (entries_of old t)) (sym (map-map (stored_cells t) tuple (take (i + 1) xs)));
      sure_free = λ h.
          let sure = step_first c.in-Ok.ensures.was_clean h in
          let es = entries_of old t in
          let before : entries_of mid t ≡ put_all es (map f (take i xs)) = inv.sure_rows sure
          ∙ ap (put_all es) (map-map (stored_cells t) tuple (take i xs)) in
          let here : is_taken (put_all es (map f (take i xs))) (f row) ≡ false = ap (λ (rs : List SqlRow). is_taken rs (f row)) (sym before)
          ∙ c.in-Ok.ensures.sure_free (step_then (inv.sure_steps sure) h) in
          let were : are_fresh es (map f (take i xs)) ≡ true = ap (are_fresh es) (sym (map-map (stored_cells t) tuple (take i xs)))
          ∙ inv.sure_free sure in
          ap (are_fresh es) (map-map (stored_cells t) tuple (take (i + 1) xs)) ∙ ap (λ (n : ℕ). are_fresh es (map f (take n xs))) on
          ∙ fresh_more f es xs i row c.loop-row-test.true c.row-item.is were here;
    }

pub returns-in-Err-clause-refused : goal.returns-in-Err-clause-refused
returns-in-Err-clause-refused g c =
    let inv = c.loop-row.invariant in
    let old = (state g.S.Store c.args.tx.now.conn.now).now in
    let mid = (state g.S.Store c.loop-row.tx.conn.now).now in
    let t = c.args.shape.now in
    let xs = c.args.fresh.now in
    let i = c.loop-row.row-index in
    let row = c.row-item.result in
    let f = λ (r : Row). stored_cells t (tuple r) in
    only_more _ _ c.in-Err.fault
    (λ cause by. (
      by.0,
      λ h.
          let before : entries_of mid t ≡ put_all (entries_of old t) (map f (take i xs)) = inv.rows h
          ∙ ap (put_all (entries_of old t)) (map-map (stored_cells t) tuple (take i xs)) in
          let there = ap (λ es. is_taken es (f row)) (sym before) ∙ by.1 h in
          ap (are_fresh (entries_of old t)) (map-map (stored_cells t) tuple xs)
          ∙ repeats f (entries_of old t) xs i row c.loop-row-test.true c.row-item.is there,
    ))
    c.in-Err.ensures.refused

pub returns-in-Err-clause-sure_refused : goal.returns-in-Err-clause-sure_refused
returns-in-Err-clause-sure_refused g c =
    let inv = c.loop-row.invariant in
    let old = (state g.S.Store c.args.tx.now.conn.now).now in
    let mid = (state g.S.Store c.loop-row.tx.conn.now).now in
    let t = c.args.shape.now in
    let xs = c.args.fresh.now in
    let i = c.loop-row.row-index in
    let row = c.row-item.result in
    let f = λ (r : Row). stored_cells t (tuple r) in
    only_more _ _ c.in-Err.fault
    (λ cause taken h.
    let sure = step_first c.insert_row.ensures.was_clean h in
    let before : entries_of mid t ≡ put_all (entries_of old t) (map f (take i xs)) = inv.sure_rows sure
    ∙ ap (put_all (entries_of old t)) (map-map (stored_cells t) tuple (take i xs)) in
    let there = ap (λ es. is_taken es (f row)) (sym before) ∙ taken (step_then (inv.sure_steps sure) h) in
    ap (are_fresh (entries_of old t)) (map-map (stored_cells t) tuple xs)
    ∙ repeats f (entries_of old t) xs i row c.loop-row-test.true c.row-item.is there)
    c.in-Err.ensures.sure_refused

pub returns-in-Err-clause-sure_kept : goal.returns-in-Err-clause-sure_kept
returns-in-Err-clause-sure_kept g c h =
    let inv = c.loop-row.invariant in
    let before = step_first c.insert_row.ensures.was_clean h in
    c.insert_row.ensures.sure_kept (step_then (inv.sure_steps before) h) ∙ inv.sure_kept before

pub returns-in-Err-clause-was_clean : goal.returns-in-Err-clause-was_clean
returns-in-Err-clause-was_clean g c after = c.loop-row.invariant.was_clean (c.insert_row.ensures.was_clean after)

pub returns-in-Err-clause-goes_on : goal.returns-in-Err-clause-goes_on
returns-in-Err-clause-goes_on g c = goes_then c.loop-row.invariant.goes_on c.insert_row.ensures.goes_on

pub returns-in-Err-clause-sure_failed : goal.returns-in-Err-clause-sure_failed
returns-in-Err-clause-sure_failed g c h =
    let inv = c.loop-row.invariant in
    let old = state g.S.Store c.args.tx.now.conn.now in
    let mid = state g.S.Store c.loop-row.tx.conn.now in
    let t = c.args.shape.now in
    let xs = c.args.fresh.now in
    let i = c.loop-row.row-index in
    let row = c.row-item.result in
    let sure = step_first c.insert_row.ensures.was_clean h in
    let reached = inserted old mid t (map tuple (take i xs)) sure.after (inv.sure_steps sure) (inv.sure_rows sure)
    (inv.sure_free sure) (inv.sure_kept sure) inv.goes_on in (
      c.loop-row.tx.conn.now,
      i,
      tuple row,
      got_map tuple xs i row row c.loop-row-test.true c.row-item.is,
      subst (Reaches old mid t []) (sym (take-map tuple i xs)) reached,
      c.in-Err.ensures.reported (written_of _ t (step_then (inv.sure_steps sure) h).writable).few,
    )
