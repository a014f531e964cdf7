use Rattle.std.proofs.Common.{◌≡◌, ◌∙◌, ℕ, inl, inr, Option, Some, None, IfSome, map, length, true, refl, sym, ap, subst, rules, arith}
use Rattle.std.proofs.lemmas.List.{length-map}
use Rattle.sqlite.specs.Held.{state}
use Rattle.sqlite.specs.Effect.{Database}
use Rattle.med_value.specs.Prelude.{phase_of, tuple}
use Rattle.med_value.specs.declared.cause.Cause.{Cause}
use Rattle.fdw_api.specs.Kinds.{is_of_run}
use Rattle.wrapper_parts.specs.Staged.{change_is}
use Rattle.sqlite_tables.specs.Prelude.{rows_of, entries_of}
use Rattle.sqlite_tables.proofs.Refused.{only_more, both_only}
use Rattle.sqlite_writes.specs.Splitting.{AreChanges}
use Rattle.sqlite_writes.specs.Rewriting.{rewritten, repeats_key}
use Rattle.sqlite_writes.specs.Writable.{IsWritable, KeepsTables}
use Rattle.sqlite_writes.proofs.Written.{written_of}
use Rattle.sqlite_wrapper.proofs.Failures.{rewrite_same}
use Rattle.sqlite_wrapper.proofs.Sure.{write_first, write_then, write_read}
use Rattle.sqlite_wrapper.proofs.Rewriting.{keyless, too_many, repeated, rewrites, rows_left, by_keyless, three}
use Rattle.sqlite_wrapper.proofs.writing.write_shape.Goals as goal

-- what is held leaves room, or nothing is
held_then : (P : ℕ → Type 0) (held room : Option ℕ) → IfSome room (λ n. held ≡ Some n) → IfSome held P → IfSome room P
held_then P held None is h = tt
held_then P held (Some n) is h = subst (λ (o : Option ℕ). IfSome o P) is h

pub returns-in-Err-clause-refused : goal.returns-in-Err-clause-refused
returns-in-Err-clause-refused g c =
    let changes = map change_is c.args.changes.items in
    let rows = rows_of (state g.S.Store c.args.conn.now).now c.args.shape.now in
    by_keyless rows changes c.in-Err.fault _ (λ e. (refl, λ h. keyless rows changes e)) c.in-Err.ensures.refused

pub rewrite-requires-clause-writable : goal.rewrite-requires-clause-writable
rewrite-requires-clause-writable g c h =
    subst (λ (d : Database). ∥ IsWritable d.schema c.args.shape.now ∥₁) (sym (c.rows_there.ensures.same h)) (c.requires.writable h)

pub returns-then-count-fresh-clause-refused : goal.returns-then-count-fresh-clause-refused
returns-then-count-fresh-clause-refused g c = (
  refl,
  λ h.
      let t = c.args.shape.now in
      let db = (state g.S.Store c.args.conn.now).now in
      let changes = map change_is c.args.changes.items in
      let are : AreChanges t (entries_of db t) changes = record {
        written = written_of c.args.conn.now.schema t (c.requires.writable h);
        ordered = c.entries_rise.ensures h;
        once = c.requires.once;
        there = c.requires.there h;
        placed = c.in-Ok.ensures.each_placed;
        holdable = c.in-Ok.ensures.holdable;
      } in
      too_many db t changes c.in-Ok-rows_there.count c.len-fresh.result c.len-gone.result (c.in-Ok-rows_there.ensures.count h)
      (c.len-fresh.ensures ∙ (search rules) ∙ sym (length-map c.in-Ok.split.fresh.items tuple) ∙ ap length c.in-Ok.ensures.fresh)
      (c.len-gone.ensures ∙ (search rules) ∙ ap length c.in-Ok.ensures.gone)
      (c.changes_are_a_rewrite.ensures.count t (entries_of db t) changes are) c.if-count-fresh.true,
)

pub returns-clause-refused : goal.returns-clause-refused
returns-clause-refused g c =
    let t = c.args.shape.now in
    let db = (state g.S.Store c.args.conn.now).now in
    let changes = map change_is c.args.changes.items in
    only_more _ _ c.in-Err-rewrite.fault
    (λ cause by. (
      subst (λ (d : Cause). is_of_run (phase_of d) ≡ true) (sym by.0) refl,
      λ h.
          let are : AreChanges t (entries_of db t) changes = record {
            written = written_of c.args.conn.now.schema t (c.requires.writable h);
            ordered = c.entries_rise.ensures h;
            once = c.requires.once;
            there = c.requires.there h;
            placed = c.in-Ok.ensures.each_placed;
            holdable = c.in-Ok.ensures.holdable;
          } in
          rw by.0 (repeated db t changes (c.changes_are_a_rewrite.ensures.repeats t (entries_of db t) changes are)
          (sym (three (repeats_key t) _ _ _ _ _ _ (c.deref.ensures.value ∙ c.in-Ok.ensures.gone)
          (ap (map tuple) c.deref-2.ensures.value ∙ c.in-Ok.ensures.fresh)
          (ap (λ (d : Database). entries_of d t) (c.rows_there.ensures.same h))) ∙ by.1 h)),
    ))
    c.in-Err-rewrite.ensures.refused

made : goal.returns-in-Ok-rewrite-clause-made
made g c h =
    let t = c.args.shape.now in
    let db = (state g.S.Store c.args.conn.now).now in
    let mid = (state g.S.Store c.rows_there.new.conn).now in
    let new = (state g.S.Store c.rewrite.new.conn).now in
    let changes = map change_is c.args.changes.items in
    let are : AreChanges t (entries_of db t) changes = record {
      written = written_of c.args.conn.now.schema t (c.requires.writable h);
      ordered = c.entries_rise.ensures h;
      once = c.requires.once;
      there = c.requires.there h;
      placed = c.in-Ok.ensures.each_placed;
      holdable = c.in-Ok.ensures.holdable;
    } in
    let law = c.changes_are_a_rewrite.ensures in
    let same = c.rows_there.ensures.same h in
    let gone = c.deref.ensures.value ∙ c.in-Ok.ensures.gone in
    let fresh = ap (map tuple) c.deref-2.ensures.value ∙ c.in-Ok.ensures.fresh in
    let es = ap (λ (d : Database). entries_of d t) same in
    let schema : new.schema ≡ db.schema = c.rewrite.ensures.schema h ∙ ap (λ (d : Database). d.schema) same in
    let repeats_law = law.repeats t (entries_of db t) changes are in
    let is_free = sym (three (repeats_key t) _ _ _ _ _ _ gone fresh es) ∙ c.in-Ok-rewrite.ensures.free h in
    rewrites db t changes new c.in-Ok-rows_there.count c.len-fresh.result c.len-gone.result schema (c.in-Ok-rows_there.ensures.there h)
    (c.in-Ok-rewrite.ensures.rows h ∙ three (rewritten t) _ _ _ _ _ _ gone fresh es)
    (subst (λ (d : Database). KeepsTables d new t) same (c.in-Ok-rewrite.ensures.others h)) c.in-Ok.ensures.keyed is_free
    (c.in-Ok-rows_there.ensures.count h)
    (c.len-fresh.ensures ∙ (search rules) ∙ sym (length-map c.in-Ok.split.fresh.items tuple) ∙ ap length c.in-Ok.ensures.fresh)
    (c.len-gone.ensures ∙ (search rules) ∙ ap length c.in-Ok.ensures.gone)
    c.if-count-fresh.false (law.count t (entries_of db t) changes are) repeats_law (law.rows t (entries_of db t) changes are is_free)
    (law.once t (entries_of db t) changes are)

pub returns-in-Ok-rewrite-clause-made : goal.returns-in-Ok-rewrite-clause-made
returns-in-Ok-rewrite-clause-made g c h = made g c h

pub returns-in-Ok-rewrite-clause-count : goal.returns-in-Ok-rewrite-clause-count
returns-in-Ok-rewrite-clause-count g c h =
    let t = c.args.shape.now in
    let db = (state g.S.Store c.args.conn.now).now in
    let changes = map change_is c.args.changes.items in
    let are : AreChanges t (entries_of db t) changes = record {
      written = written_of c.args.conn.now.schema t (c.requires.writable h);
      ordered = c.entries_rise.ensures h;
      once = c.requires.once;
      there = c.requires.there h;
      placed = c.in-Ok.ensures.each_placed;
      holdable = c.in-Ok.ensures.holdable;
    } in
    rows_left db t changes (state g.S.Store c.rewrite.new.conn).now c.in-Ok-rows_there.count c.len-fresh.result c.len-gone.result _
    (made g c h)
    (c.in-Ok-rows_there.ensures.count h)
    (c.len-fresh.ensures ∙ (search rules) ∙ sym (length-map c.in-Ok.split.fresh.items tuple) ∙ ap length c.in-Ok.ensures.fresh)
    (c.len-gone.ensures ∙ (search rules) ∙ ap length c.in-Ok.ensures.gone)
    (omega arith) (c.changes_are_a_rewrite.ensures.count t (entries_of db t) changes are)

pub returns-in-Err-clause-sure_refused : goal.returns-in-Err-clause-sure_refused
returns-in-Err-clause-sure_refused g c =
    let changes = map change_is c.args.changes.items in
    let rows = rows_of (state g.S.Store c.args.conn.now).now c.args.shape.now in
    by_keyless rows changes c.in-Err.fault _ (λ e h. keyless rows changes e) c.in-Err.ensures.refused

pub returns-then-count-fresh-clause-sure_refused : goal.returns-then-count-fresh-clause-sure_refused
returns-then-count-fresh-clause-sure_refused g c h =
    let t = c.args.shape.now in
    let db = (state g.S.Store c.args.conn.now).now in
    let changes = map change_is c.args.changes.items in
    let are : AreChanges t (entries_of db t) changes = record {
      written = written_of c.args.conn.now.schema t h.sure.writable;
      ordered = h.sure.ordered;
      once = c.requires.once;
      there = h.there;
      placed = c.in-Ok.ensures.each_placed;
      holdable = c.in-Ok.ensures.holdable;
    } in
    let count = c.in-Ok-rows_there.ensures.sure_count (write_read h.sure)
    (held_then (λ n. n ≡ length (rows_of db t)) _ _ c.with_room-held.ensures h.count) in
    too_many db t changes c.in-Ok-rows_there.count c.len-fresh.result c.len-gone.result count
    (c.len-fresh.ensures ∙ (search rules) ∙ sym (length-map c.in-Ok.split.fresh.items tuple) ∙ ap length c.in-Ok.ensures.fresh)
    (c.len-gone.ensures ∙ (search rules) ∙ ap length c.in-Ok.ensures.gone)
    (c.changes_are_a_rewrite.ensures.count t (entries_of db t) changes are) c.if-count-fresh.true

pub returns-then-count-fresh-clause-sure_same : goal.returns-then-count-fresh-clause-sure_same
returns-then-count-fresh-clause-sure_same g c h = let sure = write_read h in c.rows_there.ensures.reads.same sure.after sure.known

pub returns-in-Err-rows_there-clause-sure_same : goal.returns-in-Err-rows_there-clause-sure_same
returns-in-Err-rows_there-clause-sure_same g c h = let sure = write_read h in c.rows_there.ensures.reads.same sure.after sure.known

pub returns-clause-sure_same : goal.returns-clause-sure_same
returns-clause-sure_same g c h =
    let sure = write_first c.rewrite.ensures.was_clean h in
    let same = c.rows_there.ensures.reads.same sure.after sure.known in
    c.in-Err-rewrite.ensures.sure_same (write_then same h) ∙ same

pub returns-clause-sure_refused : goal.returns-clause-sure_refused
returns-clause-sure_refused g c =
    let t = c.args.shape.now in
    let db = (state g.S.Store c.args.conn.now).now in
    let changes = map change_is c.args.changes.items in
    both_only _ _ _ c.in-Err-rewrite.fault
    (λ cause by repeats h.
    let sure = write_first c.rewrite.ensures.was_clean h.sure in
    let same = c.rows_there.ensures.reads.same sure.after sure.known in
    let are : AreChanges t (entries_of db t) changes = record {
      written = written_of c.args.conn.now.schema t h.sure.writable;
      ordered = h.sure.ordered;
      once = c.requires.once;
      there = h.there;
      placed = c.in-Ok.ensures.each_placed;
      holdable = c.in-Ok.ensures.holdable;
    } in
    rw by.0 (repeated db t changes (c.changes_are_a_rewrite.ensures.repeats t (entries_of db t) changes are)
    (sym (three (repeats_key t) _ _ _ _ _ _ (c.deref.ensures.value ∙ c.in-Ok.ensures.gone)
    (ap (map tuple) c.deref-2.ensures.value ∙ c.in-Ok.ensures.fresh)
    (ap (λ (d : Database). entries_of d t) same)) ∙ repeats (write_then same h.sure))))
    c.in-Err-rewrite.ensures.refused c.in-Err-rewrite.ensures.sure_refused

pub returns-in-Ok-rewrite-clause-sure_made : goal.returns-in-Ok-rewrite-clause-sure_made
returns-in-Ok-rewrite-clause-sure_made g c h =
    let t = c.args.shape.now in
    let db = (state g.S.Store c.args.conn.now).now in
    let changes = map change_is c.args.changes.items in
    let new = (state g.S.Store c.rewrite.new.conn).now in
    let are : AreChanges t (entries_of db t) changes = record {
      written = written_of c.args.conn.now.schema t h.sure.writable;
      ordered = h.sure.ordered;
      once = c.requires.once;
      there = h.there;
      placed = c.in-Ok.ensures.each_placed;
      holdable = c.in-Ok.ensures.holdable;
    } in
    let law = c.changes_are_a_rewrite.ensures in
    let sure = write_first c.rewrite.ensures.was_clean h.sure in
    let same = c.rows_there.ensures.reads.same sure.after sure.known in
    let next = write_then same h.sure in
    let gone = c.deref.ensures.value ∙ c.in-Ok.ensures.gone in
    let fresh = ap (map tuple) c.deref-2.ensures.value ∙ c.in-Ok.ensures.fresh in
    let es = ap (λ (d : Database). entries_of d t) same in
    let schema : new.schema ≡ db.schema = c.in-Ok-rewrite.ensures.sure_schema next ∙ ap (λ (d : Database). d.schema) same in
    let repeats_law = law.repeats t (entries_of db t) changes are in
    let is_free = sym (three (repeats_key t) _ _ _ _ _ _ gone fresh es) ∙ c.in-Ok-rewrite.ensures.sure_free next in
    let count = c.in-Ok-rows_there.ensures.sure_count sure (held_then (λ n. n ≡ length (rows_of db t)) _ _ c.with_room-held.ensures
    h.count) in
    rewrites db t changes new c.in-Ok-rows_there.count c.len-fresh.result c.len-gone.result schema
    (c.in-Ok-rows_there.ensures.sure_there sure)
    (c.in-Ok-rewrite.ensures.sure_rows next ∙ three (rewritten t) _ _ _ _ _ _ gone fresh es)
    (subst (λ (d : Database). KeepsTables d new t) same (c.in-Ok-rewrite.ensures.sure_others next)) c.in-Ok.ensures.keyed is_free
    count
    (c.len-fresh.ensures ∙ (search rules) ∙ sym (length-map c.in-Ok.split.fresh.items tuple) ∙ ap length c.in-Ok.ensures.fresh)
    (c.len-gone.ensures ∙ (search rules) ∙ ap length c.in-Ok.ensures.gone)
    c.if-count-fresh.false (law.count t (entries_of db t) changes are) repeats_law (law.rows t (entries_of db t) changes are is_free)
    (law.once t (entries_of db t) changes are)

pub returns-in-Err-clause-reported : goal.returns-in-Err-clause-reported
returns-in-Err-clause-reported g c h = inl (refl, inl c.in-Err.ensures.refused)

pub returns-in-Err-clause-sure_reported : goal.returns-in-Err-clause-sure_reported
returns-in-Err-clause-sure_reported g c h = inl (refl, inl c.in-Err.ensures.refused)

pub returns-in-Err-rows_there-clause-reported : goal.returns-in-Err-rows_there-clause-reported
returns-in-Err-rows_there-clause-reported g c h = inr (inl c.in-Err-rows_there.ensures.reported)

pub returns-in-Err-rows_there-clause-sure_reported : goal.returns-in-Err-rows_there-clause-sure_reported
returns-in-Err-rows_there-clause-sure_reported g c h = inr (inl c.in-Err-rows_there.ensures.reported)

pub returns-then-count-fresh-clause-reported : goal.returns-then-count-fresh-clause-reported
returns-then-count-fresh-clause-reported g c h = inr (inr (inl (refl, c.rows_there.ensures.reads)))

pub returns-then-count-fresh-clause-sure_reported : goal.returns-then-count-fresh-clause-sure_reported
returns-then-count-fresh-clause-sure_reported g c h = inr (inr (inl (refl, c.rows_there.ensures.reads)))

pub returns-clause-reported : goal.returns-clause-reported
returns-clause-reported g c h =
    inr (inr (inr (
      c.rows_there.new.conn,
      record { reads = c.rows_there.ensures.reads; same = c.rows_there.ensures.same h; was_clean = c.rewrite.ensures.was_clean },
      rewrite_same g.S.Store c.args.shape.now (state g.S.Store c.rows_there.new.conn) (state g.S.Store c.rewrite.new.conn)
          c.in-Err-rewrite.fault _ _ _ _
          (c.deref.ensures.value ∙ c.in-Ok.ensures.gone) (ap (map tuple) c.deref-2.ensures.value ∙ c.in-Ok.ensures.fresh)
          (c.in-Err-rewrite.ensures.reported h),
    )))

pub returns-clause-sure_reported : goal.returns-clause-sure_reported
returns-clause-sure_reported g c h =
    let sure = write_first c.rewrite.ensures.was_clean h in
    let same = c.rows_there.ensures.reads.same sure.after sure.known in
    inr (inr (inr (
      c.rows_there.new.conn,
      record { reads = c.rows_there.ensures.reads; same = same; was_clean = c.rewrite.ensures.was_clean },
      rewrite_same g.S.Store c.args.shape.now (state g.S.Store c.rows_there.new.conn) (state g.S.Store c.rewrite.new.conn)
          c.in-Err-rewrite.fault _ _ _ _
          (c.deref.ensures.value ∙ c.in-Ok.ensures.gone) (ap (map tuple) c.deref-2.ensures.value ∙ c.in-Ok.ensures.fresh)
          (c.in-Err-rewrite.ensures.sure_reported (write_then same h)),
    )))
