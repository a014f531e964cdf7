use Rattle.std.proofs.Common.{◌≡◌, ◌∙◌, IfOk, length, map, sym, subst, ap, refl, true, List, [], Contains}
use Rattle.sqlite.specs.Held.{state}
use Rattle.med_value.specs.Causes.{phase_of}
use Rattle.med_value.specs.declared.cause.Cause.{Cause}
use Rattle.med_value.specs.declared.cause.Cause.TheVariants.{InvalidDataType}
use Rattle.fdw_api.specs.Kinds.{column_of, kinds_of, is_late}
use Rattle.sqlite_tables.proofs.Settled.{known_after, reads_then, sure_first, sure_then, sure_same}
use Rattle.sqlite.specs.Effect.{Database}
use Rattle.sqlite_tables.specs.Tables.{entries_of, entry_of, rows_of}
use Rattle.sqlite_tables.specs.Surveys.{causes_in}
use Rattle.sqlite_tables.proofs.Refused.{only_more, both_only, refused_more, done_more}
use Rattle.sqlite_tables.proofs.Opened.{not_found, mismatched, opened, run_is_late, least_told}
use Rattle.sqlite_tables.proofs.openings.open_table.Goals as goal

pub returns-in-Err-clause-refused : goal.returns-in-Err-clause-refused
returns-in-Err-clause-refused g c =
    let declared = kinds_of (map column_of c.args.columns.now) in
    let l = c.args.shape.now in
    let db = (state g.S.Store c.args.conn.now).now in
    only_more _ _ c.in-Err.fault
    (λ cause by. (
      subst (λ (d : Cause). is_late (phase_of d) ≡ true) (sym by.0) refl,
      λ h. least_told declared (entry_of db l) cause
          (not_found db l declared cause (by.1 h) by.0),
    ))
    c.in-Err.ensures.refused

pub read_whole-requires-clause-known : goal.read_whole-requires-clause-known
read_whole-requires-clause-known g c h =
    known_after (state g.S.Store c.args.conn.now).now (state g.S.Store c.find_table.new.conn).now c.args.shape.now
    (c.find_table.ensures.same h) (c.requires.known h)

pub returns-then-not-types_match-clause-refused : goal.returns-then-not-types_match-clause-refused
returns-then-not-types_match-clause-refused g c =
    let declared = kinds_of (map column_of c.args.columns.now) in
    let l = c.args.shape.now in
    let db = (state g.S.Store c.args.conn.now).now in
    let e = sym c.types_match.ensures ∙ c.if-not-types_match.true in
    (refl, λ h. least_told declared (entry_of db l) InvalidDataType (mismatched db l declared (c.in-Ok.ensures.found h) e))

pub returns-clause-ok : goal.returns-clause-ok
returns-clause-ok g c h =
    let l = c.args.shape.now in
    let db = (state g.S.Store c.args.conn.now).now in
    let e = sym c.types_match.ensures ∙ c.if-not-types_match.false in
    let same = c.find_table.ensures.same h in
    let is = opened db l (kinds_of (map column_of c.args.columns.now)) (c.in-Ok.ensures.found h) e in
    done_more c.read_whole.result _ _ (λ (none : causes_in l (entries_of (state g.S.Store c.find_table.new.conn).now l) ≡ []).
    is ∙ sym (ap (λ (d : Database). causes_in l (entries_of d l)) same) ∙ none) (c.read_whole.ensures.ok h)

pub returns-clause-count : goal.returns-clause-count
returns-clause-count g c h =
    let l = c.args.shape.now in
    subst (λ (d : Database). IfOk c.read_whole.result (λ n. n ≡ length (rows_of d l))) (c.find_table.ensures.same h)
    (c.read_whole.ensures.count h)

pub returns-clause-refused : goal.returns-clause-refused
returns-clause-refused g c =
    let declared = kinds_of (map column_of c.args.columns.now) in
    let l = c.args.shape.now in
    let db = (state g.S.Store c.args.conn.now).now in
    let e = sym c.types_match.ensures ∙ c.if-not-types_match.false in
    refused_more c.read_whole.result _ _
    (λ cause by. (
      run_is_late (phase_of cause) by.0,
      λ h.
          let same = c.find_table.ensures.same h in
          let is = opened db l declared (c.in-Ok.ensures.found h) e in
          least_told declared (entry_of db l) cause
          (subst (λ (cs : List Cause). Contains cs cause) (ap (λ (d : Database). causes_in l (entries_of d l)) same ∙ sym is)
          (by.1 h)),
    ))
    c.read_whole.ensures.refused

pub returns-in-Err-clause-sure_refused : goal.returns-in-Err-clause-sure_refused
returns-in-Err-clause-sure_refused g c =
    let declared = kinds_of (map column_of c.args.columns.now) in
    let l = c.args.shape.now in
    let db = (state g.S.Store c.args.conn.now).now in
    both_only _ _ _ c.in-Err.fault
    (λ cause by none h. least_told declared (entry_of db l) cause (not_found db l declared cause (none h.after h.known) by.0))
    c.in-Err.ensures.refused c.in-Err.ensures.sure_refused

pub returns-then-not-types_match-clause-sure_refused : goal.returns-then-not-types_match-clause-sure_refused
returns-then-not-types_match-clause-sure_refused g c h =
    let declared = kinds_of (map column_of c.args.columns.now) in
    let l = c.args.shape.now in
    let db = (state g.S.Store c.args.conn.now).now in
    let e = sym c.types_match.ensures ∙ c.if-not-types_match.true in
    least_told declared (entry_of db l) InvalidDataType (mismatched db l declared (c.in-Ok.ensures.sure_found h.after h.known) e)

pub returns-clause-sure_ok : goal.returns-clause-sure_ok
returns-clause-sure_ok g c h =
    let l = c.args.shape.now in
    let db = (state g.S.Store c.args.conn.now).now in
    let e = sym c.types_match.ensures ∙ c.if-not-types_match.false in
    let first = c.find_table.ensures.reads in
    let next = c.read_whole.ensures.reads in
    let found = sure_first next h in
    let is = opened db l (kinds_of (map column_of c.args.columns.now)) (c.in-Ok.ensures.sure_found found.after found.known) e in
    done_more c.read_whole.result _ _ (λ (none : causes_in l (entries_of (state g.S.Store c.find_table.new.conn).now l) ≡ []).
    is ∙ sym (ap (λ (d : Database). causes_in l (entries_of d l)) (sure_same first next h)) ∙ none)
    (c.read_whole.ensures.sure_ok (sure_then first next h))

pub returns-clause-sure_count : goal.returns-clause-sure_count
returns-clause-sure_count g c h =
    let l = c.args.shape.now in
    let first = c.find_table.ensures.reads in
    let next = c.read_whole.ensures.reads in
    subst (λ (d : Database). IfOk c.read_whole.result (λ n. n ≡ length (rows_of d l))) (sure_same first next h)
    (c.read_whole.ensures.sure_count (sure_then first next h))

pub returns-clause-sure_once : goal.returns-clause-sure_once
returns-clause-sure_once g c h = c.find_table.ensures.sure_once (sure_first c.read_whole.ensures.reads h)

pub returns-clause-sure_refused : goal.returns-clause-sure_refused
returns-clause-sure_refused g c =
    let declared = kinds_of (map column_of c.args.columns.now) in
    let l = c.args.shape.now in
    let db = (state g.S.Store c.args.conn.now).now in
    let e = sym c.types_match.ensures ∙ c.if-not-types_match.false in
    let first = c.find_table.ensures.reads in
    let next = c.read_whole.ensures.reads in
    refused_more c.read_whole.result _ _
    (λ cause stands h.
    let found = sure_first next h in
    let is = opened db l declared (c.in-Ok.ensures.sure_found found.after found.known) e in
    least_told declared (entry_of db l) cause
    (subst (λ (cs : List Cause). Contains cs cause)
    (ap (λ (d : Database). causes_in l (entries_of d l)) (sure_same first next h) ∙ sym is) (stands (sure_then first next h))))
    c.read_whole.ensures.sure_refused

pub returns-clause-reads : goal.returns-clause-reads
returns-clause-reads g c = reads_then c.find_table.ensures.reads c.read_whole.ensures.reads
