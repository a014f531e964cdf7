use Rattle.std.proofs.Common.{◌≡◌, ℕ, List, true, false, Option, Some, None, subst, refl, is_some, option_map, sym, ap, ◌∙◌, rules}
use Rattle.med_parser.specs.CommandTree.{on_data, on_rows, on_cursors, on_objects, command_tree}
use Rattle.med_syntax.specs.Prelude.{cursor_tree, ddl_tree, write_tree, statement_tree}
use Rattle.med_parser.specs.CommandGrammar.{HasCommand}
use Rattle.med_parser.specs.declared.command.Command.{Command}
use Rattle.med_binder.specs.Looked.{query_in}
use Rattle.med_world.specs.Prelude.{user_of, IsRead, Shown, Leads}
use Rattle.sql_meaning.specs.Prelude.{done, sql}
use Rattle.med_session.specs.Shows.{shown}
use Rattle.med_session.proofs.Leading.{read_query}
use Rattle.med_session.proofs.Tables.{queries_ready, ready_of}
use Rattle.med_session.proofs.engine.Engine.statement.Goals as goal

same_some : {X Y : Type 0} (f : X → Y) (o : Option X) → is_some (option_map f o) ≡ is_some o
same_some f None = refl
same_some f (Some x) = refl

pub returns-in_default-clause-leads : goal.returns-in_default-clause-leads
returns-in_default-clause-leads g c =
    let e = shown g.W.Wrapper.meaning c.args.self.now in
    let none : is_some c.user_in.result ≡ false = search rules in
    c.statements_are_refused.ensures.not_open e c.args.sid.number c.args.text.now c.args.sid.in_range (ap is_some (sym c.user_in.ensures) ∙ same_some _ c.user_in.result ∙ none)

pub returns-in-Err-clause-leads : goal.returns-in-Err-clause-leads
returns-in-Err-clause-leads g c =
    let e = shown g.W.Wrapper.meaning c.args.self.now in
    let is_open : is_some (user_of e.seats c.args.sid.number) ≡ true = ap is_some (sym c.in-Some.ensures) in
    c.statements_are_refused.ensures.not_read e c.args.sid.number c.args.text.now c.in-Err.cause c.args.sid.in_range is_open c.in-Err.ensures.refused

pub run_select-requires-clause-ready : goal.run_select-requires-clause-ready
run_select-requires-clause-ready g c = rw c.deref.ensures.value (queries_ready (shown g.W.Wrapper.meaning c.args.self.now) c.requires)

pub returns-in-Ok-run_select-clause-sound : goal.returns-in-Ok-run_select-clause-sound
returns-in-Ok-run_select-clause-sound g c =
    c.queries_lead.ensures.answered_sound (shown g.W.Wrapper.meaning c.args.self.now) _ c.in-Some.user.now (query_in (statement_tree c.in-Data.query)) _ _ c.requires (rw c.deref.ensures.value at c.in-Ok-run_select.ensures.ok)

pub returns-in-Ok-run_select-clause-leads : goal.returns-in-Ok-run_select-clause-leads
returns-in-Ok-run_select-clause-leads g c =
    let e = shown g.W.Wrapper.meaning c.args.self.now in
    let t = statement_tree c.in-Data.query in
    let read : IsRead e c.args.sid.number c.args.text.now c.in-Some.user.now (on_data t) = record {
      is_sid = c.args.sid.in_range;
      is_user = sym c.in-Some.ensures;
      clear = c.in-Ok.ensures.clear;
      has = subst (λ (x : Command). HasCommand c.args.text.now (command_tree x)) c.in-Data.is c.in-Ok.ensures.found;
      one = c.one_tree.ensures c.args.text.now;
    } in
    c.queries_lead.ensures.answered e _ c.args.sid.number c.args.text.now c.in-Some.user.now (query_in t) _ _ (read_query e c.args.sid.number c.args.text.now c.in-Some.user.now t read) c.requires
    (rw c.deref.ensures.value at c.in-Ok-run_select.ensures.ok)

pub returns-in-Data-clause-sound : goal.returns-in-Data-clause-sound
returns-in-Data-clause-sound g c =
    c.queries_lead.ensures.refused_sound (shown g.W.Wrapper.meaning c.args.self.now) _ c.in-Some.user.now (query_in (statement_tree c.in-Data.query)) _ c.requires (rw c.deref.ensures.value at c.in-Err-run_select.ensures.err)

pub returns-in-Data-clause-leads : goal.returns-in-Data-clause-leads
returns-in-Data-clause-leads g c =
    let e = shown g.W.Wrapper.meaning c.args.self.now in
    let t = statement_tree c.in-Data.query in
    let read : IsRead e c.args.sid.number c.args.text.now c.in-Some.user.now (on_data t) = record {
      is_sid = c.args.sid.in_range;
      is_user = sym c.in-Some.ensures;
      clear = c.in-Ok.ensures.clear;
      has = subst (λ (x : Command). HasCommand c.args.text.now (command_tree x)) c.in-Data.is c.in-Ok.ensures.found;
      one = c.one_tree.ensures c.args.text.now;
    } in
    c.queries_lead.ensures.refused e _ c.args.sid.number c.args.text.now c.in-Some.user.now (query_in t) _ (read_query e c.args.sid.number c.args.text.now c.in-Some.user.now t read) c.requires
    (rw c.deref.ensures.value at c.in-Err-run_select.ensures.err)

pub returns-in-Ok-alter-clause-leads : goal.returns-in-Ok-alter-clause-leads
returns-in-Ok-alter-clause-leads g c =
    let e = shown g.W.Wrapper.meaning c.args.self.now in
    let d = ddl_tree c.in-Ddl.ddl in
    let read : IsRead e c.args.sid.number c.args.text.now c.in-Some.user.now (on_objects d) = record {
      is_sid = c.args.sid.in_range;
      is_user = sym c.in-Some.ensures;
      clear = c.in-Ok.ensures.clear;
      has = subst (λ (x : Command). HasCommand c.args.text.now (command_tree x)) c.in-Ddl.is c.in-Ok.ensures.found;
      one = c.one_tree.ensures c.args.text.now;
    } in
    c.changes_lead.ensures.done e _ c.args.sid.number c.args.text.now c.in-Some.user.now d read c.requires (rw (c.as_str.ensures.value, c.in-Ok-from_str.ensures.ok) at c.in-Ok-alter.ensures.ok)

pub returns-clause-sound : goal.returns-clause-sound
returns-clause-sound g c =
    c.changes_lead.ensures.refused_sound (shown g.W.Wrapper.meaning c.args.self.now) _ _ (ddl_tree c.in-Ddl.ddl) c.in-Err-alter.cause c.requires c.in-Err-alter.ensures.err

pub returns-clause-leads : goal.returns-clause-leads
returns-clause-leads g c =
    let e = shown g.W.Wrapper.meaning c.args.self.now in
    let d = ddl_tree c.in-Ddl.ddl in
    let read : IsRead e c.args.sid.number c.args.text.now c.in-Some.user.now (on_objects d) = record {
      is_sid = c.args.sid.in_range;
      is_user = sym c.in-Some.ensures;
      clear = c.in-Ok.ensures.clear;
      has = subst (λ (x : Command). HasCommand c.args.text.now (command_tree x)) c.in-Ddl.is c.in-Ok.ensures.found;
      one = c.one_tree.ensures c.args.text.now;
    } in
    c.changes_lead.ensures.refused e _ c.args.sid.number c.args.text.now c.in-Some.user.now d c.in-Err-alter.cause read c.requires (rw (c.as_str.ensures.value, c.in-Ok-from_str.ensures.ok) at c.in-Err-alter.ensures.err)

-- ---- a write

tag_told : (e after : Shown) (sid : ℕ) (text : List ℕ) (tag told : List ℕ) → tag ≡ told → Leads e sid (sql text) (done tag) after → Leads e sid (sql text) (done told) after
tag_told e after sid text tag told same h = subst (λ (x : List ℕ). Leads e sid (sql text) (done x) after) same h

pub run_write-requires-clause-ready : goal.run_write-requires-clause-ready
run_write-requires-clause-ready g c = rw c.deref-in-Rows-2.ensures.value (ready_of (shown g.W.Wrapper.meaning c.args.self.now) c.requires)

pub run_write-requires-clause-unread : goal.run_write-requires-clause-unread
run_write-requires-clause-unread g c =
    let e = shown g.W.Wrapper.meaning c.args.self.now in
    rw (c.deref-in-Rows-2.ensures.value, c.is_leased-leased.ensures, c.deref-in-Rows.ensures.value, c.table_of.ensures)
    (λ free at s target there. c.boxes_are_ready.ensures.unread e (write_tree c.in-Rows.write) at s c.requires free target there)

pub run_write-requires-clause-clean : goal.run_write-requires-clause-clean
run_write-requires-clause-clean g c =
    c.texts_are_clean.ensures c.args.text.now (write_tree c.in-Rows.write) (subst (λ (x : Command). HasCommand c.args.text.now (command_tree x)) c.in-Rows.is c.in-Ok.ensures.found)

pub returns-in-Ok-run_write-clause-sound : goal.returns-in-Ok-run_write-clause-sound
returns-in-Ok-run_write-clause-sound g c =
    c.writes_lead.ensures.done_sound (shown g.W.Wrapper.meaning c.args.self.now) _ c.in-Some.user.now (write_tree c.in-Rows.write) _ c.requires (rw (c.deref-in-Rows-2.ensures.value, c.is_leased-leased.ensures, c.deref-in-Rows.ensures.value, c.table_of.ensures) at c.in-Ok-run_write.ensures.ok)

pub returns-in-Ok-run_write-clause-leads : goal.returns-in-Ok-run_write-clause-leads
returns-in-Ok-run_write-clause-leads g c =
    let e = shown g.W.Wrapper.meaning c.args.self.now in
    let t = write_tree c.in-Rows.write in
    let read : IsRead e c.args.sid.number c.args.text.now c.in-Some.user.now (on_rows t) = record {
      is_sid = c.args.sid.in_range;
      is_user = sym c.in-Some.ensures;
      clear = c.in-Ok.ensures.clear;
      has = subst (λ (x : Command). HasCommand c.args.text.now (command_tree x)) c.in-Rows.is c.in-Ok.ensures.found;
      one = c.one_tree.ensures c.args.text.now;
    } in
    tag_told _ _ _ _ _ _ (sym (c.word_of-word.ensures c.in-Ok-run_write.count))
    (c.writes_lead.ensures.done e _ c.args.sid.number c.args.text.now c.in-Some.user.now t c.in-Ok-run_write.count read c.requires (rw (c.deref-in-Rows-2.ensures.value, c.is_leased-leased.ensures, c.deref-in-Rows.ensures.value, c.table_of.ensures) at c.in-Ok-run_write.ensures.ok))

pub returns-in-Rows-clause-sound : goal.returns-in-Rows-clause-sound
returns-in-Rows-clause-sound g c =
    c.writes_lead.ensures.refused_sound (shown g.W.Wrapper.meaning c.args.self.now) _ c.in-Some.user.now (write_tree c.in-Rows.write) _ c.requires (rw (c.deref-in-Rows-2.ensures.value, c.is_leased-leased.ensures, c.deref-in-Rows.ensures.value, c.table_of.ensures) at c.in-Err-run_write.ensures.err)

pub returns-in-Rows-clause-leads : goal.returns-in-Rows-clause-leads
returns-in-Rows-clause-leads g c =
    let e = shown g.W.Wrapper.meaning c.args.self.now in
    let t = write_tree c.in-Rows.write in
    let read : IsRead e c.args.sid.number c.args.text.now c.in-Some.user.now (on_rows t) = record {
      is_sid = c.args.sid.in_range;
      is_user = sym c.in-Some.ensures;
      clear = c.in-Ok.ensures.clear;
      has = subst (λ (x : Command). HasCommand c.args.text.now (command_tree x)) c.in-Rows.is c.in-Ok.ensures.found;
      one = c.one_tree.ensures c.args.text.now;
    } in
    c.writes_lead.ensures.refused e _ c.args.sid.number c.args.text.now c.in-Some.user.now t _ read c.requires (rw (c.deref-in-Rows-2.ensures.value, c.is_leased-leased.ensures, c.deref-in-Rows.ensures.value, c.table_of.ensures) at c.in-Err-run_write.ensures.err)

-- ---- a cursor

pub returns-in-Cursor-clause-leads : goal.returns-in-Cursor-clause-leads
returns-in-Cursor-clause-leads g c =
    let t = cursor_tree c.in-Cursor.statement in
    let read : IsRead (shown g.W.Wrapper.meaning c.args.self.now) c.args.sid.number c.args.text.now c.in-Some.user.now (on_cursors t) = record {
      is_sid = c.args.sid.in_range;
      is_user = sym c.in-Some.ensures;
      clear = c.in-Ok.ensures.clear;
      has = subst (λ (x : Command). HasCommand c.args.text.now (command_tree x)) c.in-Cursor.is c.in-Ok.ensures.found;
      one = c.one_tree.ensures c.args.text.now;
    } in
    c.turn.ensures.leads c.args.text.now c.in-Some.user.now read

pub returns-in-Cursor-clause-untold : goal.returns-in-Cursor-clause-untold
returns-in-Cursor-clause-untold g c =
    let t = cursor_tree c.in-Cursor.statement in
    let read : IsRead (shown g.W.Wrapper.meaning c.args.self.now) c.args.sid.number c.args.text.now c.in-Some.user.now (on_cursors t) = record {
      is_sid = c.args.sid.in_range;
      is_user = sym c.in-Some.ensures;
      clear = c.in-Ok.ensures.clear;
      has = subst (λ (x : Command). HasCommand c.args.text.now (command_tree x)) c.in-Cursor.is c.in-Ok.ensures.found;
      one = c.one_tree.ensures c.args.text.now;
    } in
    c.turn.ensures.untold c.args.text.now c.in-Some.user.now read
