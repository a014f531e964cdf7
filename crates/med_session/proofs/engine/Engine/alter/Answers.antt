use Rattle.std.proofs.Common.{◌≡◌, true, false, string_bytes, refl, sym, ◌∙◌, subst}
use Rattle.std.proofs.lemmas.Result.{err_from_is_err_and}
use Rattle.med_syntax.specs.DdlView.{ddl_tree}
use Rattle.med_value.specs.declared.cause.Cause.TheVariants.{InUse}
use Rattle.med_catalog.specs.Prelude.{Asks, nothing, objects, change_of, server_of, table_of}
use Rattle.med_catalog.specs.declared.change.Change.{Change}
use Rattle.med_world.specs.Engine.{leased}
use Rattle.med_session.specs.Shows.{shown}
use Rattle.med_session.proofs.Tables.{told_leased, not_checked, allowed_by, is_altered, server_added, server_not_added, table_not_added, dropped_server, dropped_table, on_follows, err_follows, err_kept}
use Rattle.med_session.proofs.engine.Engine.alter.Goals as goal

pub returns-in_err-check-clause-err : goal.returns-in_err-check-clause-err
returns-in_err-check-clause-err g c =
    let e = shown g.W.Wrapper.meaning c.args.self.now in
    let p = err_from_is_err_and c.from_residual.result c.from_residual.ensures.1 in
    rw (p.1, p.2) (not_checked e c.args.user.now (ddl_tree c.args.ddl.now) _ (c.leases_bar_drops.ensures.told e.catalog (leased e) c.args.user.now (ddl_tree c.args.ddl.now) _) c.in_err-check.ensures.refused)

-- ---- what the changes ask

pub add_table-requires-clause-ready : goal.add_table-requires-clause-ready
add_table-requires-clause-ready g c = λ place s server there.
    c.boxes_are_ready.ensures.binds (shown g.W.Wrapper.meaning c.args.self.now) c.args.user.now (ddl_tree c.args.ddl.now) _ place s c.requires
    (allowed_by (shown g.W.Wrapper.meaning c.args.self.now) c.args.user.now (ddl_tree c.args.ddl.now) _
    (c.leases_bar_drops.ensures.clear (objects c.args.self.now.catalog) (leased (shown g.W.Wrapper.meaning c.args.self.now)) c.args.user.now (ddl_tree c.args.ddl.now) _ c.in_ok-check.ensures.clear (subst (λ (x : Change). Asks (objects c.args.self.now.catalog) c.args.user.now (ddl_tree c.args.ddl.now) (change_of x)) c.in-NewTable.is c.in_ok-check.ensures.asks))
    (subst (λ (x : Change). Asks (objects c.args.self.now.catalog) c.args.user.now (ddl_tree c.args.ddl.now) (change_of x)) c.in-NewTable.is c.in_ok-check.ensures.asks) (λ name is. absurd cc)) server there

pub remove_server-requires-clause-there : goal.remove_server-requires-clause-there
remove_server-requires-clause-there g c = dropped_server (objects c.args.self.now.catalog) c.args.user.now (ddl_tree c.args.ddl.now) (string_bytes c.in-NoServer.name) c.in_ok-check.ensures.clear (subst (λ (x : Change). Asks (objects c.args.self.now.catalog) c.args.user.now (ddl_tree c.args.ddl.now) (change_of x)) c.in-NoServer.is c.in_ok-check.ensures.asks)

pub remove_server-requires-clause-idle : goal.remove_server-requires-clause-idle
remove_server-requires-clause-idle g c = λ place s server there.
    c.boxes_are_ready.ensures.idle (shown g.W.Wrapper.meaning c.args.self.now) c.args.user.now (ddl_tree c.args.ddl.now) (string_bytes c.in-NoServer.name) place s c.requires
    (allowed_by (shown g.W.Wrapper.meaning c.args.self.now) c.args.user.now (ddl_tree c.args.ddl.now) _
    (c.leases_bar_drops.ensures.clear (objects c.args.self.now.catalog) (leased (shown g.W.Wrapper.meaning c.args.self.now)) c.args.user.now (ddl_tree c.args.ddl.now) _ c.in_ok-check.ensures.clear (subst (λ (x : Change). Asks (objects c.args.self.now.catalog) c.args.user.now (ddl_tree c.args.ddl.now) (change_of x)) c.in-NoServer.is c.in_ok-check.ensures.asks))
    (subst (λ (x : Change). Asks (objects c.args.self.now.catalog) c.args.user.now (ddl_tree c.args.ddl.now) (change_of x)) c.in-NoServer.is c.in_ok-check.ensures.asks) (λ name is. absurd cc)) server there

pub remove_table-requires-clause-there : goal.remove_table-requires-clause-there
remove_table-requires-clause-there g c = dropped_table (objects c.args.self.now.catalog) c.args.user.now (ddl_tree c.args.ddl.now) (string_bytes c.in-NoTable.name) c.in_ok-check.ensures.clear (subst (λ (x : Change). Asks (objects c.args.self.now.catalog) c.args.user.now (ddl_tree c.args.ddl.now) (change_of x)) c.in-NoTable.is c.in_ok-check.ensures.asks)

pub remove_table-requires-clause-free : goal.remove_table-requires-clause-free
remove_table-requires-clause-free g c = sym (rw (c.deref.ensures.value, c.as_str.ensures.value) at c.is_leased.ensures) ∙ c.if-is_leased.false

-- ---- done

pub returns-in-Nothing-clause-ok : goal.returns-in-Nothing-clause-ok
returns-in-Nothing-clause-ok g c =
    let e = shown g.W.Wrapper.meaning c.args.self.now in
    is_altered e e c.args.user.now (ddl_tree c.args.ddl.now) nothing
    (allowed_by (shown g.W.Wrapper.meaning c.args.self.now) c.args.user.now (ddl_tree c.args.ddl.now) _
    (c.leases_bar_drops.ensures.clear (objects c.args.self.now.catalog) (leased (shown g.W.Wrapper.meaning c.args.self.now)) c.args.user.now (ddl_tree c.args.ddl.now) _ c.in_ok-check.ensures.clear (subst (λ (x : Change). Asks (objects c.args.self.now.catalog) c.args.user.now (ddl_tree c.args.ddl.now) (change_of x)) c.in-Nothing.is c.in_ok-check.ensures.asks))
    (subst (λ (x : Change). Asks (objects c.args.self.now.catalog) c.args.user.now (ddl_tree c.args.ddl.now) (change_of x)) c.in-Nothing.is c.in_ok-check.ensures.asks) (λ name is. absurd cc)) tt refl

pub returns-in-NewServer-clause-ok : goal.returns-in-NewServer-clause-ok
returns-in-NewServer-clause-ok g c = on_follows c.add_server.result c.add_server.ensures.ok (λ taken.
    server_added (shown g.W.Wrapper.meaning c.args.self.now) _ c.args.user.now (ddl_tree c.args.ddl.now) _
    (allowed_by (shown g.W.Wrapper.meaning c.args.self.now) c.args.user.now (ddl_tree c.args.ddl.now) _
    (c.leases_bar_drops.ensures.clear (objects c.args.self.now.catalog) (leased (shown g.W.Wrapper.meaning c.args.self.now)) c.args.user.now (ddl_tree c.args.ddl.now) _ c.in_ok-check.ensures.clear (subst (λ (x : Change). Asks (objects c.args.self.now.catalog) c.args.user.now (ddl_tree c.args.ddl.now) (change_of x)) c.in-NewServer.is c.in_ok-check.ensures.asks))
    (subst (λ (x : Change). Asks (objects c.args.self.now.catalog) c.args.user.now (ddl_tree c.args.ddl.now) (change_of x)) c.in-NewServer.is c.in_ok-check.ensures.asks) (λ name is. absurd cc)) taken)

pub returns-in-NewTable-clause-ok : goal.returns-in-NewTable-clause-ok
returns-in-NewTable-clause-ok g c = on_follows c.add_table.result c.add_table.ensures.ok (λ made.
    is_altered (shown g.W.Wrapper.meaning c.args.self.now) _ c.args.user.now (ddl_tree c.args.ddl.now) _
    (allowed_by (shown g.W.Wrapper.meaning c.args.self.now) c.args.user.now (ddl_tree c.args.ddl.now) _
    (c.leases_bar_drops.ensures.clear (objects c.args.self.now.catalog) (leased (shown g.W.Wrapper.meaning c.args.self.now)) c.args.user.now (ddl_tree c.args.ddl.now) _ c.in_ok-check.ensures.clear (subst (λ (x : Change). Asks (objects c.args.self.now.catalog) c.args.user.now (ddl_tree c.args.ddl.now) (change_of x)) c.in-NewTable.is c.in_ok-check.ensures.asks))
    (subst (λ (x : Change). Asks (objects c.args.self.now.catalog) c.args.user.now (ddl_tree c.args.ddl.now) (change_of x)) c.in-NewTable.is c.in_ok-check.ensures.asks) (λ name is. absurd cc)) tt made)

pub returns-in-NoServer-clause-ok : goal.returns-in-NoServer-clause-ok
returns-in-NoServer-clause-ok g c = on_follows c.remove_server.result c.remove_server.ensures.ok (λ made.
    is_altered (shown g.W.Wrapper.meaning c.args.self.now) _ c.args.user.now (ddl_tree c.args.ddl.now) _
    (allowed_by (shown g.W.Wrapper.meaning c.args.self.now) c.args.user.now (ddl_tree c.args.ddl.now) _
    (c.leases_bar_drops.ensures.clear (objects c.args.self.now.catalog) (leased (shown g.W.Wrapper.meaning c.args.self.now)) c.args.user.now (ddl_tree c.args.ddl.now) _ c.in_ok-check.ensures.clear (subst (λ (x : Change). Asks (objects c.args.self.now.catalog) c.args.user.now (ddl_tree c.args.ddl.now) (change_of x)) c.in-NoServer.is c.in_ok-check.ensures.asks))
    (subst (λ (x : Change). Asks (objects c.args.self.now.catalog) c.args.user.now (ddl_tree c.args.ddl.now) (change_of x)) c.in-NoServer.is c.in_ok-check.ensures.asks) (λ name is. absurd cc)) tt made)

pub returns-in-NewWrapper-clause-ok : goal.returns-in-NewWrapper-clause-ok
returns-in-NewWrapper-clause-ok g c = on_follows c.change_objects.result c.change_objects.ensures.ok (λ made.
    is_altered (shown g.W.Wrapper.meaning c.args.self.now) _ c.args.user.now (ddl_tree c.args.ddl.now) _
    (allowed_by (shown g.W.Wrapper.meaning c.args.self.now) c.args.user.now (ddl_tree c.args.ddl.now) _
    (c.leases_bar_drops.ensures.clear (objects c.args.self.now.catalog) (leased (shown g.W.Wrapper.meaning c.args.self.now)) c.args.user.now (ddl_tree c.args.ddl.now) _ c.in_ok-check.ensures.clear (subst (λ (x : Change). Asks (objects c.args.self.now.catalog) c.args.user.now (ddl_tree c.args.ddl.now) (change_of x)) c.in-NewWrapper.is c.in_ok-check.ensures.asks))
    (subst (λ (x : Change). Asks (objects c.args.self.now.catalog) c.args.user.now (ddl_tree c.args.ddl.now) (change_of x)) c.in-NewWrapper.is c.in_ok-check.ensures.asks) (λ name is. absurd cc)) tt made)

pub returns-in-NewMapping-clause-ok : goal.returns-in-NewMapping-clause-ok
returns-in-NewMapping-clause-ok g c = on_follows c.change_objects-in-NewMapping.result c.change_objects-in-NewMapping.ensures.ok (λ made.
    is_altered (shown g.W.Wrapper.meaning c.args.self.now) _ c.args.user.now (ddl_tree c.args.ddl.now) _
    (allowed_by (shown g.W.Wrapper.meaning c.args.self.now) c.args.user.now (ddl_tree c.args.ddl.now) _
    (c.leases_bar_drops.ensures.clear (objects c.args.self.now.catalog) (leased (shown g.W.Wrapper.meaning c.args.self.now)) c.args.user.now (ddl_tree c.args.ddl.now) _ c.in_ok-check.ensures.clear (subst (λ (x : Change). Asks (objects c.args.self.now.catalog) c.args.user.now (ddl_tree c.args.ddl.now) (change_of x)) c.in-NewMapping.is c.in_ok-check.ensures.asks))
    (subst (λ (x : Change). Asks (objects c.args.self.now.catalog) c.args.user.now (ddl_tree c.args.ddl.now) (change_of x)) c.in-NewMapping.is c.in_ok-check.ensures.asks) (λ name is. absurd cc)) tt made)

pub returns-in-NoWrapper-clause-ok : goal.returns-in-NoWrapper-clause-ok
returns-in-NoWrapper-clause-ok g c = on_follows c.change_objects-in-NoWrapper.result c.change_objects-in-NoWrapper.ensures.ok (λ made.
    is_altered (shown g.W.Wrapper.meaning c.args.self.now) _ c.args.user.now (ddl_tree c.args.ddl.now) _
    (allowed_by (shown g.W.Wrapper.meaning c.args.self.now) c.args.user.now (ddl_tree c.args.ddl.now) _
    (c.leases_bar_drops.ensures.clear (objects c.args.self.now.catalog) (leased (shown g.W.Wrapper.meaning c.args.self.now)) c.args.user.now (ddl_tree c.args.ddl.now) _ c.in_ok-check.ensures.clear (subst (λ (x : Change). Asks (objects c.args.self.now.catalog) c.args.user.now (ddl_tree c.args.ddl.now) (change_of x)) c.in-NoWrapper.is c.in_ok-check.ensures.asks))
    (subst (λ (x : Change). Asks (objects c.args.self.now.catalog) c.args.user.now (ddl_tree c.args.ddl.now) (change_of x)) c.in-NoWrapper.is c.in_ok-check.ensures.asks) (λ name is. absurd cc)) tt made)

pub returns-in-NoMapping-clause-ok : goal.returns-in-NoMapping-clause-ok
returns-in-NoMapping-clause-ok g c = on_follows c.change_objects-in-NoMapping.result c.change_objects-in-NoMapping.ensures.ok (λ made.
    is_altered (shown g.W.Wrapper.meaning c.args.self.now) _ c.args.user.now (ddl_tree c.args.ddl.now) _
    (allowed_by (shown g.W.Wrapper.meaning c.args.self.now) c.args.user.now (ddl_tree c.args.ddl.now) _
    (c.leases_bar_drops.ensures.clear (objects c.args.self.now.catalog) (leased (shown g.W.Wrapper.meaning c.args.self.now)) c.args.user.now (ddl_tree c.args.ddl.now) _ c.in_ok-check.ensures.clear (subst (λ (x : Change). Asks (objects c.args.self.now.catalog) c.args.user.now (ddl_tree c.args.ddl.now) (change_of x)) c.in-NoMapping.is c.in_ok-check.ensures.asks))
    (subst (λ (x : Change). Asks (objects c.args.self.now.catalog) c.args.user.now (ddl_tree c.args.ddl.now) (change_of x)) c.in-NoMapping.is c.in_ok-check.ensures.asks) (λ name is. absurd cc)) tt made)

pub returns-else-is_leased-clause-ok : goal.returns-else-is_leased-clause-ok
returns-else-is_leased-clause-ok g c = on_follows c.remove_table.result c.remove_table.ensures.ok (λ made.
    let e = shown g.W.Wrapper.meaning c.args.self.now in
    let free : leased e (string_bytes c.in-NoTable.name) ≡ false = sym (rw (c.deref.ensures.value, c.as_str.ensures.value) at c.is_leased.ensures) ∙ c.if-is_leased.false in
    is_altered e _ c.args.user.now (ddl_tree c.args.ddl.now) _
    (allowed_by (shown g.W.Wrapper.meaning c.args.self.now) c.args.user.now (ddl_tree c.args.ddl.now) _
    (c.leases_bar_drops.ensures.clear (objects c.args.self.now.catalog) (leased (shown g.W.Wrapper.meaning c.args.self.now)) c.args.user.now (ddl_tree c.args.ddl.now) _ c.in_ok-check.ensures.clear (subst (λ (x : Change). Asks (objects c.args.self.now.catalog) c.args.user.now (ddl_tree c.args.ddl.now) (change_of x)) c.in-NoTable.is c.in_ok-check.ensures.asks))
    (subst (λ (x : Change). Asks (objects c.args.self.now.catalog) c.args.user.now (ddl_tree c.args.ddl.now) (change_of x)) c.in-NoTable.is c.in_ok-check.ensures.asks) (λ name is. let same : string_bytes c.in-NoTable.name ≡ name = cc in rw (sym same) free)) tt made)

-- ---- not done

pub returns-then-is_leased-clause-err : goal.returns-then-is_leased-clause-err
returns-then-is_leased-clause-err g c =
    let e = shown g.W.Wrapper.meaning c.args.self.now in
    let yes : leased e (string_bytes c.in-NoTable.name) ≡ true = sym (rw (c.deref.ensures.value, c.as_str.ensures.value) at c.is_leased.ensures) ∙ c.if-is_leased.true in
    told_leased e c.args.user.now (ddl_tree c.args.ddl.now) InUse
    (c.leases_bar_drops.ensures.barred e.catalog (leased e) c.args.user.now (ddl_tree c.args.ddl.now) (string_bytes c.in-NoTable.name) c.in_ok-check.ensures.clear (subst (λ (x : Change). Asks (objects c.args.self.now.catalog) c.args.user.now (ddl_tree c.args.ddl.now) (change_of x)) c.in-NoTable.is c.in_ok-check.ensures.asks) yes)

pub returns-in-NewServer-clause-err : goal.returns-in-NewServer-clause-err
returns-in-NewServer-clause-err g c =
    let e = shown g.W.Wrapper.meaning c.args.self.now in
    err_kept c.add_server.result c.add_server.ensures.err c.add_server.ensures.kept
    (λ x fails same. server_not_added e _ c.args.user.now (ddl_tree c.args.ddl.now) (server_of (string_bytes c.in-NewServer.name) c.in-NewServer.server) x
    (allowed_by (shown g.W.Wrapper.meaning c.args.self.now) c.args.user.now (ddl_tree c.args.ddl.now) _
    (c.leases_bar_drops.ensures.clear (objects c.args.self.now.catalog) (leased (shown g.W.Wrapper.meaning c.args.self.now)) c.args.user.now (ddl_tree c.args.ddl.now) _ c.in_ok-check.ensures.clear (subst (λ (x : Change). Asks (objects c.args.self.now.catalog) c.args.user.now (ddl_tree c.args.ddl.now) (change_of x)) c.in-NewServer.is c.in_ok-check.ensures.asks))
    (subst (λ (x : Change). Asks (objects c.args.self.now.catalog) c.args.user.now (ddl_tree c.args.ddl.now) (change_of x)) c.in-NewServer.is c.in_ok-check.ensures.asks) (λ name is. absurd cc)) fails same)

pub returns-in-NewTable-clause-err : goal.returns-in-NewTable-clause-err
returns-in-NewTable-clause-err g c =
    let e = shown g.W.Wrapper.meaning c.args.self.now in
    err_follows c.add_table.result c.add_table.ensures.err
    (λ x fails. table_not_added e _ c.args.user.now (ddl_tree c.args.ddl.now) (table_of (string_bytes c.in-NewTable.name) c.in-NewTable.table) x
    (allowed_by (shown g.W.Wrapper.meaning c.args.self.now) c.args.user.now (ddl_tree c.args.ddl.now) _
    (c.leases_bar_drops.ensures.clear (objects c.args.self.now.catalog) (leased (shown g.W.Wrapper.meaning c.args.self.now)) c.args.user.now (ddl_tree c.args.ddl.now) _ c.in_ok-check.ensures.clear (subst (λ (x : Change). Asks (objects c.args.self.now.catalog) c.args.user.now (ddl_tree c.args.ddl.now) (change_of x)) c.in-NewTable.is c.in_ok-check.ensures.asks))
    (subst (λ (x : Change). Asks (objects c.args.self.now.catalog) c.args.user.now (ddl_tree c.args.ddl.now) (change_of x)) c.in-NewTable.is c.in_ok-check.ensures.asks) (λ name is. absurd cc)) fails)
