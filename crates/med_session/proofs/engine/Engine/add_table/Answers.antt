use Rattle.std.proofs.Common.{◌≡◌, ◌<◌, ◌-◌, ◌+◌, ◌∙◌, map, length, Some, slice_get, string_bytes, sym, ap, subst, refl, arith}
use Rattle.std.proofs.lemmas.List.{length-map}
use Rattle.med_exec.specs.Slots.{states}
use Rattle.med_catalog.specs.View.{objects, table_of}
use Rattle.med_binder.specs.Places.{attached}
use Rattle.med_world.specs.Engine.{IsServerAt}
use Rattle.med_session.specs.Binding.{BindsLast}
use Rattle.med_session.specs.Tables.{undone}
use Rattle.med_session.specs.Shows.{shown}
use Rattle.med_session.proofs.Tables.{binds_by, last_bound, grown_by_one, can_let_go, in_vain, let_go, removed_attached, bind_failed, get_within, undone_by, left_as_it_was}
use Rattle.med_session.proofs.engine.Engine.add_table.Goals as goal

pub bind_table-bound-requires : goal.bind_table-bound-requires
bind_table-bound-requires g c =
    let e = shown g.W.Wrapper.meaning c.args.self.now in
    let server : IsServerAt e (string_bytes c.args.table.server) c.in-Some.place = rw c.as_str.ensures.value at c.in-Some.ensures.found in
    let b = c.boxes_are_ready.ensures.there e (string_bytes c.args.table.server) c.in-Some.place c.requires.sound server in
    rw (c.as_str-2.ensures.value, c.deref.ensures.value, c.deref-2.ensures.value) (record { box = b.0; there = b.1; holds = c.requires.ready c.in-Some.place b.0 server b.1 })

pub unbind_table-requires-clause-unbinds : goal.unbind_table-requires-clause-unbinds
unbind_table-requires-clause-unbinds g c t at =
    let e = shown g.W.Wrapper.meaning c.args.self.now in
    let made = table_of (string_bytes c.args.name) c.args.table in
    let new = c.bind_table-bound.new.bound.items in
    let last : BindsLast c.in-Some.place made.remote made.columns made.settings e.boxes e.bound (states g.W.Wrapper.meaning c.bind_table-bound.new.slots.items) (map attached new) =
    rw (c.as_str-2.ensures.value, c.deref.ensures.value, c.deref-2.ensures.value) at c.in-Ok.ensures.ok in
    let counted : c.len-last.result ≡ length new = c.len-last.ensures ∙ c.bind_table-bound.new.bound.ok.0 in
    let grown : length new ≡ length c.args.self.now.bound.items + 1 = grown_by_one c.args.self.now.bound.items new _ last.appends in
    let there : c.len-last.result - 1 ≡ length c.args.self.now.bound.items = omega (arith, counted, grown) in
    can_let_go e (states g.W.Wrapper.meaning c.bind_table-bound.new.slots.items) c.in-Some.place last.number made.remote made.columns made.settings t c.requires.sound last.binds
    (last_bound c.args.self.now.bound.items new c.in-Some.place last.number t last.appends (subst (λ n. slice_get new n ≡ Some t) there at))

pub returns-in-Err-clause-err : goal.returns-in-Err-clause-err
returns-in-Err-clause-err g c =
    let e = shown g.W.Wrapper.meaning c.args.self.now in
    let server : IsServerAt e (string_bytes c.args.table.server) c.in-Some.place = rw c.as_str.ensures.value at c.in-Some.ensures.found in
    rw c.in-Err.ensures.kept (bind_failed e (table_of (string_bytes c.args.name) c.args.table) c.in-Some.place c.in-Err.cause (states g.W.Wrapper.meaning c.bind_table-bound.new.slots.items) server
    (rw (c.as_str-2.ensures.value, c.deref.ensures.value, c.deref-2.ensures.value) at c.in-Err.ensures.err))

pub returns-in-Ok-apply-clause-ok : goal.returns-in-Ok-apply-clause-ok
returns-in-Ok-apply-clause-ok g c =
    let e = shown g.W.Wrapper.meaning c.args.self.now in
    let made = table_of (string_bytes c.args.name) c.args.table in
    let new = c.bind_table-bound.new.bound.items in
    let last : BindsLast c.in-Some.place made.remote made.columns made.settings e.boxes e.bound (states g.W.Wrapper.meaning c.bind_table-bound.new.slots.items) (map attached new) =
    rw (c.as_str-2.ensures.value, c.deref.ensures.value, c.deref-2.ensures.value) at c.in-Ok.ensures.ok in
    let server : IsServerAt e (string_bytes c.args.table.server) c.in-Some.place = rw c.as_str.ensures.value at c.in-Some.ensures.found in
    record {
      place = c.in-Some.place;
      server = server;
      number = last.number;
      binds = last.binds;
      is = binds_by e made (objects c.apply.new.self) (states g.W.Wrapper.meaning c.bind_table-bound.new.slots.items) (map attached new) _ c.in-Ok-apply.ensures.ok last.appends;
    }

pub returns-in-Err-apply-clause-err : goal.returns-in-Err-apply-clause-err
returns-in-Err-apply-clause-err g c =
    let e = shown g.W.Wrapper.meaning c.args.self.now in
    let made = table_of (string_bytes c.args.name) c.args.table in
    let old = c.args.self.now.bound.items in
    let new = c.bind_table-bound.new.bound.items in
    let mid = states g.W.Wrapper.meaning c.bind_table-bound.new.slots.items in
    let after = states g.W.Wrapper.meaning c.unbind_table.new.slots.items in
    let last : BindsLast c.in-Some.place made.remote made.columns made.settings e.boxes e.bound mid (map attached new) =
    rw (c.as_str-2.ensures.value, c.deref.ensures.value, c.deref-2.ensures.value) at c.in-Ok.ensures.ok in
    let counted : c.len-last.result ≡ length new = c.len-last.ensures ∙ c.bind_table-bound.new.bound.ok.0 in
    let grown : length new ≡ length old + 1 = grown_by_one old new _ last.appends in
    let there : c.len-last.result - 1 ≡ length old = omega (arith, counted, grown) in
    let within : c.len-last.result - 1 < length new = omega (arith, counted, grown) in
    let t = get_within new (c.len-last.result - 1) within in
    let is = last_bound old new c.in-Some.place last.number t.0 last.appends (subst (λ n. slice_get new n ≡ Some t.0) there t.1) in
    undone c.in-Some.place refl (in_vain e made mid after c.in-Some.place last.number last.binds (let_go mid after c.in-Some.place last.number t.0 is (c.unbind_table.ensures.unbound t.0 t.1)))
    (undone_by e (objects c.apply.new.self) after (map attached c.unbind_table.new.bound.items) c.in-Err-apply.ensures.err
    (ap (map attached) c.unbind_table.ensures.left ∙ removed_attached new (c.len-last.result - 1) ∙ left_as_it_was e.bound (map attached new) _ (c.len-last.result - 1) last.appends (there ∙ sym (length-map old attached))))
