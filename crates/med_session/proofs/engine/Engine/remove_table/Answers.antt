use Rattle.std.proofs.Common.{◌<◌, ◌∙◌, map, length, string_bytes, ap}
use Rattle.med_exec.specs.Slots.{states}
use Rattle.med_catalog.specs.View.{objects}
use Rattle.med_binder.specs.Places.{attached}
use Rattle.med_world.specs.Engine.{leased, IsFirst}
use Rattle.med_session.specs.Shows.{shown}
use Rattle.med_session.proofs.Tables.{first_at, removed_first, attached_at, removed_attached, get_within, bound_within, unbinds_by}
use Rattle.med_session.proofs.engine.Engine.remove_table.Goals as goal

pub unbind_table-requires-clause-within : goal.unbind_table-requires-clause-within
unbind_table-requires-clause-within g c =
    let e = shown g.W.Wrapper.meaning c.args.self.now in
    bound_within e c.args.self.now.bound.items c.in-Some.place _ c.requires.sound.many c.in-Some.ensures.there

pub unbind_table-requires-clause-unbinds : goal.unbind_table-requires-clause-unbinds
unbind_table-requires-clause-unbinds g c t at =
    let e = shown g.W.Wrapper.meaning c.args.self.now in
    c.boxes_are_ready.ensures.unbinds e _ c.in-Some.place (attached t) c.requires.sound c.in-Some.ensures.there (attached_at c.args.self.now.bound.items c.in-Some.place t at)
    (ap (leased e) c.as_str.ensures.value ∙ c.requires.free)

pub returns-in-Ok-clause-ok : goal.returns-in-Ok-clause-ok
returns-in-Ok-clause-ok g c =
    let e = shown g.W.Wrapper.meaning c.args.self.now in
    let name = string_bytes c.args.name in
    let within : c.in-Some.place < length c.args.self.now.bound.items = bound_within e c.args.self.now.bound.items c.in-Some.place _ c.requires.sound.many c.in-Some.ensures.there in
    let t = get_within c.args.self.now.bound.items c.in-Some.place within in
    let first : IsFirst name e.catalog.tables c.in-Some.place = first_at e.catalog.tables name c.in-Some.place _ c.requires.sound.objects.table_names c.in-Some.ensures.there c.as_str.ensures.value in
    record {
      place = c.in-Some.place;
      first = first;
      at = attached t.0;
      bound = attached_at c.args.self.now.bound.items c.in-Some.place t.0 t.1;
      unbinds = c.unbind_table.ensures.unbound t.0 t.1;
      is = unbinds_by e name (objects c.apply.new.self) (states g.W.Wrapper.meaning c.unbind_table.new.slots.items) (map attached c.unbind_table.new.bound.items) c.in-Ok.ensures.ok
          (ap (map attached) c.unbind_table.ensures.left ∙ removed_attached c.args.self.now.bound.items c.in-Some.place ∙ removed_first name e.catalog.tables e.bound c.in-Some.place first c.requires.sound.many);
    }
