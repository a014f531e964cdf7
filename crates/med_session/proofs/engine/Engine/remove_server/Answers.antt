use Rattle.std.proofs.Common.{string_bytes}
use Rattle.med_exec.specs.Slots.{states}
use Rattle.med_catalog.specs.View.{objects}
use Rattle.med_world.specs.Engine.{IsServerAt}
use Rattle.med_session.specs.Shows.{shown}
use Rattle.med_session.proofs.Tables.{drops_by}
use Rattle.med_session.proofs.engine.Engine.remove_server.Goals as goal

pub drop_at-requires : goal.drop_at-requires
drop_at-requires g c =
    let e = shown g.W.Wrapper.meaning c.args.self.now in
    let server : IsServerAt e (string_bytes c.args.name) c.in-Some.place = rw c.as_str.ensures.value at c.in-Some.ensures.found in
    let b = c.boxes_are_ready.ensures.there e (string_bytes c.args.name) c.in-Some.place c.requires.sound server in
    record { box = b.0; there = b.1; holds = c.requires.idle c.in-Some.place b.0 server b.1 }

pub returns-in-Ok-clause-ok : goal.returns-in-Ok-clause-ok
returns-in-Ok-clause-ok g c =
    let e = shown g.W.Wrapper.meaning c.args.self.now in
    let server : IsServerAt e (string_bytes c.args.name) c.in-Some.place = rw c.as_str.ensures.value at c.in-Some.ensures.found in
    let b = c.boxes_are_ready.ensures.there e (string_bytes c.args.name) c.in-Some.place c.requires.sound server in
    record {
      place = c.in-Some.place;
      server = server;
      box = b.0;
      there = b.1;
      idle = c.requires.idle c.in-Some.place b.0 server b.1;
      is = drops_by e (string_bytes c.args.name) (objects c.apply.new.self) (states g.W.Wrapper.meaning c.drop_at.new.slots.items) c.in-Some.place c.in-Ok.ensures.ok c.drop_at.ensures;
    }
