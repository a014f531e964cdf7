use Rattle.std.proofs.Common.{◌≡◌, ◌∙◌, ap, sym, refl}
use Rattle.med_catalog.specs.View.{server_of}
use Rattle.med_world.specs.Engine.{Label, IsNamedAt}
use Rattle.med_session.specs.Shows.{label, shown}
use Rattle.med_session.proofs.Tables.{of_other_kind, taken_by, box_counted, dropped_by, label_read}
use Rattle.med_session.proofs.engine.Engine.free_place.Goals as goal

pub returns-then-not-is_same_kind-clause-none : goal.returns-then-not-is_same_kind-clause-none
returns-then-not-is_same_kind-clause-none g c name =
    let e = shown g.W.Wrapper.meaning c.args.self.now in
    let s = server_of name c.args.server.now in
    let at : IsNamedAt e.labels c.in_ok-place.place s.source = rw (c.deref.ensures.value, c.as_str.ensures.value) at c.in_ok-place.ensures.found in
    let read : at.0 ≡ label c.index.result.now = label_read c.args.self.now.sources.items c.in_ok-place.place c.index.result.now at.0 c.index.ensures at.1 in
    of_other_kind e s c.in_ok-place.place at.0 c.requires at.1 at.2 (λ same. c.if-not-is_same_kind.ensures.differs refl (sym (ap (λ (l : Label). l.kind) read) ∙ same))

pub returns-then-is_taken-clause-none : goal.returns-then-is_taken-clause-none
returns-then-is_taken-clause-none g c name =
    taken_by (shown g.W.Wrapper.meaning c.args.self.now) (server_of name c.args.server.now) (rw c.as_str-2.ensures.value at (sym c.if-is_taken.ensures))

pub returns-in-Some-clause-found : goal.returns-in-Some-clause-found
returns-in-Some-clause-found g c name =
    let e = shown g.W.Wrapper.meaning c.args.self.now in
    let s = server_of name c.args.server.now in
    let at : IsNamedAt e.labels c.in_ok-place.place s.source = rw (c.deref.ensures.value, c.as_str.ensures.value) at c.in_ok-place.ensures.found in
    let read : at.0 ≡ label c.index.result.now = label_read c.args.self.now.sources.items c.in_ok-place.place c.index.result.now at.0 c.index.ensures at.1 in
    let b = box_counted e c.in_ok-place.place c.in-Some.field-0 (sym c.ledger_at.ensures ∙ c.in-Some.is) in
    record {
      stands = record {
        label = at.0;
        there = at.1;
        named = at.2;
        of_kind = ap (λ (l : Label). l.kind) read ∙ c.if-not-is_same_kind.ensures.same refl;
        box = b.0;
        box_there = b.1;
      };
      untaken = rw c.as_str-2.ensures.value at (sym c.if-is_taken.ensures);
    }

pub returns-in-None-clause-none : goal.returns-in-None-clause-none
returns-in-None-clause-none g c name =
    let e = shown g.W.Wrapper.meaning c.args.self.now in
    let s = server_of name c.args.server.now in
    let at : IsNamedAt e.labels c.in_ok-place.place s.source = rw (c.deref.ensures.value, c.as_str.ensures.value) at c.in_ok-place.ensures.found in
    dropped_by e s c.in_ok-place.place c.requires at (sym c.ledger_at.ensures ∙ c.in-None.is)
