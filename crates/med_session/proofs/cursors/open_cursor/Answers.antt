use Rattle.std.proofs.Common.{◌≡◌, true, is_ok, rules, ap, sym, refl, ◌∙◌, List, map, string_bytes}
use Rattle.med_world.specs.Open.{Opened, seated}
use Rattle.med_session.specs.Cursors.{having, is_taken, not_started}
use Rattle.med_session.proofs.CursorLists.{opened_last, is_named, is_unknown_by}
use Rattle.med_session.proofs.cursors.open_cursor.Goals as goal

pub returns-then-is_some-clause-err : goal.returns-then-is_some-clause-err
returns-then-is_some-clause-err g c = is_taken refl (is_named _ _ _ _ c.as_str.ensures.value (rw c.deref.ensures.value at c.position.ensures.place) (rw c.deref.ensures.value at c.position.ensures.there) (sym c.is_some.ensures ∙ c.if-is_some.true)) refl

pub returns-in-Err-clause-err : goal.returns-in-Err-clause-err
returns-in-Err-clause-err g c =
    not_started (is_unknown_by _ _ _ _ c.as_str.ensures.value (rw c.deref.ensures.value at c.position.ensures.there) (sym c.is_some.ensures ∙ c.if-is_some.false))
    (rw (c.as_str-user.ensures.value, c.is_full-full.ensures, c.deref-2.ensures.value, c.reserve.ensures.items) at c.in-Err.ensures.err)

pub returns-clause-ok : goal.returns-clause-ok
returns-clause-ok g c = record {
  names = map string_bytes c.in-Ok-start_select.started.names.items;
  run = c.in-Ok-start_select.started.run;
  unknown = is_unknown_by _ _ _ _ c.as_str.ensures.value (rw c.deref.ensures.value at c.position.ensures.there) (sym c.is_some.ensures ∙ c.if-is_some.false);
  starts = rw (c.as_str-user.ensures.value, c.is_full-full.ensures, c.deref-2.ensures.value, c.reserve.ensures.items) at c.in-Ok-start_select.ensures.ok;
  is =
      let ok : is_ok c.push.result ≡ true = search rules in
      ap (λ (cs : List Opened). having (seated c.args.seat.now) cs)
      (opened_last c.args.seat.now.cursors.items c.push.new.self.items _ _ _ (is_ok c.push.result) (rw c.reserve.ensures.items at c.push.ensures.items) ok (c.in-Ok.ensures.ok ∙ c.as_str-2.ensures.value) c.in-Ok-start_select.ensures.leases);
}
