use Rattle.std.proofs.Common.{◌≡◌, ◌∷◌, ◌++◌, inl, inr, refl, sym, ap, ◌∙◌, subst}
use Rattle.std.specs.Fmt.{decimal}
use Rattle.session_wire.specs.Frames.{IsRequest}
use Rattle.session_wire.proofs.FirstSpace.{none_begins, some_begins, some_whole}
use Rattle.session_wire.proofs.frames.frame.Goals as goal

pub returns-in_default-clause-bad : goal.returns-in_default-clause-bad
returns-in_default-clause-bad c = λ sid request f. none_begins _ _ c.in_default.is c.split_once.ensures.cases sid f.0 f.1

pub returns-in_default-clause-sid : goal.returns-in_default-clause-sid
returns-in_default-clause-sid c = inr (refl, none_begins _ _ c.in_default.is c.split_once.ensures.cases)

pub returns-in_default-sid_of-clause-bad : goal.returns-in_default-sid_of-clause-bad
returns-in_default-sid_of-clause-bad c = λ sid request f.
    c.in_default-sid_of.ensures.none sid f.1.0 (c.as_bytes.ensures.value ∙ (some_begins _ _ _ c.in-Some.is c.split_once.ensures.cases sid f.0 f.1).0)

pub returns-in_default-sid_of-clause-sid : goal.returns-in_default-sid_of-clause-sid
returns-in_default-sid_of-clause-sid c = inr (
  refl,
  λ n after b.
      c.in_default-sid_of.ensures.none n b.0 (c.as_bytes.ensures.value ∙ (some_begins _ _ _ c.in-Some.is c.split_once.ensures.cases n after b).0),
)

pub returns-in-Some-request_of-clause-ok : goal.returns-in-Some-request_of-clause-ok
returns-in-Some-request_of-clause-ok c =
    let number : c.in-Some.number.now ≡ decimal c.in-Some-sid_of.sid.number = sym c.as_bytes.ensures.value ∙ c.in-Some-sid_of.ensures.some in
    (c.in-Some.after.now, (c.in-Some-sid_of.sid.in_range, some_whole _ _ _ c.in-Some.is c.split_once.ensures.cases ∙ ap (λ ds. ds ++ 32 ∷ c.in-Some.after.now) number), c.in-Some-request_of.ensures.some)

pub returns-in-None-clause-bad : goal.returns-in-None-clause-bad
returns-in-None-clause-bad c = λ sid request f.
    c.in-None.ensures.none request (subst (λ l. IsRequest l request) (sym (some_begins _ _ _ c.in-Some.is c.split_once.ensures.cases sid f.0 f.1).1) f.2)

pub returns-in-None-clause-sid : goal.returns-in-None-clause-sid
returns-in-None-clause-sid c =
    let number : c.in-Some.number.now ≡ decimal c.in-Some-sid_of.sid.number = sym c.as_bytes.ensures.value ∙ c.in-Some-sid_of.ensures.some in
    inl (c.in-Some.after.now, (c.in-Some-sid_of.sid.in_range, some_whole _ _ _ c.in-Some.is c.split_once.ensures.cases ∙ ap (λ ds. ds ++ 32 ∷ c.in-Some.after.now) number))
