use Rattle.std.proofs.Common.{◌≡◌, ℕ, List, [], ◌∷◌, map, sym, ap, subst, ◌∙◌}
use Rattle.std.proofs.lemmas.Option.{same_Some}
use Rattle.med_value.specs.Datum.{NoValue}
use Rattle.med_value.specs.declared.value.ColType.{ColType}
use Rattle.fdw_api.specs.Prelude.{spec_by, spec_of, restriction_form, params_fit, RestrictionForm, BoxTable, Allows}
use Rattle.fdw_api.specs.declared.scan.Restriction.{Restriction}
use Rattle.tab_tests.specs.Tabs.{texts}
use Rattle.tab_tests.proofs.Calls.{begun_goes_on, ok_gives}
use Rattle.tab_tests.proofs.scans.begin_scan.Goals as goal

pub begin-requires : goal.begin-requires
begin-requires g c =
    let s = g.W.Wrapper.meaning c.args.source.now in
    let t = c.args.table.number in
    let a = c.in_ok-agreement.agreement in
    let offered = c.in_ok-offered.offered in
    let w : c.deref.result.now ≡ c.in_ok-wanted.wanted.items = c.deref.ensures.value in
    let o : c.deref-2.result.now ≡ offered.items = c.deref-2.ensures.value in
    let allowed : Allows s t (spec_of record { wanted = c.in_ok-wanted.wanted; offered = offered; agreement = a }) =
    subst (λ (x : List ℕ). Allows s t (spec_by x (map restriction_form offered.items) a)) w (subst (λ (x : List Restriction). Allows s t (spec_by c.deref.result.now (map restriction_form x) a)) o c.in_ok-agreement.ensures.ok) in
    let same : allowed.bound ≡ c.requires.0 = same_Some allowed.bound c.requires.0 (sym allowed.is ∙ c.requires.1) in
    record {
      bound = allowed.bound;
      is = allowed.is;
      allowed = allowed.allowed;
      typed =
          ap (λ (b : BoxTable). params_fit b.kinds (map restriction_form offered.items) (NoValue ∷ [])) same
          ∙ ap (λ (k : List ColType). params_fit k (map restriction_form offered.items) (NoValue ∷ [])) c.requires.2
          ∙ ap (λ (o : List RestrictionForm). params_fit (texts 2) o (NoValue ∷ [])) c.in_ok-offered.ensures;
    }

pub returns : goal.returns
returns g c =
    ok_gives c.begin.result _ _
    (λ ticket begins. begun_goes_on (g.W.Wrapper.meaning c.args.source.now) (g.W.Wrapper.meaning c.begin.new.self) c.args.table.number _ _ ticket.number c.requires c.in_ok-offered.ensures begins)
    c.begin.ensures.ok
