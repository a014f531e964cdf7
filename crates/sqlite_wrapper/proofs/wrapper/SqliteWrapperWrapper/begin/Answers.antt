use Rattle.std.proofs.Common.{◌≡◌, List, false, map, true, None, sym, subst, slice_index_or}
use Rattle.med_value.specs.Datum.{datum}
use Rattle.med_value.specs.declared.value.ColType.{ColType}
use Rattle.fdw_api.specs.Scan.{params_fit, spec_of}
use Rattle.fdw_api.specs.declared.wishes.OrderKey.{OrderKey}
use Rattle.sqlite_wrapper.specs.Boxes.{allows, promised}
use Rattle.sqlite_wrapper.proofs.Kept.{some_there}
use Rattle.sqlite_wrapper.proofs.LiveScans.{bound_allows, bound_kinds}
use Rattle.sqlite_wrapper.proofs.wrapper.SqliteWrapperWrapper.begin.Goals as goal

pub start-requires-clause-bound : goal.start-requires-clause-bound
start-requires-clause-bound g c = some_there _ _ c.requires.is

pub start-requires-clause-allowed : goal.start-requires-clause-allowed
start-requires-clause-allowed g c =
    let s = c.args.self.now in
    let t = c.args.t.number in
    subst (λ (ks : List OrderKey). allows (promised (spec_of c.args.spec.now) ks None) ≡ true) (sym c.new.ensures.items)
    (bound_allows (slice_index_or s.bound.items t false) t c.requires.bound (spec_of c.args.spec.now) c.requires.is c.requires.allowed)

pub start-requires-clause-typed : goal.start-requires-clause-typed
start-requires-clause-typed g c =
    let s = c.args.self.now in
    let t = c.args.t.number in
    subst (λ (k : List ColType). params_fit k (spec_of c.args.spec.now).offered (map datum c.args.params.now) ≡ true)
    (bound_kinds (slice_index_or s.bound.items t false) t c.requires.bound c.requires.is) c.requires.typed

pub returns-clause-clean_ok : goal.returns-clause-clean_ok
returns-clause-clean_ok g c steady known = rw c.new.ensures.items at (c.start.ensures.clean_ok steady known)
