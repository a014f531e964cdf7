use Rattle.std.proofs.Common.{◌≡◌, ◌≢◌, ℕ, ◌<◌, List, Option, Some, None, IfSome, IfNone, MatchOption, option_map, slice_get, length, map, refl, ap, sym, ◌∙◌, arith, rules, tests, string_bytes}
use Rattle.std.specs.List.{HoldsAt, AllWithin}
use Rattle.std.proofs.lemmas.Iterator.{IsFirst-from_position, YieldsList-from_slice}
use Rattle.std.proofs.lemmas.Slice.Eq.{bytes_eq-Decides}
use Rattle.std.proofs.lemmas.Option.{slice_get-map, get_or_from_slice_get, slice_get_within}
use Rattle.med_session.specs.Shows.{label}
use Rattle.med_world.specs.Prelude.{Label, IsNamedAt, HasSource}
use Rattle.med_session.specs.declared.sources.NamedSource.{NamedSource}
use Rattle.med_session.proofs.AddingLists.{within_some}
use Rattle.med_session.proofs.adding.place_of_source.Goals as goal

abbrev IsCalled : List ℕ → NamedSource → Type 0
IsCalled name s = string_bytes s.name ≡ name

abbrev IsOther : List ℕ → NamedSource → Type 0
IsOther name s = string_bytes s.name ≢ name

abbrev IsFirstCalled : List NamedSource → List ℕ → Option ℕ → Type 0
IsFirstCalled xs name r = MatchOption r (AllWithin (IsOther name) xs 0 (length xs)) (λ i. (i < length xs) × HoldsAt (IsCalled name) xs i × AllWithin (IsOther name) xs 0 i)

found : (xs : List NamedSource) (name : List ℕ) (r : Option ℕ) → IsFirstCalled xs name r → IfSome r (λ place. IsNamedAt (map label xs) place name)
found xs name None h = tt
found xs name (Some i) h =
    let x = within_some xs i h.0 in
    (label x.0, slice_get-map label xs i ∙ ap (option_map label) x.1, ap (λ (s : NamedSource). string_bytes s.name) (sym (get_or_from_slice_get xs i x.0 x.0 x.1)) ∙ h.1 x.0)

some_label : (o : Option NamedSource) (l : Label) → option_map label o ≡ Some l → (s : NamedSource) × (o ≡ Some s) × (label s ≡ l)
some_label None l e = absurd cc
some_label (Some s) l e =
    let same : label s ≡ l = cc in
    (s, refl, same)

none : (xs : List NamedSource) (name : List ℕ) (r : Option ℕ) → IsFirstCalled xs name r → IfNone r (HasSource (map label xs) name → ⊥)
none xs name (Some i) h = tt
none xs name None h = λ has.
    let s = some_label (slice_get xs has.0) has.1.0 (sym (slice_get-map label xs has.0) ∙ has.1.1) in
    h has.0 s.0 (omega arith) (slice_get_within xs has.0 s.0 s.1)
    (ap (λ (x : NamedSource). string_bytes x.name) (get_or_from_slice_get xs has.0 s.0 s.0 s.1) ∙ ap (λ (x : Label). x.name) s.2 ∙ has.1.2)

pub returns-clause-found : goal.returns-clause-found
returns-clause-found c =
    found c.args.sources.now c.args.name.now c.position.result (IsFirst-from_position _ _ _ (IsCalled c.args.name.now) (IsOther c.args.name.now) c.position.ensures.ran (YieldsList-from_slice c.args.sources.now cc) (λ x q k. search (rules, tests, bytes_eq-Decides)) (λ x q k. search (rules, tests, bytes_eq-Decides)))

pub returns-clause-none : goal.returns-clause-none
returns-clause-none c =
    none c.args.sources.now c.args.name.now c.position.result (IsFirst-from_position _ _ _ (IsCalled c.args.name.now) (IsOther c.args.name.now) c.position.ensures.ran (YieldsList-from_slice c.args.sources.now cc) (λ x q k. search (rules, tests, bytes_eq-Decides)) (λ x q k. search (rules, tests, bytes_eq-Decides)))
