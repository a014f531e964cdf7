-- Where a statement reads no shared source, the boxes of its tables are honest.
use Rattle.std.proofs.Common.{◌≡◌, ℕ, zero, suc, false, List, [], ◌∷◌, Some, slice_get, Contains, ap, sym, ◌∙◌, arith}
use Rattle.std.specs.List.{list_any}
use Rattle.med_syntax.specs.QueryTree.{SelectTree}
use Rattle.med_binder.specs.Prelude.{Place, Attached, ArePlaces, meant_by}
use Rattle.med_exec.specs.Running.{HonestAt, HonestOver}
use Rattle.med_catalog.specs.Objects.{Objects}
use Rattle.sql_meaning.specs.Prelude.{World, is_shared, reads_shared}
use Rattle.med_world.specs.Engine.{Shown, IsSound, IsBoundAs, Agrees}
use Rattle.med_world.proofs.Altered.{has_table, honest_at}
use Rattle.med_world.proofs.Seats.{left_false, right_false}

table_honest : (e : Shown) (w : World) (k : ℕ) (at : Attached) → IsSound e → Agrees e w → is_shared w (slice_get w.catalog.tables k) ≡ false → slice_get e.bound k ≡ Some at → HonestAt e.boxes at.source
table_honest e w k at sound a unshared here s there =
    let u = has_table e.catalog.tables e.bound k at sound.many here in
    let x : IsBoundAs e u.0 at = sound.tables_bound k u.0 at u.1 here in
    honest_at e w u.0.server at.source s sound a x.server there (sym (ap (is_shared w) (ap (λ (o : Objects). slice_get o.tables k) a.catalog ∙ u.1)) ∙ unshared)

none_in : (slot : ℕ) → Contains [] slot → ⊥
none_in slot has = let n = has.1 in omega arith

places_honest : (e : Shown) (w : World) (ks : List ℕ) (ps : List Place) → IsSound e → Agrees e w → list_any (λ k. is_shared w (slice_get w.catalog.tables k)) ks ≡ false → ArePlaces e.bound ks ps → HonestOver ps e.boxes
places_honest e w [] [] sound a unshared are slot has s there = absurd (none_in slot has)
places_honest e w [] (p ∷ ps) sound a unshared are slot has s there = absurd are
places_honest e w (k ∷ ks) [] sound a unshared are slot has s there = absurd are
places_honest e w (k ∷ ks) (p ∷ ps) sound a unshared are slot (zero, lt, is) s there =
    table_honest e w k are.0.at sound a (left_false (is_shared w (slice_get w.catalog.tables k)) (list_any (λ j. is_shared w (slice_get w.catalog.tables j)) ks) unshared) are.0.there s
    (ap (slice_get e.boxes) (sym are.0.source ∙ is) ∙ there)
places_honest e w (k ∷ ks) (p ∷ ps) sound a unshared are slot (suc i, lt, is) s there =
    places_honest e w ks ps sound a (right_false (is_shared w (slice_get w.catalog.tables k)) (list_any (λ j. is_shared w (slice_get w.catalog.tables j)) ks) unshared) are.1 slot (i, omega (arith, lt), is) s there

pub query_honest : (e : Shown) (w : World) (q : SelectTree) (places : List Place) → IsSound e → Agrees e w → reads_shared w q ≡ false → ArePlaces e.bound (meant_by e.catalog q).entries places → HonestOver places e.boxes
query_honest e w q places sound a unshared are = places_honest e w (meant_by e.catalog q).entries places sound a
    (ap (λ (o : Objects). list_any (λ k. is_shared w (slice_get w.catalog.tables k)) (meant_by o q).entries) (sym a.catalog) ∙ unshared) are
