-- What the catalogue tells of a statement on objects where nothing is leased, and what leases add to it: DROP of a leased table.
use Rattle.std.proofs.Common.{◌≡◌, ℕ, ◌≤◌, ◌⊎◌, Bool, true, false, if◌then◌else◌, List, [], ◌∷◌, Some, Contains, slice_get, refl, ap, sym, ◌∙◌, zero, suc, inl, inr, arith}
use Rattle.std.proofs.lemmas.Bool.{false≢true}
use Rattle.std.proofs.lemmas.Option.{same_Some}
use Rattle.med_value.specs.declared.cause.Cause.{Cause}
use Rattle.med_value.specs.declared.cause.Cause.TheVariants.{InUse}
use Rattle.med_syntax.specs.Prelude.{Name, DdlTree, create_wrapper, create_server, create_mapping, create_table, drop_wrapper, drop_server, drop_table, drop_mapping}
use Rattle.med_catalog.specs.Prelude.{Objects, ObjectChange, no_table, is_skipped, Asks, skips, makes, CauseRow, DdlCauses, Stands, lease_rows, nothing_leased, drop_table_rows, ddl_rows, phase, NoneStands, IsTold}
use Rattle.med_world.proofs.NamedTables.{place_of, at_place}

-- no cause of a statement on objects is of a later phase than leases are: a law of the catalogue
abbrev pub EndsInState : Type 0
EndsInState = (o : Objects) (leased : Name → Bool) (user : Name) (d : DdlTree) (c : Cause) → DdlCauses o leased user d c → phase c ≤ 5

-- two rows, the second unless the statement is skipped, and further ones behind it
abbrev rows_of : CauseRow → Bool → CauseRow → List CauseRow → List CauseRow
rows_of first skipped second others = first ∷ (if skipped then [] else second ∷ others)

none_in : (x : CauseRow) → Contains [] x → ⊥
none_in x c = let within = c.1 in omega arith

among_more : (first second : CauseRow) (skipped : Bool) (others : List CauseRow) (x : CauseRow) → Contains (rows_of first skipped second []) x → Contains (rows_of first skipped second others) x
among_more first second true others x c = c
among_more first second false others x c = let p = place_of (first ∷ second ∷ []) x c in split p.0 p.1
  where
    split : (k : ℕ) → slice_get (first ∷ second ∷ []) k ≡ Some x → Contains (first ∷ second ∷ others) x
    split zero at = at_place (first ∷ second ∷ others) 0 x at
    split (suc zero) at = at_place (first ∷ second ∷ others) 1 x at
    split (suc (suc k)) at = absurd cc

among_fewer : (first second : CauseRow) (skipped : Bool) (others : List CauseRow) (x : CauseRow) → Contains (rows_of first skipped second others) x
    → Contains (rows_of first skipped second []) x ⊎ ((skipped ≡ false) × Contains others x)
among_fewer first second true others x c = inl c
among_fewer first second false others x c = let p = place_of (first ∷ second ∷ others) x c in split p.0 p.1
  where
    split : (k : ℕ) → slice_get (first ∷ second ∷ others) k ≡ Some x → Contains (first ∷ second ∷ []) x ⊎ ((false ≡ false) × Contains others x)
    split zero at = inl (at_place (first ∷ second ∷ []) 0 x at)
    split (suc zero) at = inl (at_place (first ∷ second ∷ []) 1 x at)
    split (suc (suc k)) at = inr (refl, at_place others k x at)

-- what leases show
of_leases : (b : Bool) (c : Cause) → Contains (lease_rows b) (true, c) → (b ≡ true) × (c ≡ InUse)
of_leases true c h = let p = place_of (lease_rows true) (true, c) h in (refl, split p.0 p.1)
  where
    split : (k : ℕ) → slice_get (lease_rows true) k ≡ Some (true, c) → c ≡ InUse
    split zero at = sym (ap (λ (r : CauseRow). r.1) (same_Some (true, InUse) (true, c) at))
    split (suc k) at = absurd cc
of_leases false c h = absurd (none_in (true, c) h)

kept : EndsInState → (o : Objects) (leased : Name → Bool) (user : Name) (b : Bool) (name : Name) (c : Cause) → IsTold (ddl_rows o nothing_leased user (drop_table b name)) c → IsTold (ddl_rows o leased user (drop_table b name)) c
kept law o leased user b name c h = record { stands = stands; least = least }
  where
    stands : Stands (ddl_rows o leased user (drop_table b name)) c
    stands = among_more _ _ (is_skipped o user (drop_table b name)) (lease_rows (leased name)) (true, c) h.stands

    least : (d : Cause) → Stands (ddl_rows o leased user (drop_table b name)) d → phase c ≤ phase d
    least d s = split (among_fewer _ _ (is_skipped o user (drop_table b name)) (lease_rows (leased name)) (true, d) s)
      where
        split : Stands (ddl_rows o nothing_leased user (drop_table b name)) d ⊎ ((is_skipped o user (drop_table b name) ≡ false) × Contains (lease_rows (leased name)) (true, d)) → phase c ≤ phase d
        split (inl x) = h.least d x
        split (inr x) =
            let p : phase c ≤ 5 = law o nothing_leased user (drop_table b name) c h.stands in
            let q : phase d ≡ 5 = ap phase (of_leases (leased name) d x.1).1 in
            omega arith

pub told : EndsInState → (o : Objects) (leased : Name → Bool) (user : Name) (d : DdlTree) (c : Cause) → IsTold (ddl_rows o nothing_leased user d) c → IsTold (ddl_rows o leased user d) c
told law o leased user (create_wrapper n h) c x = x
told law o leased user (create_server s) c x = x
told law o leased user (create_mapping m) c x = x
told law o leased user (create_table t) c x = x
told law o leased user (drop_wrapper b n) c x = x
told law o leased user (drop_server b n) c x = x
told law o leased user (drop_table b n) c x = kept law o leased user b n c x
told law o leased user (drop_mapping b w n) c x = x

in_use : (o : Objects) (leased : Name → Bool) (user : Name) (b : Bool) (name : Name) → NoneStands (ddl_rows o nothing_leased user (drop_table b name)) → is_skipped o user (drop_table b name) ≡ false → leased name ≡ true
    → IsTold (ddl_rows o leased user (drop_table b name)) InUse
in_use o leased user b name none skipped taken = record { stands = stands; least = least }
  where
    stands : Stands (ddl_rows o leased user (drop_table b name)) InUse
    stands = at_place (ddl_rows o leased user (drop_table b name)) 2 (true, InUse)
        (ap (λ s. slice_get (if s then [] else drop_table_rows o leased name) 1) skipped ∙ ap (λ r. slice_get (lease_rows r) 0) taken)

    least : (d : Cause) → Stands (ddl_rows o leased user (drop_table b name)) d → 5 ≤ phase d
    least d s = split (among_fewer _ _ (is_skipped o user (drop_table b name)) (lease_rows (leased name)) (true, d) s)
      where
        split : Stands (ddl_rows o nothing_leased user (drop_table b name)) d ⊎ ((is_skipped o user (drop_table b name) ≡ false) × Contains (lease_rows (leased name)) (true, d)) → 5 ≤ phase d
        split (inl x) = absurd (none d x)
        split (inr x) = let q : phase d ≡ 5 = ap phase (of_leases (leased name) d x.1).1 in omega arith

pub barred : (o : Objects) (leased : Name → Bool) (user : Name) (d : DdlTree) (name : Name) → NoneStands (ddl_rows o nothing_leased user d) → Asks o user d (no_table name) → leased name ≡ true → IsTold (ddl_rows o leased user d) InUse
barred o leased user d name none (skips s e) taken = absurd (cc)
barred o leased user (create_wrapper n h) name none (makes s m) taken = absurd (let e = m.2 in cc)
barred o leased user (create_server x) name none (makes s m) taken = absurd (let e = m.2 in cc)
barred o leased user (create_mapping x) name none (makes s m) taken = absurd (let e = m.2 in cc)
barred o leased user (create_table x) name none (makes s m) taken = absurd (let e = m.2 in cc)
barred o leased user (drop_wrapper b n) name none (makes s m) taken = absurd (cc)
barred o leased user (drop_server b n) name none (makes s m) taken = absurd (cc)
barred o leased user (drop_table b n) name none (makes s m) taken = let same : n ≡ name = cc in in_use o leased user b n none s (ap leased same ∙ taken)
barred o leased user (drop_mapping b w n) name none (makes s m) taken = absurd (cc)

drops : (o : Objects) (leased : Name → Bool) (user : Name) (b : Bool) (name : Name) (change : ObjectChange) → NoneStands (ddl_rows o nothing_leased user (drop_table b name)) → Asks o user (drop_table b name) change
    → ((n : Name) → change ≡ no_table n → leased n ≡ false) → NoneStands (ddl_rows o leased user (drop_table b name))
drops o leased user b name change none asks free d s = split (among_fewer _ _ (is_skipped o user (drop_table b name)) (lease_rows (leased name)) (true, d) s) asks
  where
    split : Stands (ddl_rows o nothing_leased user (drop_table b name)) d ⊎ ((is_skipped o user (drop_table b name) ≡ false) × Contains (lease_rows (leased name)) (true, d)) → Asks o user (drop_table b name) change → ⊥
    split (inl x) asked = none d x
    split (inr x) (skips t e) = false≢true (sym x.0 ∙ t)
    split (inr x) (makes t m) = false≢true (sym (free name m) ∙ (of_leases (leased name) d x.1).0)

pub clear : (o : Objects) (leased : Name → Bool) (user : Name) (d : DdlTree) (change : ObjectChange) → NoneStands (ddl_rows o nothing_leased user d) → Asks o user d change → ((n : Name) → change ≡ no_table n → leased n ≡ false) → NoneStands (ddl_rows o leased user d)
clear o leased user (create_wrapper n h) change none asks free = none
clear o leased user (create_server s) change none asks free = none
clear o leased user (create_mapping m) change none asks free = none
clear o leased user (create_table t) change none asks free = none
clear o leased user (drop_wrapper b n) change none asks free = none
clear o leased user (drop_server b n) change none asks free = none
clear o leased user (drop_table b n) change none asks free = drops o leased user b n change none asks free
clear o leased user (drop_mapping b w n) change none asks free = none
