-- Which cause of a statement on objects is told, in the words of the catalogue, of the sources and of the boxes.
use Rattle.std.proofs.Common.{◌≡◌, ℕ, ◌≤◌, Bool, true, List, [], Option, Some, None, Contains, refl, ap, sym, ◌∙◌, subst, arith, inl, inr, lit≤, unwrap_or}
use Rattle.std.proofs.lemmas.Bool.{false≢true, leb-true}
use Rattle.std.proofs.lemmas.List.Elements.{All-contains}
use Rattle.std.proofs.lemmas.List.Sums.{AllPass-from_list_all}
use Rattle.med_value.specs.Causes.{phase_of}
use Rattle.med_value.specs.declared.cause.Cause.{Cause}
use Rattle.med_value.specs.declared.cause.Cause.TheVariants.{Protocol}
use Rattle.med_syntax.specs.Prelude.{Name, DdlTree}
use Rattle.fdw_api.specs.Prelude.{Kind, Entry, Held, Reading, is_late, IsLeast}
use Rattle.med_catalog.specs.Prelude.{TableObject, Objects, ObjectChange, nothing, new_wrapper, new_server, new_mapping, new_table, no_wrapper, no_server, no_mapping, no_table, Asks, DdlCauses, phase}
use Rattle.sql_meaning.specs.Prelude.{Pick, World, is_shared_server, is_leased, Reads, SourceCauses, ObjectCauses, HasRows, as_read, any_rows}
use Rattle.med_world.specs.Engine.{Shown, leased, IsSound, Agrees}
use Rattle.med_world.proofs.Altered.{one_kind, none_serves}
use Rattle.med_world.proofs.Seats.{leases_same}

-- ---- phases

-- the catalogue's causes are of phases 3 to 5, and a statement asks one change: laws of med_catalog
pub record AreObjects : Type 0 where
  pub early : (o : Objects) (leased : Name → Bool) (user : Name) (d : DdlTree) (c : Cause) → DdlCauses o leased user d c → 3 ≤ phase c
  pub late : (o : Objects) (leased : Name → Bool) (user : Name) (d : DdlTree) (c : Cause) → DdlCauses o leased user d c → phase c ≤ 5
  pub once : (o : Objects) (user : Name) (d : DdlTree) (a b : ObjectChange) → Asks o user d a → Asks o user d b → a ≡ b

phase_within : (c : Cause) → phase c ≤ 7
phase_within Protocol = lit≤ tt
phase_within _ = lit≤ tt

told_phase : (c : Cause) (p : ℕ) → phase_of c ≡ Some p → phase c ≡ p
told_phase c p e = ap (λ o. unwrap_or o 7) e

pub least_phase : (causes : List Cause) (c d : Cause) → IsLeast causes c → Contains causes d → phase c ≤ phase d
least_phase causes c d h has = split (phase_of d) refl
  where
    split : (o : Option ℕ) → phase_of d ≡ o → phase c ≤ phase d
    split None e = subst (λ n. phase c ≤ n) (sym (ap (λ o. unwrap_or o 7) e)) (phase_within c)
    split (Some p) e =
        let a : phase c ≡ h.phase = told_phase c h.phase h.has in
        let b : phase d ≡ p = told_phase d p e in
        let l : h.phase ≤ p = h.least d p has e in
        omega arith

late_phase : (c : Cause) → is_late (phase_of c) ≡ true → 5 ≤ phase c
late_phase c h = split (phase_of c) h
  where
    split : (o : Option ℕ) → is_late o ≡ true → 5 ≤ unwrap_or o 7
    split None e = absurd (false≢true e)
    split (Some p) e = leb-true 5 p e

pub reading_phase : (reading : Reading) (d : Cause) → Contains reading.causes d → 5 ≤ phase d
reading_phase reading d has =
    late_phase d (All-contains (λ c. is_late (phase_of c) ≡ true) reading.causes d (AllPass-from_list_all (λ c. is_late (phase_of c)) reading.causes reading.late) has)

pub source_phase : (w : World) (p : Pick) (change : ObjectChange) (d : Cause) → SourceCauses w p change d → 5 ≤ phase d
source_phase w p (new_server s) d h = subst (λ x. 5 ≤ phase x) (sym h.0) (lit≤ tt)
source_phase w p (new_table t) d h = reading_phase h.0 d h.2
source_phase w p nothing d h = absurd h
source_phase w p (new_wrapper x) d h = absurd h
source_phase w p (new_mapping s x) d h = absurd h
source_phase w p (no_wrapper x) d h = absurd h
source_phase w p (no_server x) d h = absurd h
source_phase w p (no_mapping x y) d h = absurd h
source_phase w p (no_table x) d h = absurd h

pub object_phase : AreObjects → (w : World) (user : Name) (p : Pick) (d : DdlTree) (c : Cause) → ObjectCauses w user p d c → 3 ≤ phase c
object_phase law w user p d c (inl h) = law.early w.catalog (is_leased w) user d c h
object_phase law w user p d c (inr (change, asks, h)) = let f : 5 ≤ phase c = source_phase w p change c h in omega arith

-- ---- the causes in a world and in an engine

pub same_causes : (e : Shown) (w : World) (user : Name) (d : DdlTree) (c : Cause) → IsSound e → Agrees e w → DdlCauses w.catalog (is_leased w) user d c → DdlCauses e.catalog (leased e) user d c
same_causes e w user d c sound h x = subst (λ (l : Name → Bool). DdlCauses e.catalog l user d c) (leases_same e w sound h) (subst (λ (o : Objects). DdlCauses o (is_leased w) user d c) h.catalog x)

pub causes_same : (e : Shown) (w : World) (user : Name) (d : DdlTree) (c : Cause) → IsSound e → Agrees e w → DdlCauses e.catalog (leased e) user d c → DdlCauses w.catalog (is_leased w) user d c
causes_same e w user d c sound h x = subst (λ (o : Objects). DdlCauses o (is_leased w) user d c) (sym h.catalog) (subst (λ (l : Name → Bool). DdlCauses e.catalog l user d c) (sym (leases_same e w sound h)) x)

pub asks_same : (e : Shown) (w : World) (user : Name) (d : DdlTree) (change : ObjectChange) → Agrees e w → Asks e.catalog user d change → Asks w.catalog user d change
asks_same e w user d change h x = subst (λ (o : Objects). Asks o user d change) (sym h.catalog) x

-- where the catalogue shows no cause, what stands is of the sources, for the one change
pub of_source : AreObjects → (e : Shown) (w : World) (user : Name) (p : Pick) (d : DdlTree) (change : ObjectChange) → IsSound e → Agrees e w → Asks e.catalog user d change
    → ((c : Cause) → DdlCauses e.catalog (leased e) user d c → ⊥) → (c : Cause) → ObjectCauses w user p d c → SourceCauses w p change c
of_source law e w user p d change sound h asks none c (inl x) = absurd (none c (same_causes e w user d c sound h x))
of_source law e w user p d change sound h asks none c (inr (other, is, x)) =
    subst (λ (k : ObjectChange). SourceCauses w p k c) (law.once w.catalog user d other change is (asks_same e w user d change h asks)) x

-- the catalogue tells a cause of the least phase that it shows, and sources show later ones
pub told_objects : AreObjects → (e : Shown) (w : World) (user : Name) (p : Pick) (d : DdlTree) (c : Cause) → IsSound e → Agrees e w → DdlCauses e.catalog (leased e) user d c
    → ((x : Cause) → DdlCauses e.catalog (leased e) user d x → phase c ≤ phase x) → (x : Cause) → ObjectCauses w user p d x → phase c ≤ phase x
told_objects law e w user p d c sound h stands least x (inl s) = least x (same_causes e w user d x sound h s)
told_objects law e w user p d c sound h stands least x (inr (change, asks, s)) =
    let a : phase c ≤ 5 = law.late e.catalog (leased e) user d c stands in
    let b : 5 ≤ phase x = source_phase w p change x s in
    omega arith

-- one reading of one entry
one_reading : (w : World) (t : TableObject) (entry : Option Entry) (a b : Reading) → Reads w t entry a → Reads w t entry b → a ≡ b
one_reading w t entry a b x y = x.read ∙ ap (λ (k : Kind). k.reads t.columns t.settings entry) (one_kind w t.server x.kind y.kind x.holdings y.holdings x.serves y.serves) ∙ sym y.read

-- what the box tells of a bind that it refuses is told
pub told_bind : (w : World) (t : TableObject) (p : Pick) (reading : Reading) (c : Cause) → Reads w t p.entry reading → IsLeast reading.causes c → (x : Cause) → SourceCauses w p (new_table t) x → phase c ≤ phase x
told_bind w t p reading c reads least x (other, is, has) =
    least_phase reading.causes c x least (subst (λ (r : Reading). Contains r.causes x) (one_reading w t p.entry other reading is reads) has)

-- where it reads without causes none stands
pub none_bind : (w : World) (t : TableObject) (p : Pick) (reading : Reading) → Reads w t p.entry reading → reading.causes ≡ [] → (x : Cause) → SourceCauses w p (new_table t) x → ⊥
none_bind w t p reading reads none x (other, is, has) = no_cause (subst (λ (cs : List Cause). Contains cs x) none (subst (λ (r : Reading). Contains r.causes x) (one_reading w t p.entry other reading is reads) has))
  where
    no_cause : Contains [] x → ⊥
    no_cause h = let n = h.1 in omega arith

-- no source that is shared shows one
pub none_shared : (w : World) (t : TableObject) (p : Pick) → is_shared_server w t.server ≡ true → (x : Cause) → SourceCauses w p (new_table t) x → ⊥
none_shared w t p shares x (reading, reads, has) = none_serves w t.server reads.kind reads.holdings shares reads.serves

-- none does against a table that has its rows
pub none_made : (w : World) (t : TableObject) (p : Pick) (rows : List Held) → HasRows w p t rows → (x : Cause) → SourceCauses w p (new_table t) x → ⊥
none_made w t p rows (as_read reading reads none is) = none_bind w t p reading reads none
none_made w t p rows (any_rows shares) = none_shared w t p shares
