-- Which causes stand for a write in a world that agrees, and of which phases they are.
use Rattle.std.proofs.Common.{◌≡◌, ℕ, ◌≤◌, ◌⊎◌, ◌≢◌, Bool, true, false, eqb, Option, Some, None, unwrap_or, ap, sym, ◌∙◌, subst, arith, inl, inr}
use Rattle.std.proofs.lemmas.Bool.{false≢true}
use Rattle.std.proofs.lemmas.Bool.Decides.{eqb_tells}
use Rattle.std.proofs.lemmas.List.Elements.{All-contains}
use Rattle.std.proofs.lemmas.List.Sums.{AllPass-from_list_all}
use Rattle.med_value.specs.Causes.{phase_of}
use Rattle.med_value.specs.declared.cause.Cause.{Cause}
use Rattle.med_syntax.specs.Prelude.{Name, SelectTree, GivenTree, values, rows_of, WriteTree, insert, update, delete}
use Rattle.tri_expr.specs.declared.expr.Fault.TheVariants.{Range, Zero}
use Rattle.fdw_api.specs.Kinds.{is_of_run}
use Rattle.med_catalog.specs.Prelude.{Objects, phase}
use Rattle.bind_write.specs.Meaning.{target_of}
use Rattle.bind_write.specs.Naming.{WriteNames}
use Rattle.bind_write.specs.Typing.{WriteTypes}
use Rattle.bind_write.specs.Binding.{IsBindable}
use Rattle.sql_meaning.specs.Prelude.{Pick, World}
use Rattle.sql_meaning.specs.Causes.{OfGiven, OfQuery, QueryState, WriteState, WriteRun, has_fault, lacks_value, is_refused, query_shows, RowCauses, IsRefused}
use Rattle.med_world.specs.Engine.{Shown, Agrees, leased, IsSound}
use Rattle.med_world.proofs.Seats.{leases_same}
use Rattle.med_world.proofs.Querying.{state_phase, run_phase}

-- ---- the query of an INSERT

of_given : (P : SelectTree → Type 0) (Q : Type 0) (g : GivenTree) → ((q : SelectTree) → P q → Q) → OfGiven P g → Q
of_given P Q (values rows) f h = absurd h
of_given P Q (rows_of q) f h = f q h

pub of_query : (P : SelectTree → Type 0) (Q : Type 0) (t : WriteTree) → ((q : SelectTree) → P q → Q) → OfQuery P t → Q
of_query P Q (insert i) f h = of_given P Q i.given f h
of_query P Q (update u) f h = absurd h
of_query P Q (delete d) f h = absurd h

-- ---- phases

-- a cause of names or rights is of phase 3, and one of types of phase 4: laws of binding
pub record WritesPhased : Type 0 where
  pub names : (o : Objects) (user : Name) (t : WriteTree) (c : Cause) → WriteNames o user t c → phase c ≡ 3
  pub types : (o : Objects) (t : WriteTree) (c : Cause) → WriteTypes o t c → phase c ≡ 4

pub write_state_phase : (w : World) (t : WriteTree) (c : Cause) → WriteState w t c → phase c ≡ 5
write_state_phase w t c (inl (is, leased)) = ap phase is
write_state_phase w t c (inr h) = of_query (λ q. QueryState w q c) (phase c ≡ 5) t (λ q x. state_phase w q c x) h

sixth : (c : Cause) → is_of_run (phase_of c) ≡ true → phase c ≡ 6
sixth c h = split (phase_of c) h
  where
    split : (o : Option ℕ) → is_of_run o ≡ true → unwrap_or o 7 ≡ 6
    split None e = absurd (false≢true e)
    split (Some p) e = at (eqb_tells 6 p)
      where
        at : ((eqb 6 p ≡ true) × (6 ≡ p)) ⊎ ((eqb 6 p ≡ false) × (6 ≢ p)) → p ≡ 6
        at (inl x) = sym x.1
        at (inr x) = absurd (false≢true (sym x.0 ∙ e))

pub refused_phase : (w : World) (p : Pick) (t : WriteTree) (c : Cause) → IsRefused w p t c → phase c ≡ 6
refused_phase w p t c h =
    let r = h.kind.refuses h.table.columns h.table.settings in
    sixth c (All-contains (λ x. is_of_run (phase_of x) ≡ true) (r.causes p.entry p.rows _) c (AllPass-from_list_all (λ x. is_of_run (phase_of x)) (r.causes p.entry p.rows _) (r.of_run p.entry p.rows _)) h.stands)

pub write_run_phase : (w : World) (p : Pick) (t : WriteTree) (c : Cause) → WriteRun w p t c → phase c ≡ 6
write_run_phase w p t c (has_fault unshared Range h is) = ap phase is
write_run_phase w p t c (has_fault unshared Zero h is) = ap phase is
write_run_phase w p t c (lacks_value unshared h is) = ap phase is
write_run_phase w p t c (is_refused h) = refused_phase w p t c h
write_run_phase w p t c (query_shows h) = of_query (λ q. _) (phase c ≡ 6) t (λ q x. run_phase w q c x) h

pub row_phase : WritesPhased → (w : World) (user : Name) (p : Pick) (t : WriteTree) (c : Cause) → RowCauses w user p t c → 3 ≤ phase c
row_phase law w user p t c (inl h) = let x : phase c ≡ 3 = law.names w.catalog user t c h in omega arith
row_phase law w user p t c (inr (inl h)) = let x : phase c ≡ 4 = law.types w.catalog t c h in omega arith
row_phase law w user p t c (inr (inr (inl h))) = let x : phase c ≡ 5 = write_state_phase w t c h in omega arith
row_phase law w user p t c (inr (inr (inr h))) = let x : phase c ≡ 6 = write_run_phase w p t c h in omega arith

pub row_from_types : WritesPhased → (w : World) (user : Name) (p : Pick) (t : WriteTree) → ((d : Cause) → WriteNames w.catalog user t d → ⊥) → (c : Cause) → RowCauses w user p t c → 4 ≤ phase c
row_from_types law w user p t names c (inl h) = absurd (names c h)
row_from_types law w user p t names c (inr (inl h)) = let x : phase c ≡ 4 = law.types w.catalog t c h in omega arith
row_from_types law w user p t names c (inr (inr (inl h))) = let x : phase c ≡ 5 = write_state_phase w t c h in omega arith
row_from_types law w user p t names c (inr (inr (inr h))) = let x : phase c ≡ 6 = write_run_phase w p t c h in omega arith

pub row_from_state : (w : World) (user : Name) (p : Pick) (t : WriteTree) → IsBindable w.catalog user t → (c : Cause) → RowCauses w user p t c → 5 ≤ phase c
row_from_state w user p t b c (inl h) = absurd (b.names c h)
row_from_state w user p t b c (inr (inl h)) = absurd (b.types c h)
row_from_state w user p t b c (inr (inr (inl h))) = let x : phase c ≡ 5 = write_state_phase w t c h in omega arith
row_from_state w user p t b c (inr (inr (inr h))) = let x : phase c ≡ 6 = write_run_phase w p t c h in omega arith

pub row_from_run : (w : World) (user : Name) (p : Pick) (t : WriteTree) → IsBindable w.catalog user t → ((d : Cause) → WriteState w t d → ⊥) → (c : Cause) → RowCauses w user p t c → 6 ≤ phase c
row_from_run w user p t b none c (inl h) = absurd (b.names c h)
row_from_run w user p t b none c (inr (inl h)) = absurd (b.types c h)
row_from_run w user p t b none c (inr (inr (inl h))) = absurd (none c h)
row_from_run w user p t b none c (inr (inr (inr h))) = let x : phase c ≡ 6 = write_run_phase w p t c h in omega arith

pub none_row : (w : World) (user : Name) (p : Pick) (t : WriteTree) → IsBindable w.catalog user t → ((d : Cause) → WriteState w t d → ⊥) → ((d : Cause) → WriteRun w p t d → ⊥) → (d : Cause) → RowCauses w user p t d → ⊥
none_row w user p t b state run d (inl h) = b.names d h
none_row w user p t b state run d (inr (inl h)) = b.types d h
none_row w user p t b state run d (inr (inr (inl h))) = state d h
none_row w user p t b state run d (inr (inr (inr h))) = run d h

-- ---- in a world that agrees

pub writable_in : (e : Shown) (w : World) (user : Name) (t : WriteTree) → Agrees e w → IsBindable e.catalog user t → IsBindable w.catalog user t
writable_in e w user t a h = subst (λ (o : Objects). IsBindable o user t) (sym a.catalog) h

-- its table is not leased, and FROM has few entries
pub none_state : (e : Shown) (w : World) (t : WriteTree) → IsSound e → leased e (target_of t) ≡ false → Agrees e w → (OfQuery (λ q. (d : Cause) × QueryState w q d) t → ⊥) → (d : Cause) → WriteState w t d → ⊥
none_state e w t sound free a few d (inl (is, taken)) = false≢true (sym free ∙ sym (ap (λ (f : Name → Bool). f (target_of t)) (leases_same e w sound a)) ∙ taken)
none_state e w t sound free a few d (inr h) = few (with_cause t h)
  where
    in_given : (g : GivenTree) → OfGiven (λ q. QueryState w q d) g → OfGiven (λ q. (d : Cause) × QueryState w q d) g
    in_given (values rows) x = x
    in_given (rows_of q) x = (d, x)

    with_cause : (t : WriteTree) → OfQuery (λ q. QueryState w q d) t → OfQuery (λ q. (d : Cause) × QueryState w q d) t
    with_cause (insert i) x = in_given i.given x
    with_cause (update u) x = x
    with_cause (delete u) x = x
