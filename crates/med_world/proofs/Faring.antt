-- A box in one slot changes, and all others stay.
use Rattle.std.proofs.Common.{◌≡◌, ◌≢◌, ℕ, ◌-◌, ◌^◌, ◌≤◌, min, ◌⊎◌, true, false, cond, List, [], ◌∷◌, Option, Some, None, IsSome, slice_get, slice_set, refl, ap, sym, ◌∙◌, subst, arith, zero, suc, eqb, inl, inr}
use Rattle.std.proofs.lemmas.Bool.Decides.{eqb_tells}
use Rattle.fdw_api.specs.Prelude.{Column, OptionForm, scan_of, BoxState, IsIdle, is_honest, table_of, rows_of, set_at, Binds, Unbinds, Refuses, faults_after}
use Rattle.fdw_api.specs.declared.interface.Fault.{Fault}
use Rattle.fdw_api.specs.declared.interface.Fault.TheVariants.{NoMemory, Source, Refused}
use Rattle.med_exec.specs.Slots.{ChangesAt}
use Rattle.med_catalog.specs.Objects.{TableObject}
use Rattle.med_world.specs.Altering.{BindsInVain}
use Rattle.med_world.specs.Engine.{Rises, Fares, EachRises}

pub set_same : {A : Type 0} (xs : List A) (i : ℕ) (x y : A) → slice_get xs i ≡ Some x → slice_get (slice_set xs i y) i ≡ Some y
set_same [] i x y h = absurd cc
set_same (z ∷ zs) zero x y h = refl
set_same (z ∷ zs) (suc i) x y h = set_same zs i x y h

pub set_other : {A : Type 0} (xs : List A) (i j : ℕ) (y : A) → j ≢ i → slice_get (slice_set xs i y) j ≡ slice_get xs j
set_other [] i j y ne = refl
set_other (z ∷ zs) zero zero y ne = absurd (ne refl)
set_other (z ∷ zs) zero (suc j) y ne = refl
set_other (z ∷ zs) (suc i) zero y ne = refl
set_other (z ∷ zs) (suc i) (suc j) y ne = set_other zs i j y (λ e. ne (ap suc e))

pub same_box : (x y : BoxState) → Some (Some x) ≡ Some (Some y) → x ≡ y
same_box x y e = cc

pub no_box : (x : BoxState) → Some (Some x) ≡ Some None → ⊥
no_box x e = absurd cc

pub rises_itself : (s : BoxState) → Rises s s
rises_itself s = record { nature = refl; next = omega arith; end = λ e. e; pulled = omega arith; faults = omega arith }

pub changes_by : (P Q : BoxState → BoxState → Type 0) (old new : List (Option BoxState)) (slot : ℕ) → ((b c : BoxState) → P b c → Q b c) → ChangesAt old slot P new → ChangesAt old slot Q new
changes_by P Q old new slot f h = record { before = h.before; after = h.after; there = h.there; now = h.now; others = h.others; slots = h.slots; change = f h.before h.after h.change }

-- ---- a table is bound or unbound, and all else of the box stays

pub record Spares (only : ℕ → Type 0) (b c : BoxState) : Type 0 where
  pub nature : c.nature ≡ b.nature
  pub live : c.ledger.live ≡ b.ledger.live
  pub staged : c.ledger.staged ≡ b.ledger.staged
  pub tables : (t : ℕ) → (only t → ⊥) → table_of c t ≡ table_of b t
  pub rows : is_honest b → (t : ℕ) → (only t → ⊥) → rows_of c t ≡ rows_of b t
  pub holdings : is_honest b → c.content.holdings ≡ b.content.holdings
  pub coming : is_honest b → (q : ℕ) → IsSome (scan_of b q) → c.content.coming q ≡ b.content.coming q

-- one table
abbrev pub that_is : ℕ → ℕ → Type 0
that_is number t = t ≡ number

pub set_this : {X : Type 0} (f : ℕ → X) (k : ℕ) (x : X) (q : ℕ) → q ≡ k → set_at f k x q ≡ x
set_this f k x q e = split (eqb_tells q k)
  where
    split : ((eqb q k ≡ true) × (q ≡ k)) ⊎ ((eqb q k ≡ false) × (q ≢ k)) → set_at f k x q ≡ x
    split (inl s) = ap (λ r. cond r x (f q)) s.0
    split (inr s) = absurd (s.1 e)

pub set_that : {X : Type 0} (f : ℕ → X) (k : ℕ) (x : X) (q : ℕ) → q ≢ k → set_at f k x q ≡ f q
set_that f k x q ne = split (eqb_tells q k)
  where
    split : ((eqb q k ≡ true) × (q ≡ k)) ⊎ ((eqb q k ≡ false) × (q ≢ k)) → set_at f k x q ≡ f q
    split (inl s) = absurd (ne s.1)
    split (inr s) = ap (λ r. cond r x (f q)) s.0

pub binds_spares : (b c : BoxState) (remote : List ℕ) (columns : List Column) (settings : List OptionForm) (t : ℕ) → Binds b remote columns settings t c → Spares (that_is t) b c
binds_spares b c remote columns settings t h = record {
  nature = h.nature;
  live = ap (λ l. l.live) h.ledger;
  staged = ap (λ l. l.staged) h.ledger;
  tables = λ q ne. ap (λ l. l.tables q) h.ledger ∙ set_that b.ledger.tables t (Some h.bound) q ne;
  rows = λ honest q ne. (h.leaves honest).rows q ne;
  holdings = λ honest. λ i r. (h.leaves honest).holdings r (λ z. z) i;
  coming = λ honest q live. (h.leaves honest).coming q live (λ z. z);
}

pub unbinds_spares : (b c : BoxState) (t : ℕ) → Unbinds b t c → Spares (that_is t) b c
unbinds_spares b c t h = record {
  nature = h.nature;
  live = ap (λ l. l.live) h.ledger;
  staged = ap (λ l. l.staged) h.ledger;
  tables = λ q ne. ap (λ l. l.tables q) h.ledger ∙ set_that b.ledger.tables t None q ne;
  rows = λ honest q ne. (h.leaves honest).rows q ne;
  holdings = λ honest. λ i r. (h.leaves honest).holdings r (λ z. z) i;
  coming = λ honest q live. (h.leaves honest).coming q live (λ z. z);
}

pub refuses_spares : (fault : Fault) (only : ℕ → Type 0) (b c : BoxState) → Refuses fault b c → Spares only b c
refuses_spares fault only b c h = record {
  nature = h.nature;
  live = ap (λ l. l.live) h.ledger;
  staged = ap (λ l. l.staged) h.ledger;
  tables = λ q ne. ap (λ l. l.tables q) h.ledger;
  rows = λ honest q ne. (h.leaves honest).rows q (λ z. z);
  holdings = λ honest. λ i r. (h.leaves honest).holdings r (λ z. z) i;
  coming = λ honest q live. (h.leaves honest).coming q live (λ z. z);
}

pub binds_rises : (b c : BoxState) (remote : List ℕ) (columns : List Column) (settings : List OptionForm) (t : ℕ) → Binds b remote columns settings t c → Rises b c
binds_rises b c remote columns settings t h = record {
  nature = h.nature;
  next = subst (λ (n : ℕ). b.ledger.next ≤ n) (sym (ap (λ l. l.next) h.ledger)) (omega arith);
  end = λ e. ap (λ l. l.next) h.ledger ∙ e;
  pulled = subst (λ (n : ℕ). min b.ledger.pulled (2 ^ 64 - 1) ≤ n) (sym (ap (λ l. l.pulled) h.ledger)) (omega arith);
  faults = subst (λ (n : ℕ). min b.ledger.faults (2 ^ 64 - 1) ≤ n) (sym (ap (λ l. l.faults) h.ledger)) (omega arith);
}

pub unbinds_rises : (b c : BoxState) (t : ℕ) → Unbinds b t c → Rises b c
unbinds_rises b c t h = record {
  nature = h.nature;
  next = subst (λ (n : ℕ). b.ledger.next ≤ n) (sym (ap (λ l. l.next) h.ledger)) (omega arith);
  end = λ e. ap (λ l. l.next) h.ledger ∙ e;
  pulled = subst (λ (n : ℕ). min b.ledger.pulled (2 ^ 64 - 1) ≤ n) (sym (ap (λ l. l.pulled) h.ledger)) (omega arith);
  faults = subst (λ (n : ℕ). min b.ledger.faults (2 ^ 64 - 1) ≤ n) (sym (ap (λ l. l.faults) h.ledger)) (omega arith);
}

pub rises_twice : (a b c : BoxState) → Rises a b → Rises b c → Rises a c
rises_twice a b c x y = record {
  nature = y.nature ∙ x.nature;
  next = (let p = x.next in let q = y.next in omega arith);
  end = λ e. y.end (x.end e);
  pulled = (let p = x.pulled in let q = y.pulled in omega arith);
  faults = (let p = x.faults in let q = y.faults in omega arith);
}

faults_rise : (fault : Fault) (n : ℕ) → min n (2 ^ 64 - 1) ≤ faults_after fault n
faults_rise NoMemory n = omega arith
faults_rise Source n = omega arith
faults_rise (Refused c) n = omega arith

pub refuses_rises : (fault : Fault) (b c : BoxState) → Refuses fault b c → Rises b c
refuses_rises fault b c h = record {
  nature = h.nature;
  next = subst (λ (n : ℕ). b.ledger.next ≤ n) (sym (ap (λ l. l.next) h.ledger)) h.rises;
  end = λ e. ap (λ l. l.next) h.ledger ∙ h.stays e;
  pulled = subst (λ (n : ℕ). min b.ledger.pulled (2 ^ 64 - 1) ≤ n) (sym (ap (λ l. l.pulled) h.ledger)) (omega arith);
  faults = subst (λ (n : ℕ). min b.ledger.faults (2 ^ 64 - 1) ≤ n) (sym (ap (λ l. l.faults) h.ledger)) (faults_rise fault b.ledger.faults);
}

pub vain_rises : (t : TableObject) (b c : BoxState) → BindsInVain t b c → Rises b c
vain_rises t b c h = rises_twice b h.mid c (binds_rises b h.mid t.remote t.columns t.settings h.number h.binds) (unbinds_rises h.mid c h.number h.unbinds)

-- so does a box that binds and unbinds a table
pub spares_twice : (only : ℕ → Type 0) (a b c : BoxState) → Spares only a b → Spares only b c → Spares only a c
spares_twice only a b c x y = record {
  nature = y.nature ∙ x.nature;
  live = y.live ∙ x.live;
  staged = y.staged ∙ x.staged;
  tables = λ t ne. y.tables t ne ∙ x.tables t ne;
  rows = λ honest t ne. y.rows (ap (λ n. n.honest) x.nature ∙ honest) t ne ∙ x.rows honest t ne;
  holdings = λ honest. y.holdings (ap (λ n. n.honest) x.nature ∙ honest) ∙ x.holdings honest;
  coming = λ honest q live. y.coming (ap (λ n. n.honest) x.nature ∙ honest) q (subst (λ m. IsSome (scan_of (record a { ledger = record a.ledger { live = m } }) q)) (sym x.live) live) ∙ x.coming honest q live;
}

pub vain_spares : (t : TableObject) (b c : BoxState) (h : BindsInVain t b c) → Spares (that_is h.number) b c
vain_spares t b c h = spares_twice (that_is h.number) b h.mid c (binds_spares b h.mid t.remote t.columns t.settings h.number h.binds) (unbinds_spares h.mid c h.number h.unbinds)

-- a box that is there after was there before, the same or changed so
pub was_there : (P : BoxState → BoxState → Type 0) (old new : List (Option BoxState)) (slot i : ℕ) (c : BoxState) → ((b : BoxState) → P b b) → ChangesAt old slot P new → slice_get new i ≡ Some (Some c)
    → (b : BoxState) × (slice_get old i ≡ Some (Some b)) × P b c
was_there P old new slot i c same h at = split (eqb_tells i slot)
  where
    split : ((eqb i slot ≡ true) × (i ≡ slot)) ⊎ ((eqb i slot ≡ false) × (i ≢ slot)) → (b : BoxState) × (slice_get old i ≡ Some (Some b)) × P b c
    split (inl s) =
        let e : h.after ≡ c = same_box h.after c (sym h.now ∙ ap (slice_get new) (sym s.1) ∙ at) in
        (h.before, ap (slice_get old) s.1 ∙ h.there, subst (λ z. P h.before z) e h.change)
    split (inr s) = (c, sym (h.others i s.1) ∙ at, same c)

-- one that was there is there after, the same or changed so
pub is_there : (P : BoxState → BoxState → Type 0) (old new : List (Option BoxState)) (slot i : ℕ) (b : BoxState) → ((b : BoxState) → P b b) → ChangesAt old slot P new → slice_get old i ≡ Some (Some b)
    → (c : BoxState) × (slice_get new i ≡ Some (Some c)) × P b c
is_there P old new slot i b same h at = split (eqb_tells i slot)
  where
    split : ((eqb i slot ≡ true) × (i ≡ slot)) ⊎ ((eqb i slot ≡ false) × (i ≢ slot)) → (c : BoxState) × (slice_get new i ≡ Some (Some c)) × P b c
    split (inl s) =
        let e : h.before ≡ b = same_box h.before b (sym h.there ∙ ap (slice_get old) (sym s.1) ∙ at) in
        (h.after, ap (slice_get new) s.1 ∙ h.now, subst (λ z. P z h.after) e h.change)
    split (inr s) = (b, h.others i s.1 ∙ at, same b)

pub spares_itself : (only : ℕ → Type 0) (b : BoxState) → Spares only b b
spares_itself only b = record { nature = refl; live = refl; staged = refl; tables = λ t ne. refl; rows = λ o t ne. refl; holdings = λ o. refl; coming = λ o q live. refl }

pub changes_rise : (P : BoxState → BoxState → Type 0) (old new : List (Option BoxState)) (slot : ℕ) → ((b : BoxState) → P b b) → ((b c : BoxState) → P b c → Rises b c) → ChangesAt old slot P new → EachRises old new
changes_rise P old new slot same rises h = record {
  stays = λ i b at. let n = is_there P old new slot i b same h at in (Some n.0, n.1, rises b n.0 n.2);
  stood = λ i c at. let n = was_there P old new slot i c same h at in (n.0, n.1, rises n.0 c n.2);
  gone = λ i at. h.others i (λ k. no_box h.before (sym h.there ∙ ap (slice_get old) (sym k) ∙ at)) ∙ at;
}

pub none_rises : (boxes : List (Option BoxState)) → EachRises boxes boxes
none_rises boxes = record { stays = λ slot s at. (Some s, at, rises_itself s); stood = λ slot s at. (s, at, rises_itself s); gone = λ slot at. at }

-- ---- a box is dropped

-- a box that is there after it was there before
pub left_box : (boxes : List (Option BoxState)) (place i : ℕ) (b t : BoxState) → slice_get boxes place ≡ Some (Some b) → slice_get (slice_set boxes place None) i ≡ Some (Some t) → slice_get boxes i ≡ Some (Some t)
left_box boxes place i b t there at = split (eqb_tells i place)
  where
    split : ((eqb i place ≡ true) × (i ≡ place)) ⊎ ((eqb i place ≡ false) × (i ≢ place)) → slice_get boxes i ≡ Some (Some t)
    split (inl k) =
        let gone : slice_get (slice_set boxes place None) i ≡ Some None = ap (slice_get (slice_set boxes place None)) k.1 ∙ set_same boxes place (Some b) None there in
        absurd (no_box t (sym at ∙ gone))
    split (inr k) = sym (set_other boxes place i None k.1) ∙ at

pub drop_rises : (boxes : List (Option BoxState)) (place : ℕ) (b : BoxState) → slice_get boxes place ≡ Some (Some b) → IsIdle b → EachRises boxes (slice_set boxes place None)
drop_rises boxes place b there idle = record { stays = stays; stood = stood; gone = λ i at. set_other boxes place i None (λ k. no_box b (sym there ∙ ap (slice_get boxes) (sym k) ∙ at)) ∙ at }
  where
    stays : (i : ℕ) (s : BoxState) → slice_get boxes i ≡ Some (Some s) → (after : Option BoxState) × (slice_get (slice_set boxes place None) i ≡ Some after) × Fares s after
    stays i s at = split (eqb_tells i place)
      where
        split : ((eqb i place ≡ true) × (i ≡ place)) ⊎ ((eqb i place ≡ false) × (i ≢ place)) → (after : Option BoxState) × (slice_get (slice_set boxes place None) i ≡ Some after) × Fares s after
        split (inl k) =
            let e : b ≡ s = same_box b s (sym there ∙ ap (slice_get boxes) (sym k.1) ∙ at) in
            (None, ap (slice_get (slice_set boxes place None)) k.1 ∙ set_same boxes place (Some b) None there, (s, rises_itself s, subst IsIdle e idle))
        split (inr k) = (Some s, set_other boxes place i None k.1 ∙ at, rises_itself s)

    stood : (i : ℕ) (t : BoxState) → slice_get (slice_set boxes place None) i ≡ Some (Some t) → (s : BoxState) × (slice_get boxes i ≡ Some (Some s)) × Rises s t
    stood i t at = (t, left_box boxes place i b t there at, rises_itself t)

-- boxes that rise twice have risen
fares_twice : (a b : BoxState) (c : Option BoxState) → Rises a b → Fares b c → Fares a c
fares_twice a b None x y = (y.0, rises_twice a b y.0 x y.1, y.2)
fares_twice a b (Some c) x y = rises_twice a b c x y

pub rise_twice : (old mid new : List (Option BoxState)) → EachRises old mid → EachRises mid new → EachRises old new
rise_twice old mid new x y = record {
  stays = λ i s at. let n = x.stays i s at in on i s n.0 n.1 n.2;
  stood = λ i t at. let m = y.stood i t at in let o = x.stood i m.0 m.1 in (o.0, o.1, rises_twice o.0 m.0 t o.2 m.2);
  gone = λ i at. y.gone i (x.gone i at);
}
  where
    on : (i : ℕ) (s : BoxState) (n : Option BoxState) → slice_get mid i ≡ Some n → Fares s n → (after : Option BoxState) × (slice_get new i ≡ Some after) × Fares s after
    on i s None at f = (None, y.gone i at, f)
    on i s (Some m) at f = let n = y.stays i m at in (n.0, n.1, fares_twice s m n.0 f n.2)
