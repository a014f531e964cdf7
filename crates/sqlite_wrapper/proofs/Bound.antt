-- What unbinding does to a SQLite source.
use Rattle.std.proofs.Common.{
  ◌≡◌,
  ◌≢◌,
  ℕ,
  ◌<◌,
  ◌⊎◌,
  Bool,
  true,
  false,
  List,
  [],
  ◌∷◌,
  Option,
  None,
  IsSome,
  length,
  slice_index_or,
  slice_set,
  zero,
  suc,
  refl,
  ap,
  arith,
  rules,
  eqb,
  inl,
  inr,
}
use Rattle.std.specs.BTreeMap.{BTreeMap}
use Rattle.std.proofs.lemmas.Bool.Decides.{eqb_tells}
use Rattle.sqlite.specs.Effect.{Database}
use Rattle.fdw_api.specs.Prelude.{BoxTable, set_at, Unbinds}
use Rattle.sqlite_wrapper.specs.declared.scans.KeyScan.{KeyScan}
use Rattle.wrapper_parts.specs.declared.changes.StagedWrite.{StagedWrite}
use Rattle.sqlite_wrapper.specs.Boxes.{marked_bound, sqlite_state}

mark_same : (bs : List Bool) (i : ℕ) (b : Bool) → i < length bs → slice_index_or (slice_set bs i b) i false ≡ b
mark_same bs i b lt = search rules

mark_other : (bs : List Bool) (i q : ℕ) (b : Bool) → q ≢ i → slice_index_or (slice_set bs i b) q false ≡ slice_index_or bs q false
mark_other bs i q b ne = search rules

-- the marks after one is set
pub marks : (bound : List Bool) (t : ℕ) (b : Bool) (new : Option BoxTable) → t < length bound → marked_bound b t ≡ new → (q : ℕ)
    → marked_bound (slice_index_or (slice_set bound t b) q false) q ≡ set_at (λ u. marked_bound (slice_index_or bound u false) u) t new q
marks bound t b new lt e q = split (eqb_tells q t)
  where
    split : ((eqb q t ≡ true) × (q ≡ t)) ⊎ ((eqb q t ≡ false) × (q ≢ t))
        → marked_bound (slice_index_or (slice_set bound t b) q false) q
        ≡ set_at (λ u. marked_bound (slice_index_or bound u false) u) t new q
    split (inl s) = rw (s.0, s.1, mark_same bound t b lt) e
    split (inr s) = rw (s.0, mark_other bound t q b s.1) refl

marked_within : (bound : List Bool) (t u : ℕ) → IsSome (marked_bound (slice_index_or bound t false) u) → t < length bound
marked_within [] t u e = absurd cc
marked_within (b ∷ bs) zero u e = omega arith
marked_within (b ∷ bs) (suc t) u e = let n = marked_within bs t u e in omega arith

-- a bound table is one of the layouts
pub bound_within : (bound : List Bool) (t : ℕ) → IsSome (marked_bound (slice_index_or bound t false) t) → t < length bound
bound_within bound t e = marked_within bound t t e

pub sqlite_unbinds : (honest : Bool) (bound : List Bool) (staged : Option StagedWrite) (db : Database) (scans : BTreeMap ℕ KeyScan)
    (next pulled faults t : ℕ) → t < length bound
    → Unbinds (sqlite_state honest db bound scans staged next pulled faults) t
    (sqlite_state honest db (slice_set bound t false) scans staged next pulled faults)
sqlite_unbinds honest bound staged db scans next pulled faults t lt = record {
  nature = refl;
  ledger = ap (λ (f : ℕ → Option BoxTable). record (sqlite_state honest db bound scans staged next pulled faults).ledger { tables = f })
      (λ i q. marks bound t false None lt refl q i);
  leaves = λ h. record { coming = λ q l o. refl; rows = λ u o. refl; holdings = λ r o. refl };
}
