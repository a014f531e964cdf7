-- What the wrappers round a wrapper say alike.
use Rattle.std.proofs.Common.{◌≡◌, ◌≢◌, ℕ, ◌+◌, ◌-◌, ◌^◌, ◌<◌, Bool, true, false, List, Option, Some, None, IsSome, ap, sym, ◌∙◌, subst}
use Rattle.std.specs.FinMap as finmap
use Rattle.med_value.specs.Datum.{Tuple}
use Rattle.fdw_api.specs.Prelude.{Spec, GivenRow, Column, OptionForm, Change, BoxState, Nature, Ledger, Staging, Scan, is_honest, scan_of, Leaves, LeavesAll, BindCause, Begins, Ends, new_scan, ChangeCause, CloseCause}
use Rattle.fdw_api.specs.declared.interface.Fault.{Fault}
use Rattle.fdw_api.specs.declared.interface.Fault.TheVariants.{NoMemory, Source, Refused}
use Rattle.probe_wrapper.proofs.SeenScans.{Scans, put_other, gone_again}

-- a wrapper round another does not promise to keep numbers
pub never : {X : Type 0} → true ≡ false → X
never e = absurd cc

-- a box as a wrapper round it shows it, where the tables and what stands in them are its own: the ledger but for the tables, the rows to come
-- and what its nature says of numbers and promises are the wrapper's
abbrev pub around : BoxState → Nature → Ledger → (ℕ → List GivenRow) → BoxState
around s n l coming = record {
  nature = record s.nature { skips = n.skips; promises = n.promises };
  ledger = record l { tables = s.ledger.tables };
  content = record s.content { coming = coming };
}

-- a cause that stands for the one stands for the other
pub bind_cause : (s : BoxState) (n : Nature) (l : Ledger) (coming : ℕ → List GivenRow) (remote : List ℕ) (columns : List Column) (settings : List OptionForm) (fault : Fault)
    → BindCause s remote columns settings fault → BindCause (around s n l coming) remote columns settings fault
bind_cause s n l coming remote columns settings NoMemory c = tt
bind_cause s n l coming remote columns settings Source c = tt
bind_cause s n l coming remote columns settings (Refused x) c = c

pub change_cause : (s : BoxState) (n : Nature) (l : Ledger) (coming : ℕ → List GivenRow) (staging : Staging) (change : Change) (fault : Fault)
    → ChangeCause s staging change fault → ChangeCause (around s n l coming) staging change fault
change_cause s n l coming staging change NoMemory c = tt
change_cause s n l coming staging change Source c = tt
change_cause s n l coming staging change (Refused x) c = c

pub close_cause : (s : BoxState) (n : Nature) (l : Ledger) (coming : ℕ → List GivenRow) (staging : Staging) (broken : Bool) (fault : Fault)
    → CloseCause s staging fault → CloseCause (around s n l coming) (record staging { broken = broken }) fault
close_cause s n l coming staging broken NoMemory c = tt
close_cause s n l coming staging broken Source c = tt
close_cause s n l coming staging broken (Refused x) c = c

-- a number was used up, and all else is as before
pub record UsesNumberUp (s t : BoxState) : Type 0 where
  pub nature : t.nature ≡ s.nature
  pub room : s.ledger.next < 2 ^ 64 - 1
  pub ledger : t.ledger ≡ record s.ledger { next = s.ledger.next + 1 }
  pub leaves : is_honest s → LeavesAll s t

not_this : (o : Option Scan) → o ≡ None → IsSome o → ⊥
not_this None e s = absurd cc
not_this (Some x) e s = absurd cc

honest_on : (s t : BoxState) → t.nature ≡ s.nature → is_honest s → is_honest t
honest_on s t e h = ap (λ (n : Nature). n.honest) e ∙ h

-- so it is where a scan was begun, and ended before any row was asked for
pub begun_and_ended : (s mid t : BoxState) (n : ℕ) (spec : Spec) (params : Tuple) (q : ℕ) → Begins s n spec params q mid → Ends mid q t → UsesNumberUp s t
begun_and_ended s mid t n spec params q b e = record {
  nature = e.nature ∙ b.nature;
  room = subst (λ (x : ℕ). x < 2 ^ 64 - 1) b.is_next b.room;
  ledger =
      e.ledger ∙ ap (λ (l : Ledger). record l { live = finmap.remove l.live q }) b.ledger
      ∙ ap (λ (m : Scans). record s.ledger { live = m; next = q + 1 }) (gone_again s.ledger.live q (new_scan n b.bound.kinds spec params b.left) b.fresh)
      ∙ ap (λ (x : ℕ). record s.ledger { next = x + 1 }) b.is_next;
  leaves = λ h. kept (b.leaves h) (e.leaves (honest_on s mid b.nature h));
}
  where
    kept : Leaves (λ x. x ≡ q) (λ x. ⊥) (λ x. ⊥) s mid → Leaves (λ x. x ≡ q) (λ x. ⊥) (λ x. ⊥) mid t → LeavesAll s t
    kept l k = record {
      coming = λ x live other.
          let ne : x ≢ q = λ same. not_this (scan_of s q) b.fresh (subst (λ (z : ℕ). IsSome (scan_of s z)) same live) in
          k.coming x (subst IsSome (sym (ap (λ z. finmap.get z.live x) b.ledger ∙ put_other s.ledger.live q x (new_scan n b.bound.kinds spec params b.left) ne)) live) ne ∙ l.coming x live ne;
      rows = λ u o. k.rows u o ∙ l.rows u o;
      holdings = λ r o. k.holdings r o ∙ l.holdings r o;
    }
