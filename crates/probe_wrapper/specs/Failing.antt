-- What a failing wrapper shows: what its inner one shows, but for its own failure: one fault more, and the scan or the write that it broke.
use Rattle.std.specs.Prelude.{◌≡◌, ◌-◌, ◌^◌, ℕ, zero, suc, Bool, true, false, ◌||◌, if◌then◌else◌, nat_eq, min, Option, Some, None, option_map, Result, IsErrOf}
use Rattle.std.specs.Ordering.{nat_cmp}
use Rattle.std.specs.FinMap as finmap
use Rattle.fdw_api.specs.State.{Scan as LiveScan, Staging, Ledger, BoxState}
use Rattle.fdw_api.specs.Calls.{bumped}
use Rattle.fdw_api.specs.declared.interface.Fault.{Fault}
use Rattle.fdw_api.specs.declared.interface.Fault.TheVariants.{Source}
use Rattle.probe_wrapper.specs.declared.failing.Failing.{Failing}
use Rattle.probe_wrapper.specs.declared.failing.Failure.{Failure}
use Rattle.probe_wrapper.specs.declared.failing.Failure.TheVariants.{Before, Scan, Write, Past}

-- the next counted call is the one that fails
abbrev pub is_due : Failure → Bool
is_due (Before n) = nat_eq n 0
is_due (Scan n) = false
is_due Write = false
is_due Past = false

-- how a counted call leaves the failure, if it is not due
abbrev pub after_call : Failure → Failure
after_call (Before n) = Before (n - 1)
after_call (Scan n) = Scan n
after_call Write = Write
after_call Past = Past

-- the call that fails has come
abbrev pub has_come : Failure → Bool
has_come (Before n) = false
has_come (Scan n) = true
has_come Write = true
has_come Past = true

abbrev pub is_write : Failure → Bool
is_write (Before n) = false
is_write (Scan n) = false
is_write Write = true
is_write Past = false

-- the scan of a number is broken, if it is live
abbrev pub spoilt : ℕ → finmap.FinMap nat_cmp LiveScan → Option LiveScan → finmap.FinMap nat_cmp LiveScan
spoilt n m None = m
spoilt n m (Some s) = finmap.insert m n (record s { broken = true })

abbrev pub live_of : Failure → finmap.FinMap nat_cmp LiveScan → finmap.FinMap nat_cmp LiveScan
live_of (Before n) m = m
live_of (Scan n) m = spoilt n m (finmap.get m n)
live_of Write m = m
live_of Past m = m

abbrev pub staging_of : Failure → Staging → Staging
staging_of f t = record t { broken = is_write f || t.broken }

abbrev pub faults_of : Failure → ℕ → ℕ
faults_of (Before k) n = min n (2 ^ 64 - 1)
faults_of (Scan k) n = bumped n
faults_of Write n = bumped n
faults_of Past n = bumped n

abbrev pub failed_ledger : Failure → Ledger → Ledger
failed_ledger f l = record {
  tables = l.tables;
  live = live_of f l.live;
  staged = option_map (staging_of f) l.staged;
  next = l.next;
  pulled = l.pulled;
  faults = faults_of f l.faults;
}

abbrev pub failed : BoxState → Failure → BoxState
failed s f = record { nature = s.nature; ledger = failed_ledger f s.ledger; content = s.content }

-- the failure after the scan of this number was ended or begun, and after a write was begun: what it broke stands no more
abbrev pub past_scan : Failure → ℕ → Failure
past_scan (Before k) q = Before k
past_scan (Scan n) q = if nat_eq q n then Past else Scan n
past_scan Write q = Write
past_scan Past q = Past

abbrev pub past_write : Failure → Failure
past_write (Before k) = Before k
past_write (Scan n) = Scan n
past_write Write = Past
past_write Past = Past

-- what a failing wrapper shows as a wrapper
abbrev pub box_of : {W : Type 0} → (W → BoxState) → Failing W → BoxState
box_of meaning b = failed (meaning b.inner) b.failure

-- how many counted calls are passed before the one that fails; None once that one has come
abbrev pub to_pass : Failure → Option ℕ
to_pass (Before n) = Some n
to_pass (Scan n) = None
to_pass Write = None
to_pass Past = None

-- a counted call. The one that is due answers Source, and has come; each before it leaves one call less to pass, whatever it answers; each
-- after it leaves that it has come
abbrev pub CountsCall : {T : Type 0} → Option ℕ → Result T Fault → Option ℕ → Type 0
CountsCall (Some zero) result left = IsErrOf result Source × (left ≡ None)
CountsCall (Some (suc n)) result left = left ≡ Some n
CountsCall None result left = left ≡ None
