-- What two steps of a replaced file say together.
use Rattle.std.proofs.Common.{◌≡◌, ◌≢◌, ℕ, ◌+◌, ◌<◌, ◌≤◌, Bool, true, false, List, ◌∷◌, ◌++◌, Option, Some, None, Result, Ok, Err, refl, sym, ap, subst, ◌∙◌, inl, inr, arith}
use Rattle.std.proofs.lemmas.Bool.{cases_Bool}
use Rattle.blob_store.specs.Known.{KnownBoth}
use Rattle.blob_store.specs.Drives.{Drive, told_at, fault_count}
use Rattle.blob_store.specs.Files.{ClearedPlace, Started, NotStarted, Starts, Landed, NotLanded, Lands, PutSeen, KeepsSeen, PutsSeen, ReplacesWhole, Keeps, PutsOrNot, PutsAll, LooksOver, IsStamped, MayBeWritten, IsUnchanged, put_fault, count_of}
use Rattle.blob_store.specs.Logs.{Call, Looked, ToldDraft, Synced, Renamed, SyncedBy, IsQuiet, Asked, StartsDraft, StartsNone, probed, renames, refused, failed}
use Rattle.blob_store.specs.PutLogs.{SeesOwn, SawAgain, FilledBy, PutBy, NotPutHeld, PutsHeld, NotPutBy, PutsBy, StartedAndLanded, PutsSeenBy, LandedBy, NotLandedBy, LandsBy, LookedOver, looked_over, IsPutDue, memory_of}
use Rattle.blob_store.specs.declared.disk.Told.{Told}
use Rattle.blob_store.specs.declared.disk.DiskFault.{DiskFault}
use Rattle.blob_store.specs.declared.marks.Mark.{Mark}
use Rattle.blob_store.specs.declared.steps.PutFault.{PutFault}
use Rattle.blob_store.specs.declared.steps.PutFault.TheVariants as puts
use Rattle.blob_store.specs.declared.disk.DiskFault.TheVariants as disks
use Rattle.std.specs.Prelude.{IfSome}

-- a draft that is made where its place was cleared
module _ (old mid new : Drive) (draft : List ℕ) (c : ClearedPlace old mid draft) where
  started : (like : Option Told) → Started mid new draft like → Started old new draft like
  started like s = record {
    free = λ e. sym (c.left e) ∙ s.free (c.locked ∙ e);
    entry = s.entry;
    there = s.there;
    bytes = s.bytes;
    kind = s.kind;
    mode = s.mode;
    others = λ other ne. s.others other ne ∙ c.others other ne;
    making = s.making;
    held = s.held ∙ c.held;
    locked = λ e. s.locked (c.locked ∙ e);
    faults = s.faults ∙ c.faults;
  }

  apart : new.at draft ≢ None → new.at draft ≢ old.at draft → new.at draft ≢ mid.at draft
  apart there other e = elim (cases_Bool old.locked) [ inl is ↦ there (e ∙ c.gone is) | inr is ↦ other (e ∙ c.left is) ]

  not_started : (fault : DiskFault) → NotStarted mid new draft fault → NotStarted old new draft fault
  not_started fault s = record {
    cleared = λ there other. subst (λ n. n + fault_count fault < new.faults) c.faults (s.cleared there (apart there other));
    others = λ other ne. s.others other ne ∙ c.others other ne;
    held = s.held ∙ c.held;
    faults = subst (λ n. n + fault_count fault ≤ new.faults) c.faults s.faults;
  }

pub starts_after : {T : Type 0} (a m b : Option Drive) (draft : List ℕ) (like : Option Told) (result : Result T DiskFault) → KnownBoth a m (λ old new. ClearedPlace old new draft) → KnownBoth m b (λ old new. Starts old new draft like result) → KnownBoth a b (λ old new. Starts old new draft like result)
starts_after None None None draft like result h k = k
starts_after None None (Some new) draft like result h k = elim k [ ]
starts_after None (Some mid) b draft like result h k = elim h [ ]
starts_after (Some old) None b draft like result h k = elim h [ ]
starts_after (Some old) (Some mid) None draft like result h k = elim k [ ]
starts_after (Some old) (Some mid) (Some new) draft like (Ok x) h k = started old mid new draft h like k
starts_after (Some old) (Some mid) (Some new) draft like (Err fault) h k = not_started old mid new draft h fault k

-- what is known of two steps is known of both
known_two : {A : Type 0} (a b c : Option A) (P Q R : A → A → Type 0) → ((x y z : A) → P x y → Q y z → R x z) → KnownBoth a b P → KnownBoth b c Q → KnownBoth a c R
known_two None None None P Q R both h k = k
known_two None None (Some z) P Q R both h k = elim k [ ]
known_two None (Some y) c P Q R both h k = elim h [ ]
known_two (Some x) None c P Q R both h k = elim h [ ]
known_two (Some x) (Some y) None P Q R both h k = elim k [ ]
known_two (Some x) (Some y) (Some z) P Q R both h k = both x y z h k

-- a draft that was synced and is seen under its path
record OwnBy (old new : List Call) (draft bytes : List ℕ) : Type 0 where
  pub synced : List Call
  pub syncs : SyncedBy old synced bytes
  pub sees : SeesOwn synced new draft

record AgainBy (old new : List Call) (draft path bytes : List ℕ) (seen : Option Told) : Type 0 where
  pub own : List Call
  pub owns : OwnBy old own draft bytes
  pub saw : SawAgain own new path seen

filled : (draft path bytes : List ℕ) (seen : Option Told) (old again new : List Call) → AgainBy old again draft path bytes seen → new ≡ Renamed draft path ∷ again → FilledBy old new draft path bytes seen
filled draft path bytes seen old again new a e = record {
  made = a.owns.sees.made;
  there = a.owns.sees.there;
  same = a.owns.sees.same;
  last = a.saw.last;
  unchanged = a.saw.unchanged;
  before = a.owns.syncs.before;
  calls = e ∙ ap (λ log. Renamed draft path ∷ log) (a.saw.calls ∙ ap (λ log. Looked path a.saw.last ∷ log) (a.owns.sees.calls ∙ ap (λ log. Looked draft (Some a.owns.sees.there) ∷ ToldDraft a.owns.sees.made ∷ log) a.owns.syncs.calls));
  rest = a.owns.syncs.rest;
  quiet = a.owns.syncs.quiet;
  written = a.owns.syncs.written;
}

-- the draft is synced, seen under its path, the place looked at again, and the draft renamed
pub filled_by : (a b c d e : Option (List Call)) (draft path bytes : List ℕ) (seen : Option Told) → KnownBoth a b (λ old new. SyncedBy old new bytes) → KnownBoth b c (λ old new. SeesOwn old new draft) → KnownBoth c d (λ old new. SawAgain old new path seen) → KnownBoth d e (λ old new. new ≡ Renamed draft path ∷ old) → KnownBoth a e (λ old new. FilledBy old new draft path bytes seen)
filled_by a b c d e draft path bytes seen s o g r =
    known_two a d e (λ old new. AgainBy old new draft path bytes seen) (λ old new. new ≡ Renamed draft path ∷ old) (λ old new. FilledBy old new draft path bytes seen) (filled draft path bytes seen)
    (known_two a c d (λ old new. OwnBy old new draft bytes) (λ old new. SawAgain old new path seen) (λ old new. AgainBy old new draft path bytes seen) (λ x y z p q. record { own = y; owns = p; saw = q })
    (known_two a b c (λ old new. SyncedBy old new bytes) (λ old new. SeesOwn old new draft) (λ old new. OwnBy old new draft bytes) (λ x y z p q. record { synced = y; syncs = p; sees = q }) s o) g) r

-- a file is replaced in a folder that was held before
put_by : (draft path bytes : List ℕ) (mark now : Mark) (old mid new : List Call) → IsQuiet old mid → PutBy mid new draft path bytes mark now → PutBy old new draft path bytes mark now
put_by draft path bytes mark now old mid new q p = record {
  seen = p.seen;
  writable = p.writable;
  unchanged = p.unchanged;
  started = p.started;
  probe = p.probe;
  asked = p.asked;
  empty = p.empty;
  rights = p.rights;
  renames = p.renames ∙ q.renames;
  lands = p.lands;
}

not_put_by : (draft : List ℕ) (fault : PutFault) (old mid new : List Call) → IsQuiet old mid → NotPutHeld mid new draft fault → NotPutBy old new draft fault
not_put_by draft fault old mid new q n = record {
  renames = n.renames ∙ q.renames;
  due = (omega (arith, q.refused, n.due.0), omega (arith, q.failed, n.due.1));
  cleared = λ free. n.cleared;
}

pub puts_after : (a m b : Option (List Call)) (draft path bytes : List ℕ) (mark : Mark) (locked : Bool) (result : Result Mark PutFault) → KnownBoth a m (λ old new. IsQuiet old new × Asked new locked) → KnownBoth m b (λ old new. PutsHeld old new draft path bytes mark result) → KnownBoth a b (λ old new. PutsBy old new draft path bytes mark result)
puts_after None None None draft path bytes mark locked result h k = k
puts_after None None (Some new) draft path bytes mark locked result h k = elim k [ ]
puts_after None (Some mid) b draft path bytes mark locked result h k = elim h [ ]
puts_after (Some old) None b draft path bytes mark locked result h k = elim h [ ]
puts_after (Some old) (Some mid) None draft path bytes mark locked result h k = elim k [ ]
puts_after (Some old) (Some mid) (Some new) draft path bytes mark locked (Ok now) h k = put_by draft path bytes mark now old mid new h.0 k
puts_after (Some old) (Some mid) (Some new) draft path bytes mark locked (Err fault) h k = not_put_by draft fault old mid new h.0 k

-- a file that is not replaced, and then the folder is released
keeps_one : (draft path : List ℕ) (mark : Mark) (bytes : List ℕ) (fault : PutFault) (old mid : Drive) → Keeps old mid draft path mark fault → PutsAll old (record mid { held = None; locked = false; making = None }) draft path mark bytes (Err fault)
keeps_one draft path mark bytes fault old mid k = record {
  puts = record { failed = k.failed; barred = k.barred; others = k.others; cleared = k.cleared };
  released = refl;
}

pub keeps_released : (a m b : Option Drive) (draft path : List ℕ) (mark : Mark) (bytes : List ℕ) (fault : PutFault) → KnownBoth a m (λ old new. PutsOrNot old new draft path mark bytes (Err fault)) → KnownBoth m b (λ old new. new ≡ record old { held = None; locked = false; making = None }) → KnownBoth a b (λ old new. PutsAll old new draft path mark bytes (Err fault))
keeps_released a m b draft path mark bytes fault h k =
    known_two a m b (λ old new. PutsOrNot old new draft path mark bytes (Err fault)) (λ old new. new ≡ record old { held = None; locked = false; making = None }) (λ old new. PutsAll old new draft path mark bytes (Err fault))
    (λ x y z p q. subst (λ (d : Drive). PutsAll x d draft path mark bytes (Err fault)) (sym q) (keeps_one draft path mark bytes fault x y p)) h k

-- a draft that was not made
no_memory_barred : puts.NoMemory ≢ puts.Barred
no_memory_barred e = cc

failed_barred : puts.Failed ≢ puts.Barred
failed_barred e = cc

no_memory_failed : puts.NoMemory ≢ puts.Failed
no_memory_failed e = cc

keeps_not_started : (draft : List ℕ) (fault : DiskFault) (old new : Drive) → NotStarted old new draft fault → KeepsSeen old new draft (put_fault fault)
keeps_not_started draft disks.NoMemory old new n = record {
  true_fault = no_memory_barred;
  failed = λ e. absurd (no_memory_failed e);
  others = n.others;
  cleared = n.cleared;
}
keeps_not_started draft disks.Failed old new n = record {
  true_fault = failed_barred;
  failed = λ e. omega (arith, n.faults);
  others = n.others;
  cleared = n.cleared;
}

pub keeps_unstarted : (a b : Option Drive) (draft : List ℕ) (fault : DiskFault) → KnownBoth a b (λ old new. NotStarted old new draft fault) → KnownBoth a b (λ old new. KeepsSeen old new draft (put_fault fault))
keeps_unstarted None None draft fault h = h
keeps_unstarted None (Some new) draft fault h = elim h [ ]
keeps_unstarted (Some old) None draft fault h = elim h [ ]
keeps_unstarted (Some old) (Some new) draft fault h = keeps_not_started draft fault old new h

due_of : (fault : DiskFault) (old new : List Call) (draft : List ℕ) → StartsNone old new draft fault → IsPutDue old new (put_fault fault)
due_of disks.NoMemory old new draft n = n.due
due_of disks.Failed old new draft n = n.due

pub unstarted_by : (a b : Option (List Call)) (draft : List ℕ) (fault : DiskFault) → KnownBoth a b (λ old new. StartsNone old new draft fault) → KnownBoth a b (λ old new. NotPutHeld old new draft (put_fault fault))
unstarted_by None None draft fault h = h
unstarted_by None (Some new) draft fault h = elim h [ ]
unstarted_by (Some old) None draft fault h = elim h [ ]
unstarted_by (Some old) (Some new) draft fault h = record { renames = h.renames; due = due_of fault old new draft h; cleared = h.cleared }

-- a draft that was made and takes the place of a file
put_seen : (draft path bytes : List ℕ) (seen : Option Told) (now : Mark) (old mid new : Drive) → Started old mid draft seen → Landed mid new draft path bytes now → PutSeen old new draft path seen bytes now
put_seen draft path bytes seen now old mid new s l =
    let e : s.entry ≡ l.was = cc (s.there, l.drafted) in
    record {
      entry = l.entry;
      there = l.there;
      content = l.content ∙ ap (λ w. w.bytes ++ bytes) (sym e) ∙ ap (λ b. b ++ bytes) s.bytes;
      synced = l.synced;
      kind = l.kind ∙ ap (λ w. w.told.kind) (sym e) ∙ s.kind;
      mode = subst (λ (m : ℕ). IfSome seen (λ k. m ≡ k.mode)) (sym (l.mode ∙ ap (λ w. w.told.mode) (sym e))) s.mode;
      stamped = subst (λ (n : ℕ). IsStamped now l.entry.told n new.faults) s.faults l.stamped;
      gone = l.gone;
      others = λ other nd np. l.keeps.others other nd np ∙ s.others other nd;
      settled = λ same. l.settled (same ∙ sym s.faults);
    }

keeps_seen : (draft : List ℕ) (seen : Option Told) (fault : PutFault) (old mid new : Drive) → Started old mid draft seen → NotLanded mid new draft fault → KeepsSeen old new draft fault
keeps_seen draft seen fault old mid new s l = record {
  true_fault = l.true_fault;
  failed = λ e. let one : count_of fault ≡ 1 = ap count_of e in omega (arith, l.faults, one, s.faults);
  others = λ other ne. l.others other ne ∙ s.others other ne;
  cleared = λ there other. subst (λ (n : ℕ). n + count_of fault < new.faults) s.faults (l.cleared there);
}

seen_step : (draft path bytes : List ℕ) (seen : Option Told) (result : Result Mark PutFault) (old mid new : Drive) → Started old mid draft seen → Lands mid new draft path bytes result → PutsSeen old new draft path seen bytes result
seen_step draft path bytes seen (Ok now) old mid new s l = put_seen draft path bytes seen now old mid new s l
seen_step draft path bytes seen (Err fault) old mid new s l = keeps_seen draft seen fault old mid new s l

pub puts_seen : (a m b : Option Drive) (draft path bytes : List ℕ) (seen : Option Told) (result : Result Mark PutFault) → KnownBoth a m (λ old new. Started old new draft seen) → KnownBoth m b (λ old new. Lands old new draft path bytes result) → KnownBoth a b (λ old new. PutsSeen old new draft path seen bytes result)
puts_seen a m b draft path bytes seen result h k =
    known_two a m b (λ old new. Started old new draft seen) (λ old new. Lands old new draft path bytes result) (λ old new. PutsSeen old new draft path seen bytes result) (seen_step draft path bytes seen result) h k

seen_by_step : (draft path bytes : List ℕ) (seen : Option Told) (result : Result Mark PutFault) (old mid new : List Call) → StartsDraft old mid seen → LandsBy mid new draft path bytes seen result → PutsSeenBy old new draft path bytes seen result
seen_by_step draft path bytes seen (Ok now) old mid new s l = record {
  started = mid;
  probed = s.probed;
  asked = s.asked;
  empty = s.written;
  rights = s.rights;
  renames = s.quiet.renames;
  lands = l;
}
seen_by_step draft path bytes seen (Err fault) old mid new s l = record {
  renames = l.renames ∙ s.quiet.renames;
  due = (omega (arith, s.quiet.refused, l.due.0), omega (arith, s.quiet.failed, l.due.1));
  cleared = l.cleared;
}

pub puts_seen_by : (a m b : Option (List Call)) (draft path bytes : List ℕ) (seen : Option Told) (result : Result Mark PutFault) → KnownBoth a m (λ old new. StartsDraft old new seen) → KnownBoth m b (λ old new. LandsBy old new draft path bytes seen result) → KnownBoth a b (λ old new. PutsSeenBy old new draft path bytes seen result)
puts_seen_by a m b draft path bytes seen result h k =
    known_two a m b (λ old new. StartsDraft old new seen) (λ old new. LandsBy old new draft path bytes seen result) (λ old new. PutsSeenBy old new draft path bytes seen result) (seen_by_step draft path bytes seen result) h k

-- a file that was looked over, and is replaced
probe_of : (seen : Option Told) (old mid started : List Call) (path : List ℕ) → mid ≡ looked_over path seen old → probed started ≡ probed mid → IfSome seen (λ _. probed started ≡ Some path)
probe_of None old mid started path e p = tt
probe_of (Some told) old mid started path e p = p ∙ ap probed e

looked_quiet : (seen : Option Told) (old mid : List Call) (path : List ℕ) → mid ≡ looked_over path seen old → IsQuiet old mid
looked_quiet None old mid path e = let r : refused mid ≡ refused old = ap refused e in let f : failed mid ≡ failed old = ap failed e in record { renames = ap renames e; refused = omega (arith, r); failed = omega (arith, f) }
looked_quiet (Some told) old mid path e = let r : refused mid ≡ refused old = ap refused e in let f : failed mid ≡ failed old = ap failed e in record { renames = ap renames e; refused = omega (arith, r); failed = omega (arith, f) }

held_step : (draft path bytes : List ℕ) (mark : Mark) (seen : Option Told) (result : Result Mark PutFault) (old mid new : List Call) → LookedOver old mid path mark seen → PutsSeenBy mid new draft path bytes seen result → PutsHeld old new draft path bytes mark result
held_step draft path bytes mark seen (Ok now) old mid new l p = let q : IsQuiet old mid = looked_quiet seen old mid path l.calls in record {
  seen = seen;
  writable = l.writable;
  unchanged = l.unchanged;
  started = p.started;
  probe = probe_of seen old mid p.started path l.calls p.probed;
  asked = p.asked;
  empty = p.empty;
  rights = p.rights;
  renames = p.renames ∙ q.renames;
  lands = p.lands;
}
held_step draft path bytes mark seen (Err fault) old mid new l p = let q : IsQuiet old mid = looked_quiet seen old mid path l.calls in record {
  renames = p.renames ∙ q.renames;
  due = (omega (arith, q.refused, p.due.0), omega (arith, q.failed, p.due.1));
  cleared = p.cleared;
}

pub puts_held : (a m b : Option (List Call)) (draft path bytes : List ℕ) (mark : Mark) (seen : Option Told) (result : Result Mark PutFault) → KnownBoth a m (λ old new. LookedOver old new path mark seen) → KnownBoth m b (λ old new. PutsSeenBy old new draft path bytes seen result) → KnownBoth a b (λ old new. PutsHeld old new draft path bytes mark result)
puts_held a m b draft path bytes mark seen result h k =
    known_two a m b (λ old new. LookedOver old new path mark seen) (λ old new. PutsSeenBy old new draft path bytes seen result) (λ old new. PutsHeld old new draft path bytes mark result) (held_step draft path bytes mark seen result) h k

whole_step : (draft path bytes : List ℕ) (mark : Mark) (seen : Option Told) (result : Result Mark PutFault) (old mid new : Drive) → LooksOver old mid path mark (Ok seen) → PutsSeen mid new draft path seen bytes result → PutsOrNot old new draft path mark bytes result
whole_step draft path bytes mark seen (Ok now) old mid new l p = record {
  writable = subst MayBeWritten l.1 l.2;
  unchanged = subst (λ (t : Option Told). IsUnchanged t mark) l.1 l.3;
  entry = p.entry;
  there = p.there;
  content = p.content;
  synced = p.synced;
  kind = p.kind;
  mode = subst (λ (t : Option Told). IfSome t (λ k. p.entry.told.mode ≡ k.mode)) l.1 p.mode;
  stamped = subst (λ (d : Drive). IsStamped now p.entry.told d.faults new.faults) l.0 p.stamped;
  gone = p.gone;
  others = λ other nd np. p.others other nd np ∙ ap (λ d. d.at other) l.0;
  settled = λ same. p.settled (same ∙ sym (ap (λ d. d.faults) l.0));
}
whole_step draft path bytes mark seen (Err fault) old mid new l p = record {
  failed = λ e. inl (subst (λ (d : Drive). d.faults < new.faults) l.0 (p.failed e));
  barred = λ e. absurd (p.true_fault e);
  others = λ other ne. p.others other ne ∙ ap (λ d. d.at other) l.0;
  cleared = λ there other. subst (λ (d : Drive). d.faults + count_of fault < new.faults) l.0 (p.cleared there (λ e. other (e ∙ ap (λ d. d.at draft) l.0)));
}

pub puts_whole : (a m b : Option Drive) (draft path bytes : List ℕ) (mark : Mark) (seen : Option Told) (result : Result Mark PutFault) → KnownBoth a m (λ old new. LooksOver old new path mark (Ok seen)) → KnownBoth m b (λ old new. PutsSeen old new draft path seen bytes result) → KnownBoth a b (λ old new. PutsOrNot old new draft path mark bytes result)
puts_whole a m b draft path bytes mark seen result h k =
    known_two a m b (λ old new. LooksOver old new path mark (Ok seen)) (λ old new. PutsSeen old new draft path seen bytes result) (λ old new. PutsOrNot old new draft path mark bytes result) (whole_step draft path bytes mark seen result) h k
