-- What is said of the calls of the inner wrapper is said of those of a shy one, and what a shy box is asked the inner one may be asked.
use Rattle.std.proofs.Common.{◌≡◌, ◌≢◌, ◌+◌, ◌-◌, ◌^◌, ◌<◌, ℕ, Bool, true, false, List, [], ◌∷◌, ◌++◌, Contains, Option, Some, None, IsSome, option_map, refl, ap, sym, ◌∙◌, subst, arith}
use Rattle.std.specs.FinMap as finmap
use Rattle.std.proofs.lemmas.Option.{same_Some}
use Rattle.med_value.specs.Datum.{Tuple}
use Rattle.fdw_api.specs.Prelude.{Spec, spec_of, RestrictionForm, plain_spec, params_fit, shown_fits, Column, OptionForm, Change, Entry, Held, Holding, Known, Unknown, BoxTable, BoxState, Staging, Scan, table_of, row_of, Picks, NoScan, Allows, CanBind, Binds, RefusesBind, CanUnbind, Unbinds, Refuses, bumped, faults_after, CanBegin, Begins, RefusesBegin, IsOpen, Iterates, Breaks, CanRescan, Rescans, Ends, new_scan, CanModify, Opens, RefusesModify, CanChange, Stages, RefusesChange, ChangeCause, CanClose, Closes, RefusesClose, CloseCause, Outcome, HoldsImage, row_of_change_fits}
use Rattle.fdw_api.specs.declared.scan.ScanSpec.{ScanSpec}
use Rattle.fdw_api.specs.declared.scan.Agree.{Agree}
use Rattle.fdw_api.specs.declared.interface.Fault.{Fault}
use Rattle.fdw_api.specs.declared.interface.Fault.TheVariants.{NoMemory, Source, Refused}
use Rattle.fdw_api.specs.declared.interface.SourceRow.{SourceRow}
use Rattle.probe_wrapper.specs.Shy.{all_left, is_plain, is_bare, AskedForm, new_ask, asked_scan, hidden_bound, hidden_ledger, hidden, OffersNothing}
use Rattle.probe_wrapper.specs.LiveScans.{round}
use Rattle.probe_wrapper.proofs.SeenScans.{Scans, put_same}
use Rattle.probe_wrapper.proofs.RoundLemmas.{never, bind_cause, begun_and_ended}
use Rattle.probe_wrapper.proofs.ShyLemmas.{Asks, inner_of, some_of, none_of_none, plain_is_whole, whole_fits, bare_is_whole, bare_offers, bare_fits, plain_come, seen_get, insert_of, change_of, remove_of, keep_of, open_in, seen_at, seen_left, left_seen, table_seen, seen_broken, seen_begun, leaves, tables_set}

-- what is asked for under one number becomes this, and all else is as before
pub record AsksNow (old : ℕ → Option AskedForm) (number : ℕ) (ask : AskedForm) (new : ℕ → Option AskedForm) : Type 0 where
  pub now : new number ≡ Some ask
  pub others : (q : ℕ) → q ≢ number → new q ≡ old q

-- tables
pub can_bind : (hints : Bool) (s : BoxState) (asked : Asks) (remote : List ℕ) (columns : List Column) (settings : List OptionForm) → CanBind (hidden hints s asked) remote columns settings → CanBind s remote columns settings
can_bind hints s asked remote columns settings c = record { free = λ t b e. c.free t (hidden_bound hints b) (ap (option_map (hidden_bound hints)) e); no_objection = c.no_objection }

pub binds : (hints : Bool) (asked : Asks) (s t : BoxState) (remote : List ℕ) (columns : List Column) (settings : List OptionForm) (n : ℕ) → Binds s remote columns settings n t → Binds (hidden hints s asked) remote columns settings n (hidden hints t asked)
binds hints asked s t remote columns settings n b = record {
  nature = ap round b.nature;
  fresh = none_of_none hints _ b.fresh;
  bound = hidden_bound hints b.bound;
  remote_is = b.remote_is;
  kinds_are = b.kinds_are;
  line_is = b.line_is;
  image_is = b.image_is;
  arrangement_is = b.arrangement_is;
  refuses_is = b.refuses_is;
  ledger = ap (hidden_ledger hints asked) b.ledger ∙ tables_set hints asked s.ledger n (Some b.bound);
  entry = b.entry;
  picked = b.picked;
  no_cause = b.no_cause;
  rows = b.rows;
  once = b.once;
  leaves = λ h. leaves hints s t asked asked (b.leaves h);
}

pub refuses : (hints : Bool) (asked : Asks) (s t : BoxState) (fault : Fault) → Refuses fault s t → Refuses fault (hidden hints s asked) (hidden hints t asked)
refuses hints asked s t fault r = record {
  nature = ap round r.nature;
  next = r.next;
  rises = r.rises;
  stays = r.stays;
  keeps = λ e. never e;
  ledger = ap (hidden_ledger hints asked) r.ledger;
  leaves = λ h. leaves hints s t asked asked (r.leaves h);
}

pub refuses_bind : (hints : Bool) (asked : Asks) (s t : BoxState) (remote : List ℕ) (columns : List Column) (settings : List OptionForm) (fault : Fault) → RefusesBind s remote columns settings fault t → RefusesBind (hidden hints s asked) remote columns settings fault (hidden hints t asked)
refuses_bind hints asked s t remote columns settings fault r = record { refuses = refuses hints asked s t fault r.refuses; cause = bind_cause s (round s.nature) (hidden_ledger hints asked s.ledger) s.content.coming remote columns settings fault r.cause }

no_scan_in : (hints : Bool) (asked : Asks) (s : BoxState) (t : ℕ) → NoScan (hidden hints s asked) t → NoScan s t
no_scan_in hints asked s t none q scan e = λ same. none q (asked_scan hints (asked q) scan) (seen_at hints s asked q scan e) (table_seen hints (asked q) scan ∙ same)

pub can_unbind : (hints : Bool) (asked : Asks) (s : BoxState) (t : ℕ) → CanUnbind (hidden hints s asked) t → CanUnbind s t
can_unbind hints asked s t c = record { is_bound = some_of hints _ c.is_bound; no_scan = no_scan_in hints asked s t c.no_scan; not_staged = c.not_staged }

pub unbinds : (hints : Bool) (asked : Asks) (s t : BoxState) (n : ℕ) → Unbinds s n t → Unbinds (hidden hints s asked) n (hidden hints t asked)
unbinds hints asked s t n u = record { nature = ap round u.nature; ledger = ap (hidden_ledger hints asked) u.ledger ∙ tables_set hints asked s.ledger n None; leaves = λ h. leaves hints s t asked asked (u.leaves h) }

pub left_allowed : (hints : Bool) (s : BoxState) (asked : Asks) (t : ℕ) (wanted : List ℕ) (offered : List RestrictionForm) (answers : List Agree) → IsSome (table_of (hidden hints s asked) t) → all_left hints offered answers ≡ true → Allows (hidden hints s asked) t (record { wanted = wanted; offered = offered; answers = answers; narrow = false; order = []; limit = None })
left_allowed hints s asked t wanted offered answers is left = at_table (table_of s t) refl is
  where
    at_table : (o : Option BoxTable) → table_of s t ≡ o → IsSome (option_map (hidden_bound hints) o) → Allows (hidden hints s asked) t (record { wanted = wanted; offered = offered; answers = answers; narrow = false; order = []; limit = None })
    at_table None eq is = absurd cc
    at_table (Some b) eq is = record { bound = hidden_bound hints b; is = ap (option_map (hidden_bound hints)) eq; allowed = left }

-- a scan begins, and its inner scan by a bare asking
pub is_plainly : (hints : Bool) (s : BoxState) (asked : Asks) (t : ℕ) (spec : ScanSpec) (params : Tuple) → CanBegin (hidden hints s asked) t spec params → is_plain hints (spec_of spec) ≡ true
is_plainly hints s asked t spec params c =
    let w = inner_of hints (table_of s t) c.bound c.is in
    subst (λ (b : BoxTable). b.allows (spec_of spec) ≡ true) (sym w.2) c.allowed

pub can_begin : (hints : Bool) (s : BoxState) (asked : Asks) (t : ℕ) (spec bare : ScanSpec) (params : Tuple) (wanted : List ℕ) → spec_of bare ≡ plain_spec wanted [] → CanBegin (hidden hints s asked) t spec params → CanBegin s t bare []
can_begin hints s asked t spec bare params wanted e c =
    let w = inner_of hints (table_of s t) c.bound c.is in
    record {
      bound = w.0;
      is = w.1;
      allowed = ap w.0.allows e ∙ w.0.allows_plain wanted [];
      typed = ap (λ (z : Spec). params_fit w.0.kinds z.offered []) e;
    }

pub begins : (hints : Bool) (old new : Asks) (s t : BoxState) (n : ℕ) (spec inner : Spec) (params : Tuple) (wanted : List ℕ) (q : ℕ) → inner ≡ plain_spec wanted [] → is_plain hints spec ≡ true → Begins s n inner [] q t → AsksNow old q (new_ask spec params) new → Begins (hidden hints s old) n spec params q (hidden hints t new)
begins hints old new s t n spec inner params wanted q e plain b w =
    let bare : is_bare inner ≡ true = ap is_bare e in
    record {
      nature = ap round b.nature;
      is_next = b.is_next;
      room = b.room;
      fresh = seen_get hints s old q ∙ ap (option_map (asked_scan hints (old q))) b.fresh;
      bound = hidden_bound hints b.bound;
      is = ap (option_map (hidden_bound hints)) b.is;
      left = b.left;
      few = b.few;
      ledger =
          ap (hidden_ledger hints new) b.ledger
          ∙ ap (λ (m : Scans). record (hidden_ledger hints old s.ledger) { live = m; next = q + 1 })
          (insert_of hints old new s.ledger s.ledger.live q (new_scan n b.bound.kinds inner [] b.left) w.others
          ∙ ap (λ (o : Option AskedForm). finmap.insert (hidden_ledger hints old s.ledger).live q (asked_scan hints o (new_scan n b.bound.kinds inner [] b.left))) w.now
          ∙ ap (λ (z : Scan). finmap.insert (hidden_ledger hints old s.ledger).live q z) (seen_begun hints (new_ask spec params) n b.bound.kinds inner b.left plain bare refl));
      coming = λ h. plain_come hints (s.content.rows n) spec inner params (t.content.coming q) plain bare (b.coming h);
      leaves = λ h. leaves hints s t old new (b.leaves h);
    }

pub begun_bare : (s t : BoxState) (n : ℕ) (inner : Spec) (wanted : List ℕ) (q : ℕ) → inner ≡ plain_spec wanted [] → Begins s n inner [] q t → OffersNothing t q
begun_bare s t n inner wanted q e b = record {
  scan = new_scan n b.bound.kinds inner [] b.left;
  at = ap (λ z. finmap.get z.live q) b.ledger ∙ put_same s.ledger.live q _;
  whole_rows = ap (λ (z : Spec). z.narrow) e;
  offers_none = ap (λ (z : Spec). z.offered) e;
  no_params = refl;
}

pub refuses_begin : (hints : Bool) (asked : Asks) (s t : BoxState) (fault : Fault) → RefusesBegin fault s t → RefusesBegin fault (hidden hints s asked) (hidden hints t asked)
refuses_begin hints asked s t fault r = record { refuses = refuses hints asked s t fault r.refuses; cause = r.cause }

-- memory was refused before anything began
pub not_begun : (s : BoxState) → RefusesBegin NoMemory s s
not_begun s = record {
  refuses = record {
    nature = refl;
    next = s.ledger.next;
    rises = omega arith;
    stays = λ full. full;
    keeps = λ e. refl;
    ledger = refl;
    leaves = λ h. record { coming = λ q live other. refl; rows = λ t other. refl; holdings = λ r other. refl };
  };
  cause = tt;
}

-- begun inside, and ended since memory was refused
pub begun_in_vain : (hints : Bool) (old new : Asks) (s mid t : BoxState) (n : ℕ) (spec : Spec) (params : Tuple) (q : ℕ) → Begins s n spec params q mid → Ends mid q t → ((x : ℕ) → new x ≡ old x) → RefusesBegin NoMemory (hidden hints s old) (hidden hints t new)
begun_in_vain hints old new s mid t n spec params q b e stays =
    let u = begun_and_ended s mid t n spec params q b e in
    record {
      refuses = record {
        nature = ap round u.nature;
        next = s.ledger.next + 1;
        rises = omega arith;
        stays = λ full. let r : s.ledger.next < 2 ^ 64 - 1 = u.room in omega (arith, full, r);
        keeps = λ e. never e;
        ledger = ap (hidden_ledger hints new) u.ledger ∙ keep_of hints old new (record s.ledger { next = s.ledger.next + 1 }) stays;
        leaves = λ h. leaves hints s t old new (u.leaves h);
      };
      cause = tt;
    }

-- rows are given
pub gives : (hints : Bool) (asked : Asks) (s t : BoxState) (q : ℕ) (row : Option SourceRow) → IsOpen (hidden hints s asked) q → Iterates s q row t → Iterates (hidden hints s asked) q row (hidden hints t asked)
gives hints asked s t q None c g = record { nature = ap round g.nature; ledger = ap (hidden_ledger hints asked) g.ledger; coming = g.coming; still = g.still; leaves = λ h. leaves hints s t asked asked (g.leaves h) }
gives hints asked s t q (Some row) c g = record {
  nature = ap round g.nature;
  scan = asked_scan hints (asked q) g.scan;
  at = seen_at hints s asked q g.scan g.at;
  left = g.left;
  fewer = let n = left_seen hints (asked q) g.scan in let f = g.fewer in omega (arith, n, f);
  typed = typed;
  ledger =
      ap (hidden_ledger hints asked) g.ledger
      ∙ ap (λ (m : Scans). record (hidden_ledger hints asked s.ledger) { live = m; pulled = bumped s.ledger.pulled })
      (insert_of hints asked asked s.ledger s.ledger.live q (record g.scan { left = g.left }) (λ x ne. refl) ∙ ap (λ (z : Scan). finmap.insert (hidden_ledger hints asked s.ledger).live q z) (seen_left hints (asked q) g.scan g.left));
  coming = g.coming;
  leaves = λ h. leaves hints s t asked asked (g.leaves h);
}
  where
    typed : shown_fits (asked_scan hints (asked q) g.scan).kinds (asked_scan hints (asked q) g.scan).spec (row_of row).cells ≡ true
    typed =
        let o = open_in hints s asked q c.0 c.1 c.2 in
        let same : o.inner ≡ g.scan = same_Some o.inner g.scan (sym o.is ∙ g.at) in
        let bare : is_bare g.scan.spec ≡ true = subst (λ (z : Scan). is_bare z.spec ≡ true) same o.bare in
        ap (λ (x : Option AskedForm). shown_fits (asked_scan hints x g.scan).kinds (asked_scan hints x g.scan).spec (row_of row).cells) o.at
        ∙ whole_fits g.scan.kinds o.ask.spec g.scan.spec (row_of row).cells (plain_is_whole hints o.ask.spec o.plain) (bare_is_whole g.scan.spec bare) g.typed

pub breaks : (hints : Bool) (asked : Asks) (s t : BoxState) (q : ℕ) (fault : Fault) → Breaks s q fault t → Breaks (hidden hints s asked) q fault (hidden hints t asked)
breaks hints asked s t q fault b = record {
  nature = ap round b.nature;
  no_cause = b.no_cause;
  scan = asked_scan hints (asked q) b.scan;
  at = seen_at hints s asked q b.scan b.at;
  ledger =
      ap (hidden_ledger hints asked) b.ledger
      ∙ ap (λ (m : Scans). record (hidden_ledger hints asked s.ledger) { live = m; faults = faults_after fault s.ledger.faults })
      (insert_of hints asked asked s.ledger s.ledger.live q (record b.scan { broken = true }) (λ x ne. refl) ∙ ap (λ (z : Scan). finmap.insert (hidden_ledger hints asked s.ledger).live q z) (seen_broken hints (asked q) b.scan));
  leaves = λ h. leaves hints s t asked asked (b.leaves h);
}

-- a scan begins again
pub can_rescan : (hints : Bool) (asked : Asks) (s : BoxState) (q : ℕ) (params : Tuple) → CanRescan (hidden hints s asked) q params → CanRescan s q []
can_rescan hints asked s q params c =
    let o = open_in hints s asked q c.scan c.at c.whole in
    let table : c.scan.table ≡ o.inner.table = ap (λ (z : Scan). z.table) o.seen_as in
    let w = inner_of hints (table_of s c.scan.table) c.bound c.is in
    record { scan = o.inner; at = o.is; whole = o.whole_in; bound = w.0; is = ap (table_of s) (sym table) ∙ w.1; typed = bare_fits w.0.kinds o.inner.spec o.bare }

pub rescans : (hints : Bool) (old new : Asks) (s t : BoxState) (q : ℕ) (params : Tuple) → CanRescan (hidden hints s old) q params → Rescans s q [] t → ((ask : AskedForm) → old q ≡ Some ask → AsksNow old q (record ask { params = params }) new) → Rescans (hidden hints s old) q params (hidden hints t new)
rescans hints old new s t q params c r again =
    let o = open_in hints s old q c.scan c.at c.whole in
    let w = again o.ask o.at in
    let same : o.inner ≡ r.scan = same_Some o.inner r.scan (sym o.is ∙ r.at) in
    let bare : is_bare r.scan.spec ≡ true = subst (λ (z : Scan). is_bare z.spec ≡ true) same o.bare in
    record {
      nature = ap round r.nature;
      scan = asked_scan hints (Some o.ask) r.scan;
      at = seen_at hints s old q r.scan r.at ∙ ap (λ (x : Option AskedForm). Some (asked_scan hints x r.scan)) o.at;
      left = r.left;
      few = r.few;
      ledger =
          ap (hidden_ledger hints new) r.ledger
          ∙ ap (λ (m : Scans). record (hidden_ledger hints old s.ledger) { live = m })
          (insert_of hints old new s.ledger s.ledger.live q (new_scan r.scan.table r.scan.kinds r.scan.spec [] r.left) w.others
          ∙ ap (λ (x : Option AskedForm). finmap.insert (hidden_ledger hints old s.ledger).live q (asked_scan hints x (new_scan r.scan.table r.scan.kinds r.scan.spec [] r.left))) w.now
          ∙ ap (λ (z : Scan). finmap.insert (hidden_ledger hints old s.ledger).live q z) (seen_begun hints (record o.ask { params = params }) r.scan.table r.scan.kinds r.scan.spec r.left o.plain bare o.whole));
      coming = λ h. plain_come hints (s.content.rows r.scan.table) o.ask.spec r.scan.spec params (t.content.coming q) o.plain bare (r.coming h);
      leaves = λ h. leaves hints s t old new (r.leaves h);
    }

pub again_bare : (hints : Bool) (asked : Asks) (s t : BoxState) (q : ℕ) (params : Tuple) → CanRescan (hidden hints s asked) q params → Rescans s q [] t → OffersNothing t q
again_bare hints asked s t q params c r =
    let o = open_in hints s asked q c.scan c.at c.whole in
    let same : o.inner ≡ r.scan = same_Some o.inner r.scan (sym o.is ∙ r.at) in
    let bare : is_bare r.scan.spec ≡ true = subst (λ (z : Scan). is_bare z.spec ≡ true) same o.bare in
    record {
      scan = new_scan r.scan.table r.scan.kinds r.scan.spec [] r.left;
      at = ap (λ z. finmap.get z.live q) r.ledger ∙ put_same s.ledger.live q _;
      whole_rows = bare_is_whole r.scan.spec bare;
      offers_none = bare_offers r.scan.spec bare;
      no_params = refl;
    }

-- memory was refused before a scan began again
pub spoils : (hints : Bool) (old new : Asks) (s : BoxState) (q : ℕ) → IsOpen (hidden hints s old) q → ((ask : AskedForm) → old q ≡ Some ask → AsksNow old q (record ask { broken = true }) new) → Breaks (hidden hints s old) q NoMemory (hidden hints s new)
spoils hints old new s q c spoil =
    let o = open_in hints s old q c.0 c.1 c.2 in
    let w = spoil o.ask o.at in
    record {
      nature = refl;
      no_cause = tt;
      scan = asked_scan hints (Some o.ask) o.inner;
      at = seen_at hints s old q o.inner o.is ∙ ap (λ (x : Option AskedForm). Some (asked_scan hints x o.inner)) o.at;
      ledger =
          ap (λ (m : Scans). record (hidden_ledger hints old s.ledger) { live = m })
          (change_of hints old new s.ledger q o.inner o.is w.others ∙ ap (λ (x : Option AskedForm). finmap.insert (hidden_ledger hints old s.ledger).live q (asked_scan hints x o.inner)) w.now);
      leaves = λ h. leaves hints s s old new (record { coming = λ x live other. refl; rows = λ u other. refl; holdings = λ r other. refl });
    }

pub ends : (hints : Bool) (old new : Asks) (s t : BoxState) (q : ℕ) → ((x : ℕ) → x ≢ q → new x ≡ old x) → Ends s q t → Ends (hidden hints s old) q (hidden hints t new)
ends hints old new s t q others e = record {
  nature = ap round e.nature;
  ledger = ap (hidden_ledger hints new) e.ledger ∙ ap (λ (m : Scans). record (hidden_ledger hints old s.ledger) { live = m }) (remove_of hints old new s.ledger q others);
  leaves = λ h. leaves hints s t old new (e.leaves h);
}

-- writes
pub can_modify : (hints : Bool) (asked : Asks) (s : BoxState) (t : ℕ) → CanModify (hidden hints s asked) t → CanModify s t
can_modify hints asked s t c = record { is_bound = some_of hints _ c.is_bound; no_scan = no_scan_in hints asked s t c.no_scan; not_staged = c.not_staged }

pub opens : (hints : Bool) (asked : Asks) (s t : BoxState) (n : ℕ) → Opens s n t → Opens (hidden hints s asked) n (hidden hints t asked)
opens hints asked s t n o = record { nature = ap round o.nature; ledger = ap (hidden_ledger hints asked) o.ledger; leaves = λ h. leaves hints s t asked asked (o.leaves h) }

pub refuses_modify : (hints : Bool) (asked : Asks) (s t : BoxState) (fault : Fault) → RefusesModify fault s t → RefusesModify fault (hidden hints s asked) (hidden hints t asked)
refuses_modify hints asked s t fault r = record { refuses = refuses hints asked s t fault r.refuses; no_cause = r.no_cause }

pub can_change : (hints : Bool) (asked : Asks) (s : BoxState) (change : Change) → CanChange (hidden hints s asked) change → CanChange s change
can_change hints asked s change c =
    let w = inner_of hints (table_of s c.staging.table) c.bound c.is in
    record {
      staging = c.staging;
      is_staged = c.is_staged;
      whole = c.whole;
      bound = w.0;
      is = w.1;
      fits = subst (λ (b : BoxTable). row_of_change_fits b.kinds change ≡ true) (sym w.2) c.fits;
      there = c.there;
      once = c.once;
    }

pub stages : (hints : Bool) (asked : Asks) (s t : BoxState) (change : Change) → Stages s change t → Stages (hidden hints s asked) change (hidden hints t asked)
stages hints asked s t change r = record { nature = ap round r.nature; staging = r.staging; is_staged = r.is_staged; ledger = ap (hidden_ledger hints asked) r.ledger; leaves = λ h. leaves hints s t asked asked (r.leaves h) }

change_cause : (hints : Bool) (asked : Asks) (s : BoxState) (staging : Staging) (change : Change) (fault : Fault) → ChangeCause s staging change fault → ChangeCause (hidden hints s asked) staging change fault
change_cause hints asked s staging change NoMemory c = tt
change_cause hints asked s staging change Source c = tt
change_cause hints asked s staging change (Refused x) c = (
  c.0,
  λ h b e.
      let w = inner_of hints (table_of s staging.table) b e in
      subst (λ (z : BoxTable). (entry : Option Entry) × Picks (s.content.holdings z.remote) entry × ((more : List Change) → Contains (z.refuses.causes entry (s.content.rows staging.table) (staging.changes ++ change ∷ more)) x)) w.2 (c.1 h w.0 w.1),
)

pub refuses_change : (hints : Bool) (asked : Asks) (s t : BoxState) (change : Change) (fault : Fault) → RefusesChange s change fault t → RefusesChange (hidden hints s asked) change fault (hidden hints t asked)
refuses_change hints asked s t change fault r = record {
  nature = ap round r.nature;
  staging = r.staging;
  is_staged = r.is_staged;
  ledger = ap (hidden_ledger hints asked) r.ledger;
  cause = change_cause hints asked s r.staging change fault r.cause;
  leaves = λ h. leaves hints s t asked asked (r.leaves h);
}

pub can_close : (hints : Bool) (asked : Asks) (s : BoxState) (keep : Bool) → CanClose (hidden hints s asked) keep → CanClose s keep
can_close hints asked s keep c = record { staging = c.staging; is_staged = c.is_staged; is_bound = some_of hints _ c.is_bound; whole = c.whole; no_scan = λ k. no_scan_in hints asked s c.staging.table (c.no_scan k) }

same_image : (hints : Bool) (b : BoxTable) (rows : List Held) (old new : Holding) → HoldsImage b rows old new → HoldsImage (hidden_bound hints b) rows old new
same_image hints b rows (Known e) new h = h
same_image hints b rows Unknown new h = h

outcome : (hints : Bool) (asked : Asks) (s t : BoxState) (keep : Bool) (staging : Staging) → Outcome s keep staging t → Outcome (hidden hints s asked) keep staging (hidden hints t asked)
outcome hints asked s t true staging w = record {
  bound = hidden_bound hints w.bound;
  is = ap (option_map (hidden_bound hints)) w.is;
  entry = w.entry;
  picked = w.picked;
  no_cause = w.no_cause;
  rows = w.rows;
  once = w.once;
  holdings = same_image hints w.bound _ _ _ w.holdings;
  leaves = leaves hints s t asked asked w.leaves;
}
outcome hints asked s t false staging l = leaves hints s t asked asked l

pub closes : (hints : Bool) (asked : Asks) (s t : BoxState) (keep : Bool) → Closes s keep t → Closes (hidden hints s asked) keep (hidden hints t asked)
closes hints asked s t keep c = record {
  nature = ap round c.nature;
  staging = c.staging;
  is_staged = c.is_staged;
  ledger = ap (hidden_ledger hints asked) c.ledger;
  content = λ h. outcome hints asked s t keep c.staging (c.content h);
}

close_cause : (hints : Bool) (asked : Asks) (s : BoxState) (staging : Staging) (fault : Fault) → CloseCause s staging fault → CloseCause (hidden hints s asked) staging fault
close_cause hints asked s staging NoMemory c = tt
close_cause hints asked s staging Source c = tt
close_cause hints asked s staging (Refused x) c = (
  c.0,
  λ h b e.
      let w = inner_of hints (table_of s staging.table) b e in
      subst (λ (z : BoxTable). (entry : Option Entry) × Picks (s.content.holdings z.remote) entry × Contains (z.refuses.causes entry (s.content.rows staging.table) staging.changes) x) w.2 (c.1 h w.0 w.1),
)

pub refuses_close : (hints : Bool) (asked : Asks) (s t : BoxState) (keep : Bool) (fault : Fault) → RefusesClose s keep fault t → RefusesClose (hidden hints s asked) keep fault (hidden hints t asked)
refuses_close hints asked s t keep fault r = record {
  kept = r.kept;
  nature = ap round r.nature;
  staging = r.staging;
  is_staged = r.is_staged;
  ledger = ap (hidden_ledger hints asked) r.ledger;
  cause = close_cause hints asked s r.staging fault r.cause;
  leaves = λ h. leaves hints s t asked asked (r.leaves h);
}
