-- What is said of the calls of the inner wrapper is said of those of a shuffled one.
use Rattle.std.proofs.Common.{◌≡◌, ◌≢◌, ℕ, ◌+◌, ◌-◌, ◌^◌, ◌<◌, Bool, true, false, not, ◌&&◌, ◌||◌, List, [], ◌∷◌, length, Option, Some, None, IsSome, option_map, refl, ap, sym, ◌∙◌, subst, arith}
use Rattle.std.specs.FinMap as finmap
use Rattle.med_value.specs.Datum.{Tuple}
use Rattle.std.specs.List.{list_all}
use Rattle.std.proofs.lemmas.Bool.{and_parts}
use Rattle.std.proofs.lemmas.Option.{same_Some}
use Rattle.fdw_api.specs.Prelude.{Spec, GivenRow, IsComing, params_fit, shown_fits, Column, OptionForm, Change, BoxState, Staging, Scan, IsIdle, scan_of, table_of, rows_of, bumped, faults_after, row_of, Leaves, NoScan, Allows, Binds, RefusesBind, CanUnbind, Unbinds, Refuses, Begins, RefusesBegin, IsOpen, Iterates, Breaks, CanRescan, Rescans, Ends, new_scan, CanModify, Opens, RefusesModify, Stages, RefusesChange, CanClose, Closes, RefusesClose, Outcome, is_unpromised}
use Rattle.fdw_api.specs.declared.interface.Fault.{Fault}
use Rattle.fdw_api.specs.declared.interface.Fault.TheVariants.{NoMemory}
use Rattle.fdw_api.specs.declared.interface.SourceRow.{SourceRow}
use Rattle.probe_wrapper.specs.Shuffled.{turned, Turn, turned_rows, turned_coming, left_of, waiting_fits, is_spoilt, seen_scan, seen, reordered_ledger, reordered, Becomes, Stays, is_unread, TakesFirst, TurnsRows, ReadsOut, StopsOut}
use Rattle.probe_wrapper.specs.LiveScans.{round}
use Rattle.probe_wrapper.proofs.SeenScans.{Scans}
use Rattle.probe_wrapper.proofs.RoundLemmas.{never, bind_cause, change_cause, close_cause, begun_and_ended}
use Rattle.probe_wrapper.proofs.ShuffledLemmas.{Turns, seen_get, insert_of, change_of, remove_of, keep_of, turned_come, turned_pass, turned_length, turned_nil, nil_turned}

-- a scan that was just begun
abbrev pub unread : ℕ → Turn
unread places = record { places = places; waiting = None; broken = false }

-- what is live or open outside is so inside
some_seen : (t : Option Turn) (o : Option Scan) → IsSome (option_map (seen_scan t) o) → IsSome o
some_seen t None e = absurd cc
some_seen t (Some s) e = refl

pub live_in : (s : BoxState) (turns : Turns) (p q : ℕ) → IsSome (scan_of (reordered s turns p) q) → IsSome (scan_of s q)
live_in s turns p q live = some_seen (turns q) (scan_of s q) (subst IsSome (seen_get turns s.ledger.live q) live)

-- an open scan, with its turn and its inner scan
pub record OpenInside (s : BoxState) (turns : Turns) (q : ℕ) (scan : Scan) : Type 0 where
  pub turn : Turn
  pub at : turns q ≡ Some turn
  pub inner : Scan
  pub is : scan_of s q ≡ Some inner
  pub seen_as : scan ≡ seen_scan (Some turn) inner
  pub whole : turn.broken ≡ false
  pub whole_in : inner.broken ≡ false
  pub unpromised : is_unpromised inner.spec ≡ true
  pub fits : waiting_fits inner.kinds inner.spec turn.waiting ≡ true

or_left : (a b : Bool) → (a || b) ≡ false → a ≡ false
or_left true b e = absurd cc
or_left false b e = refl

or_right : (a b : Bool) → (a || b) ≡ false → b ≡ false
or_right true b e = absurd cc
or_right false b e = e

not_false : (a : Bool) → not a ≡ false → a ≡ true
not_false true e = refl
not_false false e = absurd cc

pub open_in : (s : BoxState) (turns : Turns) (p q : ℕ) (scan : Scan) → scan_of (reordered s turns p) q ≡ Some scan → scan.broken ≡ false → OpenInside s turns q scan
open_in s turns p q scan at whole = go (turns q) (scan_of s q) refl refl (sym (seen_get turns s.ledger.live q) ∙ at)
  where
    go : (o : Option Turn) (i : Option Scan) → turns q ≡ o → scan_of s q ≡ i → option_map (seen_scan o) i ≡ Some scan → OpenInside s turns q scan
    go o None e f h = absurd cc
    go None (Some x) e f h =
        let same = same_Some (record x { broken = true }) scan h in
        absurd (clash (ap (λ (z : Scan). z.broken) same ∙ whole))
      where
        clash : true ≡ false → ⊥
        clash e = cc
    go (Some t) (Some x) e f h =
        let same = same_Some (seen_scan (Some t) x) scan h in
        let all : (t.broken || (is_spoilt x || not (waiting_fits x.kinds x.spec t.waiting))) ≡ false = ap (λ (z : Scan). z.broken) same ∙ whole in
        let rest = or_right t.broken _ all in
        let good = or_left (is_spoilt x) _ rest in
        record {
          turn = t;
          at = e;
          inner = x;
          is = f;
          seen_as = sym same;
          whole = or_left t.broken _ all;
          whole_in = or_left x.broken _ good;
          unpromised = not_false _ (or_right x.broken _ good);
          fits = not_false _ (or_right (is_spoilt x) _ rest);
        }

pub is_open_in : (s : BoxState) (turns : Turns) (p q : ℕ) → IsOpen (reordered s turns p) q → IsOpen s q
is_open_in s turns p q o = let w = open_in s turns p q o.0 o.1 o.2 in (w.inner, w.is, w.whole_in)

-- an inner scan as it is seen
seen_at : (s : BoxState) (turns : Turns) (p q : ℕ) (turn : Turn) (scan : Scan) → turns q ≡ Some turn → scan_of s q ≡ Some scan → scan_of (reordered s turns p) q ≡ Some (seen_scan (Some turn) scan)
seen_at s turns p q turn scan at is = seen_get turns s.ledger.live q ∙ ap (option_map (seen_scan (turns q))) is ∙ ap (λ (o : Option Turn). Some (seen_scan o scan)) at

leaves_but : {tickets tables : ℕ → Type 0} {remotes : List ℕ → Type 0} (s t : BoxState) (old new : Turns) (p r : ℕ) → ((q : ℕ) → (tickets q → ⊥) → new q ≡ old q) → Leaves tickets tables remotes s t → Leaves tickets tables remotes (reordered s old p) (reordered t new r)
leaves_but s t old new p r same l = record {
  coming = λ q live other. ap (λ (o : Option Turn). turned_coming o (t.content.coming q)) (same q other) ∙ ap (turned_coming (old q)) (l.coming q (live_in s old p q live) other);
  rows = l.rows;
  holdings = l.holdings;
}

leaves : {tickets tables : ℕ → Type 0} {remotes : List ℕ → Type 0} (s t : BoxState) (turns : Turns) (p : ℕ) → Leaves tickets tables remotes s t → Leaves tickets tables remotes (reordered s turns p) (reordered t turns p)
leaves s t turns p l = leaves_but s t turns turns p p (λ q o. refl) l

-- a wrapper round an idle one is idle
pub is_idle : (s : BoxState) (turns : Turns) (p : ℕ) → IsIdle s → IsIdle (reordered s turns p)
is_idle s turns p i = record { no_table = i.no_table; no_scan = λ q. seen_get turns s.ledger.live q ∙ ap (option_map (seen_scan (turns q))) (i.no_scan q); no_staging = i.no_staging }

-- the calls
pub allows : (s : BoxState) (turns : Turns) (p t : ℕ) (spec : Spec) → Allows s t spec → Allows (reordered s turns p) t spec
allows s turns p t spec a = record { bound = a.bound; is = a.is; allowed = a.allowed }

pub binds : (turns : Turns) (p : ℕ) (s t : BoxState) (remote : List ℕ) (columns : List Column) (settings : List OptionForm) (n : ℕ) → Binds s remote columns settings n t → Binds (reordered s turns p) remote columns settings n (reordered t turns p)
binds turns p s t remote columns settings n b = record {
  nature = ap round b.nature;
  fresh = b.fresh;
  bound = b.bound;
  remote_is = b.remote_is;
  kinds_are = b.kinds_are;
  line_is = b.line_is;
  image_is = b.image_is;
  arrangement_is = b.arrangement_is;
  refuses_is = b.refuses_is;
  ledger = ap (reordered_ledger turns p) b.ledger;
  entry = b.entry;
  picked = b.picked;
  no_cause = b.no_cause;
  rows = b.rows;
  once = b.once;
  leaves = λ h. leaves s t turns p (b.leaves h);
}

pub refuses : (turns : Turns) (p : ℕ) (s t : BoxState) (fault : Fault) → Refuses fault s t → Refuses fault (reordered s turns p) (reordered t turns p)
refuses turns p s t fault r = record {
  nature = ap round r.nature;
  next = r.next;
  rises = r.rises;
  stays = r.stays;
  keeps = λ e. never e;
  ledger = ap (reordered_ledger turns p) r.ledger;
  leaves = λ h. leaves s t turns p (r.leaves h);
}

pub refuses_bind : (turns : Turns) (p : ℕ) (s t : BoxState) (remote : List ℕ) (columns : List Column) (settings : List OptionForm) (fault : Fault) → RefusesBind s remote columns settings fault t → RefusesBind (reordered s turns p) remote columns settings fault (reordered t turns p)
refuses_bind turns p s t remote columns settings fault r = record { refuses = refuses turns p s t fault r.refuses; cause = bind_cause s (round s.nature) (reordered_ledger turns p s.ledger) (λ q. turned_coming (turns q) (s.content.coming q)) remote columns settings fault r.cause }

no_scan_in : (turns : Turns) (p : ℕ) (s : BoxState) (t : ℕ) → NoScan (reordered s turns p) t → NoScan s t
no_scan_in turns p s t none q scan e = λ same. none q (seen_scan (turns q) scan) (seen_get turns s.ledger.live q ∙ ap (option_map (seen_scan (turns q))) e) (table (turns q) ∙ same)
  where
    table : (o : Option Turn) → (seen_scan o scan).table ≡ scan.table
    table None = refl
    table (Some x) = refl

pub can_unbind : (turns : Turns) (p : ℕ) (s : BoxState) (t : ℕ) → CanUnbind (reordered s turns p) t → CanUnbind s t
can_unbind turns p s t c = record { is_bound = c.is_bound; no_scan = no_scan_in turns p s t c.no_scan; not_staged = c.not_staged }

pub unbinds : (turns : Turns) (p : ℕ) (s t : BoxState) (n : ℕ) → Unbinds s n t → Unbinds (reordered s turns p) n (reordered t turns p)
unbinds turns p s t n u = record { nature = ap round u.nature; ledger = ap (reordered_ledger turns p) u.ledger; leaves = λ h. leaves s t turns p (u.leaves h) }

pub begins : (old new : Turns) (p : ℕ) (s t : BoxState) (n : ℕ) (spec : Spec) (params : Tuple) (q places : ℕ) → is_unpromised spec ≡ true → Begins s n spec params q t → Becomes old q (unread places) new → Begins (reordered s old p) n spec params q (reordered t new p)
begins old new p s t n spec params q places e b w = record {
  nature = ap round b.nature;
  is_next = b.is_next;
  room = b.room;
  fresh = seen_get old s.ledger.live q ∙ ap (option_map (seen_scan (old q))) b.fresh;
  bound = b.bound;
  is = b.is;
  left = 2 ^ 64;
  few = omega arith;
  ledger =
      ap (reordered_ledger new p) b.ledger
      ∙ ap (λ (m : Scans). record (reordered_ledger old p s.ledger) { live = m; next = q + 1 })
      (insert_of old new s.ledger.live q (new_scan n b.bound.kinds spec params b.left) w.others ∙ ap (λ (o : Option Turn). finmap.insert (seen old s.ledger.live) q (seen_scan o (new_scan n b.bound.kinds spec params b.left))) w.now
      ∙ ap (λ (c : Bool). finmap.insert (seen old s.ledger.live) q (record (new_scan n b.bound.kinds spec params (2 ^ 64)) { broken = not c || false })) e);
  coming = λ h. subst (λ (l : List GivenRow). IsComing (rows_of s n) spec params l) (sym (ap (λ (o : Option Turn). turned_coming o (t.content.coming q)) w.now)) (turned_come (rows_of s n) spec params places (t.content.coming q) e (b.coming h));
  leaves = λ h. leaves_but s t old new p p (λ x ne. w.others x ne) (b.leaves h);
}

pub refuses_begin : (turns : Turns) (p : ℕ) (s t : BoxState) (fault : Fault) → RefusesBegin fault s t → RefusesBegin fault (reordered s turns p) (reordered t turns p)
refuses_begin turns p s t fault r = record { refuses = refuses turns p s t fault r.refuses; cause = r.cause }

-- begun inside, and ended since memory was refused
pub begun_in_vain : (old new : Turns) (p : ℕ) (s mid t : BoxState) (n : ℕ) (spec : Spec) (params : Tuple) (q : ℕ) → Begins s n spec params q mid → Ends mid q t → Stays old new → RefusesBegin NoMemory (reordered s old p) (reordered t new p)
begun_in_vain old new p s mid t n spec params q b e stays =
    let u = begun_and_ended s mid t n spec params q b e in
    record {
      refuses = record {
        nature = ap round u.nature;
        next = s.ledger.next + 1;
        rises = omega arith;
        stays = λ full. let r : s.ledger.next < 2 ^ 64 - 1 = u.room in omega (arith, full, r);
        keeps = λ e. never e;
        ledger =
            ap (reordered_ledger new p) u.ledger
            ∙ ap (λ (m : Scans). record (reordered_ledger old p s.ledger) { live = m; next = s.ledger.next + 1 }) (keep_of old new s.ledger.live stays);
        leaves = λ h. leaves_but s t old new p p (λ x o. stays x) (u.leaves h);
      };
      cause = tt;
    }

-- the rows that wait
broken_seen : (o : Option Turn) (s : Scan) → seen_scan o (record s { broken = true }) ≡ record (seen_scan o s) { broken = true }
broken_seen None s = refl
broken_seen (Some t) s = at t.broken
  where
    at : (b : Bool) → seen_scan (Some (record t { broken = b })) (record s { broken = true }) ≡ record (seen_scan (Some (record t { broken = b })) s) { broken = true }
    at true = refl
    at false = refl

-- how `pulled` stands after a row was given, or none
abbrev pub counted : Option SourceRow → ℕ → ℕ
counted None p = p
counted (Some row) p = bumped p

-- a scan whose rows fit is as whole as it was
still_whole : (a b c : Bool) → a ≡ false → b ≡ false → c ≡ true → (a || (b || not c)) ≡ false
still_whole a b c e f h = rw (e, f, h) refl

-- a row that waited is given
pub gives_waiting : (old new : Turns) (p : ℕ) (s : BoxState) (q : ℕ) (row : Option SourceRow) → IsOpen (reordered s old p) q → TakesFirst old q row new → Iterates (reordered s old p) q row (reordered s new (counted row p))
gives_waiting old new p s q None o k = record {
  nature = refl;
  ledger = ap (λ (m : Scans). record (reordered_ledger old p s.ledger) { live = m }) (keep_of old new s.ledger.live k.hands.1);
  coming = λ h. now (old q) k.at;
  still = λ h. now (new q) (k.hands.1 q ∙ k.at);
  leaves = λ h. leaves_but s s old new p p (λ x ne. k.hands.1 x) (record { coming = λ x live other. refl; rows = λ u o. refl; holdings = λ r o. refl });
}
  where
    now : (o : Option Turn) → o ≡ Some k.turn → turned_coming o (s.content.coming q) ≡ []
    now o e = ap (λ (x : Option Turn). turned_coming x (s.content.coming q)) e ∙ ap (λ (x : Option (List GivenRow)). turned_rows k.turn.places x (s.content.coming q)) k.wait ∙ k.hands.0
gives_waiting old new p s q (Some row) o k =
    let w = open_in s old p q o.0 o.1 o.2 in
    let same : w.turn ≡ k.turn = same_Some w.turn k.turn (sym w.at ∙ k.at) in
    let rest = k.hands.0 in
    let becomes = k.hands.2 in
    let scan = o.0 in
    let fits : list_all (λ r. shown_fits w.inner.kinds w.inner.spec r.cells) (row_of row ∷ rest) ≡ true =
    sym (ap (waiting_fits w.inner.kinds w.inner.spec) (ap (λ (t : Turn). t.waiting) same ∙ k.wait ∙ ap (λ (l : List GivenRow). Some l) k.hands.1)) ∙ w.fits in
    let pair = and_parts (shown_fits w.inner.kinds w.inner.spec (row_of row).cells) _ fits in
    let good : is_spoilt w.inner ≡ false = rw (w.whole_in, w.unpromised) refl in
    let whole_after : (k.turn.broken || (is_spoilt w.inner || not (list_all (λ r. shown_fits w.inner.kinds w.inner.spec r.cells) rest))) ≡ false =
    still_whole k.turn.broken (is_spoilt w.inner) _ (ap (λ (t : Turn). t.broken) (sym same) ∙ w.whole) good pair.1 in
    let whole_was : (w.turn.broken || (is_spoilt w.inner || not (waiting_fits w.inner.kinds w.inner.spec w.turn.waiting))) ≡ false = ap (λ (z : Scan). z.broken) (sym w.seen_as) ∙ o.2 in
    let left_was : scan.left ≡ length (row_of row ∷ rest) = ap (λ (z : Scan). z.left) w.seen_as ∙ ap (λ (t : Turn). left_of t.waiting) same ∙ ap left_of k.wait ∙ ap (λ (l : List GivenRow). length l) k.hands.1 in
    record {
      nature = refl;
      scan = scan;
      at = o.1;
      left = length rest;
      fewer = omega (arith, left_was);
      typed = ap (λ (z : Scan). shown_fits z.kinds z.spec (row_of row).cells) w.seen_as ∙ pair.0;
      ledger =
          ap (λ (m : Scans). record (reordered_ledger old p s.ledger) { live = m; pulled = bumped p })
          (change_of old new s.ledger.live q w.inner w.is becomes.others
          ∙ ap (λ (x : Option Turn). finmap.insert (seen old s.ledger.live) q (seen_scan x w.inner)) becomes.now
          ∙ ap (λ (b : Bool). finmap.insert (seen old s.ledger.live) q (record w.inner { left = length rest; broken = b })) (whole_after ∙ sym whole_was)
          ∙ ap (λ (z : Scan). finmap.insert (seen old s.ledger.live) q (record z { left = length rest })) (sym w.seen_as));
      coming = λ h.
          ap (λ (x : Option Turn). turned_coming x (s.content.coming q)) k.at ∙ ap (λ (x : Option (List GivenRow)). turned_rows k.turn.places x (s.content.coming q)) k.wait ∙ k.hands.1
          ∙ ap (λ (x : Option Turn). row_of row ∷ turned_coming x (s.content.coming q)) (sym becomes.now);
      leaves = λ h. leaves_but s s old new p (bumped p) (λ x ne. becomes.others x ne) (record { coming = λ x live other. refl; rows = λ u o. refl; holdings = λ r o. refl });
    }

-- a scan whose rows were not read
pub unread_waits : (o : Option Turn) (t : Turn) → o ≡ Some t → is_unread o ≡ true → t.waiting ≡ None
unread_waits None t e u = absurd cc
unread_waits (Some x) t e u = at x.waiting refl u
  where
    at : (w : Option (List GivenRow)) → x.waiting ≡ w → is_unread (Some (record x { waiting = w })) ≡ true → t.waiting ≡ None
    at None f u = ap (λ (z : Turn). z.waiting) (sym (same_Some x t e)) ∙ f
    at (Some rows) f u = absurd cc

-- the first row of a scan is given, whose inner scan was read for it
pub gives_first : (old new : Turns) (p : ℕ) (s t : BoxState) (q : ℕ) (inner : List GivenRow) (row : Option SourceRow) → is_unread (old q) ≡ true → ReadsOut s q inner t → TurnsRows old q inner row new → Iterates (reordered s old p) q row (reordered t new (counted row p))
gives_first old new p s t q inner None u r k =
    let waits = unread_waits (old q) k.turn k.at u in
    let empty : inner ≡ [] = nil_turned k.turn.places inner k.hands.0 in
    record {
      nature = ap round r.nature;
      ledger =
          ap (reordered_ledger new p) r.ledger
          ∙ ap (λ (m : Scans). record (reordered_ledger old p s.ledger) { live = m })
          (insert_of old new s.ledger.live q (record r.scan { left = r.left }) (λ x ne. k.hands.1 x)
          ∙ ap (λ (z : Scan). finmap.insert (seen old s.ledger.live) q z)
          (ap (λ (x : Option Turn). seen_scan x (record r.scan { left = r.left })) (k.hands.1 q ∙ k.at))
          ∙ sym (change_of old old s.ledger.live q r.scan r.at (λ x ne. refl) ∙ ap (λ (x : Option Turn). finmap.insert (seen old s.ledger.live) q (seen_scan x r.scan)) k.at));
      coming = λ h.
          ap (λ (x : Option Turn). turned_coming x (s.content.coming q)) k.at ∙ ap (λ (x : Option (List GivenRow)). turned_rows k.turn.places x (s.content.coming q)) waits
          ∙ turned_nil k.turn.places (s.content.coming q) (r.coming h ∙ empty);
      still = λ h.
          ap (λ (x : Option Turn). turned_coming x (t.content.coming q)) (k.hands.1 q ∙ k.at) ∙ ap (λ (x : Option (List GivenRow)). turned_rows k.turn.places x (t.content.coming q)) waits
          ∙ turned_nil k.turn.places (t.content.coming q) (r.done h);
      leaves = λ h. leaves_but s t old new p p (λ x ne. k.hands.1 x) (r.leaves h);
    }
gives_first old new p s t q inner (Some row) u r k =
    let waits = unread_waits (old q) k.turn k.at u in
    let rest = k.hands.0 in
    let becomes = k.hands.2 in
    let small = k.small in
    let long : length (row_of row ∷ rest) ≡ length inner = ap (λ (l : List GivenRow). length l) (sym k.hands.1) ∙ turned_length k.turn.places inner in
    let fits : list_all (λ z. shown_fits r.scan.kinds r.scan.spec z.cells) (row_of row ∷ rest) ≡ true =
    ap (list_all (λ z. shown_fits r.scan.kinds r.scan.spec z.cells)) (sym k.hands.1) ∙ turned_pass (λ z. shown_fits r.scan.kinds r.scan.spec z.cells) k.turn.places inner r.typed in
    let pair = and_parts (shown_fits r.scan.kinds r.scan.spec (row_of row).cells) _ fits in
    let left_was : left_of k.turn.waiting ≡ 2 ^ 64 = ap left_of waits in
    record {
      nature = ap round r.nature;
      scan = seen_scan (Some k.turn) r.scan;
      at = seen_at s old p q k.turn r.scan k.at r.at;
      left = length rest;
      fewer = omega (arith, long, left_was, small);
      typed = pair.0;
      ledger =
          ap (reordered_ledger new (bumped p)) r.ledger
          ∙ ap (λ (m : Scans). record (reordered_ledger old p s.ledger) { live = m; pulled = bumped p })
          (insert_of old new s.ledger.live q (record r.scan { left = r.left }) becomes.others
          ∙ ap (λ (x : Option Turn). finmap.insert (seen old s.ledger.live) q (seen_scan x (record r.scan { left = r.left }))) becomes.now
          ∙ ap (λ (b : Bool). finmap.insert (seen old s.ledger.live) q (record r.scan { left = length rest; broken = k.turn.broken || (is_spoilt r.scan || not b) })) (pair.1 ∙ sym (ap (waiting_fits r.scan.kinds r.scan.spec) waits)));
      coming = λ h.
          ap (λ (x : Option Turn). turned_coming x (s.content.coming q)) k.at ∙ ap (λ (x : Option (List GivenRow)). turned_rows k.turn.places x (s.content.coming q)) waits
          ∙ ap (turned k.turn.places) (r.coming h) ∙ k.hands.1 ∙ ap (λ (x : Option Turn). row_of row ∷ turned_coming x (t.content.coming q)) (sym becomes.now);
      leaves = λ h. leaves_but s t old new p (bumped p) (λ x ne. becomes.others x ne) (r.leaves h);
    }

-- the inner scan could not be read whole
pub breaks_first : (old new : Turns) (p : ℕ) (s t : BoxState) (q : ℕ) (turn : Turn) (fault : Fault) → old q ≡ Some turn → StopsOut s q fault t → Becomes old q (record turn { broken = true }) new → Breaks (reordered s old p) q fault (reordered t new p)
breaks_first old new p s t q turn fault at r w = record {
  nature = ap round r.nature;
  no_cause = r.no_cause;
  scan = seen_scan (Some turn) r.scan;
  at = seen_at s old p q turn r.scan at r.at;
  ledger =
      ap (reordered_ledger new p) r.ledger
      ∙ ap (λ (m : Scans). record (reordered_ledger old p s.ledger) { live = m; faults = faults_after fault s.ledger.faults })
      (insert_of old new s.ledger.live q (record r.scan { left = r.left; broken = r.broken }) w.others
      ∙ ap (λ (x : Option Turn). finmap.insert (seen old s.ledger.live) q (seen_scan x (record r.scan { left = r.left; broken = r.broken }))) w.now);
  leaves = λ h. leaves_but s t old new p p (λ x ne. w.others x ne) (r.leaves h);
}

-- a scan begins again
pub can_rescan : (turns : Turns) (p : ℕ) (s : BoxState) (q : ℕ) (params : Tuple) → CanRescan (reordered s turns p) q params → CanRescan s q params
can_rescan turns p s q params c =
    let w = open_in s turns p q c.scan c.at c.whole in
    let table : c.scan.table ≡ w.inner.table = ap (λ (z : Scan). z.table) w.seen_as in
    let spec : c.scan.spec ≡ w.inner.spec = ap (λ (z : Scan). z.spec) w.seen_as in
    record {
      scan = w.inner;
      at = w.is;
      whole = w.whole_in;
      bound = c.bound;
      is = ap (table_of s) (sym table) ∙ c.is;
      typed = ap (λ (z : Spec). params_fit c.bound.kinds z.offered params) (sym spec) ∙ c.typed;
    }

pub rescans : (old new : Turns) (p : ℕ) (s t : BoxState) (q places : ℕ) (params : Tuple) → CanRescan (reordered s old p) q params → Rescans s q params t → ((turn : Turn) → old q ≡ Some turn → Becomes old q (record turn { places = places; waiting = None }) new) → Rescans (reordered s old p) q params (reordered t new p)
rescans old new p s t q places params c r becomes =
    let o = open_in s old p q c.scan c.at c.whole in
    let w = becomes o.turn o.at in
    let plain : is_unpromised r.scan.spec ≡ true = ap (λ (z : Scan). is_unpromised z.spec) (same_Some r.scan o.inner (sym r.at ∙ o.is)) ∙ o.unpromised in
    record {
      nature = ap round r.nature;
      scan = seen_scan (Some o.turn) r.scan;
      at = seen_at s old p q o.turn r.scan o.at r.at;
      left = 2 ^ 64;
      few = omega arith;
      ledger =
          ap (reordered_ledger new p) r.ledger
          ∙ ap (λ (m : Scans). record (reordered_ledger old p s.ledger) { live = m })
          (insert_of old new s.ledger.live q (new_scan r.scan.table r.scan.kinds r.scan.spec params r.left) w.others
          ∙ ap (λ (x : Option Turn). finmap.insert (seen old s.ledger.live) q (seen_scan x (new_scan r.scan.table r.scan.kinds r.scan.spec params r.left))) w.now
          ∙ ap (λ (b : Bool). finmap.insert (seen old s.ledger.live) q (record (new_scan r.scan.table r.scan.kinds r.scan.spec params (2 ^ 64)) { broken = b || (not (is_unpromised r.scan.spec) || false) })) o.whole
          ∙ ap (λ (b : Bool). finmap.insert (seen old s.ledger.live) q (record (new_scan r.scan.table r.scan.kinds r.scan.spec params (2 ^ 64)) { broken = not b || false })) plain);
      coming = λ h. subst (λ (l : List GivenRow). IsComing (rows_of s r.scan.table) r.scan.spec params l) (sym (ap (λ (x : Option Turn). turned_coming x (t.content.coming q)) w.now)) (turned_come (rows_of s r.scan.table) r.scan.spec params places (t.content.coming q) plain (r.coming h));
      leaves = λ h. leaves_but s t old new p p (λ x ne. w.others x ne) (r.leaves h);
    }

pub breaks_again : (turns : Turns) (p : ℕ) (s t : BoxState) (q : ℕ) (fault : Fault) → Breaks s q fault t → Breaks (reordered s turns p) q fault (reordered t turns p)
breaks_again turns p s t q fault b = record {
  nature = ap round b.nature;
  no_cause = b.no_cause;
  scan = seen_scan (turns q) b.scan;
  at = seen_get turns s.ledger.live q ∙ ap (option_map (seen_scan (turns q))) b.at;
  ledger =
      ap (reordered_ledger turns p) b.ledger
      ∙ ap (λ (m : Scans). record (reordered_ledger turns p s.ledger) { live = m; faults = faults_after fault s.ledger.faults })
      (insert_of turns turns s.ledger.live q (record b.scan { broken = true }) (λ x ne. refl) ∙ ap (λ (z : Scan). finmap.insert (seen turns s.ledger.live) q z) (broken_seen (turns q) b.scan));
  leaves = λ h. leaves s t turns p (b.leaves h);
}

pub ends : (old new : Turns) (p : ℕ) (s t : BoxState) (q : ℕ) → ((x : ℕ) → x ≢ q → new x ≡ old x) → Ends s q t → Ends (reordered s old p) q (reordered t new p)
ends old new p s t q others e = record {
  nature = ap round e.nature;
  ledger = ap (reordered_ledger new p) e.ledger ∙ ap (λ (m : Scans). record (reordered_ledger old p s.ledger) { live = m }) (remove_of old new s.ledger.live q others);
  leaves = λ h. leaves_but s t old new p p others (e.leaves h);
}

-- writes
pub can_modify : (turns : Turns) (p : ℕ) (s : BoxState) (t : ℕ) → CanModify (reordered s turns p) t → CanModify s t
can_modify turns p s t c = record { is_bound = c.is_bound; no_scan = no_scan_in turns p s t c.no_scan; not_staged = c.not_staged }

pub opens : (turns : Turns) (p : ℕ) (s t : BoxState) (n : ℕ) → Opens s n t → Opens (reordered s turns p) n (reordered t turns p)
opens turns p s t n o = record { nature = ap round o.nature; ledger = ap (reordered_ledger turns p) o.ledger; leaves = λ h. leaves s t turns p (o.leaves h) }

pub refuses_modify : (turns : Turns) (p : ℕ) (s t : BoxState) (fault : Fault) → RefusesModify fault s t → RefusesModify fault (reordered s turns p) (reordered t turns p)
refuses_modify turns p s t fault r = record { refuses = refuses turns p s t fault r.refuses; no_cause = r.no_cause }

pub stages : (turns : Turns) (p : ℕ) (s t : BoxState) (change : Change) → Stages s change t → Stages (reordered s turns p) change (reordered t turns p)
stages turns p s t change r = record { nature = ap round r.nature; staging = r.staging; is_staged = r.is_staged; ledger = ap (reordered_ledger turns p) r.ledger; leaves = λ h. leaves s t turns p (r.leaves h) }

pub refuses_change : (turns : Turns) (p : ℕ) (s t : BoxState) (change : Change) (fault : Fault) → RefusesChange s change fault t → RefusesChange (reordered s turns p) change fault (reordered t turns p)
refuses_change turns p s t change fault r = record {
  nature = ap round r.nature;
  staging = r.staging;
  is_staged = r.is_staged;
  ledger = ap (reordered_ledger turns p) r.ledger;
  cause = change_cause s (round s.nature) (reordered_ledger turns p s.ledger) (λ q. turned_coming (turns q) (s.content.coming q)) r.staging change fault r.cause;
  leaves = λ h. leaves s t turns p (r.leaves h);
}

pub can_close : (turns : Turns) (p : ℕ) (s : BoxState) (keep : Bool) → CanClose (reordered s turns p) keep → CanClose s keep
can_close turns p s keep c = record { staging = c.staging; is_staged = c.is_staged; is_bound = c.is_bound; whole = c.whole; no_scan = λ k. no_scan_in turns p s c.staging.table (c.no_scan k) }

outcome : (turns : Turns) (p : ℕ) (s t : BoxState) (keep : Bool) (staging : Staging) → Outcome s keep staging t → Outcome (reordered s turns p) keep staging (reordered t turns p)
outcome turns p s t true staging w = record { bound = w.bound; is = w.is; entry = w.entry; picked = w.picked; no_cause = w.no_cause; rows = w.rows; once = w.once; holdings = w.holdings; leaves = leaves s t turns p w.leaves }
outcome turns p s t false staging l = leaves s t turns p l

pub closes : (turns : Turns) (p : ℕ) (s t : BoxState) (keep : Bool) → Closes s keep t → Closes (reordered s turns p) keep (reordered t turns p)
closes turns p s t keep c = record { nature = ap round c.nature; staging = c.staging; is_staged = c.is_staged; ledger = ap (reordered_ledger turns p) c.ledger; content = λ h. outcome turns p s t keep c.staging (c.content h) }

pub refuses_close : (turns : Turns) (p : ℕ) (s t : BoxState) (keep : Bool) (fault : Fault) → RefusesClose s keep fault t → RefusesClose (reordered s turns p) keep fault (reordered t turns p)
refuses_close turns p s t keep fault r = record {
  kept = r.kept;
  nature = ap round r.nature;
  staging = r.staging;
  is_staged = r.is_staged;
  ledger = ap (reordered_ledger turns p) r.ledger;
  cause = close_cause s (round s.nature) (reordered_ledger turns p s.ledger) (λ q. turned_coming (turns q) (s.content.coming q)) r.staging r.staging.broken fault r.cause;
  leaves = λ h. leaves s t turns p (r.leaves h);
}
