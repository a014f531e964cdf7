-- A FETCH that gave rows, which may not be told.
use Rattle.std.proofs.Common.{◌≡◌, ℕ, zero, suc, ◌-◌, true, false, arith, List, Option, Some, None, is_some, slice_set, refl, ap, sym, ◌∙◌, subst}
use Rattle.std.proofs.lemmas.Option.{same_Some}
use Rattle.med_value.specs.Datum.{Tuple}
use Rattle.med_value.specs.declared.cause.Cause.{Cause}
use Rattle.med_value.specs.declared.cause.Cause.TheVariants.{OutOfMemory, InvalidCursorName, FetchZero}
use Rattle.med_syntax.specs.Prelude.{Name, CountTree, some_rows, all_rows, CursorTree, fetch}
use Rattle.fdw_api.specs.State.{BoxState}
use Rattle.med_exec.specs.declared.running.Run.{Run}
use Rattle.med_exec.specs.Prelude.{ServesRun, none_held}
use Rattle.med_exec.specs.Rests.{held}
use Rattle.med_parser.specs.CommandCauses.{is_fetch_zero_command}
use Rattle.med_parser.specs.CommandTree.{on_cursors}
use Rattle.med_world.specs.Prelude.{Opened, Seated, opened_named, without_named, with_run, seat_of, Shown, IsSound, Leads, IsRead, with_cursors, having_asked, IsOfOpen, Ends, later}
use Rattle.med_world.specs.Fetching.{GivesNone, no_memory, cause_of, has_enough, HasRisen, PullsEnded}
use Rattle.med_world.proofs.Asking.{risen_by}
use Rattle.med_world.proofs.Pulled.{pulls_ended}
use Rattle.sql_meaning.specs.Prelude.{AskedLine, sql, IsSid, TakesMemory, refused}
use Rattle.med_session.specs.Cursors.{having, Fetched, NoneAsked, is_unknown, lacks_memory, KeepsCursors, GivesUp, NotFetched, cause_in, LosesCursor, MayBeUntold, IfFetched}
use Rattle.med_session.specs.declared.cursors.FetchFault.{FetchFault}
use Rattle.med_session.specs.declared.cursors.FetchFault.TheVariants as fault
use Rattle.med_statements.specs.declared.replies.Outcome.{Outcome}
use Rattle.med_statements.specs.declared.replies.Outcome.TheVariants as outcome
use Rattle.med_world.proofs.CursorSeats.{seat_put}
use Rattle.med_session.proofs.Seats.{set_twice, put_other, put_back}
use Rattle.med_world.proofs.CursorLists.{named_runs}
use Rattle.med_session.proofs.CursorLists.{without_runs}

-- what the law of a FETCH that fails says
abbrev pub FailsLaw : Type 0
FailsLaw = (e : Shown) (new : List (Option BoxState)) (sid : ℕ) (text : List ℕ) (seat : Seated) (name : Name) (asked : CountTree) (o : Opened) (c : Cause) (count : ℕ) → IsRead e sid text seat.user (on_cursors (fetch asked name)) → seat_of e.seats sid ≡ Some seat → IsSound e
    → opened_named name seat.cursors ≡ Some o → GivesNone c e.boxes new → Ends o.run e.boxes new → PullsEnded asked o.run e.boxes new → HasRisen seat.asked count → Leads e sid (sql text) (refused c) (with_cursors e sid (having_asked seat count) (without_named name seat.cursors) new)

-- the engine behind such a FETCH
abbrev behind : Shown → ℕ → Seated → Name → Run → ℕ → List (Option BoxState) → Shown
behind e sid seat name run count mid = with_cursors e sid (having_asked seat count) (with_run name run seat.cursors) mid

-- a FETCH that was read asks for some row: of FETCH 0 a cause of syntax stands
some_asked : (c : CountTree) (name : Name) → (is_fetch_zero_command (on_cursors (fetch c name)) ≡ true → ⊥) → has_enough c 0 ≡ false
some_asked (some_rows zero) name none = absurd (none refl)
some_asked (some_rows (suc n)) name none = grind arith
some_asked all_rows name none = refl

read_some : (e : Shown) (sid : ℕ) (text : List ℕ) (user name : Name) (asked : CountTree) → IsRead e sid text user (on_cursors (fetch asked name)) → has_enough asked 0 ≡ false
read_some e sid text user name asked read = some_asked asked name (λ none. read.clear FetchZero (read.has.0, read.has.1, (on_cursors (fetch asked name), read.has.2, none)))

lost : FailsLaw → (e : Shown) (sid : ℕ) (text : List ℕ) (seat : Seated) (name : Name) (asked : CountTree) (names : List Name) (rows : List Tuple) (after : Seated) (mid : List (Option BoxState)) → IsRead e sid text seat.user (on_cursors (fetch asked name))
    → seat_of e.seats sid ≡ Some seat → IsSound e → (f : Fetched name asked seat e.boxes names rows after mid) → (new : Shown) → LosesCursor (behind e sid seat name f.run f.count mid) sid name new → Leads e sid (sql text) (refused OutOfMemory) new
lost law e sid text seat name asked names rows after mid read is_open sound f new l =
    subst (λ (n : Shown). Leads e sid (sql text) (refused OutOfMemory) n) (sym is) (law e new.boxes sid text seat name asked f.at OutOfMemory f.count read is_open sound f.there (no_memory refl) (later f.run mid f.gives.served closes)
    (pulls_ended asked f.at.run f.run e.boxes mid new.boxes seat.asked f.count f.pulls l.pulls) (risen_by seat.asked f.pulls.times f.count (f.pulls.some (read_some e sid text seat.user name asked read)) f.pulls.counts))
  where
    seat_now : Seated
    seat_now = having (having_asked seat f.count) (with_run name f.run seat.cursors)

    same_seat : l.seat ≡ seat_now
    same_seat = same_Some l.seat seat_now (sym l.is_open ∙ seat_put e.seats sid seat seat_now is_open)

    same_at : l.at ≡ record f.at { run = f.run }
    same_at = same_Some l.at (record f.at { run = f.run }) (sym l.there ∙ ap (λ (s : Seated). opened_named name s.cursors) same_seat ∙ named_runs name f.run seat.cursors f.at f.there)

    closes : ServesRun (held f.run) none_held mid new.boxes
    closes = subst (λ (o : Opened). ServesRun (held o.run) none_held mid new.boxes) same_at l.closes

    seats_now : List (Option Seated)
    seats_now = slice_set e.seats (sid - 1) (Some seat_now)

    is : new ≡ with_cursors e sid (having_asked seat f.count) (without_named name seat.cursors) new.boxes
    is = l.is ∙ ap (λ (s : Seated). record e { seats = slice_set seats_now (sid - 1) (Some (having s (without_named name s.cursors))); boxes = new.boxes }) same_seat
        ∙ ap (λ (cs : List Opened). record e { seats = slice_set seats_now (sid - 1) (Some (having (having_asked seat f.count) cs)); boxes = new.boxes }) (without_runs name f.run seat.cursors)
        ∙ ap (λ (xs : List (Option Seated)). record e { seats = xs; boxes = new.boxes }) (set_twice e.seats (sid - 1) (Some seat_now) (Some (having (having_asked seat f.count) (without_named name seat.cursors))))

pub may_be_untold : FailsLaw → (e : Shown) (sid : ℕ) (text : List ℕ) (seat : Seated) (name : Name) (asked : CountTree) (names : List Name) (rows : List Tuple) (after : Seated) (mid : List (Option BoxState)) (now : Shown) → IsRead e sid text seat.user (on_cursors (fetch asked name))
    → seat_of e.seats sid ≡ Some seat → IsSound e → (f : Fetched name asked seat e.boxes names rows after mid) → now ≡ behind e sid seat name f.run f.count mid → MayBeUntold e sid (sql text) name now
may_be_untold law e sid text seat name asked names rows after mid now read is_open sound f is = subst (λ (n : Shown). MayBeUntold e sid (sql text) name n) (sym is) (record {
  has = record {
    seat = having (having_asked seat f.count) (with_run name f.run seat.cursors);
    is_open = seat_put e.seats sid seat (having (having_asked seat f.count) (with_run name f.run seat.cursors)) is_open;
    there = ap is_some (named_runs name f.run seat.cursors f.at f.there);
  };
  lost = lost law e sid text seat name asked names rows after mid read is_open sound f;
})

-- ---- a FETCH that gave none

-- what the laws say of a cursor that is gone, of an unknown one, and of memory
abbrev pub EndedLaw : Type 0
EndedLaw = (e : Shown) (new : List (Option BoxState)) (sid : ℕ) (seat : Seated) (name : Name) (o : Opened) (count : ℕ) → IsSid sid → IsSound e → seat_of e.seats sid ≡ Some seat → opened_named name seat.cursors ≡ Some o → Ends o.run e.boxes new
    → IsSound (with_cursors e sid (having_asked seat count) (without_named name seat.cursors) new)

abbrev pub UnknownLaw : Type 0
UnknownLaw = (e : Shown) (sid : ℕ) (text : List ℕ) (seat : Seated) (name : Name) (t : CursorTree) → IsOfOpen name t → IsRead e sid text seat.user (on_cursors t) → seat_of e.seats sid ≡ Some seat → opened_named name seat.cursors ≡ None → Leads e sid (sql text) (refused InvalidCursorName) e

abbrev pub MemoryLaw : Type 0
MemoryLaw = (e : Shown) (sid : ℕ) (request : AskedLine) → TakesMemory request → Leads e sid request (refused OutOfMemory) e

module _ (e : Shown) (sid : ℕ) (seat after : Seated) (left seats : List (Option Seated)) (boxes : List (Option BoxState)) (name : Name) (sound : IsSound e) (is_open : seat_of e.seats sid ≡ Some seat) (l : left ≡ slice_set e.seats (sid - 1) None) (s : seats ≡ slice_set left (sid - 1) (Some after)) where
  abbrev failed : Shown
  failed = record e { seats = seats; boxes = boxes }

  kept : (c : Cause) → KeepsCursors name seat e.boxes c after boxes → failed ≡ e
  kept c k = put_back e sid seat after left seats boxes is_open l s k.seat_kept ∙ ap (λ (b : List (Option BoxState)). record e { boxes = b }) k.boxes_kept

  given_up : (asked : CountTree) (c : Cause) → (k : GivesUp name asked seat e.boxes c after boxes) → failed ≡ with_cursors e sid (having_asked seat k.count) (without_named name seat.cursors) boxes
  given_up asked c k = put_other e sid (having_asked seat k.count) after (without_named name seat.cursors) left seats boxes l s k.is

  pub failed_sound : EndedLaw → IsSid sid → (asked : CountTree) (f : FetchFault) → NotFetched name asked seat e.boxes f after boxes → IsSound failed
  failed_sound law is asked (fault.Unasked c) k = subst (λ (n : Shown). IsSound n) (sym (kept c k)) sound
  failed_sound law is asked (fault.Failed u) k = subst (λ (n : Shown). IsSound n) (sym (given_up asked (cause_of u.fault) k)) (law e boxes sid seat name k.at k.count is sound is_open k.there k.ends)

  unasked_leads : UnknownLaw → MemoryLaw → (text : List ℕ) (asked : CountTree) (c : Cause) → IsRead e sid text seat.user (on_cursors (fetch asked name)) → NoneAsked name seat c → Leads e sid (sql text) (refused c) e
  unasked_leads unknown memory text asked c read (is_unknown told none) = subst (λ (d : Cause). Leads e sid (sql text) (refused d) e) (sym told) (unknown e sid text seat name (fetch asked name) refl read is_open none)
  unasked_leads unknown memory text asked c read (lacks_memory told) = subst (λ (d : Cause). Leads e sid (sql text) (refused d) e) (sym told) (memory e sid (sql text) tt)

  leads_as : FailsLaw → UnknownLaw → MemoryLaw → (text : List ℕ) (asked : CountTree) (f : FetchFault) → IsRead e sid text seat.user (on_cursors (fetch asked name)) → NotFetched name asked seat e.boxes f after boxes → Leads e sid (sql text) (refused (cause_in f)) failed
  leads_as law unknown memory text asked (fault.Unasked c) read k = subst (λ (n : Shown). Leads e sid (sql text) (refused c) n) (sym (kept c k)) (unasked_leads unknown memory text asked c read k.why)
  leads_as law unknown memory text asked (fault.Failed u) read k =
      subst (λ (n : Shown). Leads e sid (sql text) (refused (cause_of u.fault)) n) (sym (given_up asked (cause_of u.fault) k)) (law e boxes sid text seat name asked k.at (cause_of u.fault) k.count read is_open sound k.there k.gives k.ends k.pulls k.risen)

  pub failed_leads : FailsLaw → UnknownLaw → MemoryLaw → (text : List ℕ) (asked : CountTree) (f : FetchFault) (d : Cause) → d ≡ cause_in f → IsRead e sid text seat.user (on_cursors (fetch asked name)) → NotFetched name asked seat e.boxes f after boxes → Leads e sid (sql text) (refused d) failed
  failed_leads law unknown memory text asked f d told read k = subst (λ (x : Cause). Leads e sid (sql text) (refused x) failed) (sym told) (leads_as law unknown memory text asked f read k)

-- where no FETCH gave rows, nothing is owed of one
pub never : (o : Outcome) (P : Name → Type 0) → IfFetched o (λ name. ⊥) → IfFetched o P
never outcome.Opened P h = tt
never outcome.Closed P h = tt
never (outcome.Changed d) P h = tt
never (outcome.Written word n) P h = tt
never (outcome.Rows set) P h = tt
never outcome.Declared P h = tt
never (outcome.Fetched name set) P h = absurd h
never outcome.Ended P h = tt
never (outcome.Refused c) P h = tt
