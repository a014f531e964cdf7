-- What was read, staged and made is the write of a box, and what was refused has left it as it was.
use Rattle.std.proofs.Common.{◌≡◌, ◌↔◌, ◌+◌, ◌-◌, ◌^◌, ℕ, Bool, true, false, nat_eq, List, [], ◌++◌, map, All, length, Option, Some, None, IsSome, IsTrue, refl, ap, sym, ◌∙◌, subst, arith, add-zero}
use Rattle.std.specs.FinMap as finmap
use Rattle.std.specs.List.{IsDistinct}
use Rattle.std.proofs.lemmas.List.{length-map, length-append}
use Rattle.std.proofs.lemmas.List.Elements.{All-nil}
use Rattle.med_value.specs.Datum.{Tuple}
use Rattle.fdw_api.specs.Prelude.{Change, GivenRow, IsComing, plain_spec, Nature, BoxTable, Ledger, BoxState, is_honest, table_of, rows_of, LeavesAll, faults_after, CanModify}
use Rattle.tri_expr.specs.Prelude.{Tree, OnClass, means}
use Rattle.fdw_api.specs.declared.interface.Fault.{Fault}
use Rattle.fdw_api.specs.declared.interface.Fault.TheVariants.{NoMemory, Source, Refused}
use Rattle.med_exec.specs.Reading.{pulled_after}
use Rattle.med_exec.specs.Scanning.{FailsScan}
use Rattle.med_exec.proofs.Served.{honest_on}
use Rattle.med_write.specs.declared.write.WrittenColumn.{WrittenColumn}
use Rattle.med_write.specs.declared.write.WriteFault.{WriteFault}
use Rattle.med_write.specs.declared.write.WriteFault.TheVariants.{Evaluation, NotNull}
use Rattle.med_write.specs.Form.{WriteForm, insert_form, update_form, delete_form}
use Rattle.med_write.specs.Writing.{chosen_by}
use Rattle.med_write.specs.Laws.{is_out, SameWrite, RowsOutChangeNothing}
use Rattle.pushdown.specs.Laws.{TestsDecide}
use Rattle.med_write.specs.Making.{cells_of, IsWriteFault, AreChanges}
use Rattle.med_exec.specs.WriteReading.{ReadsTable, are_typed}
use Rattle.med_exec.specs.Staging.{AreStageable, ChangesCause, MakesChanges, MakesNone}
use Rattle.med_exec.specs.Writing.{CanWrite, scans_of, AreRead, ReadsFor, FailsRead, write_refusal, Writes, Bars, lacks_memory, source_fails, gives_twice, numbers_end, write_shows, kind_refuses, RefusesWrite}
use Rattle.med_exec.proofs.StagedChanges.{staging_of, leaves_twice}
use Rattle.med_exec.proofs.MadeChanges.{written_since}
use Rattle.med_exec.proofs.DistinctIds.{read_once, once_before}
use Rattle.med_exec.proofs.LeftOut.{Bares, rows_missing, missing_out, all_rows}
use Rattle.med_exec.proofs.ChangesFit.{changes_fit, changes_there, changes_once}

-- ---- the rows were read

-- the rows of a write of any form were read but those that are out, and nothing but the box's counts has changed
pub record HasRead (w : WriteForm) (old : BoxState) (t : ℕ) (read : List GivenRow) (mid : BoxState) : Type 0 where
  pub nature : mid.nature ≡ old.nature
  pub ledger : mid.ledger
      ≡ record old.ledger { next = old.ledger.next + scans_of w; pulled = pulled_after (length read) old.ledger.pulled }
  pub ends : old.ledger.next ≡ 2 ^ 64 - 1 → old.ledger.next + scans_of w ≡ 2 ^ 64 - 1
  pub leaves : is_honest old → LeavesAll old mid
  pub missing : List GivenRow
  pub out : All (λ r. is_out (chosen_by w) r.cells ≡ true) missing
  pub are_read : is_honest old → AreRead w (rows_of old t) (read ++ missing)
  pub typed : (b : BoxTable) → (table_of old t ≡ Some b) → are_typed b.kinds read ≡ true

nothing_read : (old mid : BoxState) (read : List GivenRow) → read ≡ [] → mid ≡ old → mid.ledger ≡ record old.ledger { next = old.ledger.next + 0; pulled = pulled_after (length read) old.ledger.pulled }
nothing_read old mid read none same =
    ap (λ (s : BoxState). s.ledger) same
    ∙ ap (λ (n : ℕ). record old.ledger { next = n }) (sym (add-zero old.ledger.next))
    ∙ ap (λ (rs : List GivenRow). record old.ledger { next = old.ledger.next + 0; pulled = pulled_after (length rs) old.ledger.pulled }) (sym none)

-- the rows that did not come, of an honest box
record Missing (w : WriteForm) (old : BoxState) (t : ℕ) (read : List GivenRow) : Type 0 where
  missing : List GivenRow
  out : All (λ r. is_out (chosen_by w) r.cells ≡ true) missing
  are_read : is_honest old → AreRead w (rows_of old t) (read ++ missing)

module _ (law : TestsDecide) (same : Bares) where
  missing_by : (w : WriteForm) (conditions : List Tree) (old mid : BoxState) (t : ℕ) (read : List GivenRow) → chosen_by w ≡ means [] conditions → ((all : List GivenRow) → IsComing (rows_of old t) (plain_spec [] []) [] all → AreRead w (rows_of old t) all) → ReadsTable conditions old t read mid → (honest : Bool) → old.nature.honest ≡ honest → Missing w old t read
  missing_by w conditions old mid t read by are h true e =
      let c = h.coming e in
      record {
        missing = rows_missing law same h.width conditions (rows_of old t) h.spec read h.offers c;
        out = subst (λ (fs : List OnClass). All (λ r. is_out fs r.cells ≡ true) (rows_missing law same h.width conditions (rows_of old t) h.spec read h.offers c)) (sym by) (missing_out law same h.width conditions (rows_of old t) h.spec read h.offers c);
        are_read = λ honest. are (read ++ rows_missing law same h.width conditions (rows_of old t) h.spec read h.offers c) (all_rows law same h.width conditions (rows_of old t) h.spec read h.offers c);
      }
  missing_by w conditions old mid t read by are h false e = record {
    missing = [];
    out = All-nil (λ r. is_out (chosen_by w) r.cells ≡ true);
    are_read = λ honest. absurd (let not : false ≡ true = sym e ∙ honest in cc);
  }

  table_read : (w : WriteForm) (conditions : List Tree) (old mid : BoxState) (t : ℕ) (read : List GivenRow) → scans_of w ≡ 1 → chosen_by w ≡ means [] conditions → ((all : List GivenRow) → IsComing (rows_of old t) (plain_spec [] []) [] all → AreRead w (rows_of old t) all) → ReadsTable conditions old t read mid → HasRead w old t read mid
  table_read w conditions old mid t read one by are h =
      let m = missing_by w conditions old mid t read by are h old.nature.honest refl in
      record {
        nature = h.runs.nature;
        ledger =
            h.runs.ledger
            ∙ ap (λ (n : ℕ). record old.ledger { next = old.ledger.next + 1; pulled = pulled_after n old.ledger.pulled }) (length-map read (λ r. r.cells))
            ∙ ap (λ (n : ℕ). record old.ledger { next = old.ledger.next + n; pulled = pulled_after (length read) old.ledger.pulled }) (sym one);
        ends = λ e. let room = h.runs.room in omega (arith, e, room);
        leaves = h.runs.leaves;
        missing = m.missing;
        out = m.out;
        are_read = m.are_read;
        typed = h.typed;
      }

  pub has_read : (w : WriteForm) (old mid : BoxState) (t : ℕ) (read : List GivenRow) → ReadsFor w old t read mid → HasRead w old t read mid
  has_read (insert_form places given) old mid t read h = record {
    nature = ap (λ (s : BoxState). s.nature) h.1;
    ledger = nothing_read old mid read h.0 h.1;
    ends = λ e. add-zero old.ledger.next ∙ e;
    leaves = λ honest. subst (λ (s : BoxState). LeavesAll old s) (sym h.1) (record { coming = λ q live k. refl; rows = λ u k. refl; holdings = λ r k. refl });
    missing = [];
    out = All-nil (λ r. is_out [] r.cells ≡ true);
    are_read = λ honest. ap (λ l. l ++ []) h.0;
    typed = λ b is. ap (are_typed b.kinds) h.0;
  }
  has_read (update_form conditions cells) old mid t read h = table_read (update_form conditions cells) conditions old mid t read refl refl (λ all c. c) h
  has_read (delete_form conditions) old mid t read h = table_read (delete_form conditions) conditions old mid t read refl refl (λ all c. c) h

-- ---- the changes are those that all rows ask for

pub whole_changes : (columns : List WrittenColumn) (w : WriteForm) (answer : List Tuple) (read all : List GivenRow) (changes : List Change) → SameWrite columns w answer read all → AreChanges columns w read answer changes → AreChanges columns w all answer changes
whole_changes columns w answer read all changes s a = record {
  are = a.are ∙ s.changes;
  no_fault = sym s.faults ∙ a.no_fault;
  complete = sym s.lacks ∙ a.complete;
  many = a.many ∙ s.count;
}

pub whole_fault : (f : WriteFault) (columns : List WrittenColumn) (w : WriteForm) (answer : List Tuple) (read all : List GivenRow) → SameWrite columns w answer read all → IsWriteFault f columns w (cells_of read) answer → IsWriteFault f columns w (cells_of all) answer
whole_fault (Evaluation f) columns w answer read all s t = rw s.faults at t
whole_fault NotNull columns w answer read all s t = sym s.lacks ∙ t

-- ---- the changes may be staged

some_of : {A : Type 0} (x : Option A) → IsSome x → (a : A) × (x ≡ Some a)
some_of None s = absurd cc
some_of (Some a) s = (a, refl)

pub can_modify : (w : WriteForm) (old mid : BoxState) (t : ℕ) (read : List GivenRow) → CanModify old t → HasRead w old t read mid → CanModify mid t
can_modify w old mid t read can h = record {
  is_bound = subst IsSome (sym (ap (λ (l : Ledger). l.tables t) h.ledger)) can.is_bound;
  no_scan = λ q scan is. can.no_scan q scan (ap (λ (l : Ledger). finmap.get l.live q) (sym h.ledger) ∙ is);
  not_staged = ap (λ (l : Ledger). l.staged) h.ledger ∙ can.not_staged;
}

module _ (law : RowsOutChangeNothing) where
  same_write : (columns : List WrittenColumn) (w : WriteForm) (answer : List Tuple) (old mid : BoxState) (t : ℕ) (read : List GivenRow) (h : HasRead w old t read mid) → SameWrite columns w answer read (read ++ h.missing)
  same_write columns w answer old mid t read h = law columns w answer read h.missing h.out

  pub stageable : (columns : List WrittenColumn) (w : WriteForm) (answer : List Tuple) (old mid : BoxState) (t : ℕ) (read : List GivenRow) (changes : List Change) → CanWrite old t w answer → HasRead w old t read mid → IsDistinct nat_eq (map (λ r. r.id) read) → AreChanges columns w read answer changes → AreStageable mid t changes
  stageable columns w answer old mid t read changes can h once a =
      let b = some_of (table_of old t) can.can.is_bound in
      let all = whole_changes columns w answer read (read ++ h.missing) changes (same_write columns w answer old mid t read h) a in
      record {
        bound = b.0;
        is = ap (λ (l : Ledger). l.tables t) h.ledger ∙ b.1;
        fit = rw a.are (changes_fit b.0.kinds w answer read (can.typed b.0 b.1) (h.typed b.0 b.1));
        there = λ honest.
            let before : is_honest old = honest_on mid old (sym h.nature) honest in
            rw ((h.leaves before).rows t (λ n. n), all.are) (changes_there w answer (rows_of old t) (read ++ h.missing) (h.are_read before));
        once = rw a.are (changes_once w answer read once);
      }

  -- ---- done

  pub writes : (columns : List WrittenColumn) (w : WriteForm) (answer : List Tuple) (old mid new : BoxState) (t count : ℕ) (read : List GivenRow) (changes : List Change) → HasRead w old t read mid → AreChanges columns w read answer changes → count ≡ length changes → MakesChanges mid t changes new → Writes columns w answer old t count new
  writes columns w answer old mid new t count read changes h a many m = record {
    read = read ++ h.missing;
    are_read = h.are_read;
    changes = changes;
    are_changes = whole_changes columns w answer read (read ++ h.missing) changes (same_write columns w answer old mid t read h) a;
    many = many;
    nature = m.nature ∙ h.nature;
    given = length read;
    few = (let e : length (read ++ h.missing) ≡ length read + length h.missing = length-append read h.missing in omega (arith, e));
    ledger = m.ledger ∙ h.ledger;
    stays = λ e. ap (λ (l : Ledger). l.next) (m.ledger ∙ h.ledger) ∙ h.ends e;
    content = λ honest.
        written_since old mid new (staging_of t changes) (ap (λ (l : Ledger). l.tables) h.ledger) (h.leaves honest) (ap (λ (l : Ledger). l.live) h.ledger)
        (m.content (honest_on old mid h.nature honest));
  }

-- ---- refused

scan_bars : (columns : List WrittenColumn) (w : WriteForm) (answer : List Tuple) (old new : BoxState) (t : ℕ) (fault : Fault) → FailsScan fault old new → Bars columns w answer old t fault (faults_after fault old.ledger.faults)
scan_bars columns w answer old new t NoMemory f = lacks_memory refl refl
scan_bars columns w answer old new t Source f = source_fails refl refl
scan_bars columns w answer old new t (Refused c) f = numbers_end (ap Refused f.cause.0) refl f.cause.1

scan_refuses : (columns : List WrittenColumn) (w : WriteForm) (answer : List Tuple) (old new : BoxState) (t : ℕ) (fault : Fault) → scans_of w ≡ 1 → FailsScan fault old new → RefusesWrite columns w answer old t fault new
scan_refuses columns w answer old new t fault one f = record {
  nature = f.nature;
  next = f.next;
  rises = f.rises;
  stays = f.stays;
  keeps = λ e. rw one (f.keeps e);
  given = f.given;
  faults = faults_after fault old.ledger.faults;
  ledger = f.ledger;
  leaves = f.leaves;
  bars = scan_bars columns w answer old new t fault f;
}

pub read_refuses : (columns : List WrittenColumn) (w : WriteForm) (answer : List Tuple) (old new : BoxState) (t : ℕ) (fault : Fault) → FailsRead w fault old new → RefusesWrite columns w answer old t fault new
read_refuses columns (insert_form places given) answer old new t fault f = absurd f
read_refuses columns (update_form conditions cells) answer old new t fault f = scan_refuses columns (update_form conditions cells) answer old new t fault refl f
read_refuses columns (delete_form conditions) answer old new t fault f = scan_refuses columns (delete_form conditions) answer old new t fault refl f

-- refused when the rows were read, before anything was staged
refuses_now : (columns : List WrittenColumn) (w : WriteForm) (answer : List Tuple) (old mid : BoxState) (t : ℕ) (read : List GivenRow) (fault : Fault) → HasRead w old t read mid → Bars columns w answer old t fault old.ledger.faults → RefusesWrite columns w answer old t fault mid
refuses_now columns w answer old mid t read fault h bars = record {
  nature = h.nature;
  next = old.ledger.next + scans_of w;
  rises = omega arith;
  stays = h.ends;
  keeps = λ e. omega arith;
  given = length read;
  faults = old.ledger.faults;
  ledger = h.ledger;
  leaves = h.leaves;
  bars = bars;
}

pub lacks : (columns : List WrittenColumn) (w : WriteForm) (answer : List Tuple) (old mid : BoxState) (t : ℕ) (read : List GivenRow) (fault : Fault) → HasRead w old t read mid → fault ≡ NoMemory → RefusesWrite columns w answer old t fault mid
lacks columns w answer old mid t read fault h e = refuses_now columns w answer old mid t read fault h (lacks_memory e refl)

pub twice : (columns : List WrittenColumn) (w : WriteForm) (answer : List Tuple) (old mid : BoxState) (t : ℕ) (read : List GivenRow) → CanWrite old t w answer → HasRead w old t read mid → (IsDistinct nat_eq (map (λ r. r.id) read) → ⊥) → RefusesWrite columns w answer old t Source mid
twice columns w answer old mid t read can h not_once =
    refuses_now columns w answer old mid t read Source h
    (gives_twice refl refl (λ honest. not_once (once_before read h.missing (read_once w (rows_of old t) (read ++ h.missing) (h.are_read honest) (can.once honest)))))

pub shows : RowsOutChangeNothing → (columns : List WrittenColumn) (w : WriteForm) (answer : List Tuple) (old mid : BoxState) (t : ℕ) (read : List GivenRow) (f : WriteFault) (fault : Fault) → HasRead w old t read mid → fault ≡ write_refusal f → IsWriteFault f columns w (cells_of read) answer → RefusesWrite columns w answer old t fault mid
shows law columns w answer old mid t read f fault h e is =
    refuses_now columns w answer old mid t read fault h
    (write_shows f (read ++ h.missing) e refl h.are_read (whole_fault f columns w answer read (read ++ h.missing) (law columns w answer read h.missing h.out) is))

none_bars : RowsOutChangeNothing → (columns : List WrittenColumn) (w : WriteForm) (answer : List Tuple) (old mid : BoxState) (t : ℕ) (read : List GivenRow) (changes : List Change) (fault : Fault) → CanModify old t → HasRead w old t read mid → AreChanges columns w read answer changes → ChangesCause mid t changes fault → Bars columns w answer old t fault (faults_after fault old.ledger.faults)
none_bars law columns w answer old mid t read changes NoMemory can h a k = lacks_memory refl refl
none_bars law columns w answer old mid t read changes Source can h a k = source_fails refl refl
none_bars law columns w answer old mid t read changes (Refused c) can h a k =
    kind_refuses c refl refl k.0 (λ honest.
    let b = some_of (table_of old t) can.is_bound in
    let left = h.leaves honest in
    let z = k.1 (honest_on old mid h.nature honest) b.0 (ap (λ (l : Ledger). l.tables t) h.ledger ∙ b.1) in
    record {
      read = read ++ h.missing;
      are_read = h.are_read honest;
      changes = changes;
      are_changes = whole_changes columns w answer read (read ++ h.missing) changes (law columns w answer read h.missing h.out) a;
      bound = b.0;
      is = b.1;
      entry = z.0;
      picked = rw (left.holdings b.0.remote (λ n. n)) at z.1;
      stands = rw (left.rows t (λ n. n)) at z.2;
    })

pub none_made : RowsOutChangeNothing → (columns : List WrittenColumn) (w : WriteForm) (answer : List Tuple) (old mid new : BoxState) (t : ℕ) (read : List GivenRow) (changes : List Change) (fault : Fault) → CanModify old t → HasRead w old t read mid → AreChanges columns w read answer changes → MakesNone mid t changes fault new → RefusesWrite columns w answer old t fault new
none_made law columns w answer old mid new t read changes fault can h a m =
    let at : mid.ledger.next ≡ old.ledger.next + scans_of w = ap (λ (l : Ledger). l.next) h.ledger in
    record {
      nature = m.nature ∙ h.nature;
      next = m.next;
      rises = let up = m.rises in omega (arith, at, up);
      stays = λ e. m.stays (at ∙ h.ends e);
      keeps = λ e. let same = m.keeps (ap (λ (n : Nature). n.skips) h.nature ∙ e) in omega (arith, at, same);
      given = length read;
      faults = faults_after fault old.ledger.faults;
      ledger = m.ledger ∙ ap (λ (l : Ledger). record l { next = m.next; faults = faults_after fault l.faults }) h.ledger;
      leaves = λ honest. leaves_twice old mid new (ap (λ (l : Ledger). l.live) h.ledger) (h.leaves honest) (m.leaves (honest_on old mid h.nature honest));
      bars = none_bars law columns w answer old mid t read changes fault can h a m.cause;
    }

pub not_so : {P : Type 0} (b : Bool) → b ≡ false → IsTrue b ↔ P → P → ⊥
not_so b e t p = absurd (let is = t.1 p in cc)

pub so_it_is : {P : Type 0} (b : Bool) → b ≡ true → IsTrue b ↔ P → P
so_it_is b e t = t.0 e
