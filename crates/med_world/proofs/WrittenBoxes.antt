-- What a write does to the box of its table: it counts, and it stays sound.
use Rattle.std.proofs.Common.{◌≡◌, ℕ, zero, suc, ◌+◌, ◌-◌, ◌^◌, ◌<◌, ◌≤◌, inl, inr, min, true, false, length, List, Option, Some, None, refl, ap, sym, ◌∙◌, subst, arith}
use Rattle.std.specs.List.{list_all}
use Rattle.std.specs.FinMap as finmap
use Rattle.std.proofs.lemmas.Bool.{cases_lt}
use Rattle.std.proofs.lemmas.List.Folds.{list_all-map}
use Rattle.med_value.specs.Datum.{Tuple}
use Rattle.med_value.specs.declared.value.ColType.{ColType}
use Rattle.tri_expr.proofs.Shuffled.{all_kept}
use Rattle.fdw_api.specs.Prelude.{GivenRow, TableRow, row_fits, BoxTable, Staging, Ledger, BoxState, is_honest, rows_of, bumped, faults_after, Written, Closes, row_of_change_fits, IsTableOf, IsSoundBox}
use Rattle.fdw_api.specs.declared.interface.Fault.{Fault}
use Rattle.fdw_api.specs.declared.interface.Fault.TheVariants.{Source}
use Rattle.fdw_api.proofs.SoundBoxes.{closes}
use Rattle.med_exec.specs.Prelude.{pulled_after, HasFailed, are_typed}
use Rattle.med_exec.proofs.Served.{honest_on, ServedAlone}
use Rattle.med_write.specs.declared.write.WrittenColumn.{WrittenColumn}
use Rattle.med_write.specs.Form.{WriteForm, insert_form, update_form, delete_form}
use Rattle.med_exec.specs.Writing.{CanWrite, scans_of, AreRead, Writes, Bars, lacks_memory, source_fails, gives_twice, numbers_end, write_shows, kind_refuses, RefusesWrite}
use Rattle.med_exec.proofs.ChangesFit.{changes_fit}
use Rattle.sql_meaning.specs.Picks.{as_given}
use Rattle.med_world.specs.Engine.{Rises}
use Rattle.med_world.proofs.AnyRows.{all_come}

-- ---- a write that is refused

pulled_rises : (n p : ℕ) → min p (2 ^ 64 - 1) ≤ pulled_after n p
pulled_rises zero p = omega arith
pulled_rises (suc n) p = let h : min p (2 ^ 64 - 1) ≤ pulled_after n p = pulled_rises n p in omega (arith, h)

at_least : (n m : ℕ) → m ≡ n → min n (2 ^ 64 - 1) ≤ m
at_least n m e = omega arith

one_more : (n m : ℕ) → m ≡ bumped n → min n (2 ^ 64 - 1) ≤ m
one_more n m e = omega arith

bars_rise : (columns : List WrittenColumn) (w : WriteForm) (answer : List Tuple) (old : BoxState) (t : ℕ) (fault : Fault) (faults : ℕ) → Bars columns w answer old t fault faults → min old.ledger.faults (2 ^ 64 - 1) ≤ faults
bars_rise columns w answer old t fault faults (lacks_memory is e) = at_least old.ledger.faults faults e
bars_rise columns w answer old t fault faults (source_fails is e) = one_more old.ledger.faults faults e
bars_rise columns w answer old t fault faults (gives_twice is e not) = at_least old.ledger.faults faults e
bars_rise columns w answer old t fault faults (numbers_end is e at) = at_least old.ledger.faults faults e
bars_rise columns w answer old t fault faults (write_shows f read is e are shows) = at_least old.ledger.faults faults e
bars_rise columns w answer old t fault faults (kind_refuses c is e run stands) = at_least old.ledger.faults faults e

-- the box has served, and no more
pub refuses_served : (columns : List WrittenColumn) (w : WriteForm) (answer : List Tuple) (old : BoxState) (t : ℕ) (fault : Fault) (new : BoxState) → RefusesWrite columns w answer old t fault new → ServedAlone old new
refuses_served columns w answer old t fault new r =
    let next_is : new.ledger.next ≡ r.next = ap (λ (l : Ledger). l.next) r.ledger in
    record {
      nature = r.nature;
      tables = ap (λ (l : Ledger). l.tables) r.ledger;
      staged = ap (λ (l : Ledger). l.staged) r.ledger;
      others = ap (λ (l : Ledger). l.live) r.ledger;
      next = subst (λ (n : ℕ). old.ledger.next ≤ n) (sym next_is) r.rises;
      end = λ e. next_is ∙ r.stays e;
      pulled = subst (λ (n : ℕ). min old.ledger.pulled (2 ^ 64 - 1) ≤ n) (sym (ap (λ (l : Ledger). l.pulled) r.ledger)) (pulled_rises r.given old.ledger.pulled);
      faults = subst (λ (n : ℕ). min old.ledger.faults (2 ^ 64 - 1) ≤ n) (sym (ap (λ (l : Ledger). l.faults) r.ledger)) (bars_rise columns w answer old t fault r.faults r.bars);
      coming = λ h q live. (r.leaves h).coming q live (λ x. x);
      rows = λ h u. (r.leaves h).rows u (λ x. x);
      holdings = λ h u. (r.leaves h).holdings u (λ x. x);
    }

-- a fault that was counted is one of the box
pub has_failed : (old new : BoxState) (faults : ℕ) → new.ledger.faults ≡ faults → faults ≡ faults_after Source old.ledger.faults → HasFailed old new
has_failed old new faults e is =
    let n : ℕ = new.ledger.faults in
    let same : new.ledger.faults ≡ min (old.ledger.faults + 1) (2 ^ 64 - 1) = e ∙ is in
    elim (cases_lt new.ledger.faults (2 ^ 64 - 1)) [
      | inl l ↦ inl (let z : new.ledger.faults < 2 ^ 64 - 1 = l in omega (arith, same, z))
      | inr z ↦ inr z
    ]

-- ---- a write that is done

-- what no write changes of a box
pub record KeepsBox (b c : BoxState) : Type 0 where
  pub nature : c.nature ≡ b.nature
  pub tables : c.ledger.tables ≡ b.ledger.tables
  pub live : c.ledger.live ≡ b.ledger.live
  pub staged : c.ledger.staged ≡ b.ledger.staged

pub keeps_itself : (b : BoxState) → KeepsBox b b
keeps_itself b = record { nature = refl; tables = refl; live = refl; staged = refl }

pub written_keeps : (columns : List WrittenColumn) (w : WriteForm) (answer : List Tuple) (old : BoxState) (t count : ℕ) (new : BoxState) → Writes columns w answer old t count new → KeepsBox old new
written_keeps columns w answer old t count new h = record {
  nature = h.nature;
  tables = ap (λ (l : Ledger). l.tables) h.ledger;
  live = ap (λ (l : Ledger). l.live) h.ledger;
  staged = ap (λ (l : Ledger). l.staged) h.ledger;
}

pub written_rises : (columns : List WrittenColumn) (w : WriteForm) (answer : List Tuple) (old : BoxState) (t count : ℕ) (new : BoxState) → Writes columns w answer old t count new → Rises old new
written_rises columns w answer old t count new h = record {
  nature = h.nature;
  next = (let e : new.ledger.next ≡ old.ledger.next + scans_of w = ap (λ (l : Ledger). l.next) h.ledger in omega (arith, e));
  end = h.stays;
  pulled = subst (λ (n : ℕ). min old.ledger.pulled (2 ^ 64 - 1) ≤ n) (sym (ap (λ (l : Ledger). l.pulled) h.ledger)) (pulled_rises h.given old.ledger.pulled);
  faults = (let e : new.ledger.faults ≡ old.ledger.faults = ap (λ (l : Ledger). l.faults) h.ledger in omega (arith, e));
}

-- the rows that are read are of the columns' types
read_typed : (kinds : List ColType) (w : WriteForm) (rows : List TableRow) (read : List GivenRow) → AreRead w rows read → list_all (λ r. row_fits kinds r.cells) rows ≡ true → are_typed kinds read ≡ true
read_typed kinds (insert_form places given) rows read a e = ap (are_typed kinds) a
read_typed kinds (update_form conditions cells) rows read a e = sym (all_kept (λ (r : GivenRow). row_fits kinds r.cells) (all_come rows read a)) ∙ list_all-map (λ (r : GivenRow). row_fits kinds r.cells) as_given rows ∙ e
read_typed kinds (delete_form conditions) rows read a e = sym (all_kept (λ (r : GivenRow). row_fits kinds r.cells) (all_come rows read a)) ∙ list_all-map (λ (r : GivenRow). row_fits kinds r.cells) as_given rows ∙ e

some_staging : (a b : Staging) → Some a ≡ Some b → a ≡ b
some_staging a b e = cc

not_staged : (staging : Staging) (s : Option Staging) → s ≡ None → s ≡ Some staging → ⊥
not_staged staging s a b = absurd cc

still_table : (b c : BoxState) (t : ℕ) (kinds : List ColType) → KeepsBox b c → IsTableOf b t kinds → IsTableOf c t kinds
still_table b c t kinds k h = (h.0, ap (λ (f : ℕ → Option BoxTable). f t) k.tables ∙ h.1, h.2)

pub written_box_sound : (columns : List WrittenColumn) (w : WriteForm) (answer : List Tuple) (old : BoxState) (t count : ℕ) (new : BoxState) → IsSoundBox old → CanWrite old t w answer → Writes columns w answer old t count new → IsSoundBox new
written_box_sound columns w answer old t count new sound can h = record {
  typed = λ honest. (closed (honest_on new old (sym h.nature) honest)).typed honest;
  once = λ honest. (closed (honest_on new old (sym h.nature) honest)).once honest;
  scans = λ q scan is. still_table old new scan.table scan.kinds keeps (sound.scans q scan (sym (ap (λ (m : _). finmap.get m q) keeps.live) ∙ is));
  staged = λ staging is. absurd (not_staged staging new.ledger.staged (keeps.staged ∙ can.can.not_staged) is);
}
  where
    keeps : KeepsBox old new
    keeps = written_keeps columns w answer old t count new h

    staging : Staging
    staging = record { table = t; changes = h.changes; broken = false }

    -- the box just before the end of the write
    now : BoxState
    now = record {
      nature = old.nature;
      ledger = record old.ledger { next = old.ledger.next + scans_of w; pulled = pulled_after h.given old.ledger.pulled; staged = Some staging };
      content = old.content;
    }

    written : is_honest old → Written old staging new
    written honest = h.content honest

    now_sound : is_honest old → IsSoundBox now
    now_sound honest = record {
      typed = sound.typed;
      once = sound.once;
      scans = sound.scans;
      staged = λ s is. typed_staging s is;
    }
      where
        typed_staging : (s : Staging) → Some staging ≡ Some s → (kinds : List ColType) × IsTableOf now s.table kinds × (list_all (row_of_change_fits kinds) s.changes ≡ true)
        typed_staging s is = subst (λ (x : Staging). (kinds : List ColType) × IsTableOf now x.table kinds × (list_all (row_of_change_fits kinds) x.changes ≡ true)) (some_staging staging s is)
            (b.kinds, (b, (written honest).is, refl), fits)
          where
            b : BoxTable
            b = (written honest).bound

            fits : list_all (row_of_change_fits b.kinds) h.changes ≡ true
            fits = ap (list_all (row_of_change_fits b.kinds)) h.are_changes.are
                ∙ changes_fit b.kinds w answer h.read (can.typed b (written honest).is) (read_typed b.kinds w (rows_of old t) h.read (h.are_read honest) (sound.typed honest t b (written honest).is))

    closing : Closes now true new
    closing = record {
      nature = h.nature;
      staging = staging;
      is_staged = refl;
      ledger = h.ledger ∙ ap (λ (s : Option Staging). record old.ledger { next = old.ledger.next + scans_of w; pulled = pulled_after h.given old.ledger.pulled; staged = s }) can.can.not_staged;
      content = λ honest. now_written (written honest);
    }
      where
        now_written : Written old staging new → Written now staging new
        now_written k = record {
          bound = k.bound;
          is = k.is;
          entry = k.entry;
          picked = k.picked;
          no_cause = k.no_cause;
          rows = k.rows;
          once = k.once;
          holdings = k.holdings;
          leaves = record { coming = k.leaves.coming; rows = k.leaves.rows; holdings = k.leaves.holdings };
        }

    closed : is_honest old → IsSoundBox new
    closed honest = closes now new true (now_sound honest) closing
