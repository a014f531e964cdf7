-- Boxes that served a query may be asked for a write as before.
use Rattle.std.proofs.Common.{◌≡◌, ◌∙◌, ℕ, List, Option, Some, slice_get, ap, sym, subst, nat_eq, map, true}
use Rattle.std.specs.List.{list_all, IsDistinct}
use Rattle.std.specs.FinMap as finmap
use Rattle.med_value.specs.declared.value.ColType.{ColType}
use Rattle.fdw_api.specs.Prelude.{kinds_of, TableRow, row_fits, BoxState, BoxTable, is_honest, table_of, IsTableOf, IsSoundBox}
use Rattle.med_exec.specs.Running.{AllServed, none_held}
use Rattle.med_exec.proofs.Served.{ServedAlone, after_service, before_service, box_inj}
use Rattle.med_syntax.specs.WriteTree.{WriteTree}
use Rattle.med_catalog.specs.Objects.{Objects}
use Rattle.med_binder.specs.Places.{Attached}
use Rattle.med_statements.specs.ReadyWrites.{IsReady, IsUnread}

was_there : (old new : List (Option BoxState)) → AllServed old new → (i : ℕ) (c : BoxState) → slice_get new i ≡ Some (Some c) → (b : BoxState) × (slice_get old i ≡ Some (Some b)) × ServedAlone b c
was_there old new h i c at =
    let x = before_service none_held none_held old new i c h at in
    (x.before, x.was, subst (λ (z : BoxState). ServedAlone x.before z) (box_inj x.after c (sym x.is ∙ at)) x.served)

is_there : (old new : List (Option BoxState)) → AllServed old new → (i : ℕ) (b : BoxState) → slice_get old i ≡ Some (Some b) → (c : BoxState) × (slice_get new i ≡ Some (Some c)) × ServedAlone b c
is_there old new h i b at =
    let x = after_service none_held none_held old new i b h at in
    (x.after, x.is, subst (λ (z : BoxState). ServedAlone z x.after) (box_inj x.before b (sym x.was ∙ at)) x.served)

honest_before : (b c : BoxState) → ServedAlone b c → is_honest c → is_honest b
honest_before b c k h = ap (λ n. n.honest) (sym k.nature) ∙ h

table_before : (b c : BoxState) (t : ℕ) (x : BoxTable) → ServedAlone b c → table_of c t ≡ Some x → table_of b t ≡ Some x
table_before b c t x k is = sym (ap (λ f. f t) k.tables) ∙ is

still_table : (b c : BoxState) (t : ℕ) (kinds : List ColType) → ServedAlone b c → IsTableOf b t kinds → IsTableOf c t kinds
still_table b c t kinds k w = (w.0, ap (λ f. f t) k.tables ∙ w.1, w.2)

sound_served : (b c : BoxState) → ServedAlone b c → IsSoundBox b → IsSoundBox c
sound_served b c k h = record {
  typed = λ honest t x is. subst (λ (rs : List TableRow). list_all (λ r. row_fits x.kinds r.cells) rs ≡ true) (sym (k.rows (honest_before b c k honest) t)) (h.typed (honest_before b c k honest) t x (table_before b c t x k is));
  once = λ honest t x is. subst (λ (rs : List TableRow). IsDistinct nat_eq (map (λ r. r.id) rs)) (sym (k.rows (honest_before b c k honest) t)) (h.once (honest_before b c k honest) t x (table_before b c t x k is));
  scans = λ q scan is. still_table b c scan.table scan.kinds k (h.scans q scan (sym (ap (λ m. finmap.get m q) k.others) ∙ is));
  staged = λ staging is. let w = h.staged staging (sym k.staged ∙ is) in (w.0, still_table b c staging.table w.0 k w.1, w.2);
}

pub ready_served : (o : Objects) (bound : List Attached) (old new : List (Option BoxState)) → AllServed old new → IsReady o bound old → IsReady o bound new
ready_served o bound old new h ready = record {
  unstaged = λ i c at. let b = was_there old new h i c at in b.2.staged ∙ ready.unstaged i b.0 b.1;
  sound = λ i c at. let b = was_there old new h i c at in sound_served b.0 c b.2 (ready.sound i b.0 b.1);
  tables = λ k t a at_t at_a. let x = ready.tables k t a at_t at_a in let n = is_there old new h a.source x.box x.there in record { box = n.0; there = n.1; holds = still_table x.box n.0 a.number (kinds_of t.columns) n.2 x.holds };
}

pub unread_served : (o : Objects) (bound : List Attached) (t : WriteTree) (old new : List (Option BoxState)) → AllServed old new → IsUnread o bound t old → IsUnread o bound t new
unread_served o bound t old new h none at c target there q scan live =
    let b = was_there old new h at.source c there in
    none at b.0 target b.1 q scan (sym (ap (λ m. finmap.get m q) b.2.others) ∙ live)
