-- A row that a scan gave is in its table, and may be deleted after the scan.
use Rattle.std.proofs.Common.{◌≡◌, ◌≢◌, ℕ, ◌⊎◌, eqb, nat_eq, Bool, true, false, ◌||◌, List, [], ◌∷◌, ◌++◌, map, Result, Ok, Err, IfOk, IfErr, Option, Some, None, IsSome, refl, ap, sym, ◌∙◌, subst, rules, inl, inr}
use Rattle.std.specs.Ordering.{nat_cmp}
use Rattle.std.specs.FinMap as finmap
use Rattle.std.specs.FinMap.{gets}
use Rattle.std.specs.List.{list_any}
use Rattle.std.proofs.lemmas.Bool.Decides.{eqb_tells}
use Rattle.std.proofs.lemmas.List.Sorted.{list_any-IsPermutation}
use Rattle.med_value.specs.Datum.{Tuple}
use Rattle.fdw_api.specs.Prelude.{Spec, GivenRow, TableRow, IsComing, given_row, restriction_form, params_fit, Deletes, BoxTable, Scan, BoxState, Nature, is_honest, table_of, scan_of, rows_of, Begins, IsOpen, Iterates, Breaks, Ends, CanRescan, CanModify, Opens, CanChange, has_id}
use Rattle.fdw_api.specs.declared.scan.Restriction.{Restriction}
use Rattle.med_value.specs.declared.value.ColType.{ColType}
use Rattle.fdw_api.specs.declared.interface.Fault.{Fault}
use Rattle.fdw_api.specs.declared.interface.SourceRow.{SourceRow}
use Rattle.fdw_api.proofs.Unpromised.{all_first}
use Rattle.probe_wrapper.proofs.CallLemmas.{open_is_live}
use Rattle.wrapper_tests.proofs.CallLemmas.{given_is_open, given_keeps, given_tables, begun_keeps, broken_is_live}

same_number : (n : ℕ) → nat_eq n n ≡ true
same_number n = at (eqb_tells n n)
  where
    at : ((eqb n n ≡ true) × (n ≡ n)) ⊎ ((eqb n n ≡ false) × (n ≢ n)) → nat_eq n n ≡ true
    at (inl w) = w.0
    at (inr w) = absurd (w.1 refl)

or_first : (b c : Bool) → b ≡ true → (b || c) ≡ true
or_first true c e = refl
or_first false c e = absurd cc

-- the first row to come is in the table, where no limit is promised
coming_is_there : (rows : List TableRow) (spec : Spec) (params : Tuple) (row : GivenRow) (rest : List GivenRow) → IsComing rows spec params (row ∷ rest) → spec.limit ≡ None → has_id rows row.id ≡ true
coming_is_there rows spec params row rest c all = list_any-IsPermutation (λ r. nat_eq row.id r.id) rows (c.taken ++ c.left_out) c.parts ∙ go c.taken (c.is ∙ ap (map (given_row spec)) (all_first spec.limit all c.taken))
  where
    go : (taken : List TableRow) → row ∷ rest ≡ map (given_row spec) taken → list_any (λ r. nat_eq row.id r.id) (taken ++ c.left_out) ≡ true
    go [] e = absurd cc
    go (x ∷ xs) e =
        let same : row ≡ given_row spec x = cc in
        or_first (nat_eq row.id x.id) _ (subst (λ (k : ℕ). nat_eq row.id k ≡ true) (ap (λ (z : GivenRow). z.id) same) (same_number row.id))

taken_same : (m : finmap.FinMap nat_cmp Scan) (k : ℕ) → finmap.get (finmap.remove m k) k ≡ None
taken_same m k = grind (gets, rules)

taken_other : (m : finmap.FinMap nat_cmp Scan) (k q : ℕ) → q ≢ k → finmap.get (finmap.remove m k) q ≡ finmap.get m q
taken_other m k q ne = grind (gets, rules)

not_none : (o : Option Scan) (x : Scan) → o ≡ None → o ≡ Some x → ⊥
not_none o x e f = absurd cc

-- after the scan the table may be written as before
pub can_modify_still : (old begun given ended : BoxState) (t : ℕ) (spec : Spec) (params : Tuple) (n : ℕ) (row : Option SourceRow) → CanModify old t → Begins old t spec params n begun → Iterates begun n row given → Ends given n ended → CanModify ended t
can_modify_still old begun given ended t spec params n row can b g e = record {
  is_bound = subst IsSome (sym (ap (λ z. z.tables t) e.ledger ∙ given_tables begun given n t row g ∙ ap (λ z. z.tables t) b.ledger)) can.is_bound;
  no_scan = λ q scan is. at q scan is (eqb_tells q n);
  not_staged = ap (λ z. z.staged) e.ledger ∙ staged row g ∙ ap (λ z. z.staged) b.ledger ∙ can.not_staged;
}
  where
    staged : (row : Option SourceRow) → Iterates begun n row given → given.ledger.staged ≡ begun.ledger.staged
    staged None g = ap (λ z. z.staged) g.ledger
    staged (Some r) g = ap (λ z. z.staged) g.ledger

    at : (q : ℕ) (scan : Scan) → scan_of ended q ≡ Some scan → ((eqb q n ≡ true) × (q ≡ n)) ⊎ ((eqb q n ≡ false) × (q ≢ n)) → scan.table ≢ t
    at q scan is (inl w) = absurd (not_none (scan_of ended q) scan (ap (λ z. finmap.get z.live q) e.ledger ∙ ap (finmap.get (finmap.remove given.ledger.live n)) w.1 ∙ taken_same given.ledger.live n) is)
    at q scan is (inr w) =
        can.no_scan q scan
        (sym (begun_keeps old begun t spec params n q b w.1) ∙ sym (given_keeps begun given n q row g w.1) ∙ sym (ap (λ z. finmap.get z.live q) e.ledger ∙ taken_other given.ledger.live n q w.1) ∙ is)

-- and the row that was given may be deleted
pub can_delete_given : (old begun given ended opened : BoxState) (t : ℕ) (spec : Spec) (params : Tuple) (n : ℕ) (row : SourceRow) → CanModify ended t → Begins old t spec params n begun → Iterates begun n (Some row) given → Ends given n ended → Opens ended t opened → spec.limit ≡ None → CanChange opened (Deletes row.id.number)
can_delete_given old begun given ended opened t spec params n row can b g e o all = at_table (table_of ended t) refl can.is_bound
  where
    back : (s u : BoxState) → u.nature ≡ s.nature → is_honest u → is_honest s
    back s u same h = ap (λ (x : Nature). x.honest) (sym same) ∙ h

    there : is_honest opened → has_id (rows_of opened t) row.id.number ≡ true
    there h =
        let h_ended = back ended opened o.nature h in
        let h_given = back given ended e.nature h_ended in
        let h_begun = back begun given g.nature h_given in
        let h_old = back old begun b.nature h_begun in
        let same : rows_of opened t ≡ rows_of old t = (o.leaves h_ended).rows t (λ x. x) ∙ (e.leaves h_given).rows t (λ x. x) ∙ (g.leaves h_begun).rows t (λ x. x) ∙ (b.leaves h_old).rows t (λ x. x) in
        ap (λ (l : List TableRow). has_id l row.id.number) same
        ∙ coming_is_there (rows_of old t) spec params _ _ (subst (λ (l : List GivenRow). IsComing (rows_of old t) spec params l) (g.coming h_begun) (b.coming h_old)) all

    at_table : (x : Option BoxTable) → table_of ended t ≡ x → IsSome x → CanChange opened (Deletes row.id.number)
    at_table None is some = absurd cc
    at_table (Some bound) is some = record {
      staging = _;
      is_staged = ap (λ z. z.staged) o.ledger;
      whole = refl;
      bound = bound;
      is = ap (λ z. z.tables t) o.ledger ∙ is;
      fits = refl;
      there = there;
      once = refl;
    }

-- a scan is live after each answer
pub live_still : (old new : BoxState) (n : ℕ) (r : Result (Option SourceRow) Fault) → IsOpen old n → IfOk r (λ row. Iterates old n row new) → IfErr r (λ fault. Breaks old n fault new) → IsSome (scan_of new n)
live_still old new n (Ok row) o g b = open_is_live new n (given_is_open old new n row g o)
live_still old new n (Err fault) o g b = broken_is_live old new n fault b

put_same : (m : finmap.FinMap nat_cmp Scan) (k : ℕ) (v : Scan) → finmap.get (finmap.insert m k v) k ≡ Some v
put_same m k v = grind (gets, rules)

-- a scan begun by some parameters may begin again by others that fit
pub begun_can_rescan_by : (old new : BoxState) (t : ℕ) (spec : Spec) (params others : Tuple) (n : ℕ) → ((bound : BoxTable) → table_of old t ≡ Some bound → params_fit bound.kinds spec.offered others ≡ true) → IsSome (table_of old t) → Begins old t spec params n new → CanRescan new n others
begun_can_rescan_by old new t spec params others n fit is b = at_table (table_of old t) refl is
  where
    at_table : (o : Option BoxTable) → table_of old t ≡ o → IsSome o → CanRescan new n others
    at_table None e is = absurd cc
    at_table (Some bound) e is = record {
      scan = _;
      at = ap (λ z. finmap.get z.live n) b.ledger ∙ put_same old.ledger.live n _;
      whole = refl;
      bound = bound;
      is = ap (λ z. z.tables t) b.ledger ∙ e;
      typed = fit bound e;
    }

-- parameters fit restrictions that are known
pub typed_by : (kinds own : List ColType) (offered given : List Restriction) (params : Tuple) → kinds ≡ own → offered ≡ given → params_fit own (map restriction_form given) params ≡ true → params_fit kinds (map restriction_form offered) params ≡ true
typed_by kinds own offered given params k o e = ap (λ (x : List ColType). params_fit x (map restriction_form offered) params) k ∙ ap (λ (l : List Restriction). params_fit own (map restriction_form l) params) o ∙ e
