-- How the calls of one scan go together, with the ids and the types of its rows.
use Rattle.std.proofs.Common.{◌≡◌, inl, ℕ, Bool, true, false, cond, List, [], ◌∷◌, ◌++◌, Some, Result, Ok, Err, IfOk, IfErr, IsSome, refl, ap, sym, ◌∙◌, subst, append_assoc, arith, rules}
use Rattle.std.specs.Ordering.{nat_cmp}
use Rattle.std.specs.FinMap as finmap
use Rattle.std.specs.FinMap.{gets}
use Rattle.std.proofs.lemmas.List.{append-nil, map-append}
use Rattle.std.proofs.lemmas.List.Folds.{list_all-append}
use Rattle.std.proofs.lemmas.Option.{same_Some}
use Rattle.med_value.specs.Datum.{Tuple}
use Rattle.med_value.specs.declared.value.ColType.{ColType}
use Rattle.fdw_api.specs.Prelude.{GivenRow, Spec, IsComing, row_fits, cells_fit, shown_fits, BoxTable, Scan, BoxState, is_honest, scan_of, rows_of, IsOpen, GivesRow, GivesNone, Begins, Ends, new_scan}
use Rattle.fdw_api.specs.declared.interface.Fault.{Fault}
use Rattle.fdw_api.specs.declared.interface.Fault.TheVariants.{NoMemory}
use Rattle.tri_expr.specs.Tree.{Tree}
use Rattle.med_write.specs.Making.{cells_of}
use Rattle.med_exec.specs.Reading.{StopsBy}
use Rattle.med_exec.specs.Scanning.{FailsScan}
use Rattle.med_exec.proofs.Served.{honest_on}
use Rattle.med_exec.proofs.ScanLemmas.{HasGiven, start, more, done, reads}
use Rattle.med_exec.specs.WriteReading.{are_typed, OffersWhere, ReadsWhole, GivesRows, ReadsTable}

-- the scan has given these rows, and is good for more
pub record HasRows (n : ℕ) (old : BoxState) (given : List GivenRow) (s : BoxState) : Type 0 where
  pub scanned : HasGiven n old (cells_of given) s
  pub coming : is_honest old → old.content.coming n ≡ given ++ s.content.coming n
  pub shaped : (kinds : List ColType) → ReadsWhole old n kinds → ReadsWhole s n kinds × (are_typed kinds given ≡ true)

get_same : {X : Type 0} (m : finmap.FinMap nat_cmp X) (k : ℕ) (v : X) → finmap.get (finmap.insert m k v) k ≡ Some v
get_same m k v = grind (gets, rules)

pub start_rows : (n : ℕ) (s : BoxState) → IsOpen s n → HasRows n s [] s
start_rows n s o = record { scanned = start n s o; coming = λ h. refl; shaped = λ kinds r. (r, refl) }

row_typed : (n : ℕ) (s new : BoxState) (row : GivenRow) (g : GivesRow s n row new) (kinds : List ColType) → ReadsWhole s n kinds → row_fits kinds row.cells ≡ true
row_typed n s new row g kinds r =
    let q : (g.scan.kinds ≡ kinds) × (g.scan.spec.narrow ≡ false) = r g.scan g.at in
    let one : shown_fits kinds g.scan.spec row.cells ≡ true = subst (λ (ks : List ColType). shown_fits ks g.scan.spec row.cells ≡ true) q.0 g.typed in
    subst (λ (b : Bool). cond b (cells_fit kinds g.scan.spec.wanted row.cells) (row_fits kinds row.cells) ≡ true) q.1 one

shape_more : (n : ℕ) (s new : BoxState) (row : GivenRow) (g : GivesRow s n row new) (kinds : List ColType) → ReadsWhole s n kinds → ReadsWhole new n kinds
shape_more n s new row g kinds r = λ scan at.
    let now : scan_of new n ≡ Some (record g.scan { left = g.left }) = ap (λ z. finmap.get z.live n) g.ledger ∙ get_same s.ledger.live n _ in
    let same : record g.scan { left = g.left } ≡ scan = same_Some _ _ (sym now ∙ at) in
    let q : (g.scan.kinds ≡ kinds) × (g.scan.spec.narrow ≡ false) = r g.scan g.at in
    (sym (ap (λ (z : Scan). z.kinds) same) ∙ q.0, sym (ap (λ (z : Scan). z.spec.narrow) same) ∙ q.1)

typed_more : (kinds : List ColType) (given : List GivenRow) (row : GivenRow) → are_typed kinds given ≡ true → row_fits kinds row.cells ≡ true → are_typed kinds (given ++ row ∷ []) ≡ true
typed_more kinds given row a b = list_all-append (λ (r : GivenRow). row_fits kinds r.cells) given (row ∷ []) ∙ rw (a, b) refl

pub more_rows : (n : ℕ) (old s new : BoxState) (given : List GivenRow) (row : GivenRow) → HasRows n old given s → GivesRow s n row new → HasRows n old (given ++ row ∷ []) new
more_rows n old s new given row h g = record {
  scanned = subst (λ (ts : List Tuple). HasGiven n old ts new) (sym (map-append (λ (r : GivenRow). r.cells) given (row ∷ []))) (more n old s new (cells_of given) row h.scanned g);
  coming = λ honest. h.coming honest ∙ ap (λ (l : List GivenRow). given ++ l) (g.coming (honest_on old s h.scanned.keeps.nature honest)) ∙ sym (append_assoc given (row ∷ []) (new.content.coming n));
  shaped = λ kinds r.
      let p : ReadsWhole s n kinds × (are_typed kinds given ≡ true) = h.shaped kinds r in
      (shape_more n s new row g kinds p.0, typed_more kinds given row p.1 (row_typed n s new row g kinds p.0));
}

pub done_rows : (n : ℕ) (old s new : BoxState) (given : List GivenRow) → HasRows n old given s → GivesNone s n new → (kinds : List ColType) → ReadsWhole old n kinds → GivesRows n kinds old given new
done_rows n old s new given h g kinds r = record {
  all = done n old s new (cells_of given) h.scanned g;
  coming = λ honest. h.coming honest ∙ ap (λ (l : List GivenRow). given ++ l) (g.coming (honest_on old s h.scanned.keeps.nature honest)) ∙ append-nil given;
  typed = (h.shaped kinds r).1;
}

-- a scan that was just begun, by the conjuncts of WHERE
module _ (t n width : ℕ) (conditions : List Tree) (spec : Spec) (offers : OffersWhere width conditions spec) (old begun : BoxState) (b : Begins old t spec [] n begun) where
  begun_whole : ReadsWhole begun n b.bound.kinds
  begun_whole = λ scan at.
      let now : scan_of begun n ≡ Some (new_scan t b.bound.kinds spec [] b.left) = ap (λ z. finmap.get z.live n) b.ledger ∙ get_same old.ledger.live n _ in
      let same : new_scan t b.bound.kinds spec [] b.left ≡ scan = same_Some _ _ (sym now ∙ at) in
      (sym (ap (λ (z : Scan). z.kinds) same), sym (ap (λ (z : Scan). z.spec.narrow) same) ∙ offers.whole)

  reads_table : (last new : BoxState) (given : List GivenRow) → GivesRows n b.bound.kinds begun given last → Ends last n new → ReadsTable conditions old t given new
  reads_table last new given g e = record {
    width = width;
    spec = spec;
    offers = offers;
    runs = reads t n spec old begun last new (cells_of given) b g.all e;
    coming = λ h. subst (IsComing (rows_of old t) spec []) (g.coming (honest_on old begun b.nature h)) (b.coming h);
    typed = λ bound is. subst (λ (z : BoxTable). are_typed z.kinds given ≡ true) (same_Some b.bound bound (sym b.is ∙ is)) g.typed;
  }

  pub ok_table : {T : Type 0} (rows : T → List GivenRow) (last new : BoxState) (r : Result T Fault) → IfOk r (λ x. (kinds : List ColType) → ReadsWhole begun n kinds → GivesRows n kinds begun (rows x) last) → Ends last n new → IfOk r (λ x. ReadsTable conditions old t (rows x) new)
  ok_table rows last new (Ok x) g e = reads_table last new (rows x) (g b.bound.kinds begun_whole) e
  ok_table rows last new (Err f) g e = tt

  -- the scan is live still
  pub live_still : {T : Type 0} (rows : T → List GivenRow) (last : BoxState) (r : Result T Fault) → IfOk r (λ x. (kinds : List ColType) → ReadsWhole begun n kinds → GivesRows n kinds begun (rows x) last) → IfErr r (λ f. StopsBy n f begun last) → IsSome (scan_of last n)
  live_still rows last (Ok x) g s = let now = (g b.bound.kinds begun_whole).all.now in rw now (search rules)
  live_still rows last (Err f) g s = let now = s.now in rw now (search rules)

-- no scan was begun, for want of memory
pub none_begun : (s : BoxState) → FailsScan NoMemory s s
none_begun s = record {
  nature = refl;
  next = s.ledger.next;
  rises = omega arith;
  stays = λ e. e;
  keeps = λ e. omega arith;
  given = 0;
  once = inl refl;
  ledger = refl;
  leaves = λ h. record { coming = λ q live k. refl; rows = λ u k. refl; holdings = λ r k. refl };
  cause = tt;
}
