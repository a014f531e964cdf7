-- How the calls of a wrapper go together.
use Rattle.std.proofs.Common.{◌≡◌, ℕ, List, [], ◌∷◌, Option, Some, None, IsSome, Result, Ok, Err, IfOk, IfErr, OnOk, refl, ap, sym, ◌∙◌, subst, rules}
use Rattle.std.specs.Ordering.{nat_cmp}
use Rattle.std.specs.FinMap as finmap
use Rattle.std.specs.FinMap.{gets}
use Rattle.std.proofs.lemmas.Option.{same_Some}
use Rattle.med_value.specs.Datum.{Chars, Tuple}
use Rattle.med_value.specs.declared.value.ColType.{ColType}
use Rattle.fdw_api.specs.Prelude.{RestrictionForm, Spec, params_fit, Column, OptionForm, kinds_of, BoxState, Scan, table_of, scan_of, set_at, Binds, Begins, Iterates, Breaks, CanRescan, Rescans}
use Rattle.fdw_api.specs.declared.interface.Fault.{Fault}
use Rattle.fdw_api.specs.declared.interface.SourceRow.{SourceRow}
use Rattle.tab_tests.specs.Tabs.{texts}
use Rattle.tab_tests.specs.Going.{IsGoing, IsTabTable, by_name}

put_same : {X : Type 0} (m : finmap.FinMap nat_cmp X) (k : ℕ) (v : X) → finmap.get (finmap.insert m k v) k ≡ Some v
put_same m k v = grind (gets, rules)

set_same : {X : Type 0} (f : ℕ → X) (k : ℕ) (x : X) → set_at f k x k ≡ x
set_same f k x = search rules

some_is : {X : Type 0} (o : Option X) (x : X) → o ≡ Some x → IsSome o
some_is o x e = subst IsSome (sym e) refl

-- what is bound is a table of its columns
pub bound_is_table : (old new : BoxState) (remote : List ℕ) (columns : List Column) (settings : List OptionForm) (t : ℕ)
    → Binds old remote columns settings t new → kinds_of columns ≡ texts 2 → IsTabTable new t
bound_is_table old new remote columns settings t b e =
    (b.bound, ap (λ z. z.tables t) b.ledger ∙ set_same old.ledger.tables t (Some b.bound), b.kinds_are ∙ e)

-- a scan that fails is still live
pub broken_is_live : (old new : BoxState) (n : ℕ) (fault : Fault) → Breaks old n fault new → IsSome (scan_of new n)
broken_is_live old new n fault b = some_is _ _ (ap (λ z. finmap.get z.live n) b.ledger ∙ put_same old.ledger.live n _)

-- a scan that was begun goes on
pub begun_goes_on : (old new : BoxState) (t : ℕ) (spec : Spec) (params : Tuple) (n : ℕ) → IsTabTable old t → spec.offered ≡ by_name
    → Begins old t spec params n new → IsGoing new n
begun_goes_on old new t spec params n p asked b = record {
  scan = _;
  at = ap (λ z. finmap.get z.live n) b.ledger ∙ put_same old.ledger.live n _;
  whole = refl;
  asked = asked;
  bound = p.0;
  is = ap (λ z. z.tables t) b.ledger ∙ p.1;
  typed = p.2;
}

-- it goes on as it gives a row, or none
pub given_goes_on : (old new : BoxState) (n : ℕ) (row : Option SourceRow) → Iterates old n row new → IsGoing old n → IsGoing new n
given_goes_on old new n None g c = record {
  scan = c.scan;
  at = ap (λ z. finmap.get z.live n) g.ledger ∙ c.at;
  whole = c.whole;
  asked = c.asked;
  bound = c.bound;
  is = ap (λ z. z.tables c.scan.table) g.ledger ∙ c.is;
  typed = c.typed;
}
given_goes_on old new n (Some row) g c =
    let same : g.scan ≡ c.scan = same_Some g.scan c.scan (sym g.at ∙ c.at) in
    record {
      scan = record c.scan { left = g.left };
      at = ap (λ z. finmap.get z.live n) g.ledger ∙ put_same old.ledger.live n _ ∙ ap (λ (z : Scan). Some (record z { left = g.left })) same;
      whole = c.whole;
      asked = c.asked;
      bound = c.bound;
      is = ap (λ z. z.tables c.scan.table) g.ledger ∙ c.is;
      typed = c.typed;
    }

-- and as it begins again
pub again_goes_on : (old new : BoxState) (n : ℕ) (params : Tuple) → Rescans old n params new → IsGoing old n → IsGoing new n
again_goes_on old new n params r c =
    let same : r.scan ≡ c.scan = same_Some r.scan c.scan (sym r.at ∙ c.at) in
    record {
      scan = _;
      at = ap (λ z. finmap.get z.live n) r.ledger ∙ put_same old.ledger.live n _;
      whole = refl;
      asked = ap (λ (z : Scan). z.spec.offered) same ∙ c.asked;
      bound = c.bound;
      is = ap (λ z. z.tables r.scan.table) r.ledger ∙ ap (λ (z : Scan). table_of old z.table) same ∙ c.is;
      typed = c.typed;
    }

pub going_is_live : (s : BoxState) (n : ℕ) → IsGoing s n → IsSome (scan_of s n)
going_is_live s n g = some_is _ _ g.at

pub going_can_rescan : (s : BoxState) (n : ℕ) (name : List ℕ) → IsGoing s n → CanRescan s n (Chars name ∷ [])
going_can_rescan s n name g = record {
  scan = g.scan;
  at = g.at;
  whole = g.whole;
  bound = g.bound;
  is = g.is;
  typed =
      ap (λ (k : List ColType). params_fit k g.scan.spec.offered (Chars name ∷ [])) g.typed
      ∙ ap (λ (o : List RestrictionForm). params_fit (texts 2) o (Chars name ∷ [])) g.asked;
}

-- what follows of what a call ensures
pub ok_gives : {T E : Type 0} (r : Result T E) (P Q : T → Type 0) → ((x : T) → P x → Q x) → IfOk r P → IfOk r Q
ok_gives (Ok x) P Q f p = f x p
ok_gives (Err e) P Q f p = tt

pub on_ok_gives : {T E : Type 0} (r : Result T E) (P : T → Type 0) (Q : Type 0) → ((x : T) → P x → Q) → IfOk r P → OnOk r Q
on_ok_gives (Ok x) P Q f p = f x p
on_ok_gives (Err e) P Q f p = tt

pub either_gives : {T E : Type 0} (r : Result T E) (P : T → Type 0) (B : E → Type 0) (Q : Type 0) → ((x : T) → P x → Q)
    → ((e : E) → B e → Q) → IfOk r P → IfErr r B → Q
either_gives (Ok x) P B Q f g p b = f x p
either_gives (Err e) P B Q f g p b = g e b

pub on_ok_any : {T E P : Type 0} (r : Result T E) → P → OnOk r P
on_ok_any (Ok x) p = p
on_ok_any (Err e) p = tt
