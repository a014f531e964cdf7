-- What the catalogue says of a table that it lets pass.
use Rattle.std.proofs.Common.{◌≡◌, ℕ, suc, ◌||◌, Bool, true, false, List, [], ◌∷◌, bytes_eq, refl, ap, sym, ◌∙◌, arith, true≢false}
use Rattle.std.proofs.lemmas.Slice.Eq.{bytes_eq-Decides}
use Rattle.med_value.specs.declared.cause.Cause.{Cause}
use Rattle.med_syntax.specs.DdlTree.{TableTree}
use Rattle.med_catalog.specs.Prelude.{Objects, shares_member, CauseRow, Stands, create_table_rows, are_options_unknown, are_texts_bad, AreClear}
use Rattle.med_catalog.specs.declared.kind.SourceKind.{SourceKind}

pub or_left : (a b : Bool) → (a || b) ≡ false → a ≡ false
or_left true b e = e
or_left false b e = refl

pub or_right : (a b : Bool) → (a || b) ≡ false → b ≡ false
or_right true b e = absurd (true≢false e)
or_right false b e = e

-- texts are compared either way round
pub bytes_sym : (x y : List ℕ) → bytes_eq x y ≡ bytes_eq y x
bytes_sym x y = by (bytes_eq x y) (bytes_eq y x) refl refl
  where
    by : (a b : Bool) → bytes_eq x y ≡ a → bytes_eq y x ≡ b → bytes_eq x y ≡ bytes_eq y x
    by true b p q = p ∙ sym ((bytes_eq-Decides y x).1 (sym ((bytes_eq-Decides x y).0 p)))
    by false true p q = (bytes_eq-Decides x y).1 (sym ((bytes_eq-Decides y x).0 q)) ∙ sym q
    by false false p q = p ∙ sym q

not_true : (b : Bool) → (b ≡ true → ⊥) → b ≡ false
not_true true never = absurd (never refl)
not_true false never = refl

-- where no cause stands, no row does
pub all_clear : (rows : List CauseRow) → ((c : Cause) → Stands rows c → ⊥) → AreClear rows
all_clear [] none = tt
all_clear (r ∷ rs) none = (
  not_true r.0 (λ e. none r.1 (0, omega arith, ap (λ (b : Bool). (b, r.1)) e)),
  all_clear rs (λ c stands. none c (suc stands.0, omega (arith, stands.1), stands.2)),
)

module _ (o : Objects) (kind : SourceKind) (t : TableTree) (none : (c : Cause) → Stands (create_table_rows o kind t) c → ⊥) where
  rows_clear : AreClear (create_table_rows o kind t)
  rows_clear = all_clear (create_table_rows o kind t) none

  pub members_once : shares_member kind t.columns ≡ false
  members_once = rows_clear.1.1.1.0

  pub options_known : are_options_unknown kind t.options t.columns ≡ false
  options_known = rows_clear.1.1.1.1.1.0

  pub texts_good : are_texts_bad kind t.options t.columns ≡ false
  texts_good = rows_clear.1.1.1.1.1.1.1.0
