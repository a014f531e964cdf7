-- Which queries' rows can be shown as they are joined.
use Rattle.std.specs.Prelude.{◌≡◌, ℕ, false, [], ◌∷◌, None}
use Rattle.med_query.specs.Form.{CoreForm, Form}

-- One core that does not group, order or leave out equal rows: OFFSET and LIMIT it may have.
pub record IsPlainForm (f : Form) : Type 0 where
  pub core : CoreForm
  pub alone : f.cores ≡ core ∷ []
  pub ungrouped : core.group ≡ None
  pub all_rows : core.distinct ≡ false
  pub keys : core.keys ≡ []
  pub unordered : f.directions ≡ []

-- SELECT items FROM one table, and no more: every row is shown, from the first on. LIMIT it may have.
pub record IsBareForm (f : Form) : Type 0 where
  pub plain : IsPlainForm f
  pub table : ℕ
  pub from : plain.core.from ≡ record { first = table; joins = [] } ∷ []
  pub all_kept : plain.core.conditions ≡ []
  pub at_first : f.offset ≡ 0
