-- How the form of a query counts the entries of FROM: from 0 on, through the chains of its cores in their order. What it says of their
-- columns.
use Rattle.std.specs.Prelude.{◌≡◌, ℕ, ◌+◌, ◌≤◌, List, ◌∷◌, length, map, flat_map, All, Some, slice_get, slice_index_or}
use Rattle.std.specs.List.{range_with_len}
use Rattle.med_value.specs.Limits.{column_limit}
use Rattle.med_query.specs.Form.{JoinForm, cross_form, inner_form, left_form, ChainForm, CoreForm, Form}
use Rattle.bind_names.specs.Scope.{TableShape}
use Rattle.med_binder.specs.declared.bound.BoundEntry.{BoundEntry}
use Rattle.med_binder.specs.declared.bound.BoundQuery.{BoundQuery}

-- the number of the entry that a join brings
abbrev pub joined_number : JoinForm → ℕ
joined_number (cross_form number) = number
joined_number (inner_form number on) = number
joined_number (left_form number width on) = number

-- the numbers of the entries of a chain, in the order in which they are written
abbrev pub chain_numbers : ChainForm → List ℕ
chain_numbers c = c.first ∷ map joined_number c.joins

-- a LEFT JOIN says how many columns its entry brings
abbrev pub SaysWidth : List ℕ → JoinForm → Type 0
SaysWidth ws (cross_form number) = Unit {0}
SaysWidth ws (inner_form number on) = Unit {0}
SaysWidth ws (left_form number width on) = slice_get ws number ≡ Some width

-- the numbers of the entries of a core
abbrev pub core_numbers : CoreForm → List ℕ
core_numbers f = flat_map chain_numbers f.from

-- A core counts its entries one after another, each once, from a number on. They are among these, which bring so many columns each
-- (SQL:2016, <from clause>).
pub record CoreCounts (ws : List ℕ) (f : CoreForm) : Type 0 where
  pub first : ℕ
  pub numbers : core_numbers f ≡ range_with_len first (length (core_numbers f))
  pub among : first + length (core_numbers f) ≤ length ws
  pub widths : All (λ (c : ChainForm). All (SaysWidth ws) c.joins) f.from

-- the entries are those of the cores, one core after another, each once
pub record FormCounts (ws : List ℕ) (f : Form) : Type 0 where
  pub numbers : flat_map core_numbers f.cores ≡ range_with_len 0 (length ws)
  pub cores : All (CoreCounts ws) f.cores

-- how many columns each entry of a core brings, of all these
abbrev pub core_widths : List ℕ → CoreForm → List ℕ
core_widths ws f = map (λ (number : ℕ). slice_index_or ws number 0) (core_numbers f)

-- how many columns the entries of a bound query have
abbrev pub bound_widths : BoundQuery → List ℕ
bound_widths b = map (λ (e : BoundEntry). e.width) b.entries.items

-- no table has more columns than a foreign table may have
abbrev pub AreNarrow : List TableShape → Type 0
AreNarrow = All (λ (t : TableShape). length t.columns ≤ column_limit)
