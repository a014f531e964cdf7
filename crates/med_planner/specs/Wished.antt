-- What is wished of the scans of a query: the order of its rows, and how many of them are enough.
use Rattle.std.specs.Prelude.{◌≡◌, ℕ, ◌+◌, ◌^◌, Bool, not, ◌&&◌, if◌then◌else◌, nat_lt, List, [], ◌∷◌, map, Option, Some, None}
use Rattle.std.specs.List.{list_all}
use Rattle.std.specs.Option.{is_some}
use Rattle.tri_expr.specs.Tree.{tree}
use Rattle.med_query.specs.Form.{direction_of}
use Rattle.med_query.specs.declared.select.SelectCore.{SelectCore}
use Rattle.med_query.specs.declared.select.Select.{Select}
use Rattle.fdw_api.specs.Prelude.{KeyForm, WishForm, spec2_of}
use Rattle.scan_loops.specs.declared.levels.LoopLevel.{LoopLevel}
use Rattle.scan_loops.specs.Prelude.{order_of, ComesInOrder, all_safe}
use Rattle.med_planner.specs.Offered.{OfferForm}

-- nothing is wished
abbrev pub no_wish : WishForm
no_wish = record { order = []; limit = None }

-- a core's rows can be shown as they come: it does not group or leave out equal rows, and no part of it may fault
abbrev pub is_shown_core : SelectCore → Bool
is_shown_core c = all_safe c.conditions.items && (not (is_some c.grouping) && (all_safe c.items.items && not c.distinct))

-- the rows that OFFSET leaves out, with as many as LIMIT lets through; None where there is no LIMIT, or they are more than 2^64 - 1
abbrev pub rows_enough : ℕ → Option ℕ → Option ℕ
rows_enough offset None = None
rows_enough offset (Some most) = if nat_lt (offset + most) (2 ^ 64) then Some (offset + most) else None

-- all conjuncts that an entry decides are offered to its scan
abbrev pub all_offered : OfferForm → Bool
all_offered o = list_all (λ b. b) o.offered

-- where ORDER BY asks for an order of the table's rows, this is wished, with a limit where its scan is offered all that is checked
abbrev pub wish_by : Select → OfferForm → Option (List KeyForm) → WishForm
wish_by s o None = no_wish
wish_by s o (Some order) = record { order = order; limit = if all_offered o then rows_enough s.offset s.limit else None }

abbrev pub core_wish : Select → SelectCore → OfferForm → WishForm
core_wish s c o =
    if is_shown_core c then wish_by s o (order_of (map direction_of s.directions.items) (map tree c.keys.items)) else no_wish

-- A query of one core with one entry of FROM wishes this of its scan, any other query nothing.
abbrev pub wish_for : Select → List SelectCore → List (List OfferForm) → WishForm
wish_for s (c ∷ []) ((o ∷ []) ∷ []) = core_wish s c o
wish_for s cores offers = no_wish

-- what is wished of a query's scans, which are offered this, core by core
abbrev pub wish_of : Select → List (List OfferForm) → WishForm
wish_of s offers = wish_for s s.cores.items offers

-- ---- limits that are promised

-- no limit is promised of a level's scan
abbrev pub IsUnlimited : LoopLevel → Type 0
IsUnlimited l = (spec2_of l.spec).limit ≡ None

-- a query's only level, whose rows come in the order that ORDER BY asks for
pub record ComesAlone (s : Select) (c : SelectCore) (ls : List LoopLevel) : Type 0 where
  pub level : LoopLevel
  pub only : ls ≡ level ∷ []
  pub comes : ComesInOrder s c level
