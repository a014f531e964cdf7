-- What the laws of offers say.
use Rattle.std.specs.Prelude.{◌≡◌, ℕ, true, false, List, ◌++◌, length, map, Option, Some}
use Rattle.std.specs.Option.{is_some}
use Rattle.med_value.specs.Datum.{Tuple}
use Rattle.tri_expr.specs.Prelude.{Tree, bare}
use Rattle.fdw_api.specs.Scan.{pick, meets_all, meets_exact}
use Rattle.fdw_api.specs.declared.scan.Agree.{Agree}
use Rattle.pushdown.specs.Tests.{TestOf, passes, offered_test}
use Rattle.pushdown.specs.Offers.{tests_of, forms_from, places_of, again, again_by, is_true, all_true}

-- a condition is true of a joined row exactly where its test passes the entry's row
abbrev pub TestsDecide : Type 0
TestsDecide = (base width : ℕ) (t : Tree) (o : TestOf) → offered_test base width (bare t) ≡ Some o
    → (x r : Tuple) → length x ≡ base → length r ≡ width → is_true t (x ++ r) ≡ passes o x r

-- Conditions are split: where a restriction is not true, neither are they; and where all that were answered Exact are, they are true
-- exactly where those are that are checked again.
abbrev pub OffersSplit : Type 0
OffersSplit = (base width : ℕ) (ts : List Tree) (answers : List Agree) (x r : Tuple) → length x ≡ base → length r ≡ width
    → (meets_all (forms_from 0 (tests_of base width ts)) (pick (places_of (tests_of base width ts)) x) r ≡ false
    → all_true ts (x ++ r) ≡ false)
    × (meets_exact (forms_from 0 (tests_of base width ts)) answers (pick (places_of (tests_of base width ts)) x) r ≡ true
    → all_true (again (tests_of base width ts) answers ts) (x ++ r) ≡ all_true ts (x ++ r))

-- what the code keeps by the marks of what was offered is what is to be checked again
abbrev pub MarksTell : Type 0
MarksTell = (tests : List (Option TestOf)) (answers : List Agree) (ts : List Tree)
    → again_by (map is_some tests) answers ts ≡ again tests answers ts
