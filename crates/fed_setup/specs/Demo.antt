-- The demo list: two tables with their rows, and the script that makes foreign tables of them.
use Rattle.std.specs.Prelude.{ℕ, pos, true, false, List, [], ◌∷◌, ◌++◌, codes}
use Rattle.med_value.specs.Datum.{NoValue, Whole, Chars, Logic, Tuple}
use Rattle.med_value.specs.declared.value.ColType.TheVariants as types
use Rattle.list_wrapper.specs.Lists.{Listed}

abbrev pub order : ℕ → ℕ → ℕ → Tuple
order number part n = Whole (pos number) ∷ Whole (pos part) ∷ Whole (pos n) ∷ []

abbrev pub parts : Listed
parts = record {
  name = codes "parts";
  kinds = types.Int ∷ types.Text ∷ types.Int ∷ types.Bool ∷ [];
  rows = (Whole (pos 1) ∷ Chars (codes "bolt") ∷ Whole (pos 10) ∷ Logic true ∷ [])
      ∷ (Whole (pos 2) ∷ Chars (codes "nut") ∷ NoValue ∷ Logic true ∷ [])
      ∷ (Whole (pos 3) ∷ NoValue ∷ Whole (pos 0) ∷ Logic false ∷ []) ∷ [];
}

abbrev pub orders : Listed
orders = record {
  name = codes "orders";
  kinds = types.Int ∷ types.Int ∷ types.Int ∷ [];
  rows = order 10 1 4 ∷ order 11 1 6 ∷ order 12 9 1 ∷ [];
}

abbrev pub demo_list : List Listed
demo_list = parts ∷ orders ∷ []

-- the columns of the two foreign tables
abbrev pub parts_line : List ℕ
parts_line = codes "CREATE FOREIGN TABLE parts (id integer NOT NULL, name text, qty integer, live boolean) SERVER "

abbrev pub orders_line : List ℕ
orders_line = codes "CREATE FOREIGN TABLE orders (no integer, part integer, n integer) SERVER "

-- The script that sets up the source of this name: a wrapper of lists, a server of the same name on the source, a mapping for everyone,
-- and the tables parts and orders.
abbrev pub setup_script : List ℕ → List ℕ
setup_script name =
    codes "CREATE FOREIGN DATA WRAPPER list HANDLER list\nCREATE SERVER " ++ name
    ++ codes " FOREIGN DATA WRAPPER list OPTIONS (source '" ++ name ++ codes "')\nCREATE USER MAPPING FOR PUBLIC SERVER " ++ name
    ++ codes " OPTIONS (mode 'write')\n" ++ parts_line ++ name ++ codes " OPTIONS (table 'parts')\n"
    ++ orders_line ++ name ++ codes " OPTIONS (table 'orders')\n"
