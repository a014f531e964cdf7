-- The plainest queries: what their form is, and how few rows a FETCH of theirs has a box give.
use Rattle.std.proofs.Common.{◌≡◌, ◌∙◌, ℕ, ◌+◌, ◌≤◌, Bool, true, false, cond, nat_eq, List, [], ◌∷◌, Option, Some, None, option_map, map, refl, ap, sym, subst, arith}
use Rattle.tri_expr.specs.Prelude.{Tree, means}
use Rattle.med_query.specs.Prelude.{Chain, Table, Core, JoinForm, cross_form, inner_form, left_form, ChainForm, GroupForm, CoreForm, Form, join_by, joins_by, chain_by, group_by, core_by, query_by}
use Rattle.med_planner.specs.Plain.{IsBareForm}
use Rattle.fdw_api.specs.State.{BoxState}
use Rattle.med_exec.specs.declared.running.Run.{Run}
use Rattle.med_exec.specs.Pulling.{skip_in, pulled_at, PullsAtMost, many_in, IsBareRun, GivesAsTheyCome}
use Rattle.med_syntax.specs.CursorTree.{CountTree}
use Rattle.med_world.specs.Fetching.{PullsFetched}
use Rattle.sql_meaning.specs.Cursors.{IsBareQuery}

-- ---- from the query to its form

no_trees : (ts : List Tree) → means [] ts ≡ [] → ts ≡ []
no_trees [] e = refl
no_trees (t ∷ ts) e = absurd cc

no_group : (g : Option GroupForm) → option_map group_by g ≡ None → g ≡ None
no_group None e = refl
no_group (Some g) e = absurd cc

-- what a join ends in is no table
abbrev IsJoined : Chain → Type 0
IsJoined (Table t) = ⊥
IsJoined other = Unit {0}

joined_by : (left : Chain) (j : JoinForm) → IsJoined (join_by left j)
joined_by left (cross_form t) = tt
joined_by left (inner_form t on) = tt
joined_by left (left_form t width on) = tt

stays_joined : (left : Chain) (js : List JoinForm) → IsJoined left → IsJoined (joins_by left js)
stays_joined left [] h = h
stays_joined left (j ∷ js) h = stays_joined (join_by left j) js (joined_by left j)

no_joins : (first table : ℕ) (js : List JoinForm) → joins_by (Table first) js ≡ Table table → js ≡ []
no_joins first table [] e = refl
no_joins first table (j ∷ js) e = absurd (subst IsJoined e (stays_joined (join_by (Table first) j) js (joined_by (Table first) j)))

only_table : (cs : List ChainForm) (table : ℕ) → map chain_by cs ≡ Table table ∷ [] → (first : ℕ) × (cs ≡ record { first = first; joins = [] } ∷ [])
only_table [] table e = absurd cc
only_table (c ∷ d ∷ cs) table e = absurd cc
only_table (c ∷ []) table e =
    let here : joins_by (Table c.first) c.joins ≡ Table table = cc in
    (c.first, ap (λ (js : List JoinForm). let all : ChainForm = record { first = c.first; joins = js } in all ∷ []) (no_joins c.first table c.joins here))

only_core : (cs : List CoreForm) (core : Core) → map core_by cs ≡ core ∷ [] → (c : CoreForm) × (cs ≡ c ∷ []) × (core_by c ≡ core)
only_core [] core e = absurd cc
only_core (c ∷ d ∷ cs) core e = absurd cc
only_core (c ∷ []) core e = (c, refl, cc)

pub bare_form : (f : Form) → IsBareQuery (query_by f) → IsBareForm f
bare_form f b =
    let one = only_core f.cores b.core b.alone in
    let c : CoreForm = one.0 in
    let is : core_by c ≡ b.core = one.2 in
    let from = only_table c.from b.table (ap (λ (x : Core). x.from) is ∙ b.from) in
    record {
      plain = record {
        core = c;
        alone = one.1;
        ungrouped = no_group c.group (ap (λ (x : Core). x.group) is ∙ b.ungrouped);
        all_rows = ap (λ (x : Core). x.distinct) is ∙ b.all_rows;
        keys = no_trees c.keys (ap (λ (x : Core). x.keys) is ∙ b.keys);
        unordered = b.unordered;
      };
      table = from.0;
      from = from.1;
      all_kept = no_trees c.conditions (ap (λ (x : Core). x.where_) is ∙ b.all_kept);
      at_first = b.at_first;
    }

-- ---- rows that are given to a FETCH

pub fewer : (slot few many skip : ℕ) (old new : List (Option BoxState)) → few ≤ many → skip ≡ 0 → PullsAtMost (many_in slot (skip + few)) old new → PullsAtMost (many_in slot many) old new
fewer slot few many skip old new le none h other = split (nat_eq slot other) refl
  where
    split : (b : Bool) → nat_eq slot other ≡ b → pulled_at new other ≤ pulled_at old other + many_in slot many other
    split true is =
        let x : pulled_at new other ≤ pulled_at old other + many_in slot (skip + few) other = h other in
        let u : many_in slot (skip + few) other ≡ skip + few = ap (λ (b : Bool). cond b (skip + few) 0) is in
        let v : many_in slot many other ≡ many = ap (λ (b : Bool). cond b many 0) is in
        omega (arith, x, u, v, le, none)
    split false is =
        let x : pulled_at new other ≤ pulled_at old other + many_in slot (skip + few) other = h other in
        let u : many_in slot (skip + few) other ≡ 0 = ap (λ (b : Bool). cond b (skip + few) 0) is in
        omega (arith, x, u)

-- the run that goes on shows its rows as they come too
pub still_bare : (asked : CountTree) (run after : Run) (old new : List (Option BoxState)) (before later : ℕ) → PullsFetched asked run old before after new later → GivesAsTheyCome run → GivesAsTheyCome after
still_bare asked run after old new before later p bare =
    let passed : skip_in after ≤ skip_in run = p.pulls.passed bare.0 in
    let none : skip_in run ≡ 0 = bare.1 in
    (subst IsBareRun (sym p.pulls.same) bare.0, omega (arith, passed, none))
