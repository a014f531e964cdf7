-- A query of cores over one table each.
use Rattle.std.proofs.Common.{◌≡◌, ℕ, suc, List, [], ◌∷◌, ◌++◌, map, flat_map, length, IsPermutation, refl, sym, ◌∙◌, subst}
use Rattle.med_value.specs.Datum.{Tuple}
use Rattle.tri_expr.specs.declared.expr.Expr.{Expr}
use Rattle.tri_expr.specs.declared.expr.Fault.{Fault}
use Rattle.tri_expr.proofs.Forms.{two}
use Rattle.med_query.specs.Query.{Core, Query, Tables, Output, IsAnswer, kept, core_faults, core_outputs, faults, outputs}
use Rattle.med_query.specs.declared.select.SelectCore.{SelectCore}
use Rattle.pushdown.specs.Joins.{Each}
use Rattle.pushdown.specs.Cores.{AnswersTheSame, IsSeen, one_cores, TablesAgree, in_turn, AllAgree}
use Rattle.pushdown.proofs.Cores.{one_sees}

answer_moves : (q : Query) (db seen : Tables) → faults q seen ≡ faults q db → outputs q db ≡ outputs q seen → (rows : List Tuple) → IsAnswer q db rows → IsAnswer q seen rows
answer_moves q db seen f o rows a = record {
  no_fault = f ∙ a.no_fault;
  ordered = a.ordered;
  same = subst (λ (os : List Output). IsPermutation os a.ordered) o a.same;
  sorted = a.sorted;
  shown = a.shown;
}

-- what a core does the same over both
core_seen : (db seen : Tables) (c : Core) → IsSeen db seen c → (core_faults c db ≡ core_faults c seen) × ((core_outputs c db ≡ core_outputs c seen) × (length (kept c db) ≡ length (kept c seen)))
core_seen db seen c h =
    let s = one_sees h.table h.core h.conditions db seen h.agrees in
    subst (λ (d : Core). (core_faults d db ≡ core_faults d seen) × ((core_outputs d db ≡ core_outputs d seen) × (length (kept d db) ≡ length (kept d seen)))) (sym h.is) (s.told, (s.given, s.many))

cores_seen : (db seen : Tables) (cs : List Core) → Each (IsSeen db seen) cs
    → (flat_map (λ c. core_faults c db) cs ≡ flat_map (λ c. core_faults c seen) cs)
    × ((flat_map (λ c. core_outputs c db) cs ≡ flat_map (λ c. core_outputs c seen) cs) × (map (λ c. length (kept c db)) cs ≡ map (λ c. length (kept c seen)) cs))
cores_seen db seen [] h = (refl, (refl, refl))
cores_seen db seen (c ∷ cs) h =
    let i = core_seen db seen c h.0 in
    let j = cores_seen db seen cs h.1 in
    (two (λ (v vs : List Fault). v ++ vs) i.0 j.0, (two (λ (v vs : List Output). v ++ vs) i.1.0 j.1.0, two (λ (n : ℕ) (ns : List ℕ). n ∷ ns) i.1.1 j.1.1))

pub query_seen : (q : Query) (db seen : Tables) → Each (IsSeen db seen) q.cores → AnswersTheSame q db seen
query_seen q db seen h =
    let i = cores_seen db seen q.cores h in
    record {
      answers = answer_moves q db seen (sym i.0) i.1.0;
      back = answer_moves q seen db i.0 (sym i.1.0);
      told = i.0;
      given = i.1.0;
      many = i.1.1;
    }

-- ---- lists of rows

cores_agree : (left : SelectCore → List Expr) (table : ℕ) (ss : List SelectCore) (db seen : Tables) → TablesAgree left table ss db seen → Each (IsSeen db seen) (one_cores left table ss)
cores_agree left table [] db seen h = tt
cores_agree left table (s ∷ ss) db seen h = (record { table = table; core = s; conditions = left s; is = refl; agrees = h.0 }, cores_agree left (suc table) ss db seen h.1)

pub tables_seen : (left : SelectCore → List Expr) (table : ℕ) (ss : List SelectCore) (q : Query) (db seen : Tables) → q.cores ≡ one_cores left table ss → TablesAgree left table ss db seen → AnswersTheSame q db seen
tables_seen left table ss q db seen e h = query_seen q db seen (subst (λ (cs : List Core). Each (IsSeen db seen) cs) (sym e) (cores_agree left table ss db seen h))

-- behind one more list each stands at the next number
later : (left : SelectCore → List Expr) (table : ℕ) (ss : List SelectCore) (rows others : List Tuple) (given seen : List (List Tuple))
    → TablesAgree left table ss (in_turn given) (in_turn seen) → TablesAgree left (suc table) ss (in_turn (rows ∷ given)) (in_turn (others ∷ seen))
later left table [] rows others given seen h = tt
later left table (s ∷ ss) rows others given seen h = (h.0, later left (suc table) ss rows others given seen h.1)

lists_agree : (left : SelectCore → List Expr) (ss : List SelectCore) (given seen : List (List Tuple)) → AllAgree left ss given seen → TablesAgree left 0 ss (in_turn given) (in_turn seen)
lists_agree left [] given seen h = tt
lists_agree left (s ∷ ss) [] seen h = absurd h
lists_agree left (s ∷ ss) (rows ∷ given) [] h = absurd h
lists_agree left (s ∷ ss) (rows ∷ given) (others ∷ seen) h = (h.0, later left 0 ss rows others given seen (lists_agree left ss given seen h.1))

pub lists_seen : (left : SelectCore → List Expr) (ss : List SelectCore) (q : Query) (given seen : List (List Tuple)) → q.cores ≡ one_cores left 0 ss → AllAgree left ss given seen → AnswersTheSame q (in_turn given) (in_turn seen)
lists_seen left ss q given seen e h = tables_seen left 0 ss q (in_turn given) (in_turn seen) e (lists_agree left ss given seen h)
