use Rattle.std.proofs.Common.{◌≡◌, ◌≤◌, ◌++◌, ◌∷◌, [], ℕ, List, length, ap, sym, ◌∙◌, subst, arith, rules}
use Rattle.med_value.specs.declared.value.Row.{Row}
use Rattle.list_wrapper.specs.declared.runs.Run.{Run}
use Rattle.list_wrapper.specs.Runs.{rows_in, before, Counted, room_of, room_in}
use Rattle.list_wrapper.proofs.RunsOfRows.{count_push, room_push, rows_append, before_all}
use Rattle.std.proofs.Common.{append-nil}
use Rattle.list_wrapper.proofs.runs.begin_run.Goals as goal

pub returns-clause-counted : goal.returns-clause-counted
returns-clause-counted c =
    let runs = c.args.runs.now.items in
    let r : Run = record { rows = c.in_ok-rows.rows; end = c.start_of-end.result } in
    let items : c.push.new.self.items ≡ runs ++ r ∷ [] = search rules in
    let many : c.len.result ≡ length runs = search rules in
    let all : c.start_of-end.result ≡ length (rows_in runs) =
    c.start_of-end.ensures ∙ ap (λ (l : List Run). before l c.len.result) c.deref.ensures.value ∙ ap (before runs) many ∙ before_all runs in
    let none : length c.in_ok-rows.rows.items ≡ 0 = ap length c.in_ok-rows.ensures.items in
    subst (λ (l : List Run). Counted 0 l) (sym items) (count_push 0 runs r c.requires.counted (omega arith))

pub returns-clause-rows : goal.returns-clause-rows
returns-clause-rows c =
    let runs = c.args.runs.now.items in
    let r : Run = record { rows = c.in_ok-rows.rows; end = c.start_of-end.result } in
    let items : c.push.new.self.items ≡ runs ++ r ∷ [] = search rules in
    ap rows_in items ∙ rows_append runs (r ∷ []) ∙ ap (λ (l : List Row). rows_in runs ++ (l ++ [])) c.in_ok-rows.ensures.items ∙ append-nil (rows_in runs)

pub returns-clause-ok : goal.returns-clause-ok
returns-clause-ok c =
    let runs = c.args.runs.now.items in
    let r : Run = record { rows = c.in_ok-rows.rows; end = c.start_of-end.result } in
    let items : c.push.new.self.items ≡ runs ++ r ∷ [] = search rules in
    let many : c.len.result ≡ length runs = search rules in
    let all : c.start_of-end.result ≡ length (rows_in runs) =
    c.start_of-end.ensures ∙ ap (λ (l : List Run). before l c.len.result) c.deref.ensures.value ∙ ap (before runs) many ∙ before_all runs in
    let few = c.requires.few in
    let none = c.in_ok-rows.ensures.len in
    let exact = c.in_ok-rows.ensures.exact in
    ap-free c.args.count runs r c.push.new.self.items items (omega arith)
  where
    ap-free : (count : ℕ) (runs : List Run) (r : Run) (new : List Run) → new ≡ runs ++ r ∷ [] → count ≤ room_of r → count ≤ room_in new
    ap-free count runs r new is le = subst (λ (n : ℕ). count ≤ n) (sym (ap room_in is ∙ room_push runs r)) le
