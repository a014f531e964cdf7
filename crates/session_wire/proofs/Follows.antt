-- Runs of a handler's states, and of what the states stand for.
use Rattle.std.proofs.Common.{ℕ, List, refl, sym, subst, inl, inr, Option}
use Rattle.med_session.specs.Requests.{AskedLine}
use Rattle.session_wire.specs.Lines.{Lines, line, rest, closed, lines_of}
use Rattle.session_wire.specs.Run.{Steps, IsAnswered, Run, RunFront, Fed, BrokenOff}

-- each step of a state is a step of every world that it stands for
abbrev pub StepsFollow : {W V : Type 0} → Steps W → Steps V → (W → V → Type 0) → Type 0
StepsFollow {W} {V} step steps agrees = (old : W) (sid : ℕ) (request : AskedLine) (reply : List ℕ) (new : W) → step old sid request reply new
    → (v : V) → agrees old v → (w : V) × steps v sid request reply w × agrees new w

abbrev pub EndsFollow : {W V : Type 0} → (W → W → Type 0) → (V → V → Type 0) → (W → V → Type 0) → Type 0
EndsFollow {W} {V} ended ends agrees = (old new : W) → ended old new → (v : V) → agrees old v → (w : V) × ends v w × agrees new w

answer_follows : {W V : Type 0} (step : Steps W) (steps : Steps V) (agrees : W → V → Type 0) → StepsFollow step steps agrees
    → (old : W) (text reply : List ℕ) (new : W) → IsAnswered step old text reply new → (v : V) → agrees old v → (w : V) × IsAnswered steps v text reply w × agrees new w
answer_follows step steps agrees f old text reply new (inl h) v a =
    let one = f old h.0 h.1 reply new h.3 v a in
    (one.0, inl (h.0, h.1, h.2, one.1), one.2)
answer_follows step steps agrees f old text reply new (inr h) v a = (v, inr (h.0, h.1, refl), subst (λ s. agrees s v) (sym h.2) a)

-- a run of states is a run of each world that the first state stands for, and leads to one that the last state stands for
pub run_follows : {W V : Type 0} (step : Steps W) (ended : W → W → Type 0) (steps : Steps V) (ends : V → V → Type 0) (agrees : W → V → Type 0) → StepsFollow step steps agrees → EndsFollow ended ends agrees
    → (old : W) (lines : Lines) (replies : List ℕ) (new : W) → Run step ended old lines replies new → (v : V) → agrees old v → (w : V) × Run steps ends v lines replies w × agrees new w
run_follows step ended steps ends agrees f e old (line text more) replies new h v a =
    let one = answer_follows step steps agrees f old text h.0 h.2 h.3 v a in
    let others = run_follows step ended steps ends agrees f e h.2 more h.1 new h.4 one.0 one.2 in
    (others.0, (h.0, h.1, one.0, one.1, others.1, h.5), others.2)
run_follows step ended steps ends agrees f e old (rest after) replies new h v a = (v, (h.0, refl), subst (λ s. agrees s v) (sym h.1) a)
run_follows step ended steps ends agrees f e old closed replies new h v a =
    let last = e old new h.1 v a in
    (last.0, (h.0, last.1), last.2)

pub front_follows : {W V : Type 0} (step : Steps W) (steps : Steps V) (agrees : W → V → Type 0) → StepsFollow step steps agrees
    → (old : W) (lines : Lines) (replies : List ℕ) (new : W) → RunFront step old lines replies new → (v : V) → agrees old v → (w : V) × RunFront steps v lines replies w × agrees new w
front_follows step steps agrees f old (line text more) replies new (inl h) v a = (v, inl (h.0, refl), subst (λ s. agrees s v) (sym h.1) a)
front_follows step steps agrees f old (line text more) replies new (inr h) v a =
    let one = answer_follows step steps agrees f old text h.0 h.2 h.3 v a in
    let others = front_follows step steps agrees f h.2 more h.1 new h.4 one.0 one.2 in
    (others.0, inr (h.0, h.1, one.0, one.1, others.1, h.5), others.2)
front_follows step steps agrees f old (rest after) replies new h v a = (v, (h.0, refl), subst (λ s. agrees s v) (sym h.1) a)
front_follows step steps agrees f old closed replies new h v a = (v, (h.0, refl), subst (λ s. agrees s v) (sym h.1) a)

pub fed_follows : {W V : Type 0} (step : Steps W) (ended : W → W → Type 0) (steps : Steps V) (ends : V → V → Type 0) (agrees : W → V → Type 0) → StepsFollow step steps agrees → EndsFollow ended ends agrees
    → (old : W) (bytes text : List ℕ) (new : W) (left : Option (List ℕ)) → Fed step ended old bytes text new left → (v : V) → agrees old v → (w : V) × Fed steps ends v bytes text w left × agrees new w
fed_follows step ended steps ends agrees f e old bytes text new left h v a =
    let all = run_follows step ended steps ends agrees f e old (lines_of bytes) text new h.run v a in
    (all.0, record { run = all.1; unread = h.unread }, all.2)

pub broken_follows : {W V : Type 0} (step : Steps W) (ended : W → W → Type 0) (steps : Steps V) (ends : V → V → Type 0) (agrees : W → V → Type 0) → StepsFollow step steps agrees → EndsFollow ended ends agrees
    → (old : W) (bytes text : List ℕ) (new : W) → BrokenOff step ended old bytes text new → (v : V) → agrees old v → (w : V) × BrokenOff steps ends v bytes text w × agrees new w
broken_follows step ended steps ends agrees f e old bytes text new h v a =
    let front = front_follows step steps agrees f old (lines_of bytes) text h.last h.front v a in
    let last = e h.last new h.sessions front.0 front.2 in
    (last.0, record { last = front.0; front = front.1; sessions = last.1 }, last.2)

-- ---- what holds at each step holds from the first state of a run to the last

-- an order on states that steps and ends keep to
pub record IsKept {W : Type 0} (step : Steps W) (ended : W → W → Type 0) (before : W → W → Type 0) : Type 0 where
  pub same : (s : W) → before s s
  pub along : (s t u : W) → before s t → before t u → before s u
  pub steps : (old : W) (sid : ℕ) (request : AskedLine) (reply : List ℕ) (new : W) → step old sid request reply new → before old new
  pub ends : (old new : W) → ended old new → before old new

answer_kept : {W : Type 0} (step : Steps W) (ended before : W → W → Type 0) → IsKept step ended before → (old : W) (text reply : List ℕ) (new : W) → IsAnswered step old text reply new → before old new
answer_kept step ended before k old text reply new (inl h) = k.steps old h.0 h.1 reply new h.3
answer_kept step ended before k old text reply new (inr h) = subst (λ s. before old s) (sym h.2) (k.same old)

pub run_kept : {W : Type 0} (step : Steps W) (ended before : W → W → Type 0) → IsKept step ended before → (old : W) (lines : Lines) (replies : List ℕ) (new : W) → Run step ended old lines replies new → before old new
run_kept step ended before k old (line text more) replies new h =
    k.along old h.2 new (answer_kept step ended before k old text h.0 h.2 h.3) (run_kept step ended before k h.2 more h.1 new h.4)
run_kept step ended before k old (rest after) replies new h = subst (λ s. before old s) (sym h.1) (k.same old)
run_kept step ended before k old closed replies new h = k.ends old new h.1

pub front_kept : {W : Type 0} (step : Steps W) (ended before : W → W → Type 0) → IsKept step ended before → (old : W) (lines : Lines) (replies : List ℕ) (new : W) → RunFront step old lines replies new → before old new
front_kept step ended before k old (line text more) replies new (inl h) = subst (λ s. before old s) (sym h.1) (k.same old)
front_kept step ended before k old (line text more) replies new (inr h) =
    k.along old h.2 new (answer_kept step ended before k old text h.0 h.2 h.3) (front_kept step ended before k h.2 more h.1 new h.4)
front_kept step ended before k old (rest after) replies new h = subst (λ s. before old s) (sym h.1) (k.same old)
front_kept step ended before k old closed replies new h = subst (λ s. before old s) (sym h.1) (k.same old)

pub broken_kept : {W : Type 0} (step : Steps W) (ended before : W → W → Type 0) → IsKept step ended before → (old : W) (bytes text : List ℕ) (new : W) → BrokenOff step ended old bytes text new → before old new
broken_kept step ended before k old bytes text new h =
    k.along old h.last new (front_kept step ended before k old (lines_of bytes) text h.last h.front) (k.ends h.last new h.sessions)
