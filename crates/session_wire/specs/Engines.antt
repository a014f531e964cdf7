-- What it means that an engine answers requests.
use Rattle.std.specs.Prelude.{ℕ, List}
use Rattle.fdw_api.specs.State.{BoxState}
use Rattle.med_session.specs.Prelude.{AskedLine, IsSound, EachRises, IsAnswered, ClosesAll, shown}
use Rattle.med_session.specs.declared.engine.Engine.{Engine}

-- from each world that agrees with the old engine, a step leads to a reply of this text, and to a world that agrees with the new one
abbrev pub EngineSteps : {W : Type 0} → (W → BoxState) → Engine W → ℕ → AskedLine → List ℕ → Engine W → Type 0
EngineSteps meaning old sid request text new = IsAnswered (shown meaning old) sid request text (shown meaning new)

-- every session is closed, and its cursors with it
abbrev pub EngineEnds : {W : Type 0} → (W → BoxState) → Engine W → Engine W → Type 0
EngineEnds meaning old new = ClosesAll (shown meaning old) (shown meaning new)

-- between these engines no box comes, one goes only idle and for good, and what each counts goes up alone
abbrev pub EngineRises : {W : Type 0} → (W → BoxState) → Engine W → Engine W → Type 0
EngineRises meaning old new = EachRises (shown meaning old).boxes (shown meaning new).boxes

-- what each call of an engine asks, and keeps
abbrev pub EngineIsSound : {W : Type 0} → (W → BoxState) → Engine W → Type 0
EngineIsSound meaning engine = IsSound (shown meaning engine)
