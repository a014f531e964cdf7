-- A run of lines is a list of lines with their replies, and the FETCHes from a cursor among them give one answer.
use Rattle.std.proofs.Common.{◌≡◌, ℕ, ◌⊎◌, false, List, [], ◌∷◌, ◌++◌, Option, Some, None, Contains, refl, ap, sym, ◌∙◌, subst, inl, inr, append_assoc}
use Rattle.med_value.specs.Datum.{Tuple}
use Rattle.med_syntax.specs.Tree.{Name}
use Rattle.med_query.specs.Query.{IsAnswer}
use Rattle.sql_meaning.specs.Prelude.{Cursor, Session, cursor_named, rows_leased, handing, Fetched, AreFetched, IsLast, rows_fetched}
use Rattle.session_wire.specs.Lines.{Lines, line, rest, closed}
use Rattle.session_wire.specs.Run.{Steps, IsAnswered, Run, RunFront}
use Rattle.session_wire.specs.Worlds.{Scene, SceneSteps}
use Rattle.session_wire.specs.Exchanges.{Exchange, Exchanged, texts_in, replies_in, texts_of, end_reply}
use Rattle.session_wire.specs.Fetching.{AreFetchesOf, GivesRows, GivesOneAnswer}
use Rattle.session_wire.proofs.Replying.{OneTree, other_passes}
use Rattle.session_wire.proofs.Faring.{Has, Fares, passes, gives, ends, step_fares}

-- ---- a run is a list

pub run_list : {W : Type 0} (step : Steps W) (ended : W → W → Type 0) (old : W) (lines : Lines) (replies : List ℕ) (new : W) → Run step ended old lines replies new
    → (es : List Exchange) × (last : W) × Exchanged step old es last × (texts_in es ≡ texts_of lines) × (replies ≡ replies_in es ++ end_reply lines)
run_list step ended old (line text more) replies new h =
    let r = run_list step ended h.2 more h.1 new h.4 in
    let e : Exchange = record { text = text; reply = h.0 } in (
      e ∷ r.0,
      r.1,
      (h.2, h.3, r.2),
      ap (λ (ts : List (List ℕ)). text ∷ ts) r.3,
      h.5 ∙ ap (λ (x : List ℕ). h.0 ++ x) r.4 ∙ sym (append_assoc h.0 (replies_in r.0) (end_reply more)),
    )
run_list step ended old (rest after) replies new h = ([], old, refl, refl, h.0)
run_list step ended old closed replies new h = ([], old, refl, refl, h.0)

pub front_list : {W : Type 0} (step : Steps W) (old : W) (lines : Lines) (replies : List ℕ) (new : W) → RunFront step old lines replies new
    → (es : List Exchange) × (unread : List (List ℕ)) × Exchanged step old es new × (texts_of lines ≡ texts_in es ++ unread) × (replies ≡ replies_in es)
front_list step old (line text more) replies new (inl h) = ([], texts_of (line text more), h.1, refl, h.0)
front_list step old (line text more) replies new (inr h) =
    let r = front_list step h.2 more h.1 new h.4 in
    let e : Exchange = record { text = text; reply = h.0 } in
    (e ∷ r.0, r.1, (h.2, h.3, r.2), ap (λ (ts : List (List ℕ)). text ∷ ts) r.3, h.5 ∙ ap (λ (x : List ℕ). h.0 ++ x) r.4)
front_list step old (rest after) replies new h = ([], [], h.1, refl, h.0)
front_list step old closed replies new h = ([], [], h.1, refl, h.0)

-- ---- the FETCHes of a cursor

-- those of a cursor that is there, or none
abbrev pub Gave : Option Cursor → List Fetched → Type 0
Gave None fs = fs ≡ []
Gave (Some c) fs = c.shared ≡ false → AreFetched c fs

gave_none : (o : Option Cursor) (fs : List Fetched) → fs ≡ [] → Gave o fs
gave_none None fs e = e
gave_none (Some c) fs e = λ unshared. subst (AreFetched c) (sym e) tt

-- the output names of a cursor that is there
abbrev pub AreNames : Option Cursor → List Name → Type 0
AreNames None names = Unit {0}
AreNames (Some c) names = c.names ≡ names

pub answer_fares : OneTree → (old new : Scene) (sid : ℕ) (name : Name) (e : Exchange) (o : Option Cursor) → Has old.world sid name o → IsAnswered SceneSteps old e.text e.reply new → Fares sid name e o new.world
answer_fares law old new sid name e o h (inl k) =
    let t = k.3 in
    step_fares law old.world new.world sid k.0 name e o k.1 t.0 t.3.0 h k.2 t.3.1 t.3.2
answer_fares law old new sid name e o h (inr k) =
    passes o (inl refl) (other_passes sid name e (λ request f. k.0 sid request f)) (subst (λ (s : Scene). Has s.world sid name o) (sym k.2) h)

pub gave : OneTree → (old new : Scene) (sid : ℕ) (name : Name) (names : List Name) (es : List Exchange) (o : Option Cursor) → Has old.world sid name o → AreNames o names → Exchanged SceneSteps old es new
    → (fs : List Fetched) × AreFetchesOf sid name names es fs × Gave o fs
gave law old new sid name names [] o h named x = ([], refl, gave_none o [] refl)
gave law old new sid name names (e ∷ es) o h named x = split (answer_fares law old x.0 sid name e o h x.1) (λ now there is. gave law x.0 new sid name names es now there is x.2)
  where
    Rest : Option Cursor → Type 0
    Rest now = (fs : List Fetched) × AreFetchesOf sid name names es fs × Gave now fs

    split : Fares sid name e o x.0.world → ((now : Option Cursor) → Has x.0.world sid name now → AreNames now names → Rest now)
        → (fs : List Fetched) × AreFetchesOf sid name names (e ∷ es) fs × Gave o fs
    split (ends k) others = ([], inl (k, refl), gave_none o [] refl)
    split (passes now (inl same) by there) others =
        let r = others now there (subst (λ (p : Option Cursor). AreNames p names) (sym same) named) in
        (r.0, inr (inl (by, r.1)), subst (λ (p : Option Cursor). Gave p r.0) same r.2)
    split (passes now (inr lost) by there) others =
        let r = others now there (subst (λ (p : Option Cursor). AreNames p names) (sym lost) tt) in
        (r.0, inr (inl (by, r.1)), gave_none o r.0 (subst (λ (p : Option Cursor). Gave p r.0) lost r.2))
    split (gives c is f rows fetches there) others =
        let same : c.names ≡ names = subst (λ (p : Option Cursor). AreNames p names) is named in
        let r = others (Some (handing c f.rows)) there same in (
          f ∷ r.0,
          inr (inr (f, r.0, subst (λ (ns : List Name). GivesRows sid name ns e f) same rows, r.1, refl)),
          subst (λ (p : Option Cursor). Gave p (f ∷ r.0)) (sym is) (λ unshared. (fetches unshared, r.2 unshared)),
        )

-- ---- one answer

-- the law of FETCHes that join
pub record TheyJoin : Type 0 where
  pub begins : (c : Cursor) (f : Fetched) (fs : List Fetched) → c.handed ≡ [] → AreFetched c (f ∷ fs)
      → (left : List Tuple) × IsAnswer c.query (rows_leased c.reads) (rows_fetched (f ∷ fs) ++ left)
  pub all : (c : Cursor) (f : Fetched) (fs : List Fetched) → c.handed ≡ [] → AreFetched c fs → Contains fs f → IsLast f.asked f.rows
      → IsAnswer c.query (rows_leased c.reads) (rows_fetched fs)

begun : TheyJoin → (c : Cursor) (fs : List Fetched) → c.handed ≡ [] → AreFetched c fs → (fs ≡ []) ⊎ ((left : List Tuple) × IsAnswer c.query (rows_leased c.reads) (rows_fetched fs ++ left))
begun join c [] none h = inl refl
begun join c (f ∷ fs) none h = inr (join.begins c f fs none h)

pub one_answer : OneTree → TheyJoin → (old new : Scene) (es : List Exchange) (sid : ℕ) (s : Session) (c : Cursor) → Exchanged SceneSteps old es new
    → old.world.sessions sid ≡ Some s → cursor_named c.name s ≡ Some c → c.handed ≡ [] → GivesOneAnswer sid c es
one_answer law join old new es sid s c x at found none =
    let r = gave law old new sid c.name c.names es (Some c) (s, at, found) refl x in
    record { fetched = r.0; are = r.1; begins = λ unshared. begun join c r.0 none (r.2 unshared); all = λ unshared f has last. join.all c f r.0 none (r.2 unshared) has last }
