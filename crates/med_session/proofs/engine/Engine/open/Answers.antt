use Rattle.std.proofs.Common.{◌≡◌, ◌⊎◌, true, false, is_some, sym, ◌∙◌, rules, inl, inr, string_bytes}
use Rattle.std.proofs.lemmas.Bool.{false≢true}
use Rattle.sql_meaning.specs.Requests.{opening, IsUser}
use Rattle.med_session.specs.Shows.{shown}
use Rattle.med_world.specs.Seats.{user_of}
use Rattle.med_session.proofs.engine.Engine.open.Goals as goal
use Rattle.med_session.proofs.engine.Engine.open.Goals.{then-is_open-via-then-is_open, then-is_open-via-else-is_open+then-not-is_user}

pub returns-then-is_open-clause-leads : goal.returns-then-is_open-clause-leads
returns-then-is_open-clause-leads g c =
    let e = shown g.W.Wrapper.meaning c.args.self.now in
    let why : (is_some (user_of e.seats c.args.sid.number) ≡ true) ⊎ (IsUser c.args.user.now → ⊥) =
    elim c.then-is_open.branch [
      | then-is_open-via-then-is_open w ↦ inl (sym c.is_open.ensures ∙ w.if-is_open.true)
      | then-is_open-via-else-is_open+then-not-is_user w ↦ inr (λ u. let no : w.is_user.result ≡ false = search rules in false≢true (sym no ∙ w.is_user.ensures.1 u))
    ] in
    c.sessions_lead.ensures.not_opened e c.args.sid.number c.args.user.now c.args.sid.in_range why

pub returns-in-Ok-clause-sound : goal.returns-in-Ok-clause-sound
returns-in-Ok-clause-sound g c =
    let shut : c.is_open.result ≡ false = search rules in
    let name : string_bytes c.in-Ok.user ≡ c.args.user.now = c.in-Ok.ensures.ok in
    rw (c.put_seat.ensures, name, c.new-cursors.ensures.items, c.never-asked.ensures) (c.sessions_lead.ensures.opened_sound (shown g.W.Wrapper.meaning c.args.self.now) c.args.sid.number c.args.user.now c.args.sid.in_range c.requires (sym c.is_open.ensures ∙ shut))

pub returns-in-Ok-clause-leads : goal.returns-in-Ok-clause-leads
returns-in-Ok-clause-leads g c =
    let e = shown g.W.Wrapper.meaning c.args.self.now in
    let shut : c.is_open.result ≡ false = search rules in
    let yes : c.is_user.result ≡ true = search rules in
    let user : IsUser c.args.user.now = c.is_user.ensures.0 yes in
    let name : string_bytes c.in-Ok.user ≡ c.args.user.now = c.in-Ok.ensures.ok in
    rw (c.put_seat.ensures, name, c.new-cursors.ensures.items, c.never-asked.ensures) (c.sessions_lead.ensures.opened e c.args.sid.number c.args.user.now c.args.sid.in_range user c.requires.sessions (sym c.is_open.ensures ∙ shut))

pub returns-in-Err-clause-leads : goal.returns-in-Err-clause-leads
returns-in-Err-clause-leads g c =
    let e = shown g.W.Wrapper.meaning c.args.self.now in
    c.sessions_lead.ensures.no_memory e c.args.sid.number (opening c.args.user.now) tt
