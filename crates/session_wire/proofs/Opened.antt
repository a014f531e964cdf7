-- A DECLARE that was done opens its cursor, and every DECLARE of a run begins one answer.
use Rattle.std.proofs.Common.{◌≡◌, ℕ, List, [], ◌∷◌, ◌++◌, Option, Some, None, IsSome, refl, ap, sym, ◌∙◌, subst, inl, inr, codes}
use Rattle.med_value.specs.declared.cause.Cause.TheVariants.{OutOfMemory, SourceFault, LimitExceeded, DuplicateCursor}
use Rattle.med_syntax.specs.Prelude.{Name, SelectTree, select, declare}
use Rattle.med_parser.specs.CommandTree.{CommandTree, on_cursors}
use Rattle.med_parser.specs.CommandGrammar.{HasCommand}
use Rattle.sql_meaning.specs.Prelude.{AskedLine, sql, World, Cursor, cursor_named, with_cursor, Reply, done, reply_text, NoneStands, exists}
use Rattle.sql_meaning.specs.Steps.{Trouble, new_cursor, Turns, TreeDoes, Does, shared_shows, Step, is_refused, is_done, lacks_memory, fetch_lacks_memory, source_fails, numbers_end}
use Rattle.med_world.proofs.Lists.{same_bytes}
use Rattle.session_wire.specs.Run.{IsAnswered}
use Rattle.session_wire.specs.Worlds.{Scene, SceneSteps}
use Rattle.session_wire.proofs.UniqueFrames.{one_frame}
use Rattle.session_wire.specs.Exchanges.{Exchange, Exchanged}
use Rattle.session_wire.specs.Fetching.{Declares, GivesOneAnswer}
use Rattle.session_wire.specs.Runs.{KeepsCursors}
use Rattle.session_wire.specs.Leases.{KeepsLeased}
use Rattle.session_wire.proofs.Named.{finds_new}
use Rattle.session_wire.proofs.Replying.{OneTree, done_refused}
use Rattle.session_wire.proofs.Faring.{Has, set_there}
use Rattle.session_wire.proofs.Joined.{TheyJoin, one_answer}

none_there : (o : Option Cursor) → (IsSome o → ⊥) → o ≡ None
none_there None h = refl
none_there (Some c) h = absurd (h refl)

opened : OneTree → (w new : World) (sid : ℕ) (name : Name) (q : SelectTree) (query : List ℕ) (request : AskedLine) (t : Trouble) (reply : Reply) → request ≡ sql query → HasCommand query (on_cursors (declare name (select q)))
    → reply_text sid reply ≡ reply_text sid (done (codes "DECLARE CURSOR")) → Step w sid request t reply new → Has new sid name (Some (new_cursor w name q))
opened law w new sid name q query request t reply asks has told (is_refused p c pick is_told is same) = absurd (done_refused sid (codes "DECLARE CURSOR") c (sym (ap (reply_text sid) is) ∙ told))
opened law w new sid name q query request t reply asks has told (lacks_memory m a takes is same) = absurd (done_refused sid (codes "DECLARE CURSOR") OutOfMemory (sym (ap (reply_text sid) is) ∙ told))
opened law w new sid name q query request t reply asks has told (fetch_lacks_memory m a s asked other st is same) = absurd (done_refused sid (codes "DECLARE CURSOR") OutOfMemory (sym (ap (reply_text sid) is) ∙ told))
opened law w new sid name q query request t reply asks has told (source_fails f s tree st none is loses) = absurd (done_refused sid (codes "DECLARE CURSOR") SourceFault (sym (ap (reply_text sid) is) ∙ told))
opened law w new sid name q query request t reply asks has told (numbers_end f s tree st none may is same) = absurd (done_refused sid (codes "DECLARE CURSOR") LimitExceeded (sym (ap (reply_text sid) is) ∙ told))
opened law w new sid name q query request t reply asks has told (shared_shows s tree c st rests may none is same) = absurd (done_refused sid (codes "DECLARE CURSOR") c (sym (ap (reply_text sid) is) ∙ told))
opened law w new sid name q query request t reply asks has told (is_done p pick none does) =
    let d = subst (λ (r : AskedLine). Does w sid p r reply new) asks does in
    let free = subst (λ (r : AskedLine). NoneStands w sid p r) asks none in
    let same : d.1 ≡ on_cursors (declare name (select q)) = law query d.1 (on_cursors (declare name (select q))) d.2.1 has in
    let turns : Turns w sid d.0 (declare name (select q)) reply new = subst (λ (tree : CommandTree). TreeDoes w sid d.0 p tree reply new) same d.3 in
    let nowhere : cursor_named name d.0 ≡ None =
    none_there (cursor_named name d.0) (λ some. free DuplicateCursor (inr (inr (d.0, on_cursors (declare name (select q)), (d.2.0, has), exists refl some)))) in (
      with_cursor d.0 (new_cursor w name q),
      ap (λ (x : World). x.sessions sid) turns.1 ∙ set_there w sid (Some (with_cursor d.0 (new_cursor w name q))),
      finds_new name d.0.cursors (new_cursor w name q) (same_bytes name name refl) nowhere,
    )

pub declared_has : OneTree → (old new : Scene) (e : Exchange) (sid : ℕ) (name : Name) (q : SelectTree) → IsAnswered SceneSteps old e.text e.reply new → Declares sid name q e → Has new.world sid name (Some (new_cursor old.world name q))
declared_has law old new e sid name q (inr k) d = absurd (k.0 sid (sql d.asks.0) d.asks.1)
declared_has law old new e sid name q (inl k) d =
    let one = one_frame e.text k.0 sid k.1 (sql d.asks.0) k.2 d.asks.1 in
    let t = k.3 in
    opened law old.world new.world sid name q d.asks.0 k.1 t.0 t.3.0 one.1 d.asks.2
    (subst (λ (n : ℕ). reply_text n t.3.0 ≡ reply_text sid (done (codes "DECLARE CURSOR"))) one.0 (sym t.3.1 ∙ d.told))
    (subst (λ (n : ℕ). Step old.world n k.1 t.0 t.3.0 new.world) one.0 t.3.2)

pub declared_gives : OneTree → TheyJoin → (old new : Scene) (e : Exchange) (es : List Exchange) (sid : ℕ) (name : Name) (q : SelectTree) → Exchanged SceneSteps old (e ∷ es) new → Declares sid name q e → GivesOneAnswer sid (new_cursor old.world name q) es
declared_gives law join old new e es sid name q x d =
    let h = declared_has law old x.0 e sid name q x.1 d in
    one_answer law join x.0 new es sid h.0 (new_cursor old.world name q) x.2 h.1 h.2 refl

-- from the DECLARE on one answer is given
abbrev pub EachGives : Type 0
EachGives = (old new : Scene) (e : Exchange) (es : List Exchange) (sid : ℕ) (name : Name) (q : SelectTree) → Exchanged SceneSteps old (e ∷ es) new → Declares sid name q e → GivesOneAnswer sid (new_cursor old.world name q) es

-- and the tables stay
abbrev pub EachStays : Type 0
EachStays = (old new : Scene) (e : Exchange) (es : List Exchange) (sid : ℕ) (name : Name) (q : SelectTree) → Exchanged SceneSteps old (e ∷ es) new → Declares sid name q e → KeepsLeased old es new sid (new_cursor old.world name q)

-- lines and others behind them are two lists
parted : (old new : Scene) (before after : List Exchange) → Exchanged SceneSteps old (before ++ after) new → (at : Scene) × Exchanged SceneSteps old before at × Exchanged SceneSteps at after new
parted old new [] after x = (old, refl, x)
parted old new (e ∷ es) after x = let r = parted x.0 new es after x.2 in (r.0, (x.0, x.1, r.1), r.2)

pub keeps : EachGives → EachStays → (old new : Scene) (es : List Exchange) → Exchanged SceneSteps old es new → KeepsCursors old es new
keeps law stays old new es x before after e sid name q is d =
    let r = parted old new before (e ∷ after) (subst (λ (l : List Exchange). Exchanged SceneSteps old l new) is x) in
    record {
      at = r.0;
      led = r.1;
      leads = r.2;
      gives = λ there led leads. law there new e after sid name q leads d;
      stay = λ there mid some others front led leads. stays there mid e some sid name q leads d;
    }
