-- One connection more.
use Rattle.std.proofs.Common.{◌≡◌, ℕ, Bool, true, false, List, [], ◌∷◌, ◌++◌, ◌&&◌, Option, Result, is_ok, refl, sym, ap, ◌∙◌, subst}
use Rattle.med_session.specs.Prelude.{World, Shown, Agrees}
use Rattle.fed_cli.specs.Exits.{TellsRun, Written, WritesRun}
use Rattle.fed_cli.proofs.Called.{run_told}
use Rattle.fed_stream.specs.Outlets.{Outlet}
use Rattle.fed_stream.specs.declared.stream.Ended.{Ended}
use Rattle.fed_stream.specs.declared.stream.StreamFault.{StreamFault}
use Rattle.fed_stream.specs.Streams.{stream}
use Rattle.fed_cli.specs.Told.{told_of}
use Rattle.fed_setup.specs.Told.{Came}
use Rattle.fed_cli.specs.Kept.{KeepsServed}
use Rattle.fed_cli.specs.Turns.{Turn, Moves, AreTaken, TellsEach, input_of, output_of, ServesEach, AreServed}

and_true : (b : Bool) → (b && true) ≡ b
and_true true = refl
and_true false = refl

and_assoc : (a b c : Bool) → ((a && b) && c) ≡ (a && (b && c))
and_assoc true b c = refl
and_assoc false b c = refl

-- one more is taken and given back
pub taken_more : {C R W : Type 0} (accepts closes : Moves C R W) (old mid taken back : C) (ts : List (Turn R W)) (t : Turn R W)
    → AreTaken accepts closes old ts mid → accepts mid t.reader t.writer taken → closes taken t.reader_back t.writer_back back
    → AreTaken accepts closes old (ts ++ t ∷ []) back
taken_more accepts closes old mid taken back [] t are a c = (taken, back, subst (λ s. accepts s t.reader t.writer taken) are a, c, refl)
taken_more accepts closes old mid taken back (u ∷ ts) t are a c =
    (are.0, are.1, are.2, are.3, taken_more accepts closes are.1 mid taken back ts t are.4 a c)

-- one more is served
serves_more : {R W : Type 0} (remaining : R → Option (List ℕ)) (contents : W → Option (List ℕ)) (old mid new : Shown) (w between after : World) (ts : List (Turn R W)) (t : Turn R W)
    → ServesEach remaining contents old w ts mid between → KeepsServed mid new between after (input_of remaining t) (output_of contents t) t.ended
    → ServesEach remaining contents old w (ts ++ t ∷ []) new after
serves_more remaining contents old mid new w between after [] t each k =
    let at_old = subst (λ e. KeepsServed e new between after (input_of remaining t) (output_of contents t) t.ended) each.0 k in
    (new, after, subst (λ v. KeepsServed old new v after (input_of remaining t) (output_of contents t) t.ended) each.1 at_old, (refl, refl))
serves_more remaining contents old mid new w between after (u ∷ ts) t each k =
    (each.0, each.1, each.2, serves_more remaining contents each.0 mid new each.1 between after ts t each.3 k)

-- how one more ended is told
tells_more : {R W : Type 0} (ts : List (Turn R W)) (t : Turn R W) (so_far told : Bool) (had held has : Option (List ℕ))
    → TellsEach ts so_far had held → TellsRun (told_of t.ended) told (stream held has) → TellsEach (ts ++ t ∷ []) (so_far && told) had has
tells_more [] t so_far told had held has h tells =
    (told, true, has, ap (λ b. b && told) h.0 ∙ sym (and_true told), subst (λ a. TellsRun (told_of t.ended) told (stream a has)) h.1 tells, (refl, refl))
tells_more (u ∷ ts) t so_far told had held has h tells =
    (h.0, h.1 && told, h.2, ap (λ b. b && told) h.3 ∙ and_assoc h.0 h.1 told, h.4, tells_more ts t h.1 told h.2 held has h.5 tells)

-- how a connection ended is told by its line, or a front of it
pub told_ended : (ended : Result Ended StreamFault) (came : Came) (held holds : Option (List ℕ)) (old new : Option Outlet) (result : Written) (told : Bool) → came ≡ told_of ended → told ≡ is_ok result
    → WritesRun came result held holds old new → TellsRun (told_of ended) told (stream held holds)
told_ended ended came held holds old new result told same e w = subst (λ c. TellsRun c told (stream held holds)) same (run_told came held holds old new result told e w)

-- no connection is served yet
pub served_none : {R W : Type 0} (remaining : R → Option (List ℕ)) (contents : W → Option (List ℕ)) (e : Shown) (had : Option (List ℕ))
    → AreServed {R = R} {W = W} remaining contents e [] e true (stream had had)
served_none remaining contents e had = record { worlds = λ w agrees. (w, (refl, refl), agrees); told = (refl, refl) }

-- one more is served, and told
pub served_more : {R W : Type 0} (remaining : R → Option (List ℕ)) (contents : W → Option (List ℕ)) (old mid new : Shown) (ts : List (Turn R W)) (t : Turn R W) (so_far told : Bool) (had held has : Option (List ℕ))
    → AreServed remaining contents old ts mid so_far (stream had held)
    → ((w : World) → Agrees mid w → (after : World) × KeepsServed mid new w after (input_of remaining t) (output_of contents t) t.ended)
    → TellsRun (told_of t.ended) told (stream held has) → AreServed remaining contents old (ts ++ t ∷ []) new (so_far && told) (stream had has)
served_more remaining contents old mid new ts t so_far told had held has h kept tells = record {
  worlds = λ w agrees.
      let one = h.worlds w agrees in
      let two = kept one.0 one.2 in
      (two.0, serves_more remaining contents old mid new w one.0 two.0 ts t one.1 two.1, two.1.agrees);
  told = tells_more ts t so_far told had held has h.told tells;
}
