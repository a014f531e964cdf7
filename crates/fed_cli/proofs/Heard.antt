-- Connections to a port that were served.
use Rattle.std.proofs.Common.{◌≡◌, ℕ, Bool, true, List, [], ◌∷◌, ◌++◌, ◌+◌, length, Option, Result, Ok, Err, sym, ap, ◌∙◌, subst, append-nil, arith}
use Rattle.std.specs.Prelude.{OnOk}
use Rattle.std.proofs.lemmas.List.Elements.{All-nil, All-cons}
use Rattle.std.specs.Io.KnownBytes.{Appends}
use Rattle.med_session.specs.Engine.{Shown}
use Rattle.fed_cli.specs.Exits.{TellsText}
use Rattle.fed_stream.specs.Known.{Known}
use Rattle.fed_stream.specs.Outlets.{Outlet, Does, WritesFront, FlushesAtLast, faults_at_last}
use Rattle.fed_stream.specs.declared.source.GivenUp.{GivenUp}
use Rattle.fed_stream.proofs.Known.{known_then, known_map}
use Rattle.fed_stream.proofs.Counts.{does_more}
use Rattle.fed_stream.specs.Streams.{Stream}
use Rattle.fed_stream.specs.Guards.{IsFresh, guarded}
use Rattle.fed_stream.specs.declared.guarded.Guarded.{Guarded}
use Rattle.fed_cli.specs.Turns.{Turn, Moves, AreTaken, Ends, AreServed}
use Rattle.fed_cli.specs.Listens.{AreFresh, Listens, CallsPort, listened, port_line}
use Rattle.fed_cli.specs.declared.turns.AcceptFault.{AcceptFault}
use Rattle.fed_cli.specs.declared.listening.ListenFault.{ListenFault}
use Rattle.fed_cli.specs.declared.listening.ListenFault.TheVariants as faults

-- what is taken fresh is fresh
all_fresh : {C R W : Type 0} (closes : Moves C (Guarded R) W) (old new : C) (turns : List (Turn (Guarded R) W)) → AreTaken (λ _ reader _ _. IsFresh reader) closes old turns new → AreFresh turns
all_fresh {C} {R} {W} closes old new [] taken = All-nil (λ (t : Turn (Guarded R) W). IsFresh t.reader)
all_fresh {C} {R} {W} closes old new (t ∷ turns) taken =
    All-cons (λ (t : Turn (Guarded R) W). IsFresh t.reader) t turns taken.2 (all_fresh closes taken.1 new turns taken.4)

-- the port was told, and these connections were served
pub heard : {C R W : Type 0} (refuses : C → C → Type 0) (closes : Moves C (Guarded R) W) (remaining : R → Option (List ℕ)) (contents : W → Option (List ℕ)) (turns : List (Turn (Guarded R) W)) (first last back : C) (came : Result (Unit {0}) AcceptFault) (result : Result (Unit {0}) ListenFault) (old new : Shown) (port count : ℕ) (is_told : Bool) (output errors : Stream)
    → result ≡ listened came → Appends output.before output.after (port_line port) → AreTaken (λ _ reader _ _. IsFresh reader) closes first turns last → Ends refuses count (length turns) last came back
    → AreServed (guarded remaining) contents old turns new is_told errors → Listens remaining contents old port count result new is_told output errors
heard refuses closes remaining contents turns first last back (Ok done) result old new port count is_told output errors same line taken ends served =
    subst (λ r. Listens remaining contents old port count r new is_told output errors) (sym same) (line, (turns, ends.0, all_fresh closes first last turns taken, served))
heard refuses closes remaining contents turns first last back (Err fault) result old new port count is_told output errors same line taken ends served =
    subst (λ r. Listens remaining contents old port count r new is_told output errors) (sym same) (line, (turns, ends.0, all_fresh closes first last turns taken, served))

-- a text that was told whole
pub told_whole : (s : Stream) (told : Bool) (text : List ℕ) → told ≡ true → TellsText told s text → Appends s.before s.after text
told_whole s told text e t =
    subst (λ l. Appends s.before s.after l) (sym (t.parts ∙ ap (λ l. t.front ++ l) (t.whole e) ∙ append-nil t.front)) t.written

-- the calls by which a port is told: its line was not written, or it was and then flushed, or not
pub line_given_up : (text : List ℕ) (fault : GivenUp) (a b : Option Outlet) → Known a b (λ x y. WritesFront {T = Unit {0}} x y (Err fault) text) → Known a b (λ x y. CallsPort x y (Err fault))
line_given_up text fault a b p = known_map a b _ _ (λ x y w. record { text = text; interruptions = w.times; does = w.does; too_many = w.too_many; flushed = tt }) p

port_flushed : (text : List ℕ) (result : Result (Unit {0}) GivenUp) (a b c : Outlet) → WritesFront {T = Unit {0}} a b (Ok tt) text → FlushesAtLast b c result → CallsPort a c result
port_flushed text result a b c p q = record {
  text = text ++ [];
  interruptions = q.times + p.times;
  does = subst (λ n. Does a c (text ++ []) (q.times + p.times) n) (none_more (faults_at_last result)) (does_more a b c text [] p.times q.times 0 (faults_at_last result) p.does q.does);
  too_many = λ e. (let most : q.times ≡ 4294967295 = q.too_many e in omega (arith, most));
  flushed = all_flushed result q;
}
  where
    none_more : (n : ℕ) → n + 0 ≡ n
    none_more n = omega arith

    all_flushed : (r : Result (Unit {0}) GivenUp) → FlushesAtLast b c r → OnOk r (c.flushed ≡ length c.bytes)
    all_flushed (Ok x) f = f.flushed
    all_flushed (Err e) f = tt

pub port_called : (text : List ℕ) (result : Result (Unit {0}) GivenUp) (a b c : Option Outlet) → Known a b (λ x y. WritesFront {T = Unit {0}} x y (Ok tt) text)
    → Known b c (λ x y. FlushesAtLast x y result) → Known a c (λ x y. CallsPort x y result)
port_called text result a b c p q = known_then a b c _ _ _ (port_flushed text result) p q

-- what connections came to is no write fault
pub no_write_fault : (came : Result (Unit {0}) AcceptFault) → listened came ≡ Err faults.Write → ⊥
no_write_fault (Ok done) e = cc
no_write_fault (Err fault) e = cc

-- some call was given up
pub some_given_up : (fault : GivenUp) (a b : Option Outlet) → Known a b (λ x y. CallsPort x y (Err fault)) → Known a b (λ x y. (f : GivenUp) × CallsPort x y (Err f))
some_given_up fault a b p = known_map a b _ _ (some fault) p
  where
    some : (f : GivenUp) (x y : Outlet) → CallsPort x y (Err f) → (g : GivenUp) × CallsPort x y (Err g)
    some f x y calls = (f, calls)
