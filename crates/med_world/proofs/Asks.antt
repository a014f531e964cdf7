-- What a request asked the boxes for: most ask them for nothing that is told.
use Rattle.std.proofs.Common.{◌≡◌, ℕ, List, Option, ap, subst, arith}
use Rattle.med_value.specs.declared.cause.Cause.{Cause}
use Rattle.med_syntax.specs.Prelude.{Name, select, CountTree, some_rows, all_rows, declare, fetch, close}
use Rattle.fdw_api.specs.State.{BoxState}
use Rattle.med_exec.specs.Pulling.{pulled_at, PullsNone}
use Rattle.med_parser.specs.CommandTree.{CommandTree, on_data, on_rows, on_cursors, on_objects}
use Rattle.med_parser.specs.CommandGrammar.{HasCommand}
use Rattle.sql_meaning.specs.Prelude.{AskedLine, sql, Reply, refused}
use Rattle.med_world.specs.Engine.{Shown, GivesWithin, TreeAsks, AsksBoxes}
use Rattle.med_world.specs.Laws.{IsRead}

-- where no box gave a row, few were given
gave_none : (old : Shown) (sid : ℕ) (name : Name) (asked : CountTree) (new : List (Option BoxState)) → PullsNone old.boxes new → GivesWithin old sid name asked new
gave_none old sid name (some_rows n) new none = record {
  slot = 0;
  few = λ slot. let same : pulled_at new slot ≡ pulled_at old.boxes slot = ap (λ (f : ℕ → ℕ). f slot) none in omega (arith, same);
  own = λ more. absurd (let same : pulled_at new 0 ≡ pulled_at old.boxes 0 = ap (λ (f : ℕ → ℕ). f 0) none in omega (arith, same, more));
}
gave_none old sid name all_rows new none = tt

-- a statement that is refused, and for which no box gave a row
asks_none : (old : Shown) (sid : ℕ) (tree : CommandTree) (c : Cause) (new : Shown) → PullsNone old.boxes new.boxes → TreeAsks old sid tree (refused c) new
asks_none old sid (on_data (select s)) c new none = tt
asks_none old sid (on_rows t) c new none = tt
asks_none old sid (on_cursors (declare name (select s))) c new none = tt
asks_none old sid (on_cursors (fetch asked name)) c new none = λ bare. gave_none old sid name asked new.boxes none
asks_none old sid (on_cursors (close name)) c new none = tt
asks_none old sid (on_objects d) c new none = tt

pub asks_refused : (old : Shown) (sid : ℕ) (request : AskedLine) (c : Cause) (new : Shown) → PullsNone old.boxes new.boxes → AsksBoxes old sid request (refused c) new
asks_refused old sid request c new none text tree is has = asks_none old sid tree c new none

-- one that is no statement
pub asks_unread : (old : Shown) (sid : ℕ) (request : AskedLine) (reply : Reply) (new : Shown) → ((text : List ℕ) → request ≡ sql text → ⊥) → AsksBoxes old sid request reply new
asks_unread old sid request reply new other text tree is has = absurd (other text is)

-- a statement that was read
same_text : (a b : List ℕ) → sql a ≡ sql b → b ≡ a
same_text a b e = cc

pub asks_read : (old : Shown) (sid : ℕ) (text : List ℕ) (user : Name) (tree : CommandTree) (reply : Reply) (new : Shown) → IsRead old sid text user tree → TreeAsks old sid tree reply new
    → AsksBoxes old sid (sql text) reply new
asks_read old sid text user tree reply new read asks other t is has =
    let here : HasCommand text t = subst (λ (l : List ℕ). HasCommand l t) (same_text text other is) has in
    subst (λ (x : CommandTree). TreeAsks old sid x reply new) (read.one tree t read.has here) asks
