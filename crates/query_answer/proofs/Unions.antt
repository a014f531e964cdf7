-- Cores whose joined rows came, taken one after another: their outputs are those of a UNION ALL.
use Rattle.std.proofs.Common.{◌≡◌, List, [], ◌∷◌, ◌++◌, map, length, get_or, refl, sym, ap, ◌∙◌, arith, append_assoc, append-nil, subst}
use Rattle.std.proofs.Math.Seq.{get_or-append_seam}
use Rattle.std.proofs.lemmas.List.{length-append, map-append}
use Rattle.med_query.specs.Prelude.{Output, Tables, joined_chains, chains_of, core_of}
use Rattle.med_query.specs.declared.select.Select.{Select}
use Rattle.med_query.specs.declared.select.SelectCore.{SelectCore}
use Rattle.query_answer.specs.declared.gathering.Gathering.{Gathering}
use Rattle.query_answer.specs.declared.outputs.AnswerFault.{AnswerFault}
use Rattle.query_answer.specs.declared.staged.Staged.{Staged}
use Rattle.query_answer.specs.Answering.{AreSmall, IsCoreFault, IsShownIn, IsSmall}
use Rattle.query_answer.specs.Gathering.{AreGathered, Gathers}
use Rattle.query_answer.specs.Giving.{AllGive, Gives}
use Rattle.query_answer.specs.Staging.{output_of}
use Rattle.query_answer.proofs.Finished.{joined_gives, joined_small, one_told}

-- some cores gave these outputs, and the others come
pub record Taken (select : Select) (db : Tables) (cores : List SelectCore) (coming : List Gathering) (outs : List Output) : Type 0 where
  pub before : List SelectCore
  pub left : List SelectCore
  pub are : cores ≡ before ++ left
  pub gathered : AreGathered db left coming
  pub gives : AllGive select (map core_of before) db outs
  pub small : AreSmall (map core_of before) db

-- the next of them
record Next (db : Tables) (left : List SelectCore) (one : Gathering) (coming : List Gathering) : Type 0 where
  later : List SelectCore
  are : left ≡ one.core.now ∷ later
  gathers : Gathers (joined_chains db (chains_of one.core.now.from.items)) one
  gathered : AreGathered db later coming

next_of : (db : Tables) (left : List SelectCore) (one : Gathering) (coming : List Gathering) → AreGathered db left (one ∷ coming) → Next db left one coming
next_of db [] one coming h = absurd h
next_of db (s ∷ ss) one coming h = record {
  later = ss;
  are = ap (λ x. x ∷ ss) (sym h.0);
  gathers = subst (λ x. Gathers (joined_chains db (chains_of x.from.items)) one) (sym h.0) h.1;
  gathered = h.2;
}

pub one_taken : (select : Select) (db : Tables) (cores : List SelectCore) (one : Gathering) (coming : List Gathering) (before after more : List Staged) → after ≡ before ++ more → Taken select db cores (one ∷ coming) (map output_of before)
    → (Gathers (joined_chains db (chains_of one.core.now.from.items)) one → Gives select (core_of one.core.now) db (map output_of more)) → (Gathers (joined_chains db (chains_of one.core.now.from.items)) one → IsSmall (core_of one.core.now) db)
    → Taken select db cores coming (map output_of after)
one_taken select db cores one coming before after more joined t given small =
    let n : Next db t.left one coming = next_of db t.left one coming t.gathered in
    let all : map core_of (t.before ++ one.core.now ∷ []) ≡ map core_of t.before ++ core_of one.core.now ∷ [] = map-append core_of t.before (one.core.now ∷ []) in
    record {
      before = t.before ++ one.core.now ∷ [];
      left = n.later;
      are = t.are ∙ ap (λ l. t.before ++ l) n.are ∙ sym (append_assoc t.before (one.core.now ∷ []) n.later);
      gathered = n.gathered;
      gives = joined_gives select (map core_of (t.before ++ one.core.now ∷ [])) (map core_of t.before) (core_of one.core.now) db before after more all joined t.gives (given n.gathers);
      small = joined_small (map core_of (t.before ++ one.core.now ∷ [])) (map core_of t.before) (core_of one.core.now) db all t.small (small n.gathers);
    }

pub one_shown : (select : Select) (db : Tables) (cores : List SelectCore) (one : Gathering) (coming : List Gathering) (outs : List Output) (f : AnswerFault) → Taken select db cores (one ∷ coming) outs
    → (Gathers (joined_chains db (chains_of one.core.now.from.items)) one → IsCoreFault f (core_of one.core.now) db) → IsShownIn f (map core_of cores) db
one_shown select db cores one coming outs f t told =
    let n : Next db t.left one coming = next_of db t.left one coming t.gathered in
    let is : cores ≡ t.before ++ one.core.now ∷ n.later = t.are ∙ ap (λ l. t.before ++ l) n.are in
    let here : one.core.now ≡ get_or cores (length t.before) one.core.now = rw is (sym (get_or-append_seam t.before one.core.now n.later one.core.now)) in
    one_told f cores (length t.before) one.core.now db (omega (arith, ap length is, length-append t.before (one.core.now ∷ n.later))) here (told n.gathers)

-- all of them
no_more : (db : Tables) (left : List SelectCore) → AreGathered db left [] → left ≡ []
no_more db [] h = refl
no_more db (s ∷ ss) h = absurd h

whole : (select : Select) (db : Tables) (cores : List SelectCore) (coming : List Gathering) (outs : List Output) → coming ≡ [] → (t : Taken select db cores coming outs) → cores ≡ t.before
whole select db cores coming outs e t = t.are ∙ ap (λ l. t.before ++ l) (no_more db t.left (subst (λ l. AreGathered db t.left l) e t.gathered)) ∙ append-nil t.before

pub all_give : (select : Select) (db : Tables) (cores : List SelectCore) (coming : List Gathering) (outs : List Output) → coming ≡ [] → Taken select db cores coming outs → AllGive select (map core_of cores) db outs
all_give select db cores coming outs e t = subst (λ (l : List SelectCore). AllGive select (map core_of l) db outs) (sym (whole select db cores coming outs e t)) t.gives

pub all_are_small : (select : Select) (db : Tables) (cores : List SelectCore) (coming : List Gathering) (outs : List Output) → coming ≡ [] → Taken select db cores coming outs → AreSmall (map core_of cores) db
all_are_small select db cores coming outs e t = subst (λ (l : List SelectCore). AreSmall (map core_of l) db) (sym (whole select db cores coming outs e t)) t.small
