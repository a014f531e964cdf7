-- What a turn of a connection comes to.
use Rattle.std.proofs.Common.{◌≡◌, ◌⊎◌, ℕ, Option, Some, None, Bool, false, List, [], ◌∷◌, ◌++◌, refl, sym, ap, ◌∙◌, subst, inl, inr}
use Rattle.std.proofs.Common.{append_assoc, append-nil, zero, suc, ◌+◌, ◌-◌, ◌<◌, ◌≢◌, is_some, length, replicate, slice_get, slice_set}
use Rattle.std.proofs.Common.{arith}
use Rattle.std.proofs.lemmas.List.{length-replicate}
use Rattle.session_wire.specs.Run.{Steps}
use Rattle.session_wire.specs.Exchanges.{Exchanged}
use Rattle.std.proofs.lemmas.Option.{slice_get_within}
use Rattle.med_value.specs.Limits.{session_count}
use Rattle.sql_meaning.specs.Requests.{IsSid}
use Rattle.std.specs.Io.KnownBytes.{Appends, IsAtEnd}
use Rattle.std.proofs.KnownBytes.{Appends-nil}
use Rattle.session_wire.specs.Lines.{Lines, line, closed, lines_of}
use Rattle.fed_hub.specs.Said.{Said, Opens, AreOf, exchanges_of, part_of, bye_of}
use Rattle.fed_hub.specs.Accounts.{Passed, IsOfVisits, closing_lines}
use Rattle.fed_hub.specs.Boxes.{unread_in, unsent_in}
use Rattle.fed_hub.specs.Guests.{IsOpenAt, IsOpen, HasParted, IsParting, IsLeaving, IsAt, IsGone, Turns}
use Rattle.fed_hub.specs.declared.link.Link.{Link}
use Rattle.fed_hub.specs.declared.link.Turn.{Turn}
use Rattle.fed_hub.specs.declared.link.Turn.TheVariants.{GoesOn, PartsNow, Breaks}
use Rattle.fed_hub.proofs.Links.{broke, closed_by, closed_at_first, sent_open, at_some, at_none}
use Rattle.fed_hub.proofs.Standing.{gone, all_gone, all_free, at_place, same_or_not}
use Rattle.fed_hub.proofs.Parts.{get_set, get_other}
use Rattle.fed_hub.specs.Places.{Stands, AllStand, Advances}
use Rattle.fed_hub.specs.declared.guest.Guest.{Guest}

-- what holds of a list holds of it with none more
pub none_more : (P : List Said → Type 0) (part : List Said) → P part → P (part ++ [])
none_more P part p = subst P (sym (append-nil part)) p

-- nothing was taken of it
pub same_open : {P : Type 0} (remaining contents : P → Option (List ℕ)) (taken : P) (k new : Link P) (part : List Said) → new.peer ≡ k.peer
    → unsent_in new.outbox ≡ unsent_in k.outbox → unread_in new.inbox ≡ unread_in k.inbox
    → new.is_opened ≡ k.is_opened → new.has_ended ≡ k.has_ended → IsOpen remaining contents taken k part
    → IsOpen remaining contents taken new part
same_open {P} remaining contents taken k new part same left unread opened ended h =
    sent_open remaining contents taken k new [] part (sym left) (subst (λ (p : P). Appends (contents k.peer) (contents p) []) (sym same)
    (Appends-nil (contents k.peer))) (ap remaining same) unread opened ended h

-- it is closed, for a line that closes it
pub closes : {P : Type 0} (remaining contents : P → Option (List ℕ)) (result : Turn) (taken : P) (k new : Link P) (part : List Said)
    → (result ≡ PartsNow → unsent_in new.outbox ≡ unsent_in k.outbox ++ closing_lines)
    → new.peer ≡ k.peer → (result ≡ PartsNow) ⊎ (result ≡ Breaks) → IsOpenAt remaining contents taken k closed part
    → Turns remaining contents result taken new part
closes remaining contents GoesOn taken k new part told same (inl e) h = absurd cc
closes remaining contents GoesOn taken k new part told same (inr e) h = absurd cc
closes remaining contents PartsNow taken k new part told same e h = closed_by remaining contents taken k new part same (told refl) h
closes remaining contents Breaks taken k new part told same e h = broke remaining contents taken k new closed part same h

-- or for its first line
pub closes_at_first : {P : Type 0} (remaining contents : P → Option (List ℕ)) (result : Turn) (taken : P) (k new : Link P) (text : List ℕ)
    (more : Lines) (part : List Said)
    → (result ≡ PartsNow → unsent_in new.outbox ≡ unsent_in k.outbox ++ closing_lines) → new.peer ≡ k.peer → (result ≡ PartsNow)
    ⊎ (result ≡ Breaks) → k.is_opened ≡ false → (Opens text → ⊥)
    → IsOpenAt remaining contents taken k (line text more) part → Turns remaining contents result taken new part
closes_at_first remaining contents GoesOn taken k new text more part told same (inl e) fresh other h = absurd cc
closes_at_first remaining contents GoesOn taken k new text more part told same (inr e) fresh other h = absurd cc
closes_at_first remaining contents PartsNow taken k new text more part told same e fresh other h = closed_at_first remaining contents taken
    k new text more part fresh other same (told refl) h
closes_at_first remaining contents Breaks taken k new text more part told same e fresh other h = broke remaining contents taken k new
    (line text more) part same h

-- a state of lines that are equal
pub open_along : {P : Type 0} (remaining contents : P → Option (List ℕ)) (taken : P) (k : Link P) (a b : Lines) (part : List Said) → a ≡ b
    → IsOpenAt remaining contents taken k a part → IsOpenAt remaining contents taken k b part
open_along remaining contents taken k a b part e h = subst (λ (ls : Lines). IsOpenAt remaining contents taken k ls part) e h

-- with the bytes that are left of it in another inbox
pub open_with : {P : Type 0} (remaining contents : P → Option (List ℕ)) (taken : P) (k new : Link P) (more : Lines) (part : List Said)
    → new.peer ≡ k.peer → unsent_in new.outbox ≡ unsent_in k.outbox → new.is_opened ≡ k.is_opened → new.has_ended ≡ k.has_ended
    → IsOpenAt remaining contents taken k more part → IsOpenAt remaining contents taken new more part
open_with {P} remaining contents taken k new more part same left opened ended h = record {
  account = h.account;
  passed = subst (λ (p : P). Passed remaining contents taken p h.account) (sym same) h.passed;
  said = h.said;
  goes_on = h.goes_on;
  untold = h.untold;
  unsent = h.unsent ∙ sym left;
  fresh = λ e. h.fresh (sym opened ∙ e);
  begun = λ e. h.begun (sym opened ∙ e);
  ended = λ e. subst (λ (p : P). IsAtEnd (remaining p)) (sym same) (h.ended (sym ended ∙ e));
}

-- ---- its session is closed

pub leaves : {P F : Type 0} (remaining contents : P → Option (List ℕ)) (sid : ℕ) (taken : P) (k : Link P) (f : Option F) (reply : List ℕ)
    (part more : List Said) → f ≡ None → IsParting remaining contents taken k (part ++ more)
    → IsAt remaining contents sid taken k f (part ++ (more ++ bye_of sid reply ∷ []))
leaves {P} {F} remaining contents sid taken k f reply part more e h =
    subst (λ (o : Option F). IsAt remaining contents sid taken k o (part ++ (more ++ bye_of sid reply ∷ []))) (sym e)
    (record { farewell = reply; lines = part ++ more; parting = h; said = sym (append_assoc part more (bye_of sid reply ∷ [])) })

pub breaks : {P : Type 0} (remaining contents : P → Option (List ℕ)) (sid : ℕ) (taken : P) (k : Link P) (reply : List ℕ)
    (part more : List Said) → HasParted remaining contents taken k (part ++ more)
    → IsGone remaining contents sid taken (part ++ (more ++ bye_of sid reply ∷ []))
breaks remaining contents sid taken k reply part more h =
    subst (IsGone remaining contents sid taken) (append_assoc part more (bye_of sid reply ∷ [])) (gone remaining contents sid taken k reply
    (part ++ more) h)

-- it was closed before, and stays
pub stays_closed : {P F G : Type 0} (remaining contents : P → Option (List ℕ)) (sid : ℕ) (taken : P) (k : Link P) (f : Option F)
    (g : Option G) (part : List Said) → f ≡ None → g ≡ None → IsAt remaining contents sid taken k f part
    → IsAt remaining contents sid taken k g (part ++ [])
stays_closed {P} {F} {G} remaining contents sid taken k f g part none still h =
    none_more (λ l. IsAt remaining contents sid taken k g l) part
    (subst (λ (o : Option G). IsAt remaining contents sid taken k o part) (sym still)
    (at_none remaining contents sid taken k f part none h))

-- ---- all are gone

pub each_gone : {P : Type 0} (remaining contents : P → Option (List ℕ)) (places : List (Option (Guest P))) (said : List Said)
    → AllStand remaining contents places said
    → ((k : ℕ) → k < session_count → slice_get places k ≡ Some None) → (sid : ℕ) → IsSid sid
    → IsOfVisits remaining contents sid (part_of sid said)
each_gone remaining contents places said all free sid is =
    let same : suc (sid - 1) ≡ sid = omega (arith, is.0) in
    let there = free (sid - 1) (omega (arith, is.0, is.1)) in
    subst (λ n. IsOfVisits remaining contents n (part_of n said)) same (all_gone remaining contents places said all (sid - 1)
    (slice_get_within places (sid - 1) None there) there)

-- ---- places

pub at_sid : {P W : Type 0} (step : Steps W) (remaining contents : P → Option (List ℕ)) (old mid new : W) (places between : List (Option
    (Guest P))) (sid k : ℕ) (place now : Option (Guest P)) (more : List Said) → sid ≡ suc k
    → Advances step remaining contents old places mid between → slice_get between k ≡ Some place → AreOf sid more
    → Exchanged step mid (exchanges_of more) new
    → ((part : List Said) → Stands remaining contents sid place part → Stands remaining contents sid now (part ++ more))
    → Advances step remaining contents old places new (slice_set between k now)
at_sid step remaining contents old mid new places between sid k place now more e h there own leads stands =
    at_place step remaining contents old mid new places between k place now more h there (subst (λ n. AreOf n more) e own) leads
    (λ part. subst (λ n. Stands remaining contents n place part → Stands remaining contents n now (part ++ more)) e (stands part))

pub free_more : {P : Type 0} (places : List (Option (Guest P))) (at : ℕ) (new : Option (Guest P)) → new ≡ None → at < length places
    → ((k : ℕ) → k < at → slice_get places k ≡ Some None)
    → (k : ℕ) → k < at + 1 → slice_get (slice_set places at new) k ≡ Some None
free_more {P} places at new none within free k below = by_place (same_or_not at k)
  where
    by_place : (k ≡ at) ⊎ (k ≢ at) → slice_get (slice_set places at new) k ≡ Some None
    by_place (inl e) = ap (slice_get (slice_set places at new)) e ∙ get_set places at new within ∙ ap Some none
    by_place (inr n) = get_other places at k new n ∙ free k (below_at (λ e. n e))
      where
        below_at : (k ≢ at) → k < at
        below_at other = omega (arith, below, other)

pub got_replicate : {A : Type 0} (x : A) (n k : ℕ) → k < n → slice_get (replicate n x) k ≡ Some x
got_replicate x zero k h = absurd (omega (arith, h))
got_replicate x (suc n) zero h = refl
got_replicate x (suc n) (suc k) h = got_replicate x n k (omega (arith, h))

pub places_free : {P : Type 0} (remaining contents : P → Option (List ℕ)) (n : ℕ) (places : List (Option (Guest P)))
    → places ≡ replicate n None → AllStand remaining contents places []
places_free {P} remaining contents n places e =
    let none : Option (Guest P) = None in
    subst (λ (xs : List (Option (Guest P))). AllStand remaining contents xs []) (sym e)
    (all_free remaining contents (replicate n none) (λ k within. got_replicate none n k (omega (arith, within, length-replicate n none))))

pub none_of : {A : Type 0} (o : Option A) → is_some o ≡ false → o ≡ None
none_of None e = refl
none_of (Some x) e = absurd cc
