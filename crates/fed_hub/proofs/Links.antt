-- What the calls of a connection do to what passed.
use Rattle.std.proofs.Common.{◌≡◌, ℕ, Bool, true, false, Option, Some, None, List, [], ◌∷◌, ◌++◌, ◌+◌, take, drop, length, refl, sym, ap}
use Rattle.std.proofs.Common.{◌∙◌, subst, append_assoc, append-nil, take-append-drop, arith}
use lib.Seq.{drop-drop}
use Rattle.std.specs.Io.KnownBytes.{Consumes, Appends, IsAtEnd, Keeps}
use Rattle.std.proofs.KnownBytes.{Consumes-nil, Appends-nil, Consumes-trans, Appends-trans}
use Rattle.med_value.specs.Limits.{line_limit}
use Rattle.session_wire.proofs.Pieces.{lines-append}
use Rattle.session_wire.specs.Lines.{Lines, line, rest, closed, lines_of, go_on}
use Rattle.fed_hub.specs.Bare.{bare}
use Rattle.fed_hub.specs.Said.{Said, told_in, lines_in, before, Opens, BeginsByOpening}
use Rattle.fed_hub.specs.Accounts.{Account, LeavesLines, Passed, Parts, at_its_end, by_closing, by_first_line, broken_off, closing_lines}
use Rattle.fed_hub.specs.Boxes.{unread_in, unsent_in}
use Rattle.fed_hub.specs.Guests.{IsBegun, IsOpenAt, IsOpen, HasParted, IsParting, IsLeaving, IsAt}
use Rattle.fed_hub.specs.declared.link.Link.{Link}
use Rattle.fed_hub.proofs.Parts.{told-append, before-append, before-go_on}

-- ---- bytes

-- some bytes more were written from the front of those that are left
pub sent_more : (all front bytes : List ℕ) (sent count : ℕ) → all ≡ front ++ drop sent bytes
    → all ≡ (front ++ take count (drop sent bytes)) ++ drop (sent + count) bytes
sent_more all front bytes sent count e =
    let next : drop count (drop sent bytes) ≡ drop (sent + count) bytes = grind (arith, drop-drop) in
    e ∙ ap (λ l. front ++ l) (sym (take-append-drop count (drop sent bytes)))
    ∙ sym (append_assoc front (take count (drop sent bytes)) (drop count (drop sent bytes)))
    ∙ ap (λ l. (front ++ take count (drop sent bytes)) ++ l) next

-- ---- accounts

-- the account of a connection before anything is known of it
abbrev pub no_account : Account
no_account = record { bytes = []; lines = []; parting = []; written = []; unsent = [] }

-- these bytes were read of it
abbrev pub with_read : Account → List ℕ → Account
with_read a piece = record a { bytes = a.bytes ++ piece }

-- the lines of more bytes are those before, and those that the rest and the piece make
pub read_more : (a : Account) (held piece : List ℕ) → LeavesLines a (lines_of held)
    → LeavesLines (with_read a piece) (lines_of (held ++ piece))
read_more a held piece e =
    lines-append line_limit a.bytes piece ∙ ap (λ ls. go_on ls (λ after. lines_of (after ++ piece))) e
    ∙ before-go_on (lines_in a.lines) (lines_of held) (λ after. lines_of (after ++ piece))
    ∙ ap (before (lines_in a.lines)) (sym (lines-append line_limit held piece))

pub passed_read : {P : Type 0} (remaining contents : P → Option (List ℕ)) (taken now after : P) (a : Account) (piece : List ℕ)
    → Passed remaining contents taken now a
    → Consumes (remaining now) (remaining after) piece → contents after ≡ contents now
    → Passed remaining contents taken after (with_read a piece)
passed_read remaining contents taken now after a piece p c k = record {
  read = Consumes-trans _ _ _ a.bytes piece p.read c;
  wrote = subst (λ o. Appends (contents taken) o a.written) (sym k) p.wrote;
  told = p.told;
  begins = p.begins;
}

-- one more line was answered
abbrev pub with_line : Account → Said → Account
with_line a s = record a { lines = a.lines ++ s ∷ []; unsent = a.unsent ++ bare s.reply }

told_more : (lines : List Said) (s : Said) (parting written unsent : List ℕ) → parting ≡ [] → told_in lines ++ parting ≡ written ++ unsent
    → told_in (lines ++ s ∷ []) ++ parting ≡ written ++ (unsent ++ bare s.reply)
told_more lines s parting written unsent none e =
    ap (λ l. told_in (lines ++ s ∷ []) ++ l) none ∙ append-nil (told_in (lines ++ s ∷ [])) ∙ told-append lines (s ∷ [])
    ∙ ap (λ l. told_in lines ++ l) (append-nil (bare s.reply))
    ∙ ap (λ l. l ++ bare s.reply) (sym (append-nil (told_in lines)) ∙ ap (λ l. told_in lines ++ l) (sym none) ∙ e)
    ∙ append_assoc written unsent (bare s.reply)

begins_more : (lines : List Said) (s : Said) (b : Bool) → BeginsByOpening lines → (b ≡ false → Opens s.text) → (b ≡ true → IsBegun lines)
    → BeginsByOpening (lines ++ s ∷ [])
begins_more [] s true h o begun = absurd (begun refl)
begins_more [] s false h o begun = o refl
begins_more (x ∷ xs) s b h o begun = h

pub passed_line : {P : Type 0} (remaining contents : P → Option (List ℕ)) (taken now : P) (a : Account) (s : Said) (b : Bool)
    → a.parting ≡ [] → (b ≡ false → Opens s.text) → (b ≡ true → IsBegun a.lines)
    → Passed remaining contents taken now a → Passed remaining contents taken now (with_line a s)
passed_line remaining contents taken now a s b none opens begun p = record {
  read = p.read;
  wrote = p.wrote;
  told = told_more a.lines s a.parting a.written a.unsent none p.told;
  begins = begins_more a.lines s b p.begins opens begun;
}

-- at its end it is sent the reason
abbrev pub with_closing : Account → Account
with_closing a = record a { parting = closing_lines; unsent = a.unsent ++ closing_lines }

pub passed_closing : {P : Type 0} (remaining contents : P → Option (List ℕ)) (taken now : P) (a : Account) → a.parting ≡ []
    → Passed remaining contents taken now a → Passed remaining contents taken now (with_closing a)
passed_closing remaining contents taken now a none p = record {
  read = p.read;
  wrote = p.wrote;
  told = ap (λ l. l ++ closing_lines) (sym (append-nil (told_in a.lines)) ∙ ap (λ l. told_in a.lines ++ l) (sym none) ∙ p.told)
      ∙ append_assoc a.written a.unsent closing_lines;
  begins = p.begins;
}

-- these bytes of what is left were written
abbrev pub with_sent : Account → List ℕ → List ℕ → Account
with_sent a front unsent = record a { written = a.written ++ front; unsent = unsent }

pub passed_sent : {P : Type 0} (remaining contents : P → Option (List ℕ)) (taken now after : P) (a : Account) (front unsent : List ℕ)
    → a.unsent ≡ front ++ unsent
    → Appends (contents now) (contents after) front → remaining after ≡ remaining now → Passed remaining contents taken now a
    → Passed remaining contents taken after (with_sent a front unsent)
passed_sent remaining contents taken now after a front unsent e w k p = record {
  read = subst (λ o. Consumes (remaining taken) o a.bytes) (sym k) p.read;
  wrote = Appends-trans _ _ _ a.written front p.wrote w;
  told = p.told ∙ ap (λ l. a.written ++ l) e ∙ sym (append_assoc a.written front unsent);
  begins = p.begins;
}

-- ---- connections

-- a piece was read of it
pub heard : {P : Type 0} (remaining contents : P → Option (List ℕ)) (taken : P) (k new : Link P) (piece : List ℕ) (part : List Said)
    → Consumes (remaining k.peer) (remaining new.peer) piece → contents new.peer ≡ contents k.peer
    → unread_in new.inbox ≡ unread_in k.inbox ++ piece
    → unsent_in new.outbox ≡ unsent_in k.outbox → new.is_opened ≡ k.is_opened → (new.has_ended ≡ true → IsAtEnd (remaining new.peer))
    → IsOpen remaining contents taken k part → IsOpen remaining contents taken new part
heard remaining contents taken k new piece part c kept put same opened ended h = record {
  account = with_read h.account piece;
  passed = passed_read remaining contents taken k.peer new.peer h.account piece h.passed c kept;
  said = h.said;
  goes_on = read_more h.account (unread_in k.inbox) piece h.goes_on ∙ ap (λ bs. before (lines_in h.account.lines) (lines_of bs)) (sym put);
  untold = h.untold;
  unsent = h.unsent ∙ sym same;
  fresh = λ e. h.fresh (sym opened ∙ e);
  begun = λ e. h.begun (sym opened ∙ e);
  ended = ended;
}

-- a piece was read of it, and it broke
pub heard_last : {P : Type 0} (remaining contents : P → Option (List ℕ)) (taken : P) (k new : Link P) (piece : List ℕ) (part : List Said)
    → Consumes (remaining k.peer) (remaining new.peer) piece → contents new.peer ≡ contents k.peer → IsOpen remaining contents taken k part
    → HasParted remaining contents taken new part
heard_last remaining contents taken k new piece part c kept h = record {
  account = with_read h.account piece;
  passed = passed_read remaining contents taken k.peer new.peer h.account piece h.passed c kept;
  said = h.said;
  parts = broken_off (lines_of (unread_in k.inbox ++ piece)) (read_more h.account (unread_in k.inbox) piece h.goes_on) h.untold;
}

-- it broke
pub broke : {P : Type 0} (remaining contents : P → Option (List ℕ)) (taken : P) (k new : Link P) (more : Lines) (part : List Said)
    → new.peer ≡ k.peer
    → IsOpenAt remaining contents taken k more part → HasParted remaining contents taken new part
broke remaining contents taken k new more part same h = record {
  account = h.account;
  passed = subst (λ p. Passed remaining contents taken p h.account) (sym same) h.passed;
  said = h.said;
  parts = broken_off more h.goes_on h.untold;
}

-- a line of it was answered
pub answered : {P : Type 0} (remaining contents : P → Option (List ℕ)) (taken : P) (k new : Link P) (s : Said) (more : Lines)
    (part : List Said) → (k.is_opened ≡ false → Opens s.text)
    → new.peer ≡ k.peer → unsent_in new.outbox ≡ unsent_in k.outbox ++ bare s.reply → new.is_opened ≡ true → new.has_ended ≡ k.has_ended
    → IsOpenAt remaining contents taken k (line s.text more) part → IsOpenAt remaining contents taken new more (part ++ s ∷ [])
answered remaining contents taken k new s more part opens same put opened ended h = record {
  account = with_line h.account s;
  passed = subst (λ p. Passed remaining contents taken p (with_line h.account s)) (sym same)
      (passed_line remaining contents taken k.peer h.account s k.is_opened h.untold opens h.begun h.passed);
  said = ap (λ l. l ++ s ∷ []) h.said;
  goes_on = h.goes_on ∙ sym (before-append h.account.lines s more);
  untold = h.untold;
  unsent = ap (λ l. l ++ bare s.reply) h.unsent ∙ sym put;
  fresh = λ e. (let no : true ≡ false = sym opened ∙ e in absurd cc);
  begun = λ e. begun_more h.account.lines;
  ended = λ e. subst (λ p. IsAtEnd (remaining p)) (sym same) (h.ended (sym ended ∙ e));
}
  where
    begun_more : (lines : List Said) → IsBegun (lines ++ s ∷ [])
    begun_more [] = tt
    begun_more (x ∷ xs) = tt

-- a line of it was answered, and the reply cannot be sent
pub answered_last : {P : Type 0} (remaining contents : P → Option (List ℕ)) (taken : P) (k new : Link P) (s : Said) (more : Lines)
    (part : List Said) → (k.is_opened ≡ false → Opens s.text)
    → new.peer ≡ k.peer → IsOpenAt remaining contents taken k (line s.text more) part
    → HasParted remaining contents taken new (part ++ s ∷ [])
answered_last remaining contents taken k new s more part opens same h = record {
  account = with_line h.account s;
  passed = subst (λ p. Passed remaining contents taken p (with_line h.account s)) (sym same)
      (passed_line remaining contents taken k.peer h.account s k.is_opened h.untold opens h.begun h.passed);
  said = ap (λ l. l ++ s ∷ []) h.said;
  parts = broken_off more (h.goes_on ∙ sym (before-append h.account.lines s more)) h.untold;
}

-- it ended, and no line is left
pub at_end : {P : Type 0} (remaining contents : P → Option (List ℕ)) (taken : P) (k : Link P) (part : List Said) → k.has_ended ≡ true
    → lines_of (unread_in k.inbox) ≡ rest (unread_in k.inbox)
    → IsOpen remaining contents taken k part → IsParting remaining contents taken k part
at_end remaining contents taken k part ended none h = record {
  parted = record {
    account = h.account;
    passed = h.passed;
    said = h.said;
    parts = at_its_end (unread_in k.inbox) (h.goes_on ∙ ap (before (lines_in h.account.lines)) none) (h.ended ended) h.untold;
  };
  unsent = h.unsent;
}

-- it is sent that it is closed, for a line that closes it
pub closed_by : {P : Type 0} (remaining contents : P → Option (List ℕ)) (taken : P) (k new : Link P) (part : List Said) → new.peer ≡ k.peer
    → unsent_in new.outbox ≡ unsent_in k.outbox ++ closing_lines
    → IsOpenAt remaining contents taken k closed part → IsParting remaining contents taken new part
closed_by remaining contents taken k new part same put h = record {
  parted = record {
    account = with_closing h.account;
    passed = subst (λ p. Passed remaining contents taken p (with_closing h.account)) (sym same)
        (passed_closing remaining contents taken k.peer h.account h.untold h.passed);
    said = h.said;
    parts = by_closing h.goes_on refl;
  };
  unsent = ap (λ l. l ++ closing_lines) h.unsent ∙ sym put;
}

-- or for its first line, which opens no session
pub closed_at_first : {P : Type 0} (remaining contents : P → Option (List ℕ)) (taken : P) (k new : Link P) (text : List ℕ) (more : Lines)
    (part : List Said) → k.is_opened ≡ false → (Opens text → ⊥)
    → new.peer ≡ k.peer → unsent_in new.outbox ≡ unsent_in k.outbox ++ closing_lines
    → IsOpenAt remaining contents taken k (line text more) part → IsParting remaining contents taken new part
closed_at_first remaining contents taken k new text more part fresh other same put h = record {
  parted = record {
    account = with_closing h.account;
    passed = subst (λ p. Passed remaining contents taken p (with_closing h.account)) (sym same)
        (passed_closing remaining contents taken k.peer h.account h.untold h.passed);
    said = h.said;
    parts = by_first_line (h.fresh fresh) text more (h.goes_on ∙ ap (λ (ls : List Said). before (lines_in ls) (line text more))
        (h.fresh fresh)) other refl;
  };
  unsent = ap (λ l. l ++ closing_lines) h.unsent ∙ sym put;
}

-- some of what it is sent was written
pub sent_open : {P : Type 0} (remaining contents : P → Option (List ℕ)) (taken : P) (k new : Link P) (front : List ℕ) (part : List Said)
    → unsent_in k.outbox ≡ front ++ unsent_in new.outbox
    → Appends (contents k.peer) (contents new.peer) front → remaining new.peer ≡ remaining k.peer → unread_in new.inbox ≡ unread_in k.inbox
    → new.is_opened ≡ k.is_opened → new.has_ended ≡ k.has_ended
    → IsOpen remaining contents taken k part → IsOpen remaining contents taken new part
sent_open remaining contents taken k new front part left wrote kept same opened ended h = record {
  account = with_sent h.account front (unsent_in new.outbox);
  passed = passed_sent remaining contents taken k.peer new.peer h.account front (unsent_in new.outbox) (h.unsent
      ∙ left) wrote kept h.passed;
  said = h.said;
  goes_on = h.goes_on ∙ ap (λ bs. before (lines_in h.account.lines) (lines_of bs)) (sym same);
  untold = h.untold;
  unsent = refl;
  fresh = λ e. h.fresh (sym opened ∙ e);
  begun = λ e. h.begun (sym opened ∙ e);
  ended = λ e. subst IsAtEnd (sym kept) (h.ended (sym ended ∙ e));
}

parts_kept : (old new : Option (List ℕ)) (a : Account) (front unsent : List ℕ) → new ≡ old → Parts old a
    → Parts new (with_sent a front unsent)
parts_kept old new a front unsent same (at_its_end left l e n) = at_its_end left l (subst IsAtEnd (sym same) e) n
parts_kept old new a front unsent same (by_closing l n) = by_closing l n
parts_kept old new a front unsent same (by_first_line none text more l other n) = by_first_line none text more l other n
parts_kept old new a front unsent same (broken_off more l n) = broken_off more l n

pub sent_parting : {P : Type 0} (remaining contents : P → Option (List ℕ)) (taken : P) (k new : Link P) (front : List ℕ) (part : List Said)
    → unsent_in k.outbox ≡ front ++ unsent_in new.outbox
    → Appends (contents k.peer) (contents new.peer) front → remaining new.peer ≡ remaining k.peer
    → IsParting remaining contents taken k part → IsParting remaining contents taken new part
sent_parting remaining contents taken k new front part left wrote kept h = record {
  parted = record {
    account = with_sent h.parted.account front (unsent_in new.outbox);
    passed = passed_sent remaining contents taken k.peer new.peer h.parted.account front (unsent_in new.outbox) (h.unsent
        ∙ left) wrote kept h.parted.passed;
    said = h.parted.said;
    parts = parts_kept (remaining k.peer) (remaining new.peer) h.parted.account front (unsent_in new.outbox) kept h.parted.parts;
  };
  unsent = refl;
}

-- nothing is known of it yet
pub new_open : {P : Type 0} (remaining contents : P → Option (List ℕ)) (k : Link P) → unread_in k.inbox ≡ [] → unsent_in k.outbox ≡ []
    → k.is_opened ≡ false → k.has_ended ≡ false
    → IsOpen remaining contents k.peer k []
new_open remaining contents k unread unsent fresh goes_on = record {
  account = no_account;
  passed = record { read = Consumes-nil (remaining k.peer); wrote = Appends-nil (contents k.peer); told = refl; begins = tt };
  said = refl;
  goes_on = ap lines_of (sym unread);
  untold = refl;
  unsent = sym unsent;
  fresh = λ _. refl;
  begun = λ e. (let no : true ≡ false = sym e ∙ fresh in absurd cc);
  ended = λ e. (let no : true ≡ false = sym e ∙ goes_on in absurd cc);
}

-- a read that gave nothing
pub nothing_read : (a b : Option (List ℕ)) → Keeps a b → Consumes a b []
nothing_read None b k = tt
nothing_read (Some xs) None k = k
nothing_read (Some xs) (Some ys) k = sym k

-- ---- whether its session is open to it

pub at_some : {P F : Type 0} (remaining contents : P → Option (List ℕ)) (sid : ℕ) (taken : P) (k : Link P) (f : Option F) (room : F)
    (part : List Said) → f ≡ Some room
    → IsAt remaining contents sid taken k f part → IsOpen remaining contents taken k part
at_some {P} {F} remaining contents sid taken k f room part e h = subst (λ (o : Option F). IsAt remaining contents sid taken k o part) e h

pub at_none : {P F : Type 0} (remaining contents : P → Option (List ℕ)) (sid : ℕ) (taken : P) (k : Link P) (f : Option F)
    (part : List Said) → f ≡ None
    → IsAt remaining contents sid taken k f part → IsLeaving remaining contents sid taken k part
at_none {P} {F} remaining contents sid taken k f part e h = subst (λ (o : Option F). IsAt remaining contents sid taken k o part) e h

-- what may be ready does not matter
pub flags_at : {P F : Type 0} (remaining contents : P → Option (List ℕ)) (sid : ℕ) (taken : P) (k : Link P) (a b e : Bool) (f : Option F)
    (part : List Said) → IsAt remaining contents sid taken k f part
    → IsAt remaining contents sid taken (record k { may_read = a; may_write = b; ends = e }) f part
flags_at remaining contents sid taken k a b e (Some room) part h = record {
  account = h.account;
  passed = h.passed;
  said = h.said;
  goes_on = h.goes_on;
  untold = h.untold;
  unsent = h.unsent;
  fresh = h.fresh;
  begun = h.begun;
  ended = h.ended;
}
flags_at remaining contents sid taken k a b e None part h =
    let p = h.parting.parted in
    record {
      farewell = h.farewell;
      lines = h.lines;
      parting = record {
        parted = record { account = p.account; passed = p.passed; said = p.said; parts = p.parts };
        unsent =
            h.parting.unsent;
      };
      said = h.said;
    }

pub sent_at : {P F : Type 0} (remaining contents : P → Option (List ℕ)) (sid : ℕ) (taken : P) (k new : Link P) (f : Option F)
    (front : List ℕ) (part : List Said) → unsent_in k.outbox ≡ front ++ unsent_in new.outbox
    → Appends (contents k.peer) (contents new.peer) front → remaining new.peer ≡ remaining k.peer → unread_in new.inbox ≡ unread_in k.inbox
    → new.is_opened ≡ k.is_opened → new.has_ended ≡ k.has_ended
    → IsAt remaining contents sid taken k f part → IsAt remaining contents sid taken new f part
sent_at remaining contents sid taken k new (Some room) front part left wrote kept same opened ended h =
    sent_open remaining contents taken k new front part left wrote kept same opened ended h
sent_at remaining contents sid taken k new None front part left wrote kept same opened ended h = record {
  farewell = h.farewell;
  lines = h.lines;
  parting = sent_parting remaining contents taken k new front h.lines left wrote kept h.parting;
  said = h.said;
}
