-- What is served so far, and one read more.
use Rattle.std.proofs.Common.{◌≡◌, ◌≤◌, ℕ, Bool, true, false, cond, List, [], ◌++◌, length, Option, Some, None, Err, refl, sym, ap, ◌∙◌, subst, append_assoc, append-nil}
use Rattle.std.specs.Io.KnownBytes.{Consumes, Appends}
use Rattle.std.proofs.KnownBytes.{Consumes-nil, Appends-nil, Consumes-trans, Appends-trans}
use Rattle.session_wire.specs.Run.{Steps, Fed, BrokenOff}
use Rattle.session_wire.specs.Servers.{is_closed, held_back, unread_of}
use Rattle.session_wire.specs.declared.server.Server.{Server}
use Rattle.fed_stream.specs.Streams.{Stream, stream}
use Rattle.fed_stream.specs.Served.{IsOneLine, Served, Serves, Fails}
use Rattle.fed_stream.specs.declared.stream.StreamFault.{StreamFault}
use Rattle.fed_stream.specs.declared.stream.StreamFault.TheVariants as faults

-- what is left unread of a server, by whether its stream is closed
pub unread_of-open : {H : Type 0} (server : Server H) → is_closed server ≡ false → unread_of server ≡ Some (held_back server)
unread_of-open server e = ap (λ (b : Bool). cond b None (Some (held_back server))) e

pub unread_of-closed : {H : Type 0} (server : Server H) → is_closed server ≡ true → unread_of server ≡ None
unread_of-closed server e = ap (λ (b : Bool). cond b None (Some (held_back server))) e

-- a run, and then one of what it leaves with more bytes, is a run of all of them
abbrev pub Joins : {W : Type 0} → Steps W → (W → W → Type 0) → Type 0
Joins {W} step ends = (old mid new : W) (bytes more text others after : List ℕ) (left : Option (List ℕ))
    → Fed step ends old bytes text mid (Some after) → Fed step ends mid (after ++ more) others new left → Fed step ends old (bytes ++ more) (text ++ others) new left

pub served_none : {W : Type 0} (step : Steps W) (ends : W → W → Type 0) (old : W) (before : List ℕ) (left had held : Option (List ℕ)) → Fed step ends old before [] old (Some before) → left ≡ Some before → Served step ends old before old left (stream had had) (stream held held)
served_none step ends old before left had held f e = record {
  bytes = [];
  text = [];
  read = Consumes-nil had;
  written = Appends-nil held;
  fed = subst (λ l. Fed step ends old (before ++ []) [] old l) (sym e) (subst (λ bs. Fed step ends old bs [] old (Some before)) (sym (append-nil before)) f);
}

-- of an open server the bytes held back are what is left
pub served_open : {W : Type 0} (step : Steps W) (ends : W → W → Type 0) (old : W) (before : List ℕ) (new : W) (input output : Stream) (left : Option (List ℕ)) (held : List ℕ)
    → left ≡ Some held → Served step ends old before new left input output → Served step ends old before new (Some held) input output
served_open step ends old before new input output left held e h = subst (λ l. Served step ends old before new l input output) e h

-- bytes so far with a piece
joined : {W : Type 0} (step : Steps W) (ends : W → W → Type 0) (old : W) (before bytes piece text : List ℕ) (new : W) (left : Option (List ℕ)) → Fed step ends old ((before ++ bytes) ++ piece) text new left → Fed step ends old (before ++ (bytes ++ piece)) text new left
joined step ends old before bytes piece text new left h = subst (λ l. Fed step ends old l text new left) (append_assoc before bytes piece) h

-- a piece was read and answered
pub served_more : {W : Type 0} (step : Steps W) (ends : W → W → Type 0) (old : W) (before : List ℕ) (mid : W) (after : List ℕ) (had has held holds : Option (List ℕ)) (piece others : List ℕ) (new : W) (left now writes : Option (List ℕ))
    → Joins step ends → Served step ends old before mid (Some after) (stream had has) (stream held holds) → Consumes has now piece → Appends holds writes others
    → Fed step ends mid (after ++ piece) others new left
    → Served step ends old before new left (stream had now) (stream held writes)
served_more step ends old before mid after had has held holds piece others new left now writes j h c a f = record {
  bytes = h.bytes ++ piece;
  text = h.text ++ others;
  read = Consumes-trans had has now h.bytes piece h.read c;
  written = Appends-trans held holds writes h.text others h.written a;
  fed = joined step ends old before h.bytes piece (h.text ++ others) new left (j old mid new (before ++ h.bytes) piece h.text others after left h.fed f);
}

-- some bytes taken off are a front taken off, and then the rest
cut_read : (had has : Option (List ℕ)) (front others : List ℕ) → Consumes had has (front ++ others) → (between : Option (List ℕ)) × Consumes had between front × Consumes between has others
cut_read None has front others c = (None, tt, tt)
cut_read (Some x) None front others c = absurd c
cut_read (Some x) (Some y) front others c = (Some (others ++ y), c ∙ append_assoc front others y, refl)

-- what was broken off at a piece was broken off in the bytes with those before and behind it
abbrev pub Breaks : {W : Type 0} → Steps W → (W → W → Type 0) → Type 0
Breaks {W} step ends = (old mid new : W) (bytes piece more text others after : List ℕ)
    → Fed step ends old bytes text mid (Some after) → BrokenOff step ends mid (after ++ piece) others new → BrokenOff step ends old ((bytes ++ piece) ++ more) (text ++ others) new

-- parts of a piece were answered, and then one failed, and others behind it were not answered
pub part_failed : {W : Type 0} (step : Steps W) (ends : W → W → Type 0) (old : W) (before front text : List ℕ) (mid : W) (after : List ℕ) (held holds : Option (List ℕ)) (part later : List ℕ) (new : W) (left writes : Option (List ℕ)) (fault : StreamFault)
    → Joins step ends → Breaks step ends → Fed step ends mid after [] mid (Some after) → Fed step ends old (before ++ front) text mid (Some after) → Appends held holds text
    → Fails step ends mid (after ++ part) new left (stream holds writes) fault
    → length later ≤ 8192 → IsOneLine part → (had has : Option (List ℕ)) → Consumes had has (front ++ (part ++ later))
    → Serves step ends old before new left (stream had has) (stream held writes) (Err fault)
part_failed step ends old before front text mid after held holds part later new left writes faults.Write j b n h a f few one had has c =
    let cut = cut_read had has front (part ++ later) c in
    record {
      between = cut.0;
      shown = holds;
      mid = mid;
      after = after;
      served = record { bytes = front; text = text; read = cut.1; written = a; fed = h };
      last = part;
      dropped = later;
      read = cut.2;
      one = one;
      in_piece = few;
      front = f.0;
      others = f.1;
      written = f.2;
      fed = f.3;
    }
part_failed step ends old before front text mid after held holds part later new left writes faults.NoRoom j b n h a f few one had has c =
    let cut = cut_read had has front (part ++ later) c in (
      record {
        between = cut.0;
        mid = mid;
        after = after;
        served = record { bytes = front; text = text; read = cut.1; written = subst (λ w. Appends held w text) (sym f.2) a; fed = h };
        piece = part ++ later;
        read = cut.2;
        text = f.0;
        broken = subst (λ l. BrokenOff step ends mid l f.0 new) (append_assoc after part later) (b mid mid new after part later [] f.0 after n f.1);
      },
      f.3,
    )
part_failed step ends old before front text mid after held holds part later new left writes faults.Read j b n h a f few one had has c = absurd f
part_failed step ends old before front text mid after held holds part later new left writes faults.TooLong j b n h a f few one had has c = absurd f

-- what was served, and then a fault at the bytes behind it
pub failed : {W : Type 0} (step : Steps W) (ends : W → W → Type 0) (old : W) (before : List ℕ) (mid : W) (after : List ℕ) (had has held holds : Option (List ℕ)) (new : W) (left now writes : Option (List ℕ)) (fault : StreamFault)
    → Joins step ends → Served step ends old before mid (Some after) (stream had has) (stream held holds)
    → Serves step ends mid after new left (stream has now) (stream holds writes) (Err fault)
    → Serves step ends old before new left (stream had now) (stream held writes) (Err fault)
failed step ends old before mid after had has held holds new left now writes faults.Write j h f =
    let t = f.served in
    record {
      between = f.between;
      shown = f.shown;
      mid = f.mid;
      after = f.after;
      served = served_more step ends old before mid after had has held holds t.bytes t.text f.mid (Some f.after) f.between f.shown j h t.read t.written t.fed;
      last = f.last;
      dropped = f.dropped;
      read = f.read;
      one = f.one;
      in_piece = f.in_piece;
      front = f.front;
      others = f.others;
      written = f.written;
      fed = f.fed;
    }
failed step ends old before mid after had has held holds new left now writes faults.NoRoom j h f =
    let s = f.0 in
    let t = s.served in (
      record {
        between = s.between;
        mid = s.mid;
        after = s.after;
        served = served_more step ends old before mid after had has held holds t.bytes t.text s.mid (Some s.after) s.between writes j h t.read t.written t.fed;
        piece = s.piece;
        read = s.read;
        text = s.text;
        broken = s.broken;
      },
      f.1,
    )
failed step ends old before mid after had has held holds new left now writes faults.Read j h f =
    let t = f.0 in (served_more step ends old before mid after had has held holds t.bytes t.text new left now writes j h t.read t.written t.fed, f.1)
failed step ends old before mid after had has held holds new left now writes faults.TooLong j h f =
    let t = f.0 in (served_more step ends old before mid after had has held holds t.bytes t.text new left now writes j h t.read t.written t.fed, f.1)

-- a closed stream answers nothing behind the line that closed it
abbrev pub Closes : {W : Type 0} → Steps W → (W → W → Type 0) → Type 0
Closes {W} step ends = (old new : W) (bytes more text : List ℕ) → Fed step ends old bytes text new None → Fed step ends old (bytes ++ more) text new None

-- Of a piece a front was answered, and its text written: the rest is still to come, and these bytes are held back.
pub record PartsServed {W : Type 0} (step : Steps W) (ends : W → W → Type 0) (old : W) (before piece rest : List ℕ) (mid : W) (after : List ℕ) (held holds : Option (List ℕ)) : Type 0 where
  pub front : List ℕ
  pub text : List ℕ
  pub parts : piece ≡ front ++ rest
  pub written : Appends held holds text
  pub fed : Fed step ends old (before ++ front) text mid (Some after)

pub parts_none : {W : Type 0} (step : Steps W) (ends : W → W → Type 0) (old : W) (before piece : List ℕ) (held : Option (List ℕ))
    → Fed step ends old before [] old (Some before) → PartsServed step ends old before piece piece old before held held
parts_none step ends old before piece held f =
    record { front = []; text = []; parts = refl; written = Appends-nil held; fed = subst (λ bs. Fed step ends old bs [] old (Some before)) (sym (append-nil before)) f }

-- one part more
pub parts_fed : {W : Type 0} (step : Steps W) (ends : W → W → Type 0) (old : W) (before piece rest : List ℕ) (mid : W) (after : List ℕ) (held holds : Option (List ℕ)) (part text : List ℕ) (new : W) (left : Option (List ℕ))
    → Joins step ends → (h : PartsServed step ends old before piece rest mid after held holds) → Fed step ends mid (after ++ part) text new left → Fed step ends old (before ++ (h.front ++ part)) (h.text ++ text) new left
parts_fed step ends old before piece rest mid after held holds part text new left j h f =
    joined step ends old before h.front part (h.text ++ text) new left (j old mid new (before ++ h.front) part h.text text after left h.fed f)

pub parts_more : {W : Type 0} (step : Steps W) (ends : W → W → Type 0) (old : W) (before piece rest : List ℕ) (mid : W) (after : List ℕ) (held holds : Option (List ℕ)) (part others text : List ℕ) (new : W) (left writes : Option (List ℕ)) (next : List ℕ)
    → Joins step ends → PartsServed step ends old before piece rest mid after held holds → rest ≡ part ++ others → Appends holds writes text → Fed step ends mid (after ++ part) text new left → left ≡ Some next
    → PartsServed step ends old before piece others new next held writes
parts_more step ends old before piece rest mid after held holds part others text new left writes next j h e a f o = record {
  front = h.front ++ part;
  text = h.text ++ text;
  parts = h.parts ∙ ap (λ l. h.front ++ l) e ∙ sym (append_assoc h.front part others);
  written = Appends-trans held holds writes h.text text h.written a;
  fed = parts_fed step ends old before piece rest mid after held holds part text new (Some next) j h (subst (λ l. Fed step ends mid (after ++ part) text new l) o f);
}

-- a part that closes the stream is the last that is answered
pub parts_closed : {W : Type 0} (step : Steps W) (ends : W → W → Type 0) (old : W) (before piece rest : List ℕ) (mid : W) (after : List ℕ) (held holds : Option (List ℕ)) (part others text : List ℕ) (new : W) (left writes : Option (List ℕ))
    → Joins step ends → Closes step ends → PartsServed step ends old before piece rest mid after held holds → rest ≡ part ++ others → Appends holds writes text → Fed step ends mid (after ++ part) text new left → left ≡ None
    → (all : List ℕ) × Appends held writes all × Fed step ends old (before ++ piece) all new left
parts_closed step ends old before piece rest mid after held holds part others text new left writes j b h e a f o =
    let fed : Fed step ends old (before ++ (h.front ++ part)) (h.text ++ text) new None = parts_fed step ends old before piece rest mid after held holds part text new None j h (subst (λ l. Fed step ends mid (after ++ part) text new l) o f) in
    let whole : piece ≡ (h.front ++ part) ++ others = h.parts ∙ ap (λ l. h.front ++ l) e ∙ sym (append_assoc h.front part others) in
    let more : Fed step ends old (before ++ ((h.front ++ part) ++ others)) (h.text ++ text) new None =
    joined step ends old before (h.front ++ part) others (h.text ++ text) new None (b old new (before ++ (h.front ++ part)) others (h.text ++ text) fed) in (
      h.text ++ text,
      Appends-trans held holds writes h.text text h.written a,
      subst (λ l. Fed step ends old (before ++ piece) (h.text ++ text) new l) (sym o) (subst (λ bs. Fed step ends old (before ++ bs) (h.text ++ text) new None) (sym whole) more),
    )

-- the last part was answered, and the stream is open
pub parts_all : {W : Type 0} (step : Steps W) (ends : W → W → Type 0) (old : W) (before piece rest : List ℕ) (mid : W) (after : List ℕ) (held holds left : Option (List ℕ))
    → PartsServed step ends old before piece rest mid after held holds → rest ≡ [] → left ≡ Some after
    → (all : List ℕ) × Appends held holds all × Fed step ends old (before ++ piece) all mid left
parts_all step ends old before piece rest mid after held holds left h e o =
    let whole : piece ≡ h.front = h.parts ∙ ap (λ l. h.front ++ l) e ∙ append-nil h.front in
    (h.text, h.written, subst (λ l. Fed step ends old (before ++ piece) h.text mid l) (sym o) (subst (λ bs. Fed step ends old (before ++ bs) h.text mid (Some after)) (sym whole) h.fed))

pub parts_failed : {W : Type 0} (step : Steps W) (ends : W → W → Type 0) (old : W) (before piece rest : List ℕ) (mid : W) (after : List ℕ) (held holds : Option (List ℕ)) (part later : List ℕ) (new : W) (left writes : Option (List ℕ)) (fault : StreamFault)
    → Joins step ends → Breaks step ends → Fed step ends mid after [] mid (Some after) → PartsServed step ends old before piece rest mid after held holds → rest ≡ part ++ later → length later ≤ 8192 → IsOneLine part
    → Fails step ends mid (after ++ part) new left (stream holds writes) fault
    → (had has : Option (List ℕ)) → Consumes had has piece
    → Serves step ends old before new left (stream had has) (stream held writes) (Err fault)
parts_failed step ends old before piece rest mid after held holds part later new left writes fault j b n h e few one f had has c =
    part_failed step ends old before h.front h.text mid after held holds part later new left writes fault j b n h.fed h.written f few one had has
    (subst (λ bs. Consumes had has bs) (h.parts ∙ ap (λ l. h.front ++ l) e) c)
