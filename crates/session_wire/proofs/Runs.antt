-- Runs that go on by one line, or by another piece.
use Rattle.std.proofs.Common.{◌≡◌, ◌⊎◌, ℕ, List, [], ◌++◌, refl, sym, ap, ◌∙◌, subst, append_assoc, append-nil, inl, inr}
use Rattle.std.proofs.Common.{Option, Some, None, Result, Ok, Err, OnErr}
use Rattle.tokio_util.specs.declared.codec.lines_codec.LinesCodec.{LinesCodec}
use Rattle.session_wire.specs.Finds.{IsReady}
use Rattle.med_value.specs.Limits.{line_limit}
use Rattle.session_wire.specs.Lines.{unread_after, Lines, line, rest, closed, go_on, lines_of}
use Rattle.session_wire.proofs.Pieces.{lines-append}
use Rattle.session_wire.specs.Run.{Steps, IsAnswered, Run, RunFront, RunUpTo, IsNext, Fed, BrokenOff, RefusesNext}
use Rattle.session_wire.specs.Replies.{closing_replies}

-- the lines so far lead from old to now and to these replies, and these lines are left
pub record SoFar {W : Type 0} (step : Steps W) (ended : W → W → Type 0) (old : W) (lines : Lines) (now : W) (left : Lines) (replies : List ℕ) : Type 0 where
  pub run : (others : List ℕ) (new : W) → Run step ended now left others new → Run step ended old lines (replies ++ others) new
  pub front : (others : List ℕ) (new : W) → RunFront step now left others new → RunFront step old lines (replies ++ others) new
  pub upto : (others : List ℕ) (new : W) (last : Lines) → RunUpTo step now left others new last
      → RunUpTo step old lines (replies ++ others) new last
  pub unread : unread_after lines ≡ unread_after left

pub so_far_none : {W : Type 0} (step : Steps W) (ended : W → W → Type 0) (old : W) (lines : Lines) → SoFar step ended old lines old lines []
so_far_none step ended old lines =
    record { run = λ others new r. r; front = λ others new r. r; upto = λ others new last r. r; unread = refl }

pub so_far_more : {W : Type 0} (step : Steps W) (ended : W → W → Type 0) (old : W) (lines : Lines) (now : W) (text : List ℕ) (more : Lines) (replies reply : List ℕ) (mid : W)
    → SoFar step ended old lines now (line text more) replies → IsAnswered step now text reply mid → SoFar step ended old lines mid more (replies ++ reply)
so_far_more step ended old lines now text more replies reply mid h a = record {
  run = λ others new r. subst (λ l. Run step ended old lines l new) (sym (append_assoc replies reply others)) (h.run (reply ++ others) new (reply, others, mid, a, r, refl));
  front = λ others new r. subst (λ l. RunFront step old lines l new) (sym (append_assoc replies reply others)) (h.front (reply ++ others) new (inr (reply, others, mid, a, r, refl)));
  upto = λ others new last r. subst (λ l. RunUpTo step old lines l new last) (sym (append_assoc replies reply others))
      (h.upto (reply ++ others) new last (inr (reply, others, mid, a, r, refl)));
  unread = h.unread;
}

-- it can stop after any line
pub front_stops : {W : Type 0} (step : Steps W) (now : W) (left : Lines) → RunFront step now left [] now
front_stops step now (line text more) = inl (refl, refl)
front_stops step now (rest after) = (refl, refl)
front_stops step now closed = (refl, refl)

pub so_far_stops : {W : Type 0} (step : Steps W) (ended : W → W → Type 0) (old : W) (lines : Lines) (now : W) (left : Lines) (replies : List ℕ) → SoFar step ended old lines now left replies → RunFront step old lines replies now
so_far_stops step ended old lines now left replies h = subst (λ l. RunFront step old lines l now) (append-nil replies) (h.front [] now (front_stops step now left))

none_upto : {W : Type 0} (step : Steps W) (now : W) (left : Lines) → RunUpTo step now left [] now left
none_upto step now (line text more) = inl (refl, refl, refl)
none_upto step now (rest after) = (refl, refl, refl)
none_upto step now closed = (refl, refl, refl)

so_far_upto : {W : Type 0} (step : Steps W) (ended : W → W → Type 0) (old : W) (lines : Lines) (now : W) (left : Lines) (replies : List ℕ)
    → SoFar step ended old lines now left replies → RunUpTo step old lines replies now left
so_far_upto step ended old lines now left replies h =
    subst (λ l. RunUpTo step old lines l now left) (append-nil replies) (h.upto [] now left (none_upto step now left))

-- a line is next, and room was refused for it
pub next_refused : {T E W : Type 0} (r : Result T E) (step : Steps W) (ended : W → W → Type 0) (old : W) (lines : Lines) (now new : W)
    (left next : Lines) (before after replies : List ℕ)
    → left ≡ next → IsNext next → new ≡ now → after ≡ before ++ replies → SoFar step ended old lines now left replies
    → OnErr r ((text : List ℕ) × (after ≡ before ++ text) × ((l : Lines) × RunUpTo step old lines text new l × IsNext l))
next_refused (Ok x) step ended old lines now new left next before after replies e n same w h = tt
next_refused (Err x) step ended old lines now new left next before after replies e n same w h =
    let answered = so_far_upto step ended old lines now left replies h in
    (replies, w, (left, subst (λ v. RunUpTo step old lines replies v left) (sym same) answered, subst IsNext (sym e) n))

-- room was refused for the bytes held back, or for the next line, and then every session was ended
pub refused_next : {W X : Type 0} (step : Steps W) (ended : W → W → Type 0) (old : W) (bytes before after : List ℕ) (last new : W)
    → ((X × (after ≡ before) × (last ≡ old))
    ⊎ ((text : List ℕ) × (after ≡ before ++ text) × ((left : Lines) × RunUpTo step old (lines_of bytes) text last left × IsNext left)))
    → ended last new
    → (X × (after ≡ before) × ended old new) ⊎ ((text : List ℕ) × (after ≡ before ++ text) × RefusesNext step ended old bytes text new)
refused_next step ended old bytes before after last new (inl h) e = inl (h.0, h.1, subst (λ w. ended w new) h.2 e)
refused_next step ended old bytes before after last new (inr h) e =
    inr (h.0, h.1, record { last = last; left = h.2.0; answered = h.2.1; next = h.2.2; sessions = e })

pub so_far_rest : {W : Type 0} (step : Steps W) (ended : W → W → Type 0) (old : W) (lines : Lines) (now : W) (left : Lines) (after : List ℕ) (replies : List ℕ) → left ≡ rest after → SoFar step ended old lines now left replies → Run step ended old lines replies now
so_far_rest step ended old lines now left after replies e h =
    subst (λ l. Run step ended old lines l now) (append-nil replies) (h.run [] now (rw e (refl, refl)))

pub so_far_closed : {W : Type 0} (step : Steps W) (ended : W → W → Type 0) (old : W) (lines : Lines) (now : W) (left : Lines) (replies : List ℕ) (new : W) → left ≡ closed → SoFar step ended old lines now left replies → ended now new → Run step ended old lines (replies ++ closing_replies) new
so_far_closed step ended old lines now left replies new e h d = h.run closing_replies new (rw e (refl, d))

-- a run of the first piece's lines, and then one of what its rest and the second piece make
pub run_on : {W : Type 0} (step : Steps W) (ended : W → W → Type 0) (old : W) (lines : Lines) (f : List ℕ → Lines) (after : List ℕ) (replies others : List ℕ) (mid new : W)
    → Run step ended old lines replies mid → unread_after lines ≡ Some after → Run step ended mid (f after) others new → Run step ended old (go_on lines f) (replies ++ others) new
run_on step ended old (line text more) f after replies others mid new h e k =
    let tail = run_on step ended h.2 more f after h.1 others mid new h.4 e k in
    (h.0, h.1 ++ others, h.2, h.3, tail, ap (λ l. l ++ others) h.5 ∙ append_assoc h.0 h.1 others)
run_on step ended old (rest left) f after replies others mid new h e k =
    let same : left ≡ after = cc in
    rw (h.0, same) (subst (λ w. Run step ended w (f after) others new) h.1 k)
run_on step ended old closed f after replies others mid new h e k = cc

-- nothing is read behind a line that closes the stream
pub run_closed : {W : Type 0} (step : Steps W) (ended : W → W → Type 0) (old : W) (lines : Lines) (f : List ℕ → Lines) (replies : List ℕ) (new : W)
    → Run step ended old lines replies new → unread_after lines ≡ None → Run step ended old (go_on lines f) replies new
run_closed step ended old (line text more) f replies new h e = (h.0, h.1, h.2, h.3, run_closed step ended h.2 more f h.1 new h.4 e, h.5)
run_closed step ended old (rest left) f replies new h e = cc
run_closed step ended old closed f replies new h e = h

pub unread_on : (lines : Lines) (f : List ℕ → Lines) (after : List ℕ) → unread_after lines ≡ Some after → unread_after (go_on lines f) ≡ unread_after (f after)
unread_on (line text more) f after e = unread_on more f after e
unread_on (rest left) f after e = let same : left ≡ after = cc in ap (λ l. unread_after (f l)) same
unread_on closed f after e = cc

pub unread_closed : (lines : Lines) (f : List ℕ → Lines) → unread_after lines ≡ None → unread_after (go_on lines f) ≡ None
unread_closed (line text more) f e = unread_closed more f e
unread_closed (rest left) f e = cc
unread_closed closed f e = refl

-- an error after some of the lines
pub on_stop : {T E W : Type 0} (r : Result T E) (step : Steps W) (old : W) (lines : Lines) (new : W) (before after text : List ℕ) → after ≡ before ++ text → RunFront step old lines text new
    → OnErr r ((x : List ℕ) × (after ≡ before ++ x) × RunFront step old lines x new)
on_stop (Ok x) step old lines new before after text e h = tt
on_stop (Err x) step old lines new before after text e h = (text, e, h)

pub fed_more : {W : Type 0} (step : Steps W) (ended : W → W → Type 0) (old : W) (bytes replies : List ℕ) (mid : W) (after piece others : List ℕ) (new : W) (left : Option (List ℕ))
    → Fed step ended old bytes replies mid (Some after) → Fed step ended mid (after ++ piece) others new left → Fed step ended old (bytes ++ piece) (replies ++ others) new left
fed_more step ended old bytes replies mid after piece others new left h k =
    let joined = lines-append line_limit bytes piece in
    record {
      run = rw joined (run_on step ended old (lines_of bytes) (λ a. lines_of (a ++ piece)) after replies others mid new h.run h.unread k.run);
      unread = ap unread_after joined ∙ unread_on (lines_of bytes) (λ a. lines_of (a ++ piece)) after h.unread ∙ k.unread;
    }

pub fed_closed : {W : Type 0} (step : Steps W) (ended : W → W → Type 0) (old : W) (bytes replies : List ℕ) (new : W) (more : List ℕ)
    → Fed step ended old bytes replies new None → Fed step ended old (bytes ++ more) replies new None
fed_closed step ended old bytes replies new more h =
    let joined = lines-append line_limit bytes more in
    record {
      run = rw joined (run_closed step ended old (lines_of bytes) (λ a. lines_of (a ++ more)) replies new h.run h.unread);
      unread = ap unread_after joined ∙ unread_closed (lines_of bytes) (λ a. lines_of (a ++ more)) h.unread;
    }

pub fed_none : {W : Type 0} (step : Steps W) (ended : W → W → Type 0) (old : W) (bytes : List ℕ) (left : Option (List ℕ)) → lines_of bytes ≡ rest bytes → left ≡ Some bytes → Fed step ended old (bytes ++ []) [] old left
fed_none step ended old bytes left h e = record {
  run = rw (append-nil bytes, h) (refl, refl);
  unread = rw (append-nil bytes, h) (sym e);
}

-- some of the lines of the first piece
front_on : {W : Type 0} (step : Steps W) (old : W) (lines : Lines) (f : List ℕ → Lines) (replies : List ℕ) (new : W) → RunFront step old lines replies new → RunFront step old (go_on lines f) replies new
front_on step old (line text more) f replies new (inl h) = inl h
front_on step old (line text more) f replies new (inr h) = inr (h.0, h.1, h.2, h.3, front_on step h.2 more f h.1 new h.4, h.5)
front_on step old (rest left) f replies new h = rw (h.0, h.1) (front_stops step old (f left))
front_on step old closed f replies new h = h

-- a run of the first piece's lines, and then some of what its rest and the second piece make
run_front_on : {W : Type 0} (step : Steps W) (ended : W → W → Type 0) (old : W) (lines : Lines) (f : List ℕ → Lines) (after : List ℕ) (replies others : List ℕ) (mid new : W)
    → Run step ended old lines replies mid → unread_after lines ≡ Some after → RunFront step mid (f after) others new → RunFront step old (go_on lines f) (replies ++ others) new
run_front_on step ended old (line text more) f after replies others mid new h e k =
    let tail = run_front_on step ended h.2 more f after h.1 others mid new h.4 e k in
    inr (h.0, h.1 ++ others, h.2, h.3, tail, ap (λ l. l ++ others) h.5 ∙ append_assoc h.0 h.1 others)
run_front_on step ended old (rest left) f after replies others mid new h e k =
    let same : left ≡ after = cc in
    rw (h.0, same) (subst (λ w. RunFront step w (f after) others new) h.1 k)
run_front_on step ended old closed f after replies others mid new h e k = cc

-- what was broken off at a piece, with the pieces before it and those after it
pub broken_between : {W : Type 0} (step : Steps W) (ended : W → W → Type 0) (old : W) (bytes replies : List ℕ) (mid : W) (after piece others : List ℕ) (new : W) (more : List ℕ)
    → Fed step ended old bytes replies mid (Some after) → BrokenOff step ended mid (after ++ piece) others new → BrokenOff step ended old ((bytes ++ piece) ++ more) (replies ++ others) new
broken_between step ended old bytes replies mid after piece others new more h k =
    let joined = lines-append line_limit bytes piece in
    let all = lines-append line_limit (bytes ++ piece) more in
    let front : RunFront step old (lines_of (bytes ++ piece)) (replies ++ others) k.last =
    rw joined (run_front_on step ended old (lines_of bytes) (λ a. lines_of (a ++ piece)) after replies others mid k.last h.run h.unread k.front) in
    record {
      last = k.last;
      front = rw all (front_on step old (lines_of (bytes ++ piece)) (λ a. lines_of (a ++ more)) (replies ++ others) k.last front);
      sessions = k.sessions;
    }

-- how far the lines at the front of some bytes are answered, and what is left of the bytes
pub record Answering {W : Type 0} (step : Steps W) (ended : W → W → Type 0) (sound : W → Type 0) (old : W) (bytes before : List ℕ) (now : W) (codec : LinesCodec) (left out : List ℕ) : Type 0 where
  pub replies : List ℕ
  pub written : out ≡ before ++ replies
  pub so_far : SoFar step ended old (lines_of bytes) now (lines_of left) replies
  pub ready : IsReady line_limit codec left
  pub kept : sound now

-- a run of all the lines is one of those of the first piece, and then one of what its rest and the second make
run_parts : {W : Type 0} (step : Steps W) (ended : W → W → Type 0) (old : W) (lines : Lines) (f : List ℕ → Lines) (after all : List ℕ) (new : W)
    → unread_after lines ≡ Some after → Run step ended old (go_on lines f) all new
    → (mid : W) × (text : List ℕ) × (others : List ℕ) × Run step ended old lines text mid × Run step ended mid (f after) others new × (all ≡ text ++ others)
run_parts step ended old (line text more) f after all new e h =
    let tail = run_parts step ended h.2 more f after h.1 new e h.4 in
    (tail.0, h.0 ++ tail.1, tail.2, (h.0, tail.1, h.2, h.3, tail.3, refl), tail.4, h.5 ∙ ap (λ l. h.0 ++ l) tail.5 ∙ sym (append_assoc h.0 tail.1 tail.2))
run_parts step ended old (rest left) f after all new e h =
    let same : left ≡ after = cc in
    (old, [], all, (refl, refl), subst (λ l. Run step ended old (f l) all new) same h, refl)
run_parts step ended old closed f after all new e h = cc

pub fed_parts : {W : Type 0} (step : Steps W) (ended : W → W → Type 0) (old new : W) (bytes more all after : List ℕ) (left : Option (List ℕ))
    → unread_after (lines_of bytes) ≡ Some after → Fed step ended old (bytes ++ more) all new left
    → (mid : W) × (text : List ℕ) × (others : List ℕ) × Fed step ended old bytes text mid (Some after) × Fed step ended mid (after ++ more) others new left × (all ≡ text ++ others)
fed_parts step ended old new bytes more all after left e h =
    let joined = lines-append line_limit bytes more in
    let parts = run_parts step ended old (lines_of bytes) (λ a. lines_of (a ++ more)) after all new e (subst (λ l. Run step ended old l all new) joined h.run) in
    let unread = sym (unread_on (lines_of bytes) (λ a. lines_of (a ++ more)) after e) ∙ ap unread_after (sym joined) ∙ h.unread in
    (parts.0, parts.1, parts.2, record { run = parts.3; unread = e }, record { run = parts.4; unread = unread }, parts.5)
