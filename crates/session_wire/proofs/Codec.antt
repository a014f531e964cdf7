-- What a call of `decode` says of the lines of the bytes that it is given.
use Rattle.std.proofs.Common.{◌≡◌, ℕ, suc, zero, ◌+◌, ◌-◌, ◌<◌, ◌≤◌, ◌==◌, Bool, true, false, List, [], ◌∷◌, ◌++◌, length, take, drop, refl, sym, ap, ◌∙◌, subst, arith, append-nil, length-append, inl, inr, ◌⊎◌, Some, None, Ok, Err, Global, String, string_bytes}
use Rattle.std.proofs.lemmas.Bool.{cases_lt}
use Rattle.std.proofs.lemmas.Str.{IsUtf8-from_is_utf8, is_utf8-from_IsUtf8, IsUtf8-string_bytes}
use Rattle.std.specs.Str.{is_utf8, IsUtf8}
use Rattle.std.specs.IoError.{error_kind}
use Rattle.std.specs.declared.io.Error.{Error}
use Rattle.std.specs.declared.io.ErrorKind.TheVariants.{InvalidData, OutOfMemory}
use Rattle.tokio_util.specs.declared.codec.lines_codec.LinesCodec.{LinesCodec}
use Rattle.tokio_util.specs.declared.codec.lines_codec.LinesCodecError.{LinesCodecError}
use Rattle.tokio_util.specs.declared.codec.lines_codec.LinesCodecError.TheVariants.{MaxLineLengthExceeded, Io}
use Rattle.tokio_util.specs.Codec.Next.{Next, decoded, partial, Decodes, Resumes}
use Rattle.tokio_util.specs.Codec.Lines.{Scan, line as found, too_long, unfinished, newline_from, read_line, skip_line, scan, at_line_start, discarding, gives_lines, Answers, IsSettled, IsUnfinished}
use Rattle.session_wire.specs.Lines.{line, rest, closed, lines_within}
use Rattle.session_wire.specs.Finds.{HasLine, IsReady}
use Rattle.std.specs.List.{position_or_len}
use Rattle.std.proofs.lemmas.List.{length-drop}
use lib.Seq.{take-append_seam}
use Rattle.tokio_util.specs.Codec.LinesLaws.{read_line_found, read_line_long, read_line_short, skip_line_found, skip_line_missing, newline_from-append_missing}
use Rattle.session_wire.proofs.Pieces.{HasNoLf}
use Rattle.session_wire.proofs.FirstLine.{from_scan, lines_by_scan, newline_is, place_other}

ready_front : (limit : ℕ) (c : LinesCodec) (xs : List ℕ) (next : Next LinesCodec (String Global) LinesCodecError) → IsReady limit c xs → gives_lines c xs next → gives_lines (at_line_start limit) xs next
ready_front limit c xs next h g =
    subst (λ l. gives_lines (at_line_start limit) l next) (append-nil xs) (h [] next (subst (λ l. gives_lines c l next) (sym (append-nil xs)) g))

by_scan : (limit : ℕ) (xs : List ℕ) (s : Scan) → read_line limit 0 xs ≡ s → lines_within limit xs ≡ from_scan limit s
by_scan limit xs s e = lines_by_scan limit xs ∙ ap (from_scan limit) e

-- a text
text_at : (limit : ℕ) (xs : List ℕ) (text : String Global) (t : LinesCodec) (ys : List ℕ) (s : Scan) → lines_within limit xs ≡ from_scan limit s → Answers limit s (Ok text) t ys → (lines_within limit xs ≡ line (string_bytes text) (lines_within limit ys)) × (t ≡ at_line_start limit)
text_at limit xs text t ys (found bytes after) e (inl a) =
    let test : is_utf8 bytes ≡ true = is_utf8-from_IsUtf8 bytes (subst IsUtf8 a.0 (IsUtf8-string_bytes text)) in
    (rw test at e ∙ rw (a.0, a.2) refl, a.1)
text_at limit xs text t ys (found bytes after) e (inr a) = absurd a.0
text_at limit xs text t ys (too_long after) e a = absurd (cc (a.0))
text_at limit xs text t ys (unfinished is_dropped kept) e a = absurd a

-- a text that is not UTF-8
bad_at : (limit : ℕ) (xs : List ℕ) (error : Error) (t : LinesCodec) (ys : List ℕ) (s : Scan) → error_kind error ≡ InvalidData → lines_within limit xs ≡ from_scan limit s → Answers limit s (Err (Io error)) t ys → lines_within limit xs ≡ closed
bad_at limit xs error t ys (found bytes after) k e (inl a) =
    by_test (is_utf8 bytes) refl
  where
    by_test : (b : Bool) → is_utf8 bytes ≡ b → lines_within limit xs ≡ closed
    by_test true u = absurd (a.0.1 (IsUtf8-from_is_utf8 bytes u))
    by_test false u = rw u at e
bad_at limit xs error t ys (found bytes after) k e (inr a) = let no : InvalidData ≡ OutOfMemory = sym k ∙ a.0 in cc
bad_at limit xs error t ys (too_long after) k e a = e
bad_at limit xs error t ys (unfinished is_dropped kept) k e a = absurd a

-- no memory for the text of a line
memory_at : (limit : ℕ) (xs : List ℕ) (error : Error) (t : LinesCodec) (ys : List ℕ) (s : Scan) → (error_kind error ≡ InvalidData → ⊥) → lines_within limit xs ≡ from_scan limit s → Answers limit s (Err (Io error)) t ys → HasLine (lines_within limit xs)
memory_at limit xs error t ys (found bytes after) k e (inl a) = absurd (k a.0.0)
memory_at limit xs error t ys (found bytes after) k e (inr a) =
    let test : is_utf8 bytes ≡ true = is_utf8-from_IsUtf8 bytes a.1 in
    (bytes, lines_within limit after, rw test at e)
memory_at limit xs error t ys (too_long after) k e a = absurd (let no = a.0 in cc)
memory_at limit xs error t ys (unfinished is_dropped kept) k e a = absurd a

-- a line that is too long
long_at : (limit : ℕ) (xs : List ℕ) (t : LinesCodec) (ys : List ℕ) (s : Scan) → lines_within limit xs ≡ from_scan limit s → Answers limit s (Err MaxLineLengthExceeded) t ys → lines_within limit xs ≡ closed
long_at limit xs t ys (found bytes after) e (inl a) = absurd a.0
long_at limit xs t ys (found bytes after) e (inr a) = absurd a.0
long_at limit xs t ys (too_long after) e a = e
long_at limit xs t ys (unfinished is_dropped kept) e a = absurd a

pub ready_text : (limit : ℕ) (c : LinesCodec) (xs : List ℕ) (text : String Global) (t : LinesCodec) (ys : List ℕ) → IsReady limit c xs → Decodes gives_lines c xs (Ok (Some text)) t ys → (lines_within limit xs ≡ line (string_bytes text) (lines_within limit ys)) × IsReady limit t ys
ready_text limit c xs text t ys h d =
    let both = text_at limit xs text t ys (read_line limit 0 xs) (by_scan limit xs _ refl) (ready_front limit c xs (decoded (Ok text) t ys) h d) in
    (both.0, λ more next g. subst (λ k. gives_lines k (ys ++ more) next) both.1 g)

pub ready_bad : (limit : ℕ) (c : LinesCodec) (xs : List ℕ) (error : Error) (t : LinesCodec) (ys : List ℕ) → IsReady limit c xs → error_kind error ≡ InvalidData → Decodes gives_lines c xs (Err (Io error)) t ys → lines_within limit xs ≡ closed
ready_bad limit c xs error t ys h k d =
    bad_at limit xs error t ys (read_line limit 0 xs) k (by_scan limit xs _ refl) (ready_front limit c xs (decoded (Err (Io error)) t ys) h d)

pub ready_memory : (limit : ℕ) (c : LinesCodec) (xs : List ℕ) (error : Error) (t : LinesCodec) (ys : List ℕ) → IsReady limit c xs → (error_kind error ≡ InvalidData → ⊥) → Decodes gives_lines c xs (Err (Io error)) t ys → HasLine (lines_within limit xs)
ready_memory limit c xs error t ys h k d =
    memory_at limit xs error t ys (read_line limit 0 xs) k (by_scan limit xs _ refl) (ready_front limit c xs (decoded (Err (Io error)) t ys) h d)

pub ready_long : (limit : ℕ) (c : LinesCodec) (xs : List ℕ) (t : LinesCodec) (ys : List ℕ) → IsReady limit c xs → Decodes gives_lines c xs (Err MaxLineLengthExceeded) t ys → lines_within limit xs ≡ closed
ready_long limit c xs t ys h d =
    long_at limit xs t ys (read_line limit 0 xs) (by_scan limit xs _ refl) (ready_front limit c xs (decoded (Err MaxLineLengthExceeded) t ys) h d)

-- ---- nothing yet: `decode` leaves the bytes as they were, though its contract says so only by what comes later

-- the three answers of a search, each with what it leaves
abbrev Reads : ℕ → ℕ → List ℕ → Type 0
Reads limit from zs =
    ((text : List ℕ) × (after : List ℕ) × (newline_from from zs < length zs) × (read_line limit from zs ≡ found text after))
    ⊎ (((limit < length zs) × (read_line limit from zs ≡ too_long zs))
    ⊎ ((length zs ≤ newline_from from zs) × (length zs ≤ limit) × (read_line limit from zs ≡ unfinished false zs)))

reads : (limit from : ℕ) (zs : List ℕ) → Reads limit from zs
reads limit from zs =
    elim (cases_lt limit (newline_from from zs)) [
      | inl far ↦ elim (cases_lt limit (length zs)) [
        | inl long ↦ inr (inl (long, read_line_long limit from zs far long))
        | inr short ↦ inr (inr ((omega arith), short, read_line_short limit from zs (omega arith) short))
      ]
      | inr near ↦ elim (cases_lt (newline_from from zs) (length zs)) [
        | inl within ↦ inl (_, _, within, read_line_found limit from zs within near)
        | inr past ↦ elim (cases_lt limit (length zs)) [
          | inl long ↦ absurd (omega arith)
          | inr short ↦ inr (inr (past, short, read_line_short limit from zs past short))
        ]
      ]
    ]

unfinished_reads : (limit from : ℕ) (zs : List ℕ) → IsUnfinished (read_line limit from zs) → Reads limit from zs → (length zs ≤ newline_from from zs) × (length zs ≤ limit) × (read_line limit from zs ≡ unfinished false zs)
unfinished_reads limit from zs u (inl r) = absurd (rw r.3 at u)
unfinished_reads limit from zs u (inr (inl r)) = absurd (rw r.1 at u)
unfinished_reads limit from zs u (inr (inr r)) = r

free_place : (xs : List ℕ) → HasNoLf xs → position_or_len (λ b. b == 10) xs ≡ length xs
free_place [] h = refl
free_place (b ∷ xs) h = omega (arith, place_other b xs h.0, free_place xs h.1)

free_drop : (k : ℕ) (xs : List ℕ) → HasNoLf xs → HasNoLf (drop k xs)
free_drop zero xs h = h
free_drop (suc k) [] h = tt
free_drop (suc k) (b ∷ xs) h = free_drop k xs h.1

-- so many bytes with no LF
abbrev filler : ℕ → List ℕ
filler zero = []
filler (suc n) = 97 ∷ filler n

free_filler : (n : ℕ) → HasNoLf (filler n)
free_filler zero = tt
free_filler (suc n) = (refl, free_filler n)

length_filler : (n : ℕ) → length (filler n) ≡ n
length_filler zero = refl
length_filler (suc n) = ap suc (length_filler n)

drop_past : (n : ℕ) (ys more : List ℕ) → length ys ≤ n → drop n (ys ++ more) ≡ drop (n - length ys) more
drop_past n [] more h = let e : n - 0 ≡ n = omega arith in rw e refl
drop_past zero (y ∷ ys) more h = absurd (omega arith)
drop_past (suc n) (y ∷ ys) more h = let e : suc n - suc (length ys) ≡ n - length ys = omega arith in rw e (drop_past n ys more (omega arith))

-- no LF was found, and none follows
missing_more : (from : ℕ) (ys more : List ℕ) → length ys ≤ newline_from from ys → HasNoLf more → length (ys ++ more) ≤ newline_from from (ys ++ more)
unfolding newline_from
missing_more from ys more h free =
    elim (cases_lt (length ys) from) [
      | inl past ↦
          let behind : newline_from from (ys ++ more) ≡ from + length (drop (from - length ys) more) =
          ap (λ l. from + position_or_len (λ b. b == 10) l) (drop_past from ys more (omega arith)) ∙ ap (λ n. from + n) (free_place _ (free_drop (from - length ys) more free)) in
          omega (arith, behind, length-append ys more, length-drop (from - length ys) more)
      | inr within ↦ omega (arith, newline_from-append_missing from ys more within h, newline_is more, free_place more free, length-append ys more)
    ]

cancel : (xs ys more : List ℕ) → ys ++ more ≡ xs ++ more → ys ≡ xs
cancel xs ys more e =
    let same : length ys ≡ length xs = omega (arith, length-append xs more, length-append ys more, ap length e) in
    sym (take-append_seam ys more) ∙ ap (take (length ys)) e ∙ ap (λ n. take n (xs ++ more)) same ∙ take-append_seam xs more

-- what a long line without an LF shows
shown : (limit : ℕ) (xs ys more : List ℕ) (u : LinesCodec) → Reads limit 0 (xs ++ more) → Answers limit (read_line limit 0 (xs ++ more)) (Err MaxLineLengthExceeded) u (ys ++ more) → ys ≡ xs
shown limit xs ys more u (inl r) a = elim (rw r.3 at a) [ inl b ↦ absurd b.0 | inr b ↦ absurd b.0 ]
shown limit xs ys more u (inr (inl r)) a = cancel xs ys more (rw r.1 at a).2
shown limit xs ys more u (inr (inr r)) a = absurd (rw r.2 at a)

settled_dropping : (max : ℕ) (ys : List ℕ) → skip_line max ys ≡ unfinished true ys → (newline_from 0 ys < length ys) ⊎ (length ys ≤ newline_from 0 ys) → ys ≡ []
settled_dropping max ys s (inl within) =
    let e : read_line max 0 (drop (newline_from 0 ys + 1) ys) ≡ unfinished true ys = sym (skip_line_found max ys within) ∙ s in
    no (reads max 0 (drop (newline_from 0 ys + 1) ys)) e
  where
    no : {zs : List ℕ} → Reads max 0 zs → read_line max 0 zs ≡ unfinished true ys → ys ≡ []
    no {zs} (inl r) e = let f : found r.0 r.1 ≡ unfinished true ys = sym r.3 ∙ e in cc
    no {zs} (inr (inl r)) e = let f : too_long zs ≡ unfinished true ys = sym r.1 ∙ e in cc
    no {zs} (inr (inr r)) e = let f : unfinished false zs ≡ unfinished true ys = sym r.2 ∙ e in cc
settled_dropping max ys s (inr past) = let f : unfinished true [] ≡ unfinished true ys = sym (skip_line_missing max ys past) ∙ s in cc

kept_by : (limit : ℕ) (xs : List ℕ) (t : LinesCodec) (ys : List ℕ) (b : Bool) → t.is_discarding ≡ b → Resumes gives_lines (at_line_start limit) xs t ys → IsSettled t ys → ys ≡ xs
kept_by limit xs t ys true e h s =
    let none : ys ≡ [] = settled_dropping t.max_length ys (rw e at s) (cases_lt (newline_from 0 ys) (length ys)) in
    let more = filler (suc limit) in
    let place : newline_from 0 more ≡ length more = newline_is more ∙ free_place more (free_filler (suc limit)) in
    let skipped : scan t (ys ++ more) ≡ unfinished true [] = rw (none, e) (skip_line_missing t.max_length more (omega arith)) in
    let u : IsUnfinished (read_line limit 0 (xs ++ more)) = h more partial (rw skipped tt) in
    let short = unfinished_reads limit 0 (xs ++ more) u (reads limit 0 (xs ++ more)) in
    absurd (omega (arith, short.1, length-append xs more, length_filler (suc limit)))
kept_by limit xs t ys false e h s =
    let read : read_line t.max_length t.next_index ys ≡ unfinished false ys = rw e at s in
    let free = unfinished_reads t.max_length t.next_index ys (rw read tt) (reads t.max_length t.next_index ys) in
    let more = filler (suc t.max_length) in
    let far = missing_more t.next_index ys more free.0 (free_filler (suc t.max_length)) in
    let long : t.max_length < length (ys ++ more) = omega (arith, length-append ys more, length_filler (suc t.max_length)) in
    let past_limit : scan t (ys ++ more) ≡ too_long (ys ++ more) = rw e (read_line_long t.max_length t.next_index (ys ++ more) (omega arith) long) in
    shown limit xs ys more (discarding t.max_length) (reads limit 0 (xs ++ more))
    (h more (decoded (Err MaxLineLengthExceeded) (discarding t.max_length) (ys ++ more)) (rw past_limit (refl, refl, refl)))

pub ready_none : (limit : ℕ) (c : LinesCodec) (xs : List ℕ) (t : LinesCodec) (ys : List ℕ) → IsReady limit c xs → Decodes gives_lines c xs (Ok None) t ys → IsSettled t ys → (lines_within limit xs ≡ rest xs) × (ys ≡ xs) × IsReady limit t ys
ready_none limit c xs t ys h d s =
    let resumes : Resumes gives_lines (at_line_start limit) xs t ys = λ more next g. h more next (d.1 more next g) in
    let same = kept_by limit xs t ys t.is_discarding refl resumes s in
    let u : IsUnfinished (read_line limit 0 xs) = subst (λ l. gives_lines (at_line_start limit) l partial) (append-nil xs) (resumes [] partial (subst (λ l. gives_lines t l partial) (sym (append-nil ys)) d.0)) in
    let read = unfinished_reads limit 0 xs u (reads limit 0 xs) in
    (by_scan limit xs _ read.2, same, subst (λ l. Resumes gives_lines (at_line_start limit) l t ys) (sym same) resumes)
