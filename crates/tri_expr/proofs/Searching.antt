-- Where the parts of a pattern are looked for: a part stands where its fixed start stands, and the last part at the end.
use Rattle.std.proofs.Common.{◌≡◌, ◌≢◌, ℕ, suc, Bool, true, false, ◌||◌, cond, eqb, List, [], ◌∷◌, ◌++◌, map, length, drop, ◌+◌, ◌-◌, ◌<◌, ◌≤◌, ◌⊎◌, inl, inr, arith, refl, sym, ap, ◌∙◌, subst}
use Rattle.std.specs.Char.{char_set_contains}
use Rattle.std.specs.Str.{chars, IsUtf8, NonePass, NoCharPasses}
use Rattle.std.specs.Str.Pattern.{LacksTextAt}
use Rattle.std.proofs.Math.Seq.{drop-append-add, drop-nil, drop-length}
use Rattle.std.proofs.Math.Utf8.{encodes, encode}
use Rattle.std.proofs.lemmas.Bool.{eqb-true, eqb-false, ne_eqb, and_parts, or_parts, or_from, false_from_ne_true, cases_lt}
use Rattle.std.proofs.lemmas.List.{length-append, append-nil, append_assoc, map-append}
use Rattle.std.proofs.lemmas.Str.{encodes-append, encodes-chars, chars-append, chars_from_encodes, length-encode, length-le-encodes, len_utf8_bounds}
use Rattle.tri_expr.specs.declared.like.Piece.{Piece}
use Rattle.tri_expr.specs.declared.like.Piece.TheVariants.{Run, One, This}
use Rattle.tri_expr.specs.Like.{pieces, fits, some_rest}
use Rattle.tri_expr.proofs.Reaching.{stops, waits_fits, waits_shorter}
use Rattle.tri_expr.specs.Reach.{Reached, Ended, Waits, reached, BeginsWith, has_run, TakesJust, SkipsNothing, Seeks}

-- what fits begins with the fixed start
fits_begins : (ns : List ℕ) (qs : List Piece) (cs : List ℕ) → fits (map This ns ++ qs) cs ≡ true → (rest : List ℕ) × (cs ≡ ns ++ rest)
fits_begins [] qs cs e = (cs, refl)
fits_begins (n ∷ ns) qs [] e = absurd cc
fits_begins (n ∷ ns) qs (c ∷ cs) e =
    let p = and_parts (eqb c n) (fits (map This ns ++ qs) cs) e in
    let h = fits_begins ns qs cs p.1 in
    (h.0, ap (λ (d : ℕ). d ∷ cs) (eqb-true c n p.0) ∙ ap (λ (l : List ℕ). n ∷ l) h.1)

-- where the fixed start's bytes do not stand, nothing fits
lacks : (ps : List Piece) (name : List ℕ) (cs : List ℕ) → IsUtf8 name → BeginsWith (chars name) ps → LacksTextAt name (encodes cs) 0 → fits ps cs ≡ false
lacks ps name cs u b none = false_from_ne_true (fits ps cs) (λ e.
    let h = fits_begins (chars name) b.0 cs (subst (λ qs. fits qs cs ≡ true) b.1 e) in
    none (encodes h.0) (ap encodes h.1 ∙ encodes-append (chars name) h.0 ∙ ap (λ (l : List ℕ). l ++ encodes h.0) (encodes-chars name u)))

-- so what stands before its first place is no rest that fits
passed : (ps : List Piece) (name : List ℕ) (bs ms : List ℕ) → IsUtf8 name → BeginsWith (chars name) ps
    → ((i : ℕ) → i < length (encodes bs) → LacksTextAt name (encodes (bs ++ ms)) i) → some_rest (fits ps) ms ≡ some_rest (fits ps) (bs ++ ms)
passed ps name [] ms u b none = refl
passed ps name (c ∷ bs) ms u b none =
    let long = (len_utf8_bounds c).0 in
    let here = lacks ps name (c ∷ (bs ++ ms)) u b (none 0 (omega (arith, long, length-encode c, length-append (encode c) (encodes bs)))) in
    let later = passed ps name bs ms u b (λ i less rest is.
    none (length (encode c) + i) (omega (arith, less, length-append (encode c) (encodes bs))) rest (drop-append-add (encode c) (encodes (bs ++ ms)) i ∙ is)) in
    rw here later

-- a place at which a search found the fixed start, and none at all
pub from_place : (ps : List Piece) (name front place text : List ℕ) → IsUtf8 name → IsUtf8 front → IsUtf8 place → BeginsWith (chars name) ps → text ≡ front ++ place
    → ((i : ℕ) → i < length front → LacksTextAt name text i) → SkipsNothing ps (chars text) (chars place)
from_place ps name front place text u f p b is none =
    let both : chars text ≡ chars front ++ chars place = ap chars is ∙ chars-append front place f in
    let spelt : encodes (chars front ++ chars place) ≡ text = encodes-append (chars front) (chars place) ∙ rw (encodes-chars front f, encodes-chars place p) (sym is) in
    let lack : (i : ℕ) → i < length (encodes (chars front)) → LacksTextAt name (encodes (chars front ++ chars place)) i
    = λ i less. rw spelt (none i (rw (← encodes-chars front f) less)) in
    (rw both (passed ps name (chars front) (chars place) u b lack), rw both (omega (arith, length-append (chars front) (chars place))))

pub nowhere : (ps : List Piece) (name text : List ℕ) → IsUtf8 name → IsUtf8 text → BeginsWith (chars name) ps
    → ((i : ℕ) → i ≤ length text → LacksTextAt name text i) → some_rest (fits ps) (chars text) ≡ false
nowhere ps name text u t b none =
    let spelt : encodes (chars text) ≡ text = encodes-chars text t in
    let all : chars text ++ [] ≡ chars text = append-nil (chars text) in
    let lack : (i : ℕ) → i < length (encodes (chars text)) → LacksTextAt name (encodes (chars text ++ [])) i
    = λ i less. rw (all, spelt) (none i (omega (arith, less, ap length spelt))) in
    let last : fits ps [] ≡ false = lacks ps name [] u b (λ rest is. none (length text) (omega arith) rest (drop-length text ∙ is)) in
    sym (sym last ∙ passed ps name (chars text) [] u b lack ∙ ap (some_rest (fits ps)) all)

-- characters that are no `%`, no `_` and no backslash stand for themselves
abbrev special : ℕ → Bool
special = char_set_contains (37 ∷ 95 ∷ 92 ∷ [])

by_tests : (c d : ℕ) (cs : List ℕ) (run one escape : Bool) → run ≡ false → one ≡ false → escape ≡ false
    → cond escape (This d ∷ pieces cs) (cond run (Run ∷ pieces (d ∷ cs)) (cond one (One ∷ pieces (d ∷ cs)) (This c ∷ pieces (d ∷ cs)))) ≡ This c ∷ pieces (d ∷ cs)
by_tests c d cs run one escape r o e = rw (r, o, e) refl

turned : (c d : ℕ) → eqb d c ≡ false → eqb c d ≡ false
turned c d e = ne_eqb c d (λ is. eqb-false d c e (sym is))

plain_one : (c : ℕ) (cs : List ℕ) → special c ≡ false → pieces (c ∷ cs) ≡ This c ∷ pieces cs
plain_one c [] e =
    let p = or_parts (eqb 37 c) _ e in
    let q = or_parts (eqb 95 c) _ p.1 in
    rw (turned c 37 p.0, turned c 95 q.0) refl
plain_one c (d ∷ cs) e =
    let p = or_parts (eqb 37 c) _ e in
    let q = or_parts (eqb 95 c) _ p.1 in
    let r = or_parts (eqb 92 c) false q.1 in
    by_tests c d cs (eqb c 37) (eqb c 95) (eqb c 92) (turned c 37 p.0) (turned c 95 q.0) (turned c 92 r.0)

plain_all : (cs ds : List ℕ) → NonePass special cs → pieces (cs ++ ds) ≡ map This cs ++ pieces ds
plain_all [] ds h = refl
plain_all (c ∷ cs) ds h = plain_one c (cs ++ ds) h.0 ∙ ap (λ (ps : List Piece). This c ∷ ps) (plain_all cs ds h.1)

pub spelt_plain : (pattern fixed rest : List ℕ) → IsUtf8 fixed → pattern ≡ fixed ++ rest → NoCharPasses special fixed → BeginsWith (chars fixed) (pieces (chars pattern))
spelt_plain pattern fixed rest u is h =
    let e : chars pattern ≡ chars fixed ++ chars rest = ap chars is ∙ chars-append fixed rest u in
    let own : h.0 ≡ chars fixed = chars_from_encodes h.0 fixed u h.1 in
    (pieces (chars rest), ap pieces e ∙ plain_all (chars fixed) (chars rest) (subst (NonePass special) own h.2))

pub all_plain : (pattern : List ℕ) → IsUtf8 pattern → NoCharPasses special pattern → BeginsWith (chars pattern) (pieces (chars pattern))
all_plain pattern u h = spelt_plain pattern pattern [] u (sym (append-nil pattern)) h

pub shorter_start : (fixed start rest : List ℕ) (ps : List Piece) → IsUtf8 start → fixed ≡ start ++ rest → BeginsWith (chars fixed) ps → BeginsWith (chars start) ps
shorter_start fixed start rest ps u is h =
    let e : chars fixed ≡ chars start ++ chars rest = ap chars is ∙ chars-append start rest u in
    let cut : map This (chars fixed) ≡ map This (chars start) ++ map This (chars rest) = ap (map This) e ∙ map-append This (chars start) (chars rest) in
    (map This (chars rest) ++ h.0, h.1 ∙ ap (λ (l : List Piece). l ++ h.0) cut ∙ append_assoc (map This (chars start)) (map This (chars rest)) h.0)

-- a run, or any one character, takes what is there
or_none : (p q : Bool) → q ≡ false → (p || q) ≡ p
or_none true q e = refl
or_none false q e = e

twice : (p q : Bool) → (p || q) ≡ ((p || q) || q)
twice true q = refl
twice false true = refl
twice false false = refl

pub run_goes : (ps : List Piece) (cs : List ℕ) → some_rest (fits ps) cs ≡ some_rest (fits (Run ∷ ps)) cs
run_goes ps [] = refl
run_goes ps (c ∷ cs) = rw (← run_goes ps cs) (twice (fits ps (c ∷ cs)) (some_rest (fits ps) cs))

pub one_goes : (ps : List Piece) (c : ℕ) (cs : List ℕ) → some_rest (fits ps) cs ≡ some_rest (fits (One ∷ ps)) (c ∷ cs)
one_goes ps c [] = sym (or_none (fits ps []) false refl)
one_goes ps c (d ∷ ds) = rw (← one_goes ps d ds) refl

pub nothing_fits : (cs : List ℕ) → some_rest (fits []) cs ≡ true
nothing_fits [] = refl
nothing_fits (c ∷ cs) = nothing_fits cs

-- pieces without a run fit the last characters, or no rest
fits_length : (ps : List Piece) (cs : List ℕ) → has_run ps ≡ false → fits ps cs ≡ true → length cs ≡ length ps
fits_length [] [] f e = refl
fits_length [] (c ∷ cs) f e = absurd cc
fits_length (Run ∷ ps) cs f e = absurd cc
fits_length (One ∷ ps) [] f e = absurd cc
fits_length (One ∷ ps) (c ∷ cs) f e = ap suc (fits_length ps cs f e)
fits_length (This d ∷ ps) [] f e = absurd cc
fits_length (This d ∷ ps) (c ∷ cs) f e = ap suc (fits_length ps cs f (and_parts (eqb c d) (fits ps cs) e).1)

other_length : (ps : List Piece) (cs : List ℕ) → has_run ps ≡ false → length cs ≢ length ps → fits ps cs ≡ false
other_length ps cs f other = false_from_ne_true (fits ps cs) (λ e. other (fits_length ps cs f e))

too_short : (ps : List Piece) (cs : List ℕ) → has_run ps ≡ false → length cs < length ps → some_rest (fits ps) cs ≡ false
too_short ps [] f l = other_length ps [] f (λ e. omega (arith, l, e))
too_short ps (c ∷ cs) f l = or_from (fits ps (c ∷ cs)) (some_rest (fits ps) cs) (other_length ps (c ∷ cs) f (λ e. omega (arith, l, e))) (too_short ps cs f (omega (arith, l)))

by_length : (ps : List Piece) (c : ℕ) (cs : List ℕ) → has_run ps ≡ false → (length ps < suc (length cs)) ⊎ (suc (length cs) ≤ length ps)
    → some_rest (fits ps) cs ≡ fits ps (drop (length cs - length ps) cs) → some_rest (fits ps) (c ∷ cs) ≡ fits ps (drop (suc (length cs) - length ps) (c ∷ cs))
by_length ps c cs f (inl more) rest =
    let e : suc (length cs) - length ps ≡ suc (length cs - length ps) = omega (arith, more) in
    let no = other_length ps (c ∷ cs) f (λ is. omega (arith, more, is)) in
    rw (e, no) rest
by_length ps c cs f (inr less) rest =
    let e : suc (length cs) - length ps ≡ 0 = omega (arith, less) in
    rw e (or_none (fits ps (c ∷ cs)) (some_rest (fits ps) cs) (too_short ps cs f (omega (arith, less))))

pub at_end : (ps : List Piece) (cs : List ℕ) → has_run ps ≡ false → some_rest (fits ps) cs ≡ fits ps (drop (length cs - length ps) cs)
at_end ps [] f = ap (fits ps) (sym (drop-nil (0 - length ps)))
at_end ps (c ∷ cs) f = by_length ps c cs f (cases_lt (length ps) (suc (length cs))) (at_end ps cs f)

-- a pattern has no more pieces than bytes
one_at_most : (run one : Bool) (c : ℕ) → length (cond run (Run ∷ []) (cond one (One ∷ []) (This c ∷ []))) ≤ 1
one_at_most true one c = omega arith
one_at_most false true c = omega arith
one_at_most false false c = omega arith

by_kind : (escape run one : Bool) (c d : ℕ) (cs : List ℕ) → length (pieces cs) ≤ length cs → length (pieces (d ∷ cs)) ≤ suc (length cs)
    → length (cond escape (This d ∷ pieces cs) (cond run (Run ∷ pieces (d ∷ cs)) (cond one (One ∷ pieces (d ∷ cs)) (This c ∷ pieces (d ∷ cs))))) ≤ suc (suc (length cs))
by_kind true run one c d cs h g = omega (arith, h)
by_kind false true one c d cs h g = omega (arith, g)
by_kind false false true c d cs h g = omega (arith, g)
by_kind false false false c d cs h g = omega (arith, g)

no_more : (cs : List ℕ) → length (pieces cs) ≤ length cs
no_more [] = omega arith
no_more (c ∷ []) = one_at_most (eqb c 37) (eqb c 95) c
no_more (c ∷ d ∷ cs) = by_kind (eqb c 92) (eqb c 37) (eqb c 95) c d cs (no_more cs) (no_more (d ∷ cs))

pub pieces_within : (pattern : List ℕ) → IsUtf8 pattern → length (pieces (chars pattern)) ≤ length pattern
pieces_within pattern u =
    let spelt = ap length (encodes-chars pattern u) in
    omega (arith, no_more (chars pattern), length-le-encodes (chars pattern), spelt)

by_answer : (ps : List Piece) (cs end : List ℕ) (r : Reached) → some_rest (fits ps) cs ≡ fits ps end → r ≡ reached ps end → Seeks ps cs r
by_answer ps cs end (Ended b) e is = e ∙ stops ps end b is
by_answer ps cs end (Waits later left) e is = (e ∙ waits_fits ps later end left is, waits_shorter ps later end left is)

pub seeks_end : (ps : List Piece) (cs : List ℕ) (wanted : ℕ) (r : Reached) → TakesJust wanted ps → r ≡ reached ps (drop (length cs - wanted) cs) → Seeks ps cs r
seeks_end ps cs wanted r just is =
    let e : some_rest (fits ps) cs ≡ fits ps (drop (length cs - wanted) cs) = rw (← just.1) (at_end ps cs just.0) in
    by_answer ps cs (drop (length cs - wanted) cs) r e is

pub onward : (c : ℕ) (place behind left text : List ℕ) → place ≡ c ∷ behind → length place ≤ length left → length left ≤ length text → length behind ≤ length text
onward c place behind left text is less more = omega (arith, ap length is, less, more)

pub past_run : (ps rest : List Piece) (cs : List ℕ) → ps ≡ Run ∷ rest → some_rest (fits rest) cs ≡ some_rest (fits ps) cs
past_run ps rest cs is = rw is (run_goes rest cs)

pub past_one : (ps rest : List Piece) (cs behind : List ℕ) (c : ℕ) → ps ≡ One ∷ rest → cs ≡ c ∷ behind → some_rest (fits rest) behind ≡ some_rest (fits ps) cs
past_one ps rest cs behind c is cut = rw (is, cut) (one_goes rest c behind)

pub past_all_pieces : (ps : List Piece) (cs : List ℕ) → ps ≡ [] → some_rest (fits ps) cs ≡ true
past_all_pieces ps cs is = rw is (nothing_fits cs)
