-- What is spelled so is read so.
use Rattle.std.proofs.Common.{◌≡◌, ℕ, inl, inr, Bool, true, false, cond, List, [], ◌∷◌, ◌++◌, refl, sym, ◌∙◌, ap, subst, append_assoc, codes}
use Rattle.std.specs.Prelude.{Result, Ok, Err, Some, None}
use Rattle.std.specs.Str.{bytes_eq}
use Rattle.std.proofs.lemmas.Slice.Eq.{bytes_eq-Decides}
use Rattle.med_lexer.specs.Lexemes.{Shape, word, quoted}
use Rattle.med_syntax.specs.declared.refusal.Refusal.{Refusal}
use Rattle.med_syntax.specs.declared.refusal.Refusal.TheVariants.{Syntax}
use Rattle.med_syntax.specs.Prelude.{choose, Name, CountTree, some_rows, all_rows, CursorTree, declare, fetch, close}
use Rattle.med_syntax.specs.Words.{is_reserved}
use Rattle.ddl_parser.specs.DdlGrammar.{Form, Both, Words, WordsOrNot, NameIs, IsEnd}
use Rattle.ddl_parser.specs.DdlReading.{seq, expect, words_if, name_of, is_end}
use Rattle.ddl_parser.proofs.DdlTakes.{Clear, other_word, seq_takes, seq_ends, first_absent, expect_takes, Absent, if_takes, name_takes}
use Rattle.write_parser.specs.CursorGrammar.{Properties, Declaring, CountIs, FromOrIn, Fetching, Closing}
use Rattle.write_parser.specs.CursorReading.{held_of, properties_of, declared_of, next_of, word_count_of, count_of, from_of, fetch_of, close_of, plain_of, ended, plain_line}
use Rattle.write_parser.proofs.CursorSound.{Plain}

-- ---- DECLARE

-- whether words that the tree does not hold are written
record Skipped (ws : List (List ℕ)) (ts rest : List Shape) : Type 0 where
  written : Bool
  reads : words_if ws (ts ++ rest) ≡ Ok (written, rest)

skipped : (ws : List (List ℕ)) (ts rest : List Shape) → WordsOrNot ws ts → Absent ws rest → Skipped ws ts rest
skipped ws ts rest (inl s) f = record { written = false; reads = if_takes ws false ts rest s f }
skipped ws ts rest (inr s) f = record { written = true; reads = if_takes ws true ts rest s f }

-- what begins with the one word does not begin with the other
word_clear : {T : Form} (w v : List ℕ) (ts rest : List Shape) → bytes_eq v w ≡ false → Both (Words (v ∷ [])) T ts → Clear w (ts ++ rest)
word_clear w v ts rest h s = subst (λ us. Clear w (us ++ rest)) (sym (s.is ∙ ap (λ us. us ++ s.behind) s.first)) (other_word w v _ h)

scroll_clear : (ts rest : List Shape) → WordsOrNot (codes "no" ∷ codes "scroll" ∷ []) ts → Clear (codes "insensitive") rest → Clear (codes "insensitive") (ts ++ rest)
scroll_clear ts rest (inl s) f = subst (λ us. Clear (codes "insensitive") (us ++ rest)) (sym s) f
scroll_clear ts rest (inr s) f = subst (λ us. Clear (codes "insensitive") (us ++ rest)) (sym s) refl

for_absent : (ts rest : List Shape) → Words (codes "for" ∷ []) ts → Absent (codes "with" ∷ codes "hold" ∷ []) (ts ++ rest)
for_absent ts rest s = subst (λ us. Absent (codes "with" ∷ codes "hold" ∷ []) (us ++ rest)) (sym s) refl

abbrev Hold : Form
Hold = Both (WordsOrNot (codes "with" ∷ codes "hold" ∷ [])) (Words (codes "for" ∷ []))

abbrev Held : Form
Held = Both (Words (codes "cursor" ∷ [])) Hold

held_takes : (ts rest : List Shape) → Held ts → held_of (ts ++ rest) ≡ Ok (tt, rest)
unfolding held_of
held_takes ts rest s =
    let h : Hold s.behind = s.second in
    let l = skipped (codes "with" ∷ codes "hold" ∷ []) h.front (h.behind ++ rest) h.first (for_absent h.behind rest h.second) in
    seq_takes (expect (codes "cursor" ∷ [])) _ tt tt ts rest s (expect_takes (codes "cursor" ∷ []) tt s.front (s.behind ++ rest) s.first tt)
    (seq_takes (words_if (codes "with" ∷ codes "hold" ∷ [])) _ l.written tt s.behind rest h l.reads (expect_takes (codes "for" ∷ []) tt h.behind rest h.second tt))

insensitive_absent : (ts rest : List Shape) → Both (WordsOrNot (codes "no" ∷ codes "scroll" ∷ [])) Held ts → Absent (codes "insensitive" ∷ []) (ts ++ rest)
insensitive_absent ts rest s =
    first_absent (codes "insensitive") [] (ts ++ rest)
    (subst (Clear (codes "insensitive")) (sym (ap (λ us. us ++ rest) s.is ∙ append_assoc s.front s.behind rest))
    (scroll_clear s.front (s.behind ++ rest) s.first (word_clear (codes "insensitive") (codes "cursor") s.behind rest refl s.second)))

properties_take : (ts rest : List Shape) → Properties ts → properties_of (ts ++ rest) ≡ Ok (tt, rest)
unfolding properties_of
properties_take ts rest s =
    let scroll : List (List ℕ) = codes "no" ∷ codes "scroll" ∷ [] in
    let k : Both (WordsOrNot scroll) Held s.behind = s.second in
    let c : Held k.behind = k.second in
    let i = skipped (codes "insensitive" ∷ []) s.front (s.behind ++ rest) s.first (insensitive_absent s.behind rest k) in
    let j = skipped scroll k.front (k.behind ++ rest) k.first (first_absent (codes "no") (codes "scroll" ∷ []) (k.behind ++ rest) (word_clear (codes "no") (codes "cursor") k.behind rest refl c)) in
    seq_takes (words_if (codes "insensitive" ∷ [])) _ i.written tt ts rest s i.reads
    (seq_takes (words_if scroll) _ j.written tt s.behind rest k j.reads (held_takes k.behind rest c))

pub declared_takes : (n : Name) (ts rest : List Shape) → Declaring n ts → declared_of (ts ++ rest) ≡ Ok (n, rest)
unfolding declared_of
declared_takes n ts rest s =
    let k : Both (NameIs n) Properties s.behind = s.second in
    seq_takes (expect (codes "declare" ∷ [])) _ tt n ts rest s (expect_takes (codes "declare" ∷ []) tt s.front (s.behind ++ rest) s.first tt)
    (seq_takes name_of _ n n s.behind rest k (name_takes n k.front (k.behind ++ rest) k.first tt)
    (seq_ends properties_of _ tt n k.behind rest (properties_take k.behind rest k.second) refl))

-- ---- FETCH and CLOSE

-- a name is no reserved word
reserved_apart : (w : List ℕ) (n : Name) → is_reserved w ≡ true → is_reserved n ≡ false → bytes_eq n w ≡ false
reserved_apart w n r f =
    let go : (b : Bool) → bytes_eq n w ≡ b → bytes_eq n w ≡ false = elim [
      | false ↦ (λ e. e)
      | true ↦ (λ e. absurd (let same : is_reserved n ≡ true = ap is_reserved ((bytes_eq-Decides n w).0 e) ∙ r in cc))
    ]
    in go (bytes_eq n w) refl

all_reserved : is_reserved (codes "all") ≡ true
unfolding is_reserved
all_reserved = refl

from_reserved : is_reserved (codes "from") ≡ true
unfolding is_reserved
from_reserved = refl

in_reserved : is_reserved (codes "in") ≡ true
unfolding is_reserved
in_reserved = refl

name_clear : (w : List ℕ) (n : Name) (ts rest : List Shape) → is_reserved w ≡ true → NameIs n ts → Clear w (ts ++ rest)
name_clear w n ts rest r (inl s) = subst (λ us. Clear w (us ++ rest)) (sym s) refl
name_clear w n ts rest r (inr s) = subst (λ us. Clear w (us ++ rest)) (sym s.0) (other_word w n rest (reserved_apart w n r s.1))

-- [FROM | IN] name
abbrev FromName : Name → Form
FromName n = Both FromOrIn (NameIs n)

name_open : (n : Name) (ts rest : List Shape) → NameIs n ts → is_end (ts ++ rest) ≡ false
name_open n ts rest (inl s) = subst (λ us. is_end (us ++ rest) ≡ false) (sym s) refl
name_open n ts rest (inr s) = subst (λ us. is_end (us ++ rest) ≡ false) (sym s.0) refl

front_open : (ts rest : List Shape) → FromOrIn ts → is_end rest ≡ false → is_end (ts ++ rest) ≡ false
front_open ts rest (inl s) f = subst (λ us. is_end (us ++ rest) ≡ false) (sym s) f
front_open ts rest (inr (inl s)) f = subst (λ us. is_end (us ++ rest) ≡ false) (sym s) refl
front_open ts rest (inr (inr s)) f = subst (λ us. is_end (us ++ rest) ≡ false) (sym s) refl

from_name_open : (n : Name) (ts rest : List Shape) → FromName n ts → is_end (ts ++ rest) ≡ false
from_name_open n ts rest s =
    subst (λ us. is_end us ≡ false) (sym (ap (λ us. us ++ rest) s.is ∙ append_assoc s.front s.behind rest)) (front_open s.front (s.behind ++ rest) s.first (name_open n s.behind rest s.second))

-- what asks for one row
abbrev One : List Shape → Type 0
One ts = count_of ts ≡ Ok (some_rows 1, ts)

one_quoted : (n : Name) (rest : List Shape) → One (quoted n ∷ rest)
unfolding word_count_of next_of
one_quoted n rest = refl

one_from : (rest : List Shape) → One (word (codes "from") ∷ rest)
unfolding word_count_of next_of
one_from rest = refl

one_in : (rest : List Shape) → One (word (codes "in") ∷ rest)
unfolding word_count_of next_of
one_in rest = refl

-- NEXT with nothing behind it is a name
one_next : (n : Name) (rest : List Shape) → is_end rest ≡ true → next_of (word n ∷ rest) ≡ Ok (some_rows 1, word n ∷ rest)
unfolding next_of
one_next n rest h =
    let go : (b : Bool) → choose {B = Result (CountTree × List Shape) Refusal} (cond b (Some rest) None) (Ok (some_rows 1, word n ∷ rest)) (λ after. Ok (some_rows 1, cond (is_end after) (word n ∷ rest) after)) ≡ Ok (some_rows 1, word n ∷ rest) = elim [
      | true ↦ (rw h refl)
      | false ↦ refl
    ]
    in go (bytes_eq n (codes "next"))

one_word : (n : Name) (rest : List Shape) → bytes_eq n (codes "all") ≡ false → is_end rest ≡ true → One (word n ∷ rest)
unfolding word_count_of
one_word n rest f h = rw f (one_next n rest h)

end_is : (rest : List Shape) → IsEnd rest → is_end rest ≡ true
end_is rest (inl s) = ap is_end s
end_is rest (inr s) = ap is_end s

one_name : (n : Name) (ts rest : List Shape) → NameIs n ts → IsEnd rest → One (ts ++ rest)
one_name n ts rest (inl s) f = subst (λ us. One (us ++ rest)) (sym s) (one_quoted n rest)
one_name n ts rest (inr s) f = subst (λ us. One (us ++ rest)) (sym s.0) (one_word n rest (reserved_apart (codes "all") n all_reserved s.1) (end_is rest f))

one_front : (n : Name) (ts us rest : List Shape) → FromOrIn ts → NameIs n us → IsEnd rest → One (ts ++ (us ++ rest))
one_front n ts us rest (inl s) k f = subst (λ vs. One (vs ++ (us ++ rest))) (sym s) (one_name n us rest k f)
one_front n ts us rest (inr (inl s)) k f = subst (λ vs. One (vs ++ (us ++ rest))) (sym s) (one_from (us ++ rest))
one_front n ts us rest (inr (inr s)) k f = subst (λ vs. One (vs ++ (us ++ rest))) (sym s) (one_in (us ++ rest))

one_from_name : (n : Name) (ts rest : List Shape) → FromName n ts → IsEnd rest → One (ts ++ rest)
one_from_name n ts rest s f = subst One (sym (ap (λ us. us ++ rest) s.is ∙ append_assoc s.front s.behind rest)) (one_front n s.front s.behind rest s.first s.second f)

next_word : (rest : List Shape) → is_end rest ≡ false → count_of (word (codes "next") ∷ rest) ≡ Ok (some_rows 1, rest)
unfolding word_count_of next_of
next_word rest h = rw h refl

all_word : (rest : List Shape) → count_of (word (codes "all") ∷ rest) ≡ Ok (all_rows, rest)
unfolding word_count_of
all_word rest = refl

told_rows : (k m : ℕ) (rest : List Shape) → k ≡ m → ◌≡◌ {A = Result (CountTree × List Shape) Refusal} (Ok (some_rows m, rest)) (Ok (some_rows k, rest))
told_rows k m rest e = ap (λ j. Ok (some_rows j, rest)) (sym e)

count_takes : (c : CountTree) (n : Name) (ts us rest : List Shape) → CountIs c ts → FromName n us → IsEnd rest → count_of (ts ++ (us ++ rest)) ≡ Ok (c, us ++ rest)
count_takes (some_rows k) n ts us rest (inl (inl s, e)) f g = ap (λ vs. count_of (vs ++ (us ++ rest))) s ∙ one_from_name n us rest f g ∙ told_rows k 1 (us ++ rest) e
count_takes (some_rows k) n ts us rest (inl (inr s, e)) f g = ap (λ vs. count_of (vs ++ (us ++ rest))) s ∙ next_word (us ++ rest) (from_name_open n us rest f) ∙ told_rows k 1 (us ++ rest) e
count_takes (some_rows k) n ts us rest (inr s) f g = ap (λ vs. count_of (vs ++ (us ++ rest))) s.1 ∙ told_rows k _ (us ++ rest) s.2
count_takes all_rows n ts us rest s f g = ap (λ vs. count_of (vs ++ (us ++ rest))) s ∙ all_word (us ++ rest)

from_word : (rest : List Shape) → from_of (word (codes "from") ∷ rest) ≡ Ok (tt, rest)
unfolding from_of
from_word rest = refl

in_word : (rest : List Shape) → from_of (word (codes "in") ∷ rest) ≡ Ok (tt, rest)
unfolding from_of
in_word rest = refl

from_none : (us : List Shape) → Clear (codes "from") us → Clear (codes "in") us → from_of us ≡ Ok (tt, us)
unfolding from_of
from_none us h k = rw h (rw k refl)

from_takes : (n : Name) (ts us rest : List Shape) → FromOrIn ts → NameIs n us → from_of (ts ++ (us ++ rest)) ≡ Ok (tt, us ++ rest)
from_takes n ts us rest (inl s) k =
    ap (λ vs. from_of (vs ++ (us ++ rest))) s ∙ from_none (us ++ rest) (name_clear (codes "from") n us rest from_reserved k) (name_clear (codes "in") n us rest in_reserved k)
from_takes n ts us rest (inr (inl s)) k = ap (λ vs. from_of (vs ++ (us ++ rest))) s ∙ from_word (us ++ rest)
from_takes n ts us rest (inr (inr s)) k = ap (λ vs. from_of (vs ++ (us ++ rest))) s ∙ in_word (us ++ rest)

fetch_takes : (c : CountTree) (n : Name) (ts rest : List Shape) → Both (CountIs c) (FromName n) ts → IsEnd rest → fetch_of (ts ++ rest) ≡ Ok (fetch c n, rest)
unfolding fetch_of
fetch_takes c n ts rest s f =
    let k : FromName n s.behind = s.second in
    seq_takes count_of _ c (fetch c n) ts rest s (count_takes c n s.front s.behind rest s.first k f)
    (seq_takes from_of _ tt (fetch c n) s.behind rest k (from_takes n k.front k.behind rest k.first k.second)
    (seq_ends name_of _ n (fetch c n) k.behind rest (name_takes n k.behind rest k.second tt) refl))

close_takes : (n : Name) (ts rest : List Shape) → NameIs n ts → close_of (ts ++ rest) ≡ Ok (close n, rest)
unfolding close_of
close_takes n ts rest s = seq_ends name_of _ n (close n) ts rest (name_takes n ts rest s tt) refl

at_fetch : (us : List Shape) → plain_of (word (codes "fetch") ∷ us) ≡ fetch_of us
unfolding plain_of
at_fetch us = refl

at_close : (us : List Shape) → plain_of (word (codes "close") ∷ us) ≡ close_of us
unfolding plain_of
at_close us = refl

first_word : {T : Form} (w : List ℕ) (ts rest : List Shape) (s : Both (Words (w ∷ [])) T ts) → ts ++ rest ≡ word w ∷ (s.behind ++ rest)
first_word w ts rest s = ap (λ us. us ++ rest) (s.is ∙ ap (λ us. us ++ s.behind) s.first)

plain_takes : (d : CursorTree) (ts rest : List Shape) → Plain d ts → IsEnd rest → plain_of (ts ++ rest) ≡ Ok (d, rest)
plain_takes (declare n q) ts rest s f = absurd s
plain_takes (fetch c n) ts rest s f = ap plain_of (first_word (codes "fetch") ts rest s) ∙ at_fetch (s.behind ++ rest) ∙ fetch_takes c n s.behind rest s.second f
plain_takes (close n) ts rest s f = ap plain_of (first_word (codes "close") ts rest s) ∙ at_close (s.behind ++ rest) ∙ close_takes n s.behind rest s.second

pub plain_line_takes : (ts : List Shape) (d : CursorTree) → Both (Plain d) IsEnd ts → plain_line ts ≡ Ok d
unfolding plain_line
plain_line_takes ts d s =
    ap (λ us. ended (plain_of us)) s.is ∙ ap ended (plain_takes d s.front s.behind s.first s.second)
    ∙ ap (λ (b : Bool). cond {A = Result CursorTree Refusal} b (Ok d) (Err Syntax)) (end_is s.behind s.second)

-- ---- FETCH and CLOSE declare nothing

fetch_undeclared : (us : List Shape) → declared_of (word (codes "fetch") ∷ us) ≡ Err Syntax
unfolding declared_of seq expect
fetch_undeclared us = refl

close_undeclared : (us : List Shape) → declared_of (word (codes "close") ∷ us) ≡ Err Syntax
unfolding declared_of seq expect
close_undeclared us = refl

pub undeclared : (ts : List Shape) (d : CursorTree) → Both (Plain d) IsEnd ts → declared_of ts ≡ Err Syntax
undeclared ts (declare n q) s = absurd s.first
undeclared ts (fetch c n) s = ap declared_of (s.is ∙ first_word (codes "fetch") s.front s.behind s.first) ∙ fetch_undeclared (s.first.behind ++ s.behind)
undeclared ts (close n) s = ap declared_of (s.is ∙ first_word (codes "close") s.front s.behind s.first) ∙ close_undeclared (s.first.behind ++ s.behind)

-- ---- the first word

pub first_fetch : (ts : List Shape) (c : CountTree) (n : Name) → Both (Fetching c n) IsEnd ts → (us : List Shape) × (ts ≡ word (codes "fetch") ∷ us)
first_fetch ts c n s = (s.first.behind ++ s.behind, s.is ∙ first_word (codes "fetch") s.front s.behind s.first)

pub first_close : (ts : List Shape) (n : Name) → Both (Closing n) IsEnd ts → (us : List Shape) × (ts ≡ word (codes "close") ∷ us)
first_close ts n s = (s.first.behind ++ s.behind, s.is ∙ first_word (codes "close") s.front s.behind s.first)

pub first_declare : {Q : Form} (ts : List Shape) (n : Name) → Both (Declaring n) Q ts → (us : List Shape) × (ts ≡ word (codes "declare") ∷ us)
first_declare ts n s = (s.first.behind ++ s.behind, s.is ∙ first_word (codes "declare") s.front s.behind s.first)
