-- What is written of a statement is that statement.
use Rattle.std.proofs.Common.{◌≡◌, ℕ, ◌<◌, ◌^◌, inl, inr, true, false, List, [], ◌∷◌, ◌++◌, refl, sym, subst, append-nil, arith, codes}
use Rattle.std.proofs.lemmas.Bool.Decides.{leb_tells}
use Rattle.std.specs.Prelude.{map, nat_le}
use Rattle.std.specs.Fmt.{decimal}
use Rattle.std.specs.Str.Parse.{digits_value}
use Rattle.med_lexer.specs.Lexemes.{Shape, word, quoted, number, Lexeme, Lexes}
use Rattle.med_lexer.specs.Printing.{IsShape, AreShapes}
use Rattle.med_syntax.specs.Prelude.{shapes, Name, CountTree, some_rows, all_rows, CursorTree, declare, fetch, close}
use Rattle.expr_writer.proofs.ExprPrints.{name_shape, PrintedAgain, written_terminal, written_shape}
use Rattle.med_syntax.specs.Terminal as t
use Rattle.sql_print.proofs.QueryPrints as query
use Rattle.ddl_parser.specs.DdlGrammar.{Form, Both, Words, NameIs, IsEnd}
use Rattle.ddl_parser.proofs.DdlPrints.{both_spelled}
use Rattle.write_parser.specs.CursorGrammar.{Properties, Declaring, CountIs, FromOrIn, Fetching, Closing, IsCursor, HasCursor}
use Rattle.write_parser.specs.CursorCauses.{fetched_in_range, cursor_in_range}
use Rattle.sql_print.specs.CursorPrinting.{count_written, query_written, cursor_written, printed_cursor}

-- ---- what is written is spelled so

declaring_spelled : (n : Name) → Declaring n (word (codes "declare") ∷ quoted n ∷ word (codes "cursor") ∷ word (codes "for") ∷ [])
declaring_spelled n =
    let behind : List Shape = word (codes "cursor") ∷ word (codes "for") ∷ [] in
    both_spelled (word (codes "declare") ∷ []) (quoted n ∷ behind) refl
    (both_spelled (quoted n ∷ []) behind (inl refl)
    (both_spelled [] behind (inl refl)
    (both_spelled [] behind (inl refl)
    (both_spelled (word (codes "cursor") ∷ []) (word (codes "for") ∷ []) refl
    (both_spelled [] (word (codes "for") ∷ []) (inl refl) refl)))))

in_range_small : (n : ℕ) → nat_le n 9223372036854775807 ≡ true → n < 2 ^ 64
in_range_small n h = elim (leb_tells n 9223372036854775807) [ inl p ↦ omega (arith, p.1) | inr p ↦ absurd (let q : nat_le n 9223372036854775807 ≡ false = p.0 in cc) ]

number_same : (n : ℕ) → n < 2 ^ 64 → n ≡ digits_value 10 (decimal n)
number_same n h = elim (written_terminal (t.Num n) h) [ inl p ↦ (let same : n ≡ digits_value 10 (decimal n) = cc in same) | inr p ↦ absurd (let bad : number (decimal n) ≡ word (codes "unknown") = p.0 in cc) ]

count_spelled : (c : CountTree) → fetched_in_range c ≡ true → CountIs c (count_written c ∷ [])
count_spelled (some_rows n) r = inr (decimal n, refl, number_same n (in_range_small n r))
count_spelled all_rows r = refl

fetching_spelled : (c : CountTree) (n : Name) → fetched_in_range c ≡ true → Fetching c n (cursor_written (fetch c n))
fetching_spelled c n r =
    both_spelled (word (codes "fetch") ∷ []) (count_written c ∷ word (codes "from") ∷ quoted n ∷ []) refl
    (both_spelled (count_written c ∷ []) (word (codes "from") ∷ quoted n ∷ []) (count_spelled c r) (both_spelled (word (codes "from") ∷ []) (quoted n ∷ []) (inr (inl refl)) (inl refl)))

closing_spelled : (n : Name) → Closing n (cursor_written (close n))
closing_spelled n = both_spelled (word (codes "close") ∷ []) (quoted n ∷ []) refl (inl refl)

ended : {S : Form} (ts : List Shape) → S ts → Both S IsEnd ts
ended ts s = record { front = ts; behind = []; is = sym (append-nil ts); first = s; second = inl refl }

-- ---- what is written is tokens

declare_word : IsShape (word (codes "declare"))
declare_word = (codes "declare", (refl, (refl, (refl, (refl, (refl, (refl, (refl, tt)))))), refl))

cursor_word : IsShape (word (codes "cursor"))
cursor_word = (codes "cursor", (refl, (refl, (refl, (refl, (refl, (refl, tt))))), refl))

for_word : IsShape (word (codes "for"))
for_word = (codes "for", (refl, (refl, (refl, tt)), refl))

fetch_word : IsShape (word (codes "fetch"))
fetch_word = (codes "fetch", (refl, (refl, (refl, (refl, (refl, tt)))), refl))

all_word : IsShape (word (codes "all"))
all_word = (codes "all", (refl, (refl, (refl, tt)), refl))

from_word : IsShape (word (codes "from"))
from_word = (codes "from", (refl, (refl, (refl, (refl, tt))), refl))

close_word : IsShape (word (codes "close"))
close_word = (codes "close", (refl, (refl, (refl, (refl, (refl, tt)))), refl))

shapes_left : (us vs : List Shape) → AreShapes (us ++ vs) → AreShapes us
shapes_left [] vs h = tt
shapes_left (u ∷ us) vs h = (h.0, shapes_left us vs h.1)

shapes_right : (us vs : List Shape) → AreShapes (us ++ vs) → AreShapes vs
shapes_right [] vs h = h
shapes_right (u ∷ us) vs h = shapes_right us vs h.1

front_shapes : {S T : Form} {ts : List Shape} (s : Both S T ts) → AreShapes ts → AreShapes s.front
front_shapes s h = shapes_left s.front s.behind (subst AreShapes s.is h)

behind_shapes : {S T : Form} {ts : List Shape} (s : Both S T ts) → AreShapes ts → AreShapes s.behind
behind_shapes s h = shapes_right s.front s.behind (subst AreShapes s.is h)

name_quoted : (n : Name) (ts : List Shape) → NameIs n ts → AreShapes ts → IsShape (quoted n)
name_quoted n ts (inl s) h = (subst AreShapes s h).0
name_quoted n ts (inr s) h = name_shape (word n) n (subst AreShapes s.0 h).0 refl

count_shape : (c : CountTree) → fetched_in_range c ≡ true → IsShape (count_written c)
count_shape (some_rows n) r = written_shape (word (codes "close")) (t.Num n) close_word tt (in_range_small n r)
count_shape all_rows r = all_word

-- ---- the text written

-- the tokens that a statement is written by can be written, and are that statement
pub record Written (c : CursorTree) : Type 0 where
  pub shapes : AreShapes (cursor_written c)
  pub is : IsCursor (cursor_written c) c

pub written : (ss : List Shape) (c : CursorTree) → AreShapes ss → IsCursor ss c → cursor_in_range c ≡ true → Written c
written ss (declare n q) h s r =
    let k : Both (Words (codes "declare" ∷ [])) (Both (NameIs n) Properties) s.front = s.first in
    let m : Both (NameIs n) Properties k.behind = k.second in
    let w : query.Written q = query.written s.behind q (behind_shapes s h) s.second r in
    record {
      shapes = (declare_word, (name_quoted n m.front m.first (front_shapes m (behind_shapes k (front_shapes s h))), (cursor_word, (for_word, w.shapes))));
      is = both_spelled (word (codes "declare") ∷ quoted n ∷ word (codes "cursor") ∷ word (codes "for") ∷ []) (query_written q) (declaring_spelled n) w.is;
    }
written ss (fetch c n) h s r =
    let k : Both (Words (codes "fetch" ∷ [])) (Both (CountIs c) (Both FromOrIn (NameIs n))) s.front = s.first in
    let m : Both (CountIs c) (Both FromOrIn (NameIs n)) k.behind = k.second in
    let f : Both FromOrIn (NameIs n) m.behind = m.second in
    let name : IsShape (quoted n) = name_quoted n f.behind f.second (behind_shapes f (behind_shapes m (behind_shapes k (front_shapes s h)))) in
    record { shapes = (fetch_word, (count_shape c r, (from_word, (name, tt)))); is = ended (cursor_written (fetch c n)) (fetching_spelled c n r) }
written ss (close n) h s r =
    let k : Both (Words (codes "close" ∷ [])) (NameIs n) s.front = s.first in
    record { shapes = (close_word, (name_quoted n k.behind k.second (behind_shapes k (front_shapes s h)), tt)); is = ended (cursor_written (close n)) (closing_spelled n) }

pub printed_has : PrintedAgain → ((text : List ℕ) (ts : List Lexeme) → Lexes 0 text ts → AreShapes (map (λ (t : Lexeme). t.shape) ts)) → (text : List ℕ) (c : CursorTree) → HasCursor text c → cursor_in_range c ≡ true → HasCursor (printed_cursor c) c
printed_has again can bytes c x r =
    let w : Written c = written (shapes x.0) c (can bytes x.0 x.1) x.2 r in
    let made = again (cursor_written c) w.shapes in
    (made.0, made.1, subst (λ ss. IsCursor ss c) (sym made.2) w.is)
