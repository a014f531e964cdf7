-- What stands between quotes, run by run.
use Rattle.std.proofs.Common.{◌≡◌, ℕ, ◌<◌, List, [], ◌∷◌, ◌++◌, length, sym, refl, ap, ◌∙◌, subst, arith, append_assoc, append-nil, length-append}
use Rattle.std.specs.Prelude.{Bool, true, false, cond, ◌==◌, Option, Some, None}
use Rattle.std.proofs.lemmas.Bool.Decides.{nat_tests}
use Rattle.med_lexer.specs.declared.bytes.Class.TheVariants as k
use Rattle.med_lexer.specs.Lexemes.{is_text, Every, Without}
use Rattle.med_lexer.specs.Cutting.{in_class, run, ahead, quote, strip_of}
use Rattle.med_lexer.proofs.Runs.{part}

pub quote_step : (q b : ℕ) (ts : List ℕ) → (b == q) ≡ false → is_text b ≡ true → quote q (b ∷ ts) ≡ ahead (b ∷ []) (quote q ts)
quote_step q b [] n t = rw n refl
quote_step q b (c ∷ cs) n t = rw n (rw t refl)

plain_other : (q b : ℕ) → in_class (k.Plain q) b ≡ true → (b == q) ≡ false
plain_other q b h = grind (arith, nat_tests)

plain_text : (q b : ℕ) → in_class (k.Plain q) b ≡ true → is_text b ≡ true
plain_text q b h = grind (arith, nat_tests)

pub ahead_ahead : (v w : List ℕ) (o : Option (List ℕ × List ℕ)) → ahead v (ahead w o) ≡ ahead (v ++ w) o
ahead_ahead v w None = refl
ahead_ahead v w (Some x) = ap (λ y. Some (y, x.1)) (sym (append_assoc v w x.0))

pub ahead_none : (o : Option (List ℕ × List ℕ)) → o ≡ ahead [] o
ahead_none None = refl
ahead_none (Some x) = refl

pub quote_run : (q : ℕ) (w r : List ℕ) → Every (in_class (k.Plain q)) w → quote q (w ++ r) ≡ ahead w (quote q r)
quote_run q [] r e = ahead_none (quote q r)
quote_run q (b ∷ bs) r e =
    quote_step q b (bs ++ r) (plain_other q b e.0) (plain_text q b e.0) ∙ ap (ahead (b ∷ [])) (quote_run q bs r e.1) ∙ ahead_ahead (b ∷ []) bs (quote q r)

pub quote_cut : (q : ℕ) (bs w r : List ℕ) → (w, r) ≡ run (in_class (k.Plain q)) bs → quote q bs ≡ ahead w (quote q r)
quote_cut q bs w r e =
    let p = part (in_class (k.Plain q)) bs in
    let go : quote q bs ≡ ahead (run (in_class (k.Plain q)) bs).0 (quote q (run (in_class (k.Plain q)) bs).1) = ap (quote q) p.whole ∙ quote_run q _ _ p.all in
    subst (λ (x : List ℕ × List ℕ). quote q bs ≡ ahead x.0 (quote q x.1)) (sym e) go

not_plain : (q b : ℕ) → in_class (k.Plain q) b ≡ false → (b == q) ≡ false → is_text b ≡ false
not_plain q b h n = grind (arith, nat_tests)

cond_none : {A : Type 0} (v : Bool) (x : A) → cond v (Some x) None ≡ None → v ≡ false
cond_none true x h = absurd (cc)
cond_none false x h = refl

quote_stop : (q : ℕ) (r : List ℕ) → Without (in_class (k.Plain q)) r → strip_of q r ≡ None → quote q r ≡ None
quote_stop q [] n h = refl
quote_stop q (b ∷ []) n h = let e : (b == q) ≡ false = cond_none (b == q) (b ∷ [], []) h in rw e refl
quote_stop q (b ∷ c ∷ cs) n h =
    let e : (b == q) ≡ false = cond_none (b == q) (b ∷ [], c ∷ cs) h in
    rw e (rw (not_plain q b n e) refl)

pub quote_bad : (q : ℕ) (bs w r : List ℕ) → (w, r) ≡ run (in_class (k.Plain q)) bs → strip_of q r ≡ None → quote q r ≡ None
quote_bad q bs w r e h =
    let p = part (in_class (k.Plain q)) bs in
    let n : Without (in_class (k.Plain q)) r = subst (λ (x : List ℕ × List ℕ). Without (in_class (k.Plain q)) x.1) (sym e) p.ends in
    quote_stop q r n h

is_same : (b q : ℕ) → (b == q) ≡ true → b ≡ q
is_same b q h = grind (arith, nat_tests)

same_is : (q : ℕ) → (q == q) ≡ true
same_is q = grind (arith, nat_tests)

some_same : {A : Type 0} (x y : A) → ◌≡◌ {A = Option A} (Some x) (Some y) → x ≡ y
some_same x y h = cc

pub stripped : (q : ℕ) (r h more : List ℕ) → strip_of q r ≡ Some (h, more) → (r ≡ q ∷ more) × (h ≡ q ∷ [])
stripped q [] h more e = absurd (cc)
stripped q (b ∷ bs) h more e =
    let go : (v : Bool) → (b == q) ≡ v → cond {A = Option (List ℕ × List ℕ)} v (Some (b ∷ [], bs)) None ≡ Some (h, more) → (b ∷ bs ≡ q ∷ more) × (h ≡ q ∷ []) = elim [
      | true ↦ (λ is f.
          let p : (b ∷ [], bs) ≡ (h, more) = some_same (b ∷ [], bs) (h, more) f in
          let bq : b ≡ q = is_same b q is in
          ((λ i. bq i ∷ (p i).1), ap (λ (x : List ℕ × List ℕ). x.0) (sym p) ∙ ap (λ y. y ∷ []) bq))
      | false ↦ (λ is f. absurd (let bad : ◌≡◌ {A = Option (List ℕ × List ℕ)} None (Some (h, more)) = f in cc))
    ]
    in go (b == q) refl e

quote_end : (q : ℕ) (more : List ℕ) → strip_of q more ≡ None → quote q (q ∷ more) ≡ Some ([], more)
quote_end q [] h = rw (same_is q) refl
quote_end q (c ∷ cs) h = let e : (c == q) ≡ false = cond_none (c == q) (c ∷ [], cs) h in rw (same_is q) (rw e refl)

pub quote_closed : (q : ℕ) (r h more : List ℕ) → strip_of q r ≡ Some (h, more) → strip_of q more ≡ None → quote q r ≡ Some ([], more)
quote_closed q r h more e n = ap (quote q) (stripped q r h more e).0 ∙ quote_end q more n

pub quote_twice : (q : ℕ) (r h more g rest : List ℕ) → strip_of q r ≡ Some (h, more) → strip_of q more ≡ Some (g, rest) → quote q r ≡ ahead g (quote q rest)
quote_twice q r h more g rest e f =
    let go : quote q (q ∷ q ∷ rest) ≡ ahead (q ∷ []) (quote q rest) = rw (same_is q) refl in
    ap (quote q) ((stripped q r h more e).0 ∙ ap (λ y. q ∷ y) (stripped q more g rest f).0) ∙ go ∙ ap (λ y. ahead y (quote q rest)) (sym (stripped q more g rest f).1)

-- ---- the loop

pub loop_more : (q : ℕ) (text out rest w r h more g next new : List ℕ) → quote q text ≡ ahead out (quote q rest) → (w, r) ≡ run (in_class (k.Plain q)) rest → strip_of q r ≡ Some (h, more) → strip_of q more ≡ Some (g, next) → new ≡ (out ++ w) ++ g → quote q text ≡ ahead new (quote q next)
loop_more q text out rest w r h more g next new i e s f n =
    i ∙ ap (ahead out) (quote_cut q rest w r e ∙ ap (ahead w) (quote_twice q r h more g next s f)) ∙ ahead_ahead out w (ahead g (quote q next)) ∙ ahead_ahead (out ++ w) g (quote q next) ∙ ap (λ y. ahead y (quote q next)) (sym n)

pub loop_end : (q : ℕ) (text out rest w r h more new : List ℕ) → quote q text ≡ ahead out (quote q rest) → (w, r) ≡ run (in_class (k.Plain q)) rest → strip_of q r ≡ Some (h, more) → strip_of q more ≡ None → new ≡ out ++ w → quote q text ≡ Some (new, more)
loop_end q text out rest w r h more new i e s f n =
    i ∙ ap (ahead out) (quote_cut q rest w r e ∙ ap (ahead w) (quote_closed q r h more s f)) ∙ ap (λ y. Some (y, more)) (ap (λ y. out ++ y) (append-nil w) ∙ sym n)

pub loop_bad : (q : ℕ) (text out rest w r : List ℕ) → quote q text ≡ ahead out (quote q rest) → (w, r) ≡ run (in_class (k.Plain q)) rest → strip_of q r ≡ None → quote q text ≡ None
loop_bad q text out rest w r i e s = i ∙ ap (ahead out) (quote_cut q rest w r e ∙ ap (ahead w) (quote_bad q rest w r e s))

pub loop_shorter : (q : ℕ) (rest w r h more g next : List ℕ) → (w, r) ≡ run (in_class (k.Plain q)) rest → strip_of q r ≡ Some (h, more) → strip_of q more ≡ Some (g, next) → length next < length rest
loop_shorter q rest w r h more g next e s f =
    let p = part (in_class (k.Plain q)) rest in
    let split : rest ≡ w ++ r = subst (λ (x : List ℕ × List ℕ). rest ≡ x.0 ++ x.1) (sym e) p.whole in
    omega (arith, ap length split, length-append w r, ap length (stripped q r h more s).0, ap length (stripped q more g next f).0)
