use Rattle.std.proofs.Common.{◌≡◌, ℕ, not, List, [], ◌∷◌, nat_eq, IsUtf8, rules, arith, refl, ap, sym, ◌∙◌}
use Rattle.std.specs.List.{list_any}
use Rattle.std.proofs.lemmas.Str.{is_utf8-from_IsUtf8}
use Rattle.std.proofs.lemmas.Bool.Decides.{nat_tests}
use Rattle.sqlite_tables.proofs.Strays.{stray_text}
use Rattle.sqlite_tables.proofs.rows.is_text.Goals as goal

same_test : (a b : ℕ) → nat_eq a b ≡ nat_eq b a
same_test a b = grind (arith, nat_tests)

any_zero : (bs : List ℕ) → list_any (λ b. nat_eq b 0) bs ≡ list_any (nat_eq 0) bs
any_zero [] = refl
any_zero (b ∷ bs) = rw (same_test b 0, any_zero bs) refl

pub returns-in_default : goal.returns-in_default
returns-in_default c = sym (stray_text c.args.bytes.now c.in_default.ensures.cases.0)

pub returns : goal.returns
returns c =
    let utf8 : IsUtf8 c.args.bytes.now = search rules in
    let yes = is_utf8-from_IsUtf8 c.args.bytes.now utf8 in
    let any : c.contains.result ≡ list_any (λ b. nat_eq b 0) c.args.bytes.now = search rules in
    rw yes (ap not (any ∙ any_zero c.args.bytes.now))
