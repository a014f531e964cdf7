-- Which causes stand against a statement on cursors, and in which phase.
use Rattle.std.proofs.Common.{◌≡◌, ℕ, ◌≤◌, true, length, IsSome, ap, arith}
use Rattle.med_value.specs.declared.cause.Cause.{Cause}
use Rattle.med_syntax.specs.Prelude.{Name, SelectTree, select, CursorTree, declare, fetch, close}
use Rattle.med_query.specs.Form.{is_risky_form}
use Rattle.sql_meaning.specs.Prelude.{World, Session, cursor_named, meant_over, SelectCauses, DeclareCauses, exists, of_query, is_risky, too_many, CursorCauses}
use Rattle.med_world.proofs.Querying.{ArePhased, select_phase}
use Rattle.med_catalog.specs.DdlCauses.{phase}

pub cursor_phase : ArePhased → (w : World) (s : Session) (t : CursorTree) (c : Cause) → CursorCauses w s t c → 3 ≤ phase c
cursor_phase law w s (declare name (select q)) c (exists is there) = let p : phase c ≡ 3 = ap phase is in omega arith
cursor_phase law w s (declare name (select q)) c (of_query h) = select_phase law w s.user q c h
cursor_phase law w s (declare name (select q)) c (is_risky is risk) = let p : phase c ≡ 4 = ap phase is in omega arith
cursor_phase law w s (declare name (select q)) c (too_many is many) = let p : phase c ≡ 5 = ap phase is in omega arith
cursor_phase law w s (fetch asked name) c h = let p : phase c ≡ 3 = ap phase h.0 in omega arith
cursor_phase law w s (close name) c h = let p : phase c ≡ 3 = ap phase h.0 in omega arith

-- of what the run of a query shows, and of the other causes of DECLARE
pub least_declare : (w : World) (s : Session) (name : Name) (q : SelectTree) (n : ℕ) → (IsSome (cursor_named name s) → ⊥) → ((d : Cause) → SelectCauses w s.user q d → n ≤ phase d)
    → (is_risky_form (meant_over w q).form ≡ true → n ≤ 4) → (16 ≤ length s.cursors → n ≤ 5) → (d : Cause) → DeclareCauses w s name q d → n ≤ phase d
least_declare w s name q n none query risky many d (exists is there) = absurd (none there)
least_declare w s name q n none query risky many d (of_query h) = query d h
least_declare w s name q n none query risky many d (is_risky is risk) = let p : phase d ≡ 4 = ap phase is in let r : n ≤ 4 = risky risk in omega arith
least_declare w s name q n none query risky many d (too_many is full) = let p : phase d ≡ 5 = ap phase is in let r : n ≤ 5 = many full in omega arith

pub none_declare : (w : World) (s : Session) (name : Name) (q : SelectTree) → (IsSome (cursor_named name s) → ⊥) → ((d : Cause) → SelectCauses w s.user q d → ⊥) → (is_risky_form (meant_over w q).form ≡ true → ⊥) → (16 ≤ length s.cursors → ⊥)
    → (d : Cause) → DeclareCauses w s name q d → ⊥
none_declare w s name q none query risky many d (exists is there) = none there
none_declare w s name q none query risky many d (of_query h) = query d h
none_declare w s name q none query risky many d (is_risky is risk) = risky risk
none_declare w s name q none query risky many d (too_many is full) = many full
