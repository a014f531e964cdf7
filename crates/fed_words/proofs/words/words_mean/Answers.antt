use Rattle.std.proofs.Common.{◌≡◌, ◌==◌, ◌&&◌, ℕ, Bool, true, false, List, [], ◌∷◌, codes, Some, None, refl, cond}
use Rattle.std.specs.Str.{bytes_eq}
use Rattle.clap.specs.Lexer.{strip_byte}
use Rattle.clap.specs.Words.{Text}
use Rattle.clap.proofs.OnLiterals.{clap_on_literals}
use Rattle.fed_words.specs.CommandLine.{faults, owner_named, list_named, csv_given, jsonl_given, sqlite_given, init_named}
use Rattle.fed_words.proofs.words.words_mean.Goals as goal

pub returns-clause-alone : goal.returns-clause-alone
unfolding clap_on_literals
returns-clause-alone c = λ program. (refl, refl, refl, refl, refl, refl, refl, refl)

pub returns-clause-help : goal.returns-clause-help
unfolding clap_on_literals
returns-clause-help c = λ program. refl

pub returns-clause-version : goal.returns-clause-version
unfolding clap_on_literals
returns-clause-version c = λ program. refl

pub returns-clause-none : goal.returns-clause-none
unfolding clap_on_literals
returns-clause-none c = λ program. refl

no_hyphen : (x : ℕ) (xs : List ℕ) → strip_byte 45 (x ∷ xs) ≡ None → (x == 45) ≡ false
no_hyphen x xs e = split (x == 45) refl e
  where
    split : (b : Bool) → (x == 45) ≡ b → cond b (Some xs) None ≡ None → (x == 45) ≡ false
    split true q r = absurd cc
    split false q r = q

and_false : (b : Bool) → (false && b) ≡ false
and_false true = refl
and_false false = refl

with_list : (program name : Text) → strip_byte 45 name ≡ None
    → (faults (program ∷ codes "run" ∷ codes "--list" ∷ name ∷ []) ≡ [])
    × (list_named (program ∷ codes "run" ∷ codes "--list" ∷ name ∷ []) ≡ Some name)
unfolding clap_on_literals
with_list program [] e = (refl, refl)
with_list program (x ∷ xs) e =
    let no = no_hyphen x xs e in
    let stops = and_false (bytes_eq xs (45 ∷ [])) in
    (rw (no, stops) (rw no refl), rw (no, stops) (rw no refl))

pub returns-clause-list : goal.returns-clause-list
returns-clause-list c = with_list

with_owner : (program name : Text) → strip_byte 45 name ≡ None
    → (faults (program ∷ codes "run" ∷ codes "--owner" ∷ name ∷ []) ≡ [])
    × (owner_named (program ∷ codes "run" ∷ codes "--owner" ∷ name ∷ []) ≡ name)
unfolding clap_on_literals
with_owner program [] e = (refl, refl)
with_owner program (x ∷ xs) e =
    let no = no_hyphen x xs e in
    let stops = and_false (bytes_eq xs (45 ∷ [])) in
    (simp (no, stops) refl, simp (no, stops) refl)

pub returns-clause-owner : goal.returns-clause-owner
returns-clause-owner c = with_owner

with_init : (program path : Text) → strip_byte 45 path ≡ None
    → (faults (program ∷ codes "run" ∷ codes "--init" ∷ path ∷ []) ≡ [])
    × (init_named (program ∷ codes "run" ∷ codes "--init" ∷ path ∷ []) ≡ Some path)
unfolding clap_on_literals
with_init program [] e = (refl, refl)
with_init program (x ∷ xs) e =
    let no = no_hyphen x xs e in
    let stops = and_false (bytes_eq xs (45 ∷ [])) in
    (rw (no, stops) (rw no refl), rw (no, stops) (rw no refl))

pub returns-clause-init : goal.returns-clause-init
returns-clause-init c = with_init

with_csv : (program value : Text) → strip_byte 45 value ≡ None
    → (faults (program ∷ codes "run" ∷ codes "--csv" ∷ value ∷ []) ≡ [])
    × (csv_given (program ∷ codes "run" ∷ codes "--csv" ∷ value ∷ []) ≡ value ∷ [])
unfolding clap_on_literals
with_csv program [] e = (refl, refl)
with_csv program (x ∷ xs) e =
    let no = no_hyphen x xs e in
    let stops = and_false (bytes_eq xs (45 ∷ [])) in
    (rw (no, stops) (rw no refl), rw (no, stops) (rw no refl))

pub returns-clause-csv : goal.returns-clause-csv
returns-clause-csv c = with_csv

with_jsonl : (program value : Text) → strip_byte 45 value ≡ None
    → (faults (program ∷ codes "run" ∷ codes "--jsonl" ∷ value ∷ []) ≡ [])
    × (jsonl_given (program ∷ codes "run" ∷ codes "--jsonl" ∷ value ∷ []) ≡ value ∷ [])
unfolding clap_on_literals
with_jsonl program [] e = (refl, refl)
with_jsonl program (x ∷ xs) e =
    let no = no_hyphen x xs e in
    let stops = and_false (bytes_eq xs (45 ∷ [])) in
    (rw (no, stops) (rw no refl), rw (no, stops) (rw no refl))

pub returns-clause-jsonl : goal.returns-clause-jsonl
returns-clause-jsonl c = with_jsonl

with_sqlite : (program value : Text) → strip_byte 45 value ≡ None
    → (faults (program ∷ codes "run" ∷ codes "--sqlite" ∷ value ∷ []) ≡ [])
    × (sqlite_given (program ∷ codes "run" ∷ codes "--sqlite" ∷ value ∷ []) ≡ value ∷ [])
unfolding clap_on_literals
with_sqlite program [] e = (refl, refl)
with_sqlite program (x ∷ xs) e =
    let no = no_hyphen x xs e in
    let stops = and_false (bytes_eq xs (45 ∷ [])) in
    (rw (no, stops) (rw no refl), rw (no, stops) (rw no refl))

pub returns-clause-sqlite : goal.returns-clause-sqlite
returns-clause-sqlite c = with_sqlite

pub returns-clause-portless : goal.returns-clause-portless
unfolding clap_on_literals
returns-clause-portless c = λ program. refl

pub returns-clause-serve : goal.returns-clause-serve
unfolding clap_on_literals
returns-clause-serve c = λ program. (refl, refl, refl, refl)

pub returns-clause-once : goal.returns-clause-once
unfolding clap_on_literals
returns-clause-once c = λ program. (refl, refl)

pub returns-clause-ranges : goal.returns-clause-ranges
unfolding clap_on_literals
returns-clause-ranges c = λ program. (refl, refl, refl, refl)
