-- Request lines of HTTP, and the bytes that are left where a stream that begins with one counts as empty.
use Rattle.std.specs.Prelude.{◌≡◌, ◌==◌, ◌&&◌, ℕ, Bool, false, nat_lt, List, [], ◌∷◌, ◌++◌, length, take, drop, codes, Option, option_map, if◌then◌else◌}
use Rattle.std.specs.List.{before_first, after_first, list_all, starts_with}
use Rattle.std.specs.Char.{is_ascii_uppercase}
use Rattle.fed_stream.specs.declared.guarded.Guarded.{Guarded}
use Rattle.fed_stream.specs.declared.guarded.Stage.{Stage}
use Rattle.fed_stream.specs.declared.guarded.Stage.TheVariants.{Begins, Passes, Refused}

-- a space, and a line feed
abbrev pub is_space : ℕ → Bool
is_space byte = byte == 32

abbrev pub is_feed : ℕ → Bool
is_feed byte = byte == 10

-- an upper-case letter
abbrev pub is_upper : ℕ → Bool
is_upper byte = is_ascii_uppercase byte

-- some bytes begin with an upper-case letter
abbrev pub begins_upper : List ℕ → Bool
begins_upper [] = false
begins_upper (byte ∷ more) = is_upper byte

-- a method's name: some upper-case letters
abbrev pub is_method : List ℕ → Bool
is_method name = nat_lt 0 (length name) && list_all is_upper name

-- a version of HTTP: what begins so
abbrev pub is_version : List ℕ → Bool
is_version text = starts_with (λ a b. a == b) text (codes "HTTP/")

-- a method, a target and a version, parted by a space each
abbrev pub is_request_line : List ℕ → Bool
is_request_line line =
    let rest = after_first is_space line in
    is_method (before_first is_space line)
    && (nat_lt 0 (length (before_first is_space rest)) && is_version (after_first is_space rest))

-- the first line of these bytes, of which at most 1,048,577 count
abbrev pub first_line : List ℕ → List ℕ
first_line bytes = before_first is_feed (take 1048577 bytes)

-- the bytes of a stream: none where it begins with a request line
abbrev pub admitted : List ℕ → List ℕ
admitted bytes = if is_request_line (first_line bytes) then [] else bytes

-- What a guard has left over a reader that has these bytes left: before its first byte is handed on, what is admitted of the bytes that it
-- holds back and those; then what it holds back still and those; and nothing behind a request line.
abbrev pub left_at : Stage → List ℕ → ℕ → List ℕ → List ℕ
left_at Begins held given rest = admitted (held ++ rest)
left_at Passes held given rest = drop given held ++ rest
left_at Refused held given rest = []

abbrev pub guarded : {R : Type 0} → (R → Option (List ℕ)) → Guarded R → Option (List ℕ)
guarded remaining g = option_map (left_at g.stage g.held.items g.given) (remaining g.inner)

-- nothing was read by a guard
pub record IsFresh {R : Type 0} (g : Guarded R) : Type 0 where
  pub stage : g.stage ≡ Begins
  pub held : g.held.items ≡ []
