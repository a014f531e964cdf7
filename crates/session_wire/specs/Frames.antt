-- The grammar of a request line: SID SP OPEN SP USER, SID SP Q SP SQL, or SID SP BYE.
use Rattle.std.specs.Prelude.{◌≡◌, ℕ, ◌⊎◌, List, ◌∷◌, ◌++◌, codes}
use Rattle.std.specs.Fmt.{decimal}
use Rattle.med_session.specs.Requests.{AskedLine, opening, sql, bye, IsSid, IsUser}

-- What stands behind the number and its space: a verb in upper case, and what it takes. The SQL is any
-- text, also the empty one.
abbrev pub IsRequest : List ℕ → AskedLine → Type 0
IsRequest text (opening user) = (text ≡ codes "OPEN " ++ user) × IsUser user
IsRequest text (sql query) = text ≡ codes "Q " ++ query
IsRequest text bye = text ≡ codes "BYE"

-- the text begins with a session's number in decimal, with no leading zeros, and a space, and this follows
abbrev pub BeginsWithSid : List ℕ → ℕ → List ℕ → Type 0
BeginsWithSid text sid after = IsSid sid × (text ≡ decimal sid ++ 32 ∷ after)

-- the text is a line that asks this in this session
abbrev pub IsFrame : List ℕ → ℕ → AskedLine → Type 0
IsFrame text sid request = (after : List ℕ) × BeginsWithSid text sid after × IsRequest after request

-- The number that the reply to a bad line begins with: the one that the line begins with, if that is a
-- session's and a space follows, else 0.
abbrev pub IsReplySid : List ℕ → ℕ → Type 0
IsReplySid text sid =
    ((after : List ℕ) × BeginsWithSid text sid after)
    ⊎ ((sid ≡ 0) × ((n : ℕ) (after : List ℕ) → BeginsWithSid text n after → ⊥))
