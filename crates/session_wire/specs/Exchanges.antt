-- A run of lines as a list: each line with its reply.
use Rattle.std.specs.Prelude.{◌≡◌, List, [], ◌∷◌, ℕ, map, flat_map}
use Rattle.session_wire.specs.Lines.{Lines, line, rest, closed}
use Rattle.session_wire.specs.Replies.{closing_replies}
use Rattle.session_wire.specs.Run.{Steps, IsAnswered}

-- a line, and what it was answered
pub record Exchange : Type 0 where
  pub text : List ℕ
  pub reply : List ℕ

-- they lead, one after another, from old to new
abbrev pub Exchanged : {W : Type 0} → Steps W → W → List Exchange → W → Type 0
Exchanged step old [] new = new ≡ old
Exchanged {W} step old (e ∷ es) new = (mid : W) × IsAnswered step old e.text e.reply mid × Exchanged step mid es new

abbrev pub texts_in : List Exchange → List (List ℕ)
texts_in es = map (λ (e : Exchange). e.text) es

abbrev pub replies_in : List Exchange → List ℕ
replies_in es = flat_map (λ (e : Exchange). e.reply) es

-- the texts of the lines; none of a rest, and none of a line that closes the stream
abbrev pub texts_of : Lines → List (List ℕ)
texts_of (line text more) = text ∷ texts_of more
texts_of (rest after) = []
texts_of closed = []

-- what the end of the lines is answered
abbrev pub end_reply : Lines → List ℕ
end_reply (line text more) = end_reply more
end_reply (rest after) = []
end_reply closed = closing_replies
