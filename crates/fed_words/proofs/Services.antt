-- What words ask to be served.
use Rattle.std.proofs.Common.{◌≡◌, ◌<◌, ◌≤◌, ℕ, List, Option, Some, None, sym, subst}
use Rattle.clap.specs.Words.{Row, Text}
use Rattle.fed_words.specs.Words.{Ask, IsPort, IsService}
use Rattle.fed_words.specs.declared.words.AskedRun.{AskedRun}
use Rattle.fed_words.specs.declared.words.Service.{Service}
use Rattle.fed_words.specs.declared.words.Service.TheVariants.{StandardInput, Connections}

port_is_some : (given : Option Text) (port : ℕ) → IsPort given port → 0 < port
port_is_some None port h = absurd h
port_is_some (Some text) port h = subst (λ n. 1 ≤ n) (sym h.1) h.0.2

served_port : (met : Option (Text × List Row)) (service : Service) (port count : ℕ) → IsService met service → service ≡ Connections port count → 0 < port
served_port met StandardInput port count is e = absurd cc
served_port met (Connections p n) port count is e = let same : p ≡ port = cc in subst (λ q. 0 < q) same (port_is_some _ p is.1)

-- a port that is asked is not 0
pub asked_port : (words : List Text) (asked : AskedRun) (port count : ℕ) → Ask words asked → asked.service ≡ Connections port count → 0 < port
asked_port words asked port count ask e = served_port _ asked.service port count ask.service e
