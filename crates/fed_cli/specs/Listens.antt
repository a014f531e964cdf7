-- What is served over TCP.
use Rattle.std.specs.Prelude.{◌≡◌, ◌<◌, ◌≤◌, ℕ, Bool, true, false, List, [], ◌∷◌, ◌++◌, length, codes, decimal, Option, Result, Ok, Err, OnOk, All}
use Rattle.std.specs.Io.KnownBytes.{Appends}
use Rattle.std.specs.Net.Addr.{ipv4_octets}
use Rattle.std.specs.Net.Socket.{socket_ip, socket_port}
use Rattle.std.specs.declared.net.ip_addr.IpAddr.TheVariants.{V4}
use Rattle.std.specs.declared.net.ipv4_addr.Ipv4Addr.{Ipv4Addr}
use Rattle.std.specs.declared.net.socket_addr.SocketAddr.{SocketAddr}
use Rattle.med_session.specs.Engine.{Shown}
use Rattle.fed_cli.specs.Exits.{TellsText}
use Rattle.fed_stream.specs.Outlets.{Outlet, Does, faults_at_last}
use Rattle.fed_stream.specs.declared.source.GivenUp.{GivenUp}
use Rattle.fed_stream.specs.declared.source.GivenUp.TheVariants as given_up
use Rattle.fed_stream.specs.Guards.{IsFresh, guarded}
use Rattle.fed_stream.specs.Streams.{Stream, IsUntouched}
use Rattle.fed_stream.specs.declared.guarded.Guarded.{Guarded}
use Rattle.fed_cli.specs.Turns.{Turn, AreServed}
use Rattle.fed_cli.specs.declared.turns.AcceptFault.{AcceptFault}
use Rattle.fed_cli.specs.declared.listening.ListenFault.{ListenFault}
use Rattle.fed_cli.specs.declared.listening.ListenFault.TheVariants as faults

-- the address is 127.0.0.1: this machine alone can connect to it
abbrev pub IsLocal : SocketAddr → Type 0
IsLocal address = (ip : Ipv4Addr) × (socket_ip address ≡ V4 ip) × (ipv4_octets ip ≡ 127 ∷ 0 ∷ 0 ∷ 1 ∷ [])

-- this listener takes the connections to this port of 127.0.0.1
abbrev pub IsAtPort : {L : Type 0} → (L → SocketAddr → Type 0) → ℕ → L → Type 0
IsAtPort listens_at port listener = (address : SocketAddr) × IsLocal address × (socket_port address ≡ port) × listens_at listener address

-- the text of a fault
abbrev pub listen_text : ListenFault → List ℕ
listen_text (faults.CannotListen port) = codes "cannot listen on port " ++ decimal port
listen_text faults.Write = codes "write fault"
listen_text faults.Accept = codes "accept fault"

-- the line that tells a port
abbrev pub port_line : ℕ → List ℕ
port_line port = codes "fedq: listening on 127.0.0.1:" ++ decimal port ++ codes "\n"

-- what it came to that the connections to a port were served
abbrev pub listened : Result (Unit {0}) AcceptFault → Result (Unit {0}) ListenFault
listened (Ok done) = Ok done
listened (Err fault) = Err faults.Accept

-- the engine is as it was, and no connection was taken, of which anything could be told
abbrev pub ServesNone : Shown → Shown → Bool → Stream → Type 0
ServesNone old new is_told errors = (new ≡ old) × (is_told ≡ true) × IsUntouched errors

-- The calls of a sink by which a port is told: a write or a flush was given up, as `faults_at_last` counts it, or none, and then all is
-- flushed.
pub record CallsPort (old new : Outlet) (result : Result (Unit {0}) GivenUp) : Type 0 where
  pub text : List ℕ
  pub interruptions : ℕ
  pub does : Does old new text interruptions (faults_at_last result)
  pub too_many : result ≡ Err given_up.TooMany → 4294967295 ≤ interruptions
  pub flushed : OnOk result (new.flushed ≡ length new.bytes)

-- each of these connections was taken with nothing read of it
abbrev pub AreFresh : {R W : Type 0} → List (Turn (Guarded R) W) → Type 0
AreFresh {R} {W} turns = All (λ (t : Turn (Guarded R) W). IsFresh t.reader) turns

-- So many connections to a port were wanted, and it came to this. Where nothing listens, nothing was told. Else the port's line was, or a
-- front of it at a write fault; then so many connections were served, or fewer, and no further one could be taken. Each is guarded against
-- request lines of HTTP from its first byte on: the stream that is served is what its guard has left.
abbrev pub Listens : {R W : Type 0} → (R → Option (List ℕ)) → (W → Option (List ℕ)) → Shown → ℕ → ℕ → Result (Unit {0}) ListenFault
    → Shown → Bool → Stream → Stream → Type 0
Listens remaining contents old port count (Err (faults.CannotListen told)) new is_told output errors =
    (told ≡ port) × IsUntouched output × ServesNone old new is_told errors
Listens remaining contents old port count (Err faults.Write) new is_told output errors =
    TellsText false output (port_line port) × ServesNone old new is_told errors
Listens {R} {W} remaining contents old port count (Err faults.Accept) new is_told output errors =
    Appends output.before output.after (port_line port)
    × ((turns : List (Turn (Guarded R) W)) × (length turns < count) × AreFresh turns × AreServed (guarded remaining) contents old turns new is_told errors)
Listens {R} {W} remaining contents old port count (Ok done) new is_told output errors =
    Appends output.before output.after (port_line port)
    × ((turns : List (Turn (Guarded R) W)) × (length turns ≡ count) × AreFresh turns × AreServed (guarded remaining) contents old turns new is_told errors)
