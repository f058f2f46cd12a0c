-- What each warning says of a configuration. Peers and assets are named by their places.
use Rattle.std.specs.Prelude.{◌≡◌, ◌≢◌, ◌⊎◌, ℕ, ◌<◌, pos, ◌≤ℤ◌, ◌+ℤ◌, List, [], ◌++◌, length, codes, map, Contains, Some, IsSome, Ok, Err}
use Rattle.std.specs.declared.net.ip_addr.IpAddr.{IpAddr}
use Rattle.std.specs.declared.net.ip_addr.IpAddr.TheVariants.{V4, V6}
use Rattle.std.specs.Net.Addr.{MatchIp, IsLoopbackV4, IsLoopbackV6, IsUnspecifiedV4, IsUnspecifiedV6}
use Rattle.std.specs.Net.Grammar.{IsSocketText}
use Rattle.std.specs.Net.Socket.{socket_ip, socket_port}
use Rattle.std.specs.declared.net.socket_addr.SocketAddr.{SocketAddr}
use Rattle.ilp_assets.specs.Quote.{price_of, quote, most}
use Rattle.ilp_assets.specs.declared.quote.Quote.{Quote}
use Rattle.ilp_assets.specs.declared.quote.QuoteFault.TheVariants.{OutTooLarge}
use Rattle.ilp_accounts.specs.Configuration.{Configuration, peer_at}
use Rattle.ilp_accounts.specs.declared.peer.Levels.{Levels}

-- ---- addresses

-- the text is IP:PORT
abbrev pub IsSocketAddress : List ℕ → Type 0
IsSocketAddress text = (address : SocketAddr) × IsSocketText text address

-- the address is of this machine alone
abbrev pub IsLoopback : SocketAddr → Type 0
IsLoopback address = MatchIp (socket_ip address) IsLoopbackV4 IsLoopbackV6

-- the text names an address that other machines may reach
abbrev pub IsOpen : List ℕ → Type 0
IsOpen text = (address : SocketAddr) × (IsSocketText text address × ¬ IsLoopback address)

-- the text names an address of this machine alone, or none
abbrev pub IsClosed : List ℕ → Type 0
IsClosed text = (¬ IsSocketAddress text) ⊎ ((address : SocketAddr) × (IsSocketText text address × IsLoopback address))

-- the one stands for all addresses of this machine, and so for the other: 0.0.0.0 for those of version 4, and :: for each
abbrev pub StandsFor : IpAddr → IpAddr → Type 0
StandsFor (V4 all) (V4 ip) = IsUnspecifiedV4 all
StandsFor (V4 all) (V6 ip) = ⊥
StandsFor (V6 all) ip = IsUnspecifiedV6 all

-- both are one address, or the one stands for the other at the same port
abbrev pub Meets : SocketAddr → SocketAddr → Type 0
Meets a b = (a ≡ b) ⊎ ((socket_port a ≡ socket_port b) × (StandsFor (socket_ip a) (socket_ip b) ⊎ StandsFor (socket_ip b) (socket_ip a)))

-- both texts name addresses that meet, and their port is not left to the system
pub record IsShared (text other : List ℕ) : Type 0 where
  pub a : SocketAddr
  pub b : SocketAddr
  pub text_is : IsSocketText text a
  pub other_is : IsSocketText other b
  pub port : socket_port a ≢ 0
  pub meets : Meets a b

-- ---- tokens

-- so short that it may be guessed
abbrev pub IsShort : List ℕ → Type 0
IsShort token = length token < 16

-- one of the examples', which everybody knows
abbrev pub IsExample : List ℕ → Type 0
IsExample token = (rest : List ℕ) × (token ≡ codes "REPLACE" ++ rest)

-- ---- peers and routes

-- packets for both peers are sent to one place
abbrev pub HaveSameHost : Configuration → ℕ → ℕ → Type 0
HaveSameHost C peer other = ((peer_at C peer).host ≡ (peer_at C other).host) × ((peer_at C peer).out_path ≡ (peer_at C other).out_path)

-- The sender may send a certain amount at most, and that brings the balance of the peer from the level to settle to up to its threshold.
pub record ReachesAtOnce (C : Configuration) (sender peer : ℕ) : Type 0 where
  pub levels : Levels
  pub out : Quote
  pub settles : (peer_at C peer).levels ≡ Some levels
  pub limited : (peer_at C sender).max_packet ≢ most
  pub quoted : quote C.table (peer_at C sender).asset (peer_at C peer).asset (peer_at C sender).fee_ppm (peer_at C sender).max_packet ≡ Ok out
  pub enough : levels.threshold ≤ℤ (levels.settle_to +ℤ pos out.out)

-- The sender may send a certain amount at most, and that doesn't fit on its way to the peer.
pub record IsTooLargeFor (C : Configuration) (sender peer : ℕ) : Type 0 where
  pub limited : (peer_at C sender).max_packet ≢ most
  pub quoted : quote C.table (peer_at C sender).asset (peer_at C peer).asset (peer_at C sender).fee_ppm (peer_at C sender).max_packet ≡ Err OutTooLarge

-- the asset of the one peer has a price in that of the other
abbrev pub CanSend : Configuration → ℕ → ℕ → Type 0
CanSend C sender peer = IsSome (price_of C.table (peer_at C sender).asset (peer_at C peer).asset)

-- no other peer can send to this one
abbrev pub IsUnpriced : Configuration → ℕ → Type 0
IsUnpriced C peer = (sender : ℕ) → sender < length C.peers → sender ≢ peer → ¬ CanSend C sender peer

-- the peers to which the routes lead, route by route
abbrev pub targets_of : Configuration → List ℕ
targets_of C = map (λ route. route.peer) C.routes

-- there are routes, and none of them leads to the peer
abbrev pub IsUnreached : List ℕ → ℕ → Type 0
IsUnreached targets peer = (targets ≢ []) × ¬ Contains targets peer
