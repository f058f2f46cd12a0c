-- Whom a request is from and whom it is for, where serving it may wait for somebody outside.
use Rattle.std.specs.Prelude.{◌≡◌, ◌⊎◌, ℕ, ◌+◌, ◌*◌, ◌<◌, List, length, Some, ⊤, codes}
use Rattle.ilp_packet.specs.Packet.{PlainPrepare, prepare, Spells}
use Rattle.ilp_lookup.specs.Route.{IsRoute}
use Rattle.ilp_accounts.specs.Configuration.{Configuration}
use Rattle.ilp_flow.specs.declared.passage.Passage.{Passage}
use Rattle.ilp_http.specs.Answer.{HasPartsOf}
use Rattle.ilp_http.specs.declared.request.Request.{Request}
use Rattle.ilp_replies.specs.Messages.{IsForEngine}
use Rattle.ilp_server.specs.declared.target.Side.{Side}
use Rattle.ilp_server.specs.declared.target.Target.TheVariants.{Packet, Message}
use Rattle.ilp_server.specs.declared.work.Work.{Work}
use Rattle.ilp_server.specs.declared.work.Work.TheVariants.{Local, Remote}
use Rattle.ilp_server.specs.Fields.{values_in, IsFrom}
use Rattle.ilp_server.specs.Targets.{AsksFor}
use Rattle.ilp_server.specs.Serving.{Inquiry, inquiry}

-- the number of the engine of a peer: peers have the numbers of their places, and their engines those behind
abbrev pub engine_number : Configuration → ℕ → ℕ
engine_number C peer = length C.peers + peer

-- the number is that of a peer or of an engine
abbrev pub IsNumber : Configuration → ℕ → Type 0
IsNumber C n = n < 2 * length C.peers

-- A Prepare of a sender is for the sender's engine here, or for the peer of its destination's route.
abbrev pub IsBoundFor : Configuration → ℕ → PlainPrepare → ℕ → Type 0
IsBoundFor C sender packet receiver =
    (IsForEngine packet × (receiver ≡ engine_number C sender))
    ⊎ ((¬ IsForEngine packet) × IsRoute C.routes packet.destination (Some receiver))

-- The octets are a Prepare of the sender for the receiver.
abbrev pub IsPacketFor : Configuration → ℕ → List ℕ → ℕ → Type 0
IsPacketFor C sender octets receiver =
    (packet : PlainPrepare) × Spells octets (prepare packet) × IsBoundFor C sender packet receiver

-- A packet that shows the sender's token; or a message of a peer's engine for that peer.
abbrev pub IsBetween : Configuration → Inquiry → ℕ → ℕ → Type 0
IsBetween C i sender receiver =
    (AsksFor C i.side i.path Packet × IsFrom C (values_in i.headers (codes "authorization")) sender × IsPacketFor C sender i.body receiver)
    ⊎ (AsksFor C i.side i.path (Message receiver) × (sender ≡ engine_number C receiver))

-- The request goes from the one to the other, and its body has so many octets.
pub record IsPassage (C : Configuration) (i : Inquiry) (p : Passage) : Type 0 where
  pub between : IsBetween C i p.sender p.receiver
  pub sender : IsNumber C p.sender
  pub receiver : IsNumber C p.receiver
  pub octets : p.octets ≡ length i.body

-- What a request asks for. Nothing is said of one that is told as local.
abbrev pub IsWorkFor : Configuration → Inquiry → Work → Type 0
IsWorkFor C i Local = ⊤
IsWorkFor C i (Remote passage) = IsPassage C i passage

-- What the octets of a connection ask for: those that are told as remote begin with a request for it. Nothing is said of those that
-- are told as local, since memory for their fields may be denied.
abbrev pub IsWork : Configuration → Side → List ℕ → Work → Type 0
IsWork C side octets Local = ⊤
IsWork C side octets (Remote passage) =
    (request : Request) × HasPartsOf octets request
    × IsPassage C (inquiry side request.path.now request.headers request.body.now) passage
