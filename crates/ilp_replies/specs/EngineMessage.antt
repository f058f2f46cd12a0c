-- Messages between engines that wait for an answer, as contracts see them.
use Rattle.std.specs.Prelude.{ℕ, ℤ, List}

-- a message of a peer's engine for the engine here: the peer, and the data
pub record PlainEngineMessage : Type 0 where
  pub from : ℕ
  pub octets : List ℕ

abbrev pub engine_message : ℕ → List ℕ → PlainEngineMessage
engine_message from octets = record { from = from; octets = octets }

-- a message of the engine here for that of a peer: the peer, its packet, and until when a reply counts
pub record PlainPeerMessage : Type 0 where
  pub to : ℕ
  pub packet : List ℕ
  pub deadline : ℤ

abbrev pub peer_message : ℕ → List ℕ → ℤ → PlainPeerMessage
peer_message to packet deadline = record { to = to; packet = packet; deadline = deadline }
