-- What links tell of what they were handed, and of what came back. A link that tells nothing is bound by nothing here.
use Rattle.std.specs.Prelude.{◌≡◌, ℕ, ℤ, Bool, List, [], ◌∷◌, ◌++◌, Option, Some, None, Result, Ok, Err, IsSomeAnd, ⊤}
use Rattle.ilp_link_traits.specs.declared.links.LinkFault.{LinkFault}
use Rattle.ilp_link_traits.specs.declared.links.EngineReply.{EngineReply}

-- the octets that came back, if any did
abbrev pub came_of : Result (Unit {0}) LinkFault → List ℕ → Option (List ℕ)
came_of (Ok x) octets = Some octets
came_of (Err fault) octets = None

-- ---- what was handed

-- a packet for a peer, until when its reply counts, and what it replied
pub record Sending : Type 0 where
  pub to : ℕ
  pub packet : List ℕ
  pub deadline : ℤ
  pub came : Option (List ℕ)

abbrev pub sending : ℕ → List ℕ → ℤ → Option (List ℕ) → Sending
sending to packet deadline came = record { to = to; packet = packet; deadline = deadline; came = came }

-- a peer whose account an engine was asked for, and whether it said that it has it
pub record Asking : Type 0 where
  pub peer : ℕ
  pub has : Bool

abbrev pub asking : ℕ → Bool → Asking
asking peer has = record { peer = peer; has = has }

-- a settlement that an engine was asked for, under its key, and what it said of it
pub record Settling : Type 0 where
  pub peer : ℕ
  pub key : List ℕ
  pub amount : ℕ
  pub scale : ℕ
  pub reply : EngineReply

abbrev pub settling : ℕ → List ℕ → ℕ → ℕ → EngineReply → Settling
settling peer key amount scale reply = record { peer = peer; key = key; amount = amount; scale = scale; reply = reply }

-- a message for an engine from that of a peer, and what it answered
pub record Messaging : Type 0 where
  pub peer : ℕ
  pub octets : List ℕ
  pub came : Option (List ℕ)

abbrev pub messaging : ℕ → List ℕ → Option (List ℕ) → Messaging
messaging peer octets came = record { peer = peer; octets = octets; came = came }

-- what an engine is handed is one of these
pub data ToEngine : Type 0 where
  asked : Asking → ToEngine
  settled : Settling → ToEngine
  messaged : Messaging → ToEngine

-- ---- telling

-- one call of what may tell: what tells after it told before, and tells this besides
abbrev pub Tells : {X : Type 0} → Option (List X) → X → Option (List X) → Type 0
Tells before x None = ⊤
Tells before x (Some after) = IsSomeAnd before (λ xs. after ≡ xs ++ x ∷ [])
