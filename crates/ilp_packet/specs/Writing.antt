-- What it means to write a packet behind other octets.
use Rattle.std.specs.Prelude.{◌≡◌, ℕ, ◌+◌, ◌<◌, ◌≤◌, List, ◌++◌, length, replicate, Result, IsOk, OnOk, OnErr}
use Rattle.ilp_oer.specs.Octets.{OctetsWithRoom}
use Rattle.ilp_packet.specs.Packet.{PlainPacket, spelling, Spells}

-- a text as long as any expiry
abbrev pub seventeen_zeros : List ℕ
seventeen_zeros = replicate 17 48

-- how many octets stand for a packet: a Prepare's expiry has seventeen, whichever they are
unfoldable pub size : PlainPacket → ℕ
size packet = length (spelling seventeen_zeros packet)

-- octets that stand for the packet were put behind those that were there
pub record Appends (before : List ℕ) (packet : PlainPacket) (after : List ℕ) : Type 0 where
  pub octets : List ℕ
  pub spells : Spells octets packet
  pub whole : after ≡ before ++ octets

-- The packet was written behind the octets that were there. Where there was room for it, it is written and uses up just its size; a refusal comes only where room was missing, and leaves all as it was.
pub record Writes {E : Type 0} (packet : PlainPacket) (old new : OctetsWithRoom) (result : Result (Unit {0}) E) : Type 0 where
  pub ok : OnOk result (Appends old.octets packet new.octets)
  pub enough : size packet ≤ old.spare → IsOk result
  pub used : size packet ≤ old.spare → new.spare + size packet ≡ old.spare
  pub refused : OnErr result (old.spare < size packet)
  pub err : OnErr result (new ≡ old)
