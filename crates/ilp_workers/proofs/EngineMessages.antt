-- What a peer is handed of a message, and why one of a peer's engine goes no further.
use Rattle.std.proofs.Common.{◌≡◌, ℕ, ℤ, List, Option, Some, None, inl, ap, subst}
use Rattle.std.specs.Prelude.{Err}
use Rattle.ilp_packet.specs.Packet.{PlainPrepare, prepare, Spells}
use Rattle.ilp_accounts.specs.Configuration.{Configuration}
use Rattle.ilp_link_traits.specs.Links.{Tells, Sending, sending, ToEngine}
use Rattle.ilp_replies.specs.declared.rejects.LocalReject.{LocalReject}
use Rattle.ilp_replies.specs.Messages.{message_prepare, message_expiry, IsWhyRefused}
use Rattle.ilp_workers.specs.Messaging.{IsPassedOn, IsEngineAnswer}

-- ---- what the peer is handed

-- octets that were written for a message, and handed to the peer with the deadline that they name
pub passed_on : (C : Configuration) (peer : ℕ) (octets packet handed : List ℕ) (now expires : ℤ) (sent sent' : Option (List Sending)) (came : Option (List ℕ))
    → expires ≡ message_expiry C now → Spells packet (prepare (message_prepare expires octets)) → handed ≡ packet → Tells sent (sending peer handed expires came) sent'
    → IsPassedOn C peer octets now sent sent' came
passed_on C peer octets packet handed now expires sent sent' came is spelled same tells = record {
  packet = packet;
  spelled = subst (λ e. Spells packet (prepare (message_prepare e octets))) is spelled;
  handed = subst (λ e. Tells sent (sending peer packet e came) sent') is (subst (λ p. Tells sent (sending peer p expires came) sent') same tells);
}

-- ---- what the engine here is not handed

-- what is refused is kept back
pub kept_back : (refusal : Option LocalReject) (why : LocalReject) (from : ℕ) (packet : PlainPrepare) (told told' : Option (List ToEngine)) → IsWhyRefused refusal why → told' ≡ told → IsEngineAnswer refusal from packet told told' (Err why)
kept_back (Some refusal) why from packet told told' is same = (ap Err is, same)
kept_back None why from packet told told' is same = inl (ap Err is, same)
