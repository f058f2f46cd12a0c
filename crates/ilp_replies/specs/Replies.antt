-- What came back for a packet, and what its sender is told.
use Rattle.std.specs.Prelude.{ℕ, List, Option, None, option_map}
use Rattle.ilp_oer.specs.Octets.{OctetsWithRoom}
use Rattle.ilp_replies.specs.declared.rejects.ToldReject.{ToldReject}
use Rattle.ilp_replies.specs.declared.answer.Receipt.{Receipt}

-- nothing was booked
abbrev pub unbooked : Option ToldReject → Receipt
unbooked rejected = record { hold = None; answer = None; rejected = rejected }

-- the octets of a reply, if one came
abbrev pub octets_of : Option OctetsWithRoom → Option (List ℕ)
octets_of came = option_map (λ o. o.octets) came
