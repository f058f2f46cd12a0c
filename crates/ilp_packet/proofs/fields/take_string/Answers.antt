use Rattle.ilp_packet.proofs.StringLemmas.{string_at-splits}
use Rattle.ilp_packet.proofs.fields.take_string.Goals as goal

pub returns : goal.returns
returns c =
    string_at-splits c.args.input.now c.in_ok-read_octets.field-0.0.now c.in_ok-read_octets.field-0.1.now c.in_ok-read_octets.ensures.ok
