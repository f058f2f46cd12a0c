use Rattle.std.proofs.lemmas.Str.{IsUtf8-from_ascii}
use Rattle.ilp_packet.proofs.AddressText.{address_is_ascii}
use Rattle.ilp_described.proofs.describe.address_text.Goals as goal

pub unreachable-requires : goal.unreachable-requires
unreachable-requires c =
    let fault = c.in-Err.ensures in
    fault.cases.0 (IsUtf8-from_ascii c.args.address.now (address_is_ascii c.args.address.now c.requires))
