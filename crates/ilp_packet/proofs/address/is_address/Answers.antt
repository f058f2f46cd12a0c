use Rattle.std.proofs.Common.{◌≡◌, sym, ◌∙◌, arith}
use Rattle.std.proofs.lemmas.Bool.Decides.{nat_tests}
use Rattle.ilp_packet.specs.Address as address
use Rattle.ilp_packet.proofs.AddressLemmas.{address_from_test, is_address-passes}
use Rattle.ilp_packet.proofs.address.is_address.Goals as goal

pub returns-then-octets-le-MAX_ADDRESS-clause-address : goal.returns-then-octets-le-MAX_ADDRESS-clause-address
unfolding address.is_address
returns-then-octets-le-MAX_ADDRESS-clause-address c =
    let octets = c.args.octets.now in
    let same : address.is_address octets ≡ c.is_scheme_with_segments.result = grind (arith, nat_tests) in
    (λ passed. address_from_test octets (same ∙ passed), λ found. sym same ∙ is_address-passes octets found)
