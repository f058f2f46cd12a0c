use Rattle.ilp_packet.proofs.AddressLemmas.{address_from_test, is_address-passes, scheme_from_test, scheme_passes}
use Rattle.ilp_packet.proofs.laws.addresses_are_tested.Goals as goal

pub returns-clause-addresses : goal.returns-clause-addresses
returns-clause-addresses c octets = (address_from_test octets, is_address-passes octets)

pub returns-clause-schemes : goal.returns-clause-schemes
returns-clause-schemes c octets = (scheme_from_test octets, scheme_passes octets)
