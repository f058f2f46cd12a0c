use Rattle.ilp_packet.proofs.ExpiryLemmas.{expiry_from_test, is_expiry-passes}
use Rattle.ilp_packet.proofs.laws.expiries_are_tested.Goals as goal

pub returns : goal.returns
returns c text = (expiry_from_test text, is_expiry-passes text)
