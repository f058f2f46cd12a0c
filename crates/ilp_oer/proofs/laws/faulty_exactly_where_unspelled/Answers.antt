use Rattle.ilp_oer.proofs.Faults.{BeginsWithSpelling-faultless}
use Rattle.ilp_oer.proofs.Spellings.{fault_of-split}
use Rattle.ilp_oer.proofs.laws.faulty_exactly_where_unspelled.Goals as goal

pub returns : goal.returns
returns c = λ input octets.
    (λ none. BeginsWithSpelling-faultless input octets none, λ begins. fault_of-split input begins.0 begins.1 begins.2)
