use Rattle.std.proofs.Common.{arith}
use Rattle.std.proofs.lemmas.Grind.{get_or_default_zero}
use Rattle.ilp_packet.specs.Reading.{AreOctets}
use Rattle.ilp_packet.proofs.ReadingLemmas.{read_spells, spelled_is_read}
use Rattle.ilp_packet.proofs.packet.Packet.read.Goals as goal

pub returns-clause-ok : goal.returns-clause-ok
returns-clause-ok c =
    let input = c.args.input.now in
    let fits : AreOctets input = λ place d in_input. rw (get_or_default_zero input place d in_input) (omega (arith, c.type_inv.input place)) in
    read_spells input c.read_by_type.result fits c.read_by_type.ensures

pub returns-clause-every : goal.returns-clause-every
returns-clause-every c packet spells =
    spelled_is_read c.args.input.now c.read_by_type.result packet c.read_by_type.ensures spells
