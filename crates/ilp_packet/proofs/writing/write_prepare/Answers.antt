use Rattle.std.proofs.Common.{rules, arith}
use Rattle.std.proofs.lemmas.Grind.{common_steps}
use Rattle.ilp_packet.specs.Packet.{plain_prepare, prepare}
use Rattle.ilp_packet.proofs.WritingLemmas.{appended}
use Rattle.ilp_packet.proofs.writing.write_prepare.Goals as goal

pub returns : goal.returns
returns g c =
    let text = c.expiry_write-expiry.result in
    record {
      ok =
          appended c.args.out.now.octets c.begin.new.out.octets c.put_prepare.new.out.octets text (prepare (plain_prepare c.args.packet.now)) c.prepare_len.result
          c.requires (c.expiry_write-expiry.ensures.expiry, search rules) (c.prepare_len.ensures.len text c.expiry_write-expiry.ensures.expiry.seventeen) c.in_ok-begin.ensures.ok
          c.put_prepare.ensures.octets;
      enough = search rules;
      used = search rules;
      refused = grind (arith, common_steps);
      err = grind (arith, common_steps);
    }
