use Rattle.std.proofs.Common.{Ok, ap, sym, subst, ◌∙◌}
use Rattle.std.proofs.lemmas.List.{length-replicate}
use Rattle.ilp_journal_text.specs.Reading.{AreOctets}
use Rattle.ilp_journal_text.proofs.Hexadecimal.{octets_back, octets_out}
use Rattle.ilp_journal_text.proofs.fields.octets_in.Goals as goal

pub returns-in-Ok-clause-read : goal.returns-in-Ok-clause-read
returns-in-Ok-clause-read g c = λ octets are is.
    ap Ok (octets_back c.args.field.now _ _ c.decode_to_slice.new.out c.decode_to_slice.ensures.value octets (are.0 ∙ sym (length-replicate g.row.N 0), are.1) is).1

pub returns-in-Ok-clause-stands : goal.returns-in-Ok-clause-stands
returns-in-Ok-clause-stands g c =
    subst (λ n. AreOctets n c.decode_to_slice.new.out) (length-replicate g.row.N 0) (octets_out c.args.field.now _ _ c.decode_to_slice.new.out c.decode_to_slice.ensures.value c.in-Ok.is)

pub returns-in-Err-clause-read : goal.returns-in-Err-clause-read
returns-in-Err-clause-read g c = λ octets are is.
    let read = octets_back c.args.field.now _ _ c.decode_to_slice.new.out c.decode_to_slice.ensures.value octets (are.0 ∙ sym (length-replicate g.row.N 0), are.1) is in
    absurd (cc (read.0, c.in-Err.is))
