use Rattle.std.proofs.Common.{sym, ap, ◌∙◌}
use Rattle.std.proofs.lemmas.Bool.{false≢true}
use Rattle.std.proofs.lemmas.Slice.Eq.{bytes_eq-Decides}
use Rattle.hex.specs.Hex.{encode_lower}
use Rattle.ilp_log_text.proofs.Origins.{no_digest, digest_back, digest_out, on_ok}
use Rattle.ilp_log_text.proofs.first_line.digest_in.Goals as goal

pub returns-then-is_err-clause-none : goal.returns-then-is_err-clause-none
returns-then-is_err-clause-none c = λ digest are is.
    no_digest c.as_slice.result.now c.decode_to_slice.result c.decode_to_slice.new.out 32 c.decode_to_slice.ensures.value (sym c.is_err.ensures.value ∙ c.if-is_err.true) digest are (c.as_slice.ensures ∙ is)

pub returns-then-eq-clause-octets : goal.returns-then-eq-clause-octets
returns-then-eq-clause-octets c = digest_out c.as_slice.result.now c.decode_to_slice.result c.decode_to_slice.new.out 32 c.decode_to_slice.ensures.value (sym c.is_err.ensures.value ∙ c.if-is_err.false)

pub returns-else-eq-clause-none : goal.returns-else-eq-clause-none
returns-else-eq-clause-none c = λ digest are is.
    let read = digest_back c.as_slice.result.now c.decode_to_slice.result c.decode_to_slice.new.out 32 c.decode_to_slice.ensures.value digest are (c.as_slice.ensures ∙ is) in
    let written = on_ok c.encode_to_slice.result (sym c.is_err-2.ensures.value ∙ c.if-is_err-2.false) c.encode_to_slice.ensures.written in
    let spelled = c.as_slice-3.ensures ∙ written ∙ ap encode_lower (c.as_slice-2.ensures ∙ read.1) ∙ sym is ∙ sym c.as_slice-4.ensures in
    false≢true (sym c.if-eq.false ∙ c.eq.ensures ∙ (bytes_eq-Decides _ _).1 spelled)
