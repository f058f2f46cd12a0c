use Rattle.std.proofs.Common.{◌∙◌}
use Rattle.ilp_http.proofs.WritingLemmas.{response_head-pieces}
use Rattle.ilp_http.proofs.writing.put_head.Goals as goal

pub returns-clause-octets : goal.returns-clause-octets
returns-clause-octets c =
    rw (c.put_behind.ensures.octets, c.put_behind-len-3.ensures.octets, c.put_behind-len-2.ensures.octets, c.put_behind-len.ensures.octets)
    (response_head-pieces c.args.status c.args.kind c.args.body.now _ _ _ c.first_lines.ensures.text c.lines_to_length.ensures.text (c.as_bytes-text.ensures.value ∙ c.format.ensures.text))
