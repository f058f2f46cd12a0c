use Rattle.std.proofs.Common.{◌∙◌, subst}
use Rattle.std.specs.Io.KnownBytes.{Appends}
use Rattle.ilp_io.specs.Writing.{AppendsProperPrefix}
use Rattle.ilp_io.proofs.WritingLemmas.{AppendsProperPrefix-after}
use Rattle.ilp_http.proofs.PendingLemmas.{OnErr-of, OnErr-map, OnOk-map, Sends-then, Sends-whole, Sends-stop, Stops-more}
use Rattle.ilp_http.proofs.WritingLemmas.{head_lines-whole, text-of}
use Rattle.ilp_http.proofs.writing.write_request.Goals as goal

pub returns-in_err-add_head-clause-err : goal.returns-in_err-add_head-clause-err
returns-in_err-add_head-clause-err g c =
    let text = text-of _ _ _ c.args.body.now c.new-waiting.ensures.octets (head_lines-whole c.args.head.now _ _ _ c.kind_text.ensures (c.as_bytes-length.ensures.value ∙ c.format.ensures.text)) in
    let stop = Stops-more _ _ _ _ c.args.body.now c.in_err-add_head.ensures.err in
    OnErr-of _ _ (subst (AppendsProperPrefix (g.W.Sink.contents c.args.sink.now) (g.W.Sink.contents c.add_head.new.sink)) text stop.part)

pub returns-in_err-add-clause-err : goal.returns-in_err-add-clause-err
returns-in_err-add-clause-err g c =
    let text = text-of _ _ _ c.args.body.now c.new-waiting.ensures.octets (head_lines-whole c.args.head.now _ _ _ c.kind_text.ensures (c.as_bytes-length.ensures.value ∙ c.format.ensures.text)) in
    let stop = Sends-stop _ _ _ _ _ _ _ c.in_ok-add_head.ensures.ok c.in_err-add.ensures.err in
    OnErr-of _ _ (subst (AppendsProperPrefix (g.W.Sink.contents c.args.sink.now) (g.W.Sink.contents c.add.new.sink)) text stop.part)

pub returns-clause-ok : goal.returns-clause-ok
returns-clause-ok g c =
    let text = text-of _ _ _ c.args.body.now c.new-waiting.ensures.octets (head_lines-whole c.args.head.now _ _ _ c.kind_text.ensures (c.as_bytes-length.ensures.value ∙ c.format.ensures.text)) in
    let all = Sends-then _ _ _ _ _ _ _ _ c.in_ok-add_head.ensures.ok c.in_ok-add.ensures.ok in
    OnOk-map _ _ _ (λ rest. subst (Appends (g.W.Sink.contents c.args.sink.now) (g.W.Sink.contents c.send.new.sink)) text (Sends-whole _ _ _ _ _ _ all rest)) c.send.ensures.ok

pub returns-clause-err : goal.returns-clause-err
returns-clause-err g c =
    let text = text-of _ _ _ c.args.body.now c.new-waiting.ensures.octets (head_lines-whole c.args.head.now _ _ _ c.kind_text.ensures (c.as_bytes-length.ensures.value ∙ c.format.ensures.text)) in
    let all = Sends-then _ _ _ _ _ _ _ _ c.in_ok-add_head.ensures.ok c.in_ok-add.ensures.ok in
    OnErr-map _ _ _
    (λ rest. subst (AppendsProperPrefix (g.W.Sink.contents c.args.sink.now) (g.W.Sink.contents c.send.new.sink)) text
    (subst (AppendsProperPrefix (g.W.Sink.contents c.args.sink.now) (g.W.Sink.contents c.send.new.sink)) all.all (AppendsProperPrefix-after _ _ _ _ _ all.sent rest))) c.send.ensures.err
