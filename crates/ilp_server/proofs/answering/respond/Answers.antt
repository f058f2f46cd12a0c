use Rattle.std.proofs.Common.{ap, refl, ◌∙◌}
use Rattle.std.specs.Prelude.{Ok}
use Rattle.ilp_http.specs.declared.status.Status.TheVariants as status
use Rattle.ilp_http.specs.declared.status.Kind.TheVariants as kind
use Rattle.ilp_server.specs.Serving.{reply}
use Rattle.ilp_server.proofs.Responses.{written_by}
use Rattle.ilp_server.proofs.answering.respond.Goals as goal

pub returns-in-Ok-Packet-clause-written : goal.returns-in-Ok-Packet-clause-written
returns-in-Ok-Packet-clause-written g c =
    written_by c.args.worker.now c.args.outcome _ _ _ c.send.result _ _ (c.in-Ok-Packet.is ∙ ap Ok c.in-Ok-Packet.field-0-is) (ap (reply status.Ok kind.OctetStream) c.reply.ensures) c.deed_of-deed.ensures refl c.send.ensures.written

pub returns-in-Ok-Booked-clause-written : goal.returns-in-Ok-Booked-clause-written
returns-in-Ok-Booked-clause-written g c =
    written_by c.args.worker.now c.args.outcome _ _ _ c.send-in-Ok-Booked.result _ _ (c.in-Ok-Booked.is ∙ ap Ok c.in-Ok-Booked.field-0-is) (ap (reply status.Created kind.Json) c.as_slice.ensures) c.deed_of-deed.ensures refl c.send-in-Ok-Booked.ensures.written

pub returns-in-Ok-Message-clause-written : goal.returns-in-Ok-Message-clause-written
returns-in-Ok-Message-clause-written g c =
    written_by c.args.worker.now c.args.outcome _ _ _ c.send-in-Ok-Message.result _ _ (c.in-Ok-Message.is ∙ ap Ok c.in-Ok-Message.field-0-is) (ap (reply status.Created kind.OctetStream) c.message_answer.ensures) c.deed_of-deed.ensures refl c.send-in-Ok-Message.ensures.written

pub returns-in-Ok-BelowLeast-clause-written : goal.returns-in-Ok-BelowLeast-clause-written
returns-in-Ok-BelowLeast-clause-written g c =
    written_by c.args.worker.now c.args.outcome _ _ _ c.send-in-Ok-BelowLeast.result _ _ (c.in-Ok-BelowLeast.is ∙ ap Ok c.in-Ok-BelowLeast.field-0-is) (ap (reply status.Forbidden kind.Json) c.as_slice-in-Ok-BelowLeast.ensures) c.deed_of-deed.ensures refl c.send-in-Ok-BelowLeast.ensures.written
