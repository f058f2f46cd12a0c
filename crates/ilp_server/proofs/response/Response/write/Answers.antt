use Rattle.std.proofs.Common.{subst}
use Rattle.std.specs.Prelude.{OnOk, OnErr}
use Rattle.std.specs.Io.KnownBytes.{Appends}
use Rattle.ilp_io.specs.Writing.{AppendsProperPrefix}
use Rattle.ilp_server.proofs.Responses.{octets_of_view}
use Rattle.ilp_server.proofs.response.Response.write.Goals as goal

pub returns-clause-ok : goal.returns-clause-ok
returns-clause-ok g c =
    subst (λ o. OnOk c.write_response.result (Appends (g.W.Sink.contents c.args.sink.now) (g.W.Sink.contents c.write_response.new.sink) o))
    (octets_of_view c.self.inside.status c.self.inside.kind c.self.inside.body _ _ c.args.self.now _ c.as_slice.ensures c.self.view_is) c.write_response.ensures.ok

pub returns-clause-err : goal.returns-clause-err
returns-clause-err g c =
    subst (λ o. OnErr c.write_response.result (AppendsProperPrefix (g.W.Sink.contents c.args.sink.now) (g.W.Sink.contents c.write_response.new.sink) o))
    (octets_of_view c.self.inside.status c.self.inside.kind c.self.inside.body _ _ c.args.self.now _ c.as_slice.ensures c.self.view_is) c.write_response.ensures.err
