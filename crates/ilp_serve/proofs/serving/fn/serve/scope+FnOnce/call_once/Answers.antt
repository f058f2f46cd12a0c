use denote.Param.Send.{sendable}
use Rattle.ilp_serve.proofs.serving.fn.serve.scope+FnOnce.call_once.Goals as goal

-- What the closure asks for is what the function asks for in which it stands.
pub scope-requires : goal.scope-requires
scope-requires g c =
    let asked = c.requires.1.1.1.0 in
    (asked.0, (asked.1, (search sendable depth 20, search sendable depth 20)))
