use denote.Param.Always.{Once-at_one}
use denote.Param.Send.{sendable}
use Rattle.ilp_threads.proofs.threads.run.Goals as goal

-- The actors and what they are given may go into threads, and threads may share the desk and the runtime.
pub scoped-requires : goal.scoped-requires
scoped-requires g c =
    let bounds = c.type_bounds in
    Once-at_one _ _ (λ scope. (
      (
        search sendable depth 20,
        search sendable depth 20,
        search sendable depth 20,
        search sendable depth 20,
        search sendable depth 20,
        search sendable depth 20,
      ),
      (
        search sendable depth 20,
        search sendable depth 20,
        search sendable depth 20,
        search sendable depth 20,
        search sendable depth 20,
        search sendable depth 20,
      ),
    ))
