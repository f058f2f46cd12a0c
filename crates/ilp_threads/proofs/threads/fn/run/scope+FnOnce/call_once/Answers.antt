use denote.Exit.{yes}
use denote.Param.Send.{param_send, param_sync, arg_send, arg_sync, sendable}
use Rattle.ilp_threads.proofs.threads.fn.run.scope+FnOnce.call_once.Goals as goal

-- What the closure asks for is what the function asks for in which it stands.
pub scope-requires : goal.scope-requires
scope-requires g c =
    let asked = c.requires.1.1.1.1.1.0 in (
      param_send _ _ (arg_send _ yes _ asked.0),
      (
        param_send _ _ (arg_send _ yes _ asked.2),
        (
          param_send _ _ (arg_send _ yes _ asked.3),
          (
            param_send _ _ (arg_send _ yes _ asked.4),
            (
              param_sync _ _ (arg_sync _ yes _ asked.1),
              (
                param_sync _ _ (arg_sync _ yes _ asked.5),
                (
                  search sendable depth 20,
                  search sendable depth 20,
                  search sendable depth 20,
                  search sendable depth 20,
                  search sendable depth 20,
                  search sendable depth 20,
                ),
              ),
            ),
          ),
        ),
      ),
    )
