use denote.Param.Send.{copied_send, copied_sync, sendable}
use Rattle.ilp_serve.proofs.journal_periods.fn.JournalPeriods.run.scope+FnOnce.call_once.Goals as goal

-- What the closure asks for is what the function asks for in which it stands.
pub scope-requires : goal.scope-requires
scope-requires g c =
    let asked = c.requires.1.0 in
    (copied_send _ _ asked.0, (copied_sync _ _ asked.1, (search sendable depth 20, search sendable depth 20)))
