use Rattle.std.proofs.Common.{sym, subst}
use mathlib.Core.List.{IsPrefix}
use Rattle.ilp_journal.specs.Journal.{Entries}
use Rattle.ilp_grown_list.proofs.Begins.{prefix_trans}
use Rattle.ilp_desk.specs.Desk.{PlainDesk}
use Rattle.ilp_desk.specs.Session.{IsSeenSince}
use Rattle.ilp_log.proofs.Begins.{lines_begin}
use Rattle.ilp_log_keeper.proofs.keeper.LogKeeperSharedKeeper.mend.Goals as goal

-- What was seen begins what is seen since.
begins : (desk : PlainDesk) (before after : Entries) → IsSeenSince desk before after → IsPrefix before after
begins desk before after (book, is, found, same) = subst (λ (l : Entries). IsPrefix before l) (sym same) found

-- What the log was told of begins with what the receipt had seen.
pub returns-in-Ok-clause-kept : goal.returns-in-Ok-clause-kept
returns-in-Ok-clause-kept g c holds mended =
    let seen = begins g.J.Naming.desk _ _ c.show.ensures in
    prefix_trans _ _ _ (lines_begin g.K.LogNaming.form _ _ seen) (c.in-Ok.ensures.kept holds)
