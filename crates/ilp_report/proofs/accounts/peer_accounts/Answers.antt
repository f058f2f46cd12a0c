use Rattle.std.proofs.Common.{◌∷◌, [], ◌++◌, map, sym, ap, ◌∙◌, arith}
use Rattle.std.specs.List.{range_with_len}
use Rattle.std.proofs.lemmas.List.FromFn.{map-range_with_len_more}
use Rattle.ilp_report.specs.Report.{peer_account}
use Rattle.ilp_report.proofs.accounts.peer_accounts.Goals as goal

pub loop-peer-preserved : goal.loop-peer-preserved
loop-peer-preserved g c =
    let told = peer_account c.args.book.now in
    let n = c.loop-peer.peer in
    c.in_ok-push.ensures.items ∙ ap (λ xs. xs ++ c.in_ok-peer_account.field-0 ∷ []) c.loop-peer.invariant
    ∙ ap (λ x. map told (range_with_len 0 n) ++ x ∷ []) c.in_ok-peer_account.ensures ∙ sym (map-range_with_len_more told 0 n n (omega arith))
