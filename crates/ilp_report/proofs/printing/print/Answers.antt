use Rattle.std.proofs.Common.{List, ℕ, codes, pos, [], ap, subst}
use Rattle.std.specs.Prelude.{OnOk, OnErr}
use Rattle.std.specs.List.{flat_map}
use Rattle.std.specs.Io.KnownBytes.{Appends}
use Rattle.ilp_io.specs.Writing.{AppendsProperPrefix}
use Rattle.ilp_io.proofs.CountLemmas.{CountsUp-after}
use Rattle.ilp_report.specs.Report.{line, balance_line, open_line, asset_lines, period_line}
use Rattle.ilp_io.proofs.WrittenLemmas.{stopped, then_all, then_part}
use Rattle.ilp_report.proofs.printing.print.Goals as goal

pub returns-in_err-put_balances-clause-err : goal.returns-in_err-put_balances-clause-err
returns-in_err-put_balances-clause-err g c =
    let balances = ap (flat_map balance_line) c.peers.ensures in
    stopped _ _ _ _ _ (subst (AppendsProperPrefix _ _) balances c.in_err-put_balances.ensures.err)

pub returns-in_err-put_open_holds-clause-err : goal.returns-in_err-put_open_holds-clause-err
returns-in_err-put_open_holds-clause-err g c =
    let balances = ap (flat_map balance_line) c.peers.ensures in
    let opens = ap (flat_map open_line) c.peers-2.ensures in
    let one = subst (Appends _ _) balances c.in_ok-put_balances.ensures.ok in
    then_part _ _ _ _ _ _ one (stopped _ _ _ _ _ (subst (AppendsProperPrefix _ _) opens c.in_err-put_open_holds.ensures.err))

pub returns-in_err-put_assets-clause-err : goal.returns-in_err-put_assets-clause-err
returns-in_err-put_assets-clause-err g c =
    let balances = ap (flat_map balance_line) c.peers.ensures in
    let opens = ap (flat_map open_line) c.peers-2.ensures in
    let assets = ap (flat_map asset_lines) c.assets.ensures.value in
    let one = subst (Appends _ _) balances c.in_ok-put_balances.ensures.ok in
    let two = subst (Appends _ _) opens c.in_ok-put_open_holds.ensures.ok in
    then_part _ _ _ _ _ _ one (then_part _ _ _ _ _ _ two (stopped _ _ _ _ _ (subst (AppendsProperPrefix _ _) assets c.in_err-put_assets.ensures.err)))

pub returns-in_err-put_count-clause-err : goal.returns-in_err-put_count-clause-err
returns-in_err-put_count-clause-err g c =
    let balances = ap (flat_map balance_line) c.peers.ensures in
    let opens = ap (flat_map open_line) c.peers-2.ensures in
    let assets = ap (flat_map asset_lines) c.assets.ensures.value in
    let entries = ap (λ n. line (codes "entries") [] (pos n)) c.entries.ensures in
    let one = subst (Appends _ _) balances c.in_ok-put_balances.ensures.ok in
    let two = subst (Appends _ _) opens c.in_ok-put_open_holds.ensures.ok in
    let three = subst (Appends _ _) assets c.in_ok-put_assets.ensures.ok in
    then_part _ _ _ _ _ _ one (then_part _ _ _ _ _ _ two (then_part _ _ _ _ _ _ three (stopped _ _ _ _ _ (subst (AppendsProperPrefix _ _) entries c.in_err-put_count.ensures.err))))

pub returns-in_err-put_count-2-clause-err : goal.returns-in_err-put_count-2-clause-err
returns-in_err-put_count-2-clause-err g c =
    let balances = ap (flat_map balance_line) c.peers.ensures in
    let opens = ap (flat_map open_line) c.peers-2.ensures in
    let assets = ap (flat_map asset_lines) c.assets.ensures.value in
    let entries = ap (λ n. line (codes "entries") [] (pos n)) c.entries.ensures in
    let fulfilled = ap (λ n. line (codes "fulfilled") [] (pos n)) c.fulfilled.ensures in
    let one = subst (Appends _ _) balances c.in_ok-put_balances.ensures.ok in
    let two = subst (Appends _ _) opens c.in_ok-put_open_holds.ensures.ok in
    let three = subst (Appends _ _) assets c.in_ok-put_assets.ensures.ok in
    let four = subst (Appends _ _) entries c.in_ok-put_count.ensures.ok in
    then_part _ _ _ _ _ _ one (then_part _ _ _ _ _ _ two (then_part _ _ _ _ _ _ three (then_part _ _ _ _ _ _ four (stopped _ _ _ _ _ (subst (AppendsProperPrefix _ _) fulfilled c.in_err-put_count-2.ensures.err)))))

pub returns-clause-ok : goal.returns-clause-ok
returns-clause-ok g c =
    let balances = ap (flat_map balance_line) c.peers.ensures in
    let opens = ap (flat_map open_line) c.peers-2.ensures in
    let assets = ap (flat_map asset_lines) c.assets.ensures.value in
    let entries = ap (λ n. line (codes "entries") [] (pos n)) c.entries.ensures in
    let fulfilled = ap (λ n. line (codes "fulfilled") [] (pos n)) c.fulfilled.ensures in
    let period = ap period_line c.period.ensures in
    let one = subst (Appends _ _) balances c.in_ok-put_balances.ensures.ok in
    let two = subst (Appends _ _) opens c.in_ok-put_open_holds.ensures.ok in
    let three = subst (Appends _ _) assets c.in_ok-put_assets.ensures.ok in
    let four = subst (Appends _ _) entries c.in_ok-put_count.ensures.ok in
    let five = subst (Appends _ _) fulfilled c.in_ok-put_count-2.ensures.ok in
    let said = λ (text : List ℕ). OnOk c.put_period.result (Appends (g.W.Sink.contents c.put_count-2.new.sink) (g.W.Sink.contents c.put_period.new.sink) text) in
    then_all _ _ _ _ _ _ one (then_all _ _ _ _ _ _ two (then_all _ _ _ _ _ _ three (then_all _ _ _ _ _ _ four (then_all _ _ _ _ _ _ five (subst said period c.put_period.ensures.ok)))))

pub returns-clause-err : goal.returns-clause-err
returns-clause-err g c =
    let balances = ap (flat_map balance_line) c.peers.ensures in
    let opens = ap (flat_map open_line) c.peers-2.ensures in
    let assets = ap (flat_map asset_lines) c.assets.ensures.value in
    let entries = ap (λ n. line (codes "entries") [] (pos n)) c.entries.ensures in
    let fulfilled = ap (λ n. line (codes "fulfilled") [] (pos n)) c.fulfilled.ensures in
    let period = ap period_line c.period.ensures in
    let one = subst (Appends _ _) balances c.in_ok-put_balances.ensures.ok in
    let two = subst (Appends _ _) opens c.in_ok-put_open_holds.ensures.ok in
    let three = subst (Appends _ _) assets c.in_ok-put_assets.ensures.ok in
    let four = subst (Appends _ _) entries c.in_ok-put_count.ensures.ok in
    let five = subst (Appends _ _) fulfilled c.in_ok-put_count-2.ensures.ok in
    let said = λ (text : List ℕ). OnErr c.put_period.result (AppendsProperPrefix (g.W.Sink.contents c.put_count-2.new.sink) (g.W.Sink.contents c.put_period.new.sink) text) in
    then_part _ _ _ _ _ _ one (then_part _ _ _ _ _ _ two (then_part _ _ _ _ _ _ three (then_part _ _ _ _ _ _ four (then_part _ _ _ _ _ _ five (subst said period c.put_period.ensures.err)))))

pub returns-clause-failed : goal.returns-clause-failed
returns-clause-failed g c =
    let five = CountsUp-after _ _ _ _ c.in_ok-put_count-2.ensures.failed c.put_period.ensures.failed in
    let four = CountsUp-after _ _ _ _ c.in_ok-put_count.ensures.failed five in
    let three = CountsUp-after _ _ _ _ c.in_ok-put_assets.ensures.failed four in
    let two = CountsUp-after _ _ _ _ c.in_ok-put_open_holds.ensures.failed three in
    CountsUp-after _ _ _ _ c.in_ok-put_balances.ensures.failed two
