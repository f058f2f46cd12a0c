use Rattle.std.proofs.Common.{List, ℕ, codes, ap, subst, FitsSigned, rules}
use Rattle.std.specs.Prelude.{OnOk, OnErr}
use Rattle.std.specs.Int.{w128}
use Rattle.std.specs.Io.KnownBytes.{Appends}
use Rattle.ilp_io.specs.Writing.{AppendsProperPrefix}
use Rattle.ilp_io.proofs.WrittenLemmas.{stopped, then_all, then_part}
use Rattle.ilp_report.proofs.LineLemmas.{line_told}
use Rattle.ilp_report.proofs.printing.put_asset.Goals as goal

pub returns-in_err-put_line-clause-err : goal.returns-in_err-put_line-clause-err
returns-in_err-put_line-clause-err g c =
    let name = c.name-name.ensures.value in
    let sums = c.sums-sums.ensures.value in
    let fits_1 : FitsSigned w128 c.sums-sums.result.held = search rules in
    let held = line_told (codes "held") _ _ _ _ fits_1 name (ap (λ s. s.held) sums) in
    stopped _ _ _ _ _ (subst (AppendsProperPrefix _ _) held c.in_err-put_line.ensures.err)

pub returns-in_err-put_line-2-clause-err : goal.returns-in_err-put_line-2-clause-err
returns-in_err-put_line-2-clause-err g c =
    let name = c.name-name.ensures.value in
    let sums = c.sums-sums.ensures.value in
    let fits_1 : FitsSigned w128 c.sums-sums.result.held = search rules in
    let held = line_told (codes "held") _ _ _ _ fits_1 name (ap (λ s. s.held) sums) in
    let fits_2 : FitsSigned w128 c.sums-sums.result.fees = search rules in
    let fees = line_told (codes "fees") _ _ _ _ fits_2 name (ap (λ s. s.fees) sums) in
    let one = subst (Appends _ _) held c.in_ok-put_line.ensures.ok in
    then_part _ _ _ _ _ _ one (stopped _ _ _ _ _ (subst (AppendsProperPrefix _ _) fees c.in_err-put_line-2.ensures.err))

pub returns-in_err-put_line-3-clause-err : goal.returns-in_err-put_line-3-clause-err
returns-in_err-put_line-3-clause-err g c =
    let name = c.name-name.ensures.value in
    let sums = c.sums-sums.ensures.value in
    let fits_1 : FitsSigned w128 c.sums-sums.result.held = search rules in
    let held = line_told (codes "held") _ _ _ _ fits_1 name (ap (λ s. s.held) sums) in
    let fits_2 : FitsSigned w128 c.sums-sums.result.fees = search rules in
    let fees = line_told (codes "fees") _ _ _ _ fits_2 name (ap (λ s. s.fees) sums) in
    let fits_3 : FitsSigned w128 c.sums-sums.result.bought = search rules in
    let bought = line_told (codes "bought") _ _ _ _ fits_3 name (ap (λ s. s.bought) sums) in
    let one = subst (Appends _ _) held c.in_ok-put_line.ensures.ok in
    let two = subst (Appends _ _) fees c.in_ok-put_line-2.ensures.ok in
    then_part _ _ _ _ _ _ one (then_part _ _ _ _ _ _ two (stopped _ _ _ _ _ (subst (AppendsProperPrefix _ _) bought c.in_err-put_line-3.ensures.err)))

pub returns-in_err-put_line-4-clause-err : goal.returns-in_err-put_line-4-clause-err
returns-in_err-put_line-4-clause-err g c =
    let name = c.name-name.ensures.value in
    let sums = c.sums-sums.ensures.value in
    let fits_1 : FitsSigned w128 c.sums-sums.result.held = search rules in
    let held = line_told (codes "held") _ _ _ _ fits_1 name (ap (λ s. s.held) sums) in
    let fits_2 : FitsSigned w128 c.sums-sums.result.fees = search rules in
    let fees = line_told (codes "fees") _ _ _ _ fits_2 name (ap (λ s. s.fees) sums) in
    let fits_3 : FitsSigned w128 c.sums-sums.result.bought = search rules in
    let bought = line_told (codes "bought") _ _ _ _ fits_3 name (ap (λ s. s.bought) sums) in
    let fits_4 : FitsSigned w128 c.sums-sums.result.sold = search rules in
    let sold = line_told (codes "sold") _ _ _ _ fits_4 name (ap (λ s. s.sold) sums) in
    let one = subst (Appends _ _) held c.in_ok-put_line.ensures.ok in
    let two = subst (Appends _ _) fees c.in_ok-put_line-2.ensures.ok in
    let three = subst (Appends _ _) bought c.in_ok-put_line-3.ensures.ok in
    then_part _ _ _ _ _ _ one (then_part _ _ _ _ _ _ two (then_part _ _ _ _ _ _ three (stopped _ _ _ _ _ (subst (AppendsProperPrefix _ _) sold c.in_err-put_line-4.ensures.err))))

pub returns-clause-ok : goal.returns-clause-ok
returns-clause-ok g c =
    let name = c.name-name.ensures.value in
    let sums = c.sums-sums.ensures.value in
    let fits_1 : FitsSigned w128 c.sums-sums.result.held = search rules in
    let held = line_told (codes "held") _ _ _ _ fits_1 name (ap (λ s. s.held) sums) in
    let fits_2 : FitsSigned w128 c.sums-sums.result.fees = search rules in
    let fees = line_told (codes "fees") _ _ _ _ fits_2 name (ap (λ s. s.fees) sums) in
    let fits_3 : FitsSigned w128 c.sums-sums.result.bought = search rules in
    let bought = line_told (codes "bought") _ _ _ _ fits_3 name (ap (λ s. s.bought) sums) in
    let fits_4 : FitsSigned w128 c.sums-sums.result.sold = search rules in
    let sold = line_told (codes "sold") _ _ _ _ fits_4 name (ap (λ s. s.sold) sums) in
    let fits_5 : FitsSigned w128 c.sums-sums.result.settled = search rules in
    let settled = line_told (codes "settled") _ _ _ _ fits_5 name (ap (λ s. s.settled) sums) in
    let one = subst (Appends _ _) held c.in_ok-put_line.ensures.ok in
    let two = subst (Appends _ _) fees c.in_ok-put_line-2.ensures.ok in
    let three = subst (Appends _ _) bought c.in_ok-put_line-3.ensures.ok in
    let four = subst (Appends _ _) sold c.in_ok-put_line-4.ensures.ok in
    let said = λ (text : List ℕ). OnOk c.put_line-5.result (Appends (g.W.Sink.contents c.put_line-4.new.sink) (g.W.Sink.contents c.put_line-5.new.sink) text) in
    then_all _ _ _ _ _ _ one (then_all _ _ _ _ _ _ two (then_all _ _ _ _ _ _ three (then_all _ _ _ _ _ _ four (subst said settled c.put_line-5.ensures.ok))))

pub returns-clause-err : goal.returns-clause-err
returns-clause-err g c =
    let name = c.name-name.ensures.value in
    let sums = c.sums-sums.ensures.value in
    let fits_1 : FitsSigned w128 c.sums-sums.result.held = search rules in
    let held = line_told (codes "held") _ _ _ _ fits_1 name (ap (λ s. s.held) sums) in
    let fits_2 : FitsSigned w128 c.sums-sums.result.fees = search rules in
    let fees = line_told (codes "fees") _ _ _ _ fits_2 name (ap (λ s. s.fees) sums) in
    let fits_3 : FitsSigned w128 c.sums-sums.result.bought = search rules in
    let bought = line_told (codes "bought") _ _ _ _ fits_3 name (ap (λ s. s.bought) sums) in
    let fits_4 : FitsSigned w128 c.sums-sums.result.sold = search rules in
    let sold = line_told (codes "sold") _ _ _ _ fits_4 name (ap (λ s. s.sold) sums) in
    let fits_5 : FitsSigned w128 c.sums-sums.result.settled = search rules in
    let settled = line_told (codes "settled") _ _ _ _ fits_5 name (ap (λ s. s.settled) sums) in
    let one = subst (Appends _ _) held c.in_ok-put_line.ensures.ok in
    let two = subst (Appends _ _) fees c.in_ok-put_line-2.ensures.ok in
    let three = subst (Appends _ _) bought c.in_ok-put_line-3.ensures.ok in
    let four = subst (Appends _ _) sold c.in_ok-put_line-4.ensures.ok in
    let said = λ (text : List ℕ). OnErr c.put_line-5.result (AppendsProperPrefix (g.W.Sink.contents c.put_line-4.new.sink) (g.W.Sink.contents c.put_line-5.new.sink) text) in
    then_part _ _ _ _ _ _ one (then_part _ _ _ _ _ _ two (then_part _ _ _ _ _ _ three (then_part _ _ _ _ _ _ four (subst said settled c.put_line-5.ensures.err))))
