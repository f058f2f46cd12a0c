use Rattle.std.proofs.Common.{◌++◌, ◌-◌, ℕ, List, length, replicate, codes, ap, ◌∙◌}
use Rattle.std.specs.Fmt.{digits}
use Rattle.ilp_report.specs.Report.{line}
use Rattle.ilp_shared.proofs.NameLemmas.{in_row}
use Rattle.ilp_shared.proofs.payouts.put_line.Goals as goal

-- label, name and number, one behind the other
pub returns : goal.returns
unfolding digits line
returns c =
    let old = c.args.lines.now.items in
    let label = codes "paused    " in
    let name = c.args.name.now in
    let number = codes "                             1" ++ codes "\n" in
    let named = c.in_ok-extend_from_slice-2.ensures.items ∙ ap (λ (xs : List ℕ). c.extend_from_slice.new.self.items ++ xs) c.as_bytes.ensures.value ∙ ap (λ (xs : List ℕ). xs ++ name) c.in_ok-extend_from_slice.ensures.items in
    let spaced = c.in_ok-put_spaces.ensures ∙ ap (λ (n : ℕ). c.extend_from_slice-2.new.self.items ++ replicate n 32) c.saturating_sub.ensures ∙ ap (λ (xs : List ℕ). xs ++ replicate (20 - length name) 32) named in
    c.in_ok-extend_from_slice-3.ensures.items ∙ ap (λ (xs : List ℕ). xs ++ number) spaced ∙ in_row old label name (replicate (20 - length name) 32) number
