use Rattle.std.proofs.Common.{ℕ, List, Bor, ◌∙◌}
use Rattle.ilp_follows.specs.Follows.{is_line_of}
use Rattle.ilp_follows.proofs.ToldLines.{any_mapped}
use Rattle.ilp_follows.proofs.beginning.is_told.Goals as goal

pub returns : goal.returns
returns c =
    c.is_among.ensures ∙ any_mapped (is_line_of c.args.config.now c.args.entry.now) (λ (line : Bor (List ℕ)). line.now) c.args.lines.now
