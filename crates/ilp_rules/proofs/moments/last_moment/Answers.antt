use Rattle.std.proofs.Common.{ℕ, ◌-◌, ap, sym, ◌∙◌, to_z-of_z, rules}
use Rattle.std.specs.Prelude.{slice_get, FitsSigned}
use Rattle.std.specs.Int.{w64}
use Rattle.ilp_rules.proofs.Keeping.{last_moment_at, last_entry_stands}
use Rattle.ilp_rules.proofs.moments.last_moment.Goals as goal

pub returns-in-Some : goal.returns-in-Some
returns-in-Some g c =
    let place = ap (λ (n : ℕ). slice_get c.args.journal.now.entries (n - 1)) c.len-len.ensures.count in
    let fits : FitsSigned w64 c.in-Some.entry.now.moment = search rules in
    to_z-of_z fits ∙ sym (last_moment_at c.args.journal.now.entries c.in-Some.entry.now (sym place ∙ sym c.in-Some.ensures))

pub returns-in-None : goal.returns-in-None
returns-in-None g c =
    let place = ap (λ (n : ℕ). slice_get c.args.journal.now.entries (n - 1)) c.len-len.ensures.count in
    absurd (c.if-len-eq0.false (c.len-len.ensures.count ∙ last_entry_stands c.args.journal.now.entries (sym place ∙ sym c.in-None.ensures)))
