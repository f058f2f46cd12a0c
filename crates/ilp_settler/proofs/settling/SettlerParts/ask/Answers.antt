use Rattle.std.proofs.Common.{subst, rules}
use Rattle.std.specs.Prelude.{FitsSigned}
use Rattle.std.specs.Int.{w64}
use Rattle.std.proofs.lemmas.Int.{to_z-of_z}
use Rattle.ilp_settler.specs.Settler.{IsAskedAt}
use Rattle.ilp_settler.proofs.SettleSessions.{asking_by}
use Rattle.ilp_settler.proofs.settling.SettlerParts.ask.Goals as goal

pub returns-clause-asked : goal.returns-clause-asked
returns-clause-asked g c =
    let desk = g.J.Naming.desk in
    let now = c.now-now.result in
    let fits : FitsSigned w64 now = search rules in
    let at : IsAskedAt desk c.args.peer now c.args.self.now.receipt c.ask_shown.new.receipt c.args.self.now.share c.ask_shown.new.share c.ask_shown.result =
    subst (λ t. IsAskedAt desk c.args.peer t c.args.self.now.receipt c.ask_shown.new.receipt c.args.self.now.share c.ask_shown.new.share c.ask_shown.result) (to_z-of_z w64 now fits) c.ask_shown.ensures in
    asking_by desk c.args.peer _ _ c.args.self.now.receipt c.ask_shown.new.receipt c.args.self.now.share c.ask_shown.new.share now c.ask_shown.result c.now-now.ensures at
