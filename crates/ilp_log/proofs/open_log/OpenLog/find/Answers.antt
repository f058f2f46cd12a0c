use Rattle.std.proofs.Common.{◌≡◌, ◌≤◌, [], ◌∷◌, ◌++◌, List, ℕ, take, sym, ◌∙◌, ap, subst}
use Rattle.ilp_log.specs.declared.ack.Ack.{Ack}
use Rattle.ilp_line_file.specs.Text.{IsBetween}
use Rattle.ilp_log.specs.Lines.{lines_of}
use Rattle.ilp_log.specs.Log.{HoldAcks, last_ack}
use Rattle.ilp_log.proofs.Logs.{ack_of}
use Rattle.ilp_log.proofs.open_log.OpenLog.find.Goals as goal

pub returns-clause-earlier : goal.returns-clause-earlier
returns-clause-earlier g c holds =
    let kept = c.kept.invariant in
    let known = c.check.ensures.begins in
    let acks : c.self.inside.acks ≡ (kept.0 ++ last_ack c.kept.inside.seen ∷ []) ++ known.0 = sym known.1 ∙ ap (λ (l : List Ack). l ++ known.0) kept.1 in
    let told = subst (λ (l : List Ack). HoldAcks g.D.Device.moment g.D.Device.left_since c.self.inside.file.device (lines_of g.K.LogNaming.form (take c.self.inside.count c.self.inside.receipt)) (lines_of g.K.LogNaming.form c.self.inside.receipt) l) acks (c.self.invariant.2 holds).told in
    let one = ack_of g.D.Device.moment g.D.Device.left_since c.self.inside.file.device (lines_of g.K.LogNaming.form (take c.self.inside.count c.self.inside.receipt)) (lines_of g.K.LogNaming.form c.self.inside.receipt) kept.0 (last_ack c.kept.inside.seen) known.0 told in
    let same = c.self.view_is ∙ c.see.ensures.seen in
    subst (λ v. c.args.kept.moment ≤ g.D.Device.moment v.device) same (subst (λ (a : Ack). a.moment ≤ g.D.Device.moment c.self.inside.file.device) c.kept.view_is one.earlier)

pub returns-clause-each : goal.returns-clause-each
returns-clause-each g c holds =
    let kept = c.kept.invariant in
    let known = c.check.ensures.begins in
    let acks : c.self.inside.acks ≡ (kept.0 ++ last_ack c.kept.inside.seen ∷ []) ++ known.0 = sym known.1 ∙ ap (λ (l : List Ack). l ++ known.0) kept.1 in
    let told = subst (λ (l : List Ack). HoldAcks g.D.Device.moment g.D.Device.left_since c.self.inside.file.device (lines_of g.K.LogNaming.form (take c.self.inside.count c.self.inside.receipt)) (lines_of g.K.LogNaming.form c.self.inside.receipt) l) acks (c.self.invariant.2 holds).told in
    let one = ack_of g.D.Device.moment g.D.Device.left_since c.self.inside.file.device (lines_of g.K.LogNaming.form (take c.self.inside.count c.self.inside.receipt)) (lines_of g.K.LogNaming.form c.self.inside.receipt) kept.0 (last_ack c.kept.inside.seen) known.0 told in
    let same = c.self.view_is ∙ c.see.ensures.seen in
    let inside : (x : List ℕ) → g.D.Device.left_since c.self.inside.file.device c.args.kept.moment x → IsBetween c.args.kept.lines (lines_of g.K.LogNaming.form c.self.inside.receipt) x =
    subst (λ (a : Ack). (x : List ℕ) → g.D.Device.left_since c.self.inside.file.device a.moment x → IsBetween a.lines (lines_of g.K.LogNaming.form c.self.inside.receipt) x) c.kept.view_is one.each in
    subst (λ v. (x : List ℕ) → g.D.Device.left_since v.device c.args.kept.moment x → IsBetween c.args.kept.lines (lines_of g.K.LogNaming.form v.seen) x) same inside
