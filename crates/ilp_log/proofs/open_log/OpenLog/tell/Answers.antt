use Rattle.std.proofs.Common.{◌≡◌, [], ◌∷◌, ◌++◌, List, Bool, false, sym, ◌∙◌, ap, subst}
use Rattle.ilp_line_file.specs.Text.{recovered}
use Rattle.ilp_log.specs.declared.ack.Ack.{Ack}
use Rattle.ilp_log.specs.Lines.{lines_of}
use Rattle.ilp_log.specs.Log.{written, IsLog, last_ack}
use Rattle.ilp_log.proofs.Logs.{tells, last_ack-snoc}
use Rattle.ilp_log.proofs.open_log.OpenLog.tell.Goals as goal

pub invariant_of-result : goal.invariant_of-result
invariant_of-result g c =
    let before : List Ack = c.self.inside.acks in
    let ack : Ack = record { moment = g.D.Device.moment c.self.inside.file.device; lines = recovered (g.D.Device.seen c.self.inside.file.device) } in
    let is : c.seen.result ≡ before ++ ack ∷ [] = c.seen.ensures.all ∙ c.grow.ensures in
    let last : last_ack c.seen.result ≡ ack = ap last_ack is ∙ last_ack-snoc before ack in
    (before, is ∙ ap (λ (a : Ack). before ++ a ∷ []) (sym last))

pub invariant_of-self : goal.invariant_of-self
invariant_of-self g c =
    let before : List Ack = c.self.inside.acks in
    let ack : Ack = record { moment = g.D.Device.moment c.self.inside.file.device; lines = recovered (g.D.Device.seen c.self.inside.file.device) } in
    let is : before ++ ack ∷ [] ≡ c.seen.new.self = sym (c.seen.ensures.same ∙ c.grow.ensures) in (
      c.self.invariant.0,
      c.self.invariant.1,
      λ holds.
          let log = subst (λ (b : Bool). IsLog g.D.Device.seen g.D.Device.may_leave g.D.Device.moment g.D.Device.left_since g.K.LogNaming.form c.self.inside.file b c.self.inside.receipt c.self.inside.count c.self.inside.acks) c.if-self.false (c.self.invariant.2 holds) in
          let told = tells g.D.Device.seen g.D.Device.may_leave g.D.Device.moment g.D.Device.left_since g.K.LogNaming.form c.self.inside.file c.self.inside.receipt c.self.inside.count before (g.met.D.Device.only_now holds c.self.inside.file.device) log in
          let now = subst (λ (l : List Ack). IsLog g.D.Device.seen g.D.Device.may_leave g.D.Device.moment g.D.Device.left_since g.K.LogNaming.form c.self.inside.file false c.self.inside.receipt c.self.inside.count l) is told in
          subst (λ (b : Bool). IsLog g.D.Device.seen g.D.Device.may_leave g.D.Device.moment g.D.Device.left_since g.K.LogNaming.form c.self.inside.file b c.self.inside.receipt c.self.inside.count c.seen.new.self) (sym c.if-self.false) now,
      c.self.invariant.3,
      c.self.invariant.4,
    )

pub returns-clause-kept : goal.returns-clause-kept
returns-clause-kept g c holds =
    let before : List Ack = c.self.inside.acks in
    let ack : Ack = record { moment = g.D.Device.moment c.self.inside.file.device; lines = recovered (g.D.Device.seen c.self.inside.file.device) } in
    let is : c.seen.result ≡ before ++ ack ∷ [] = c.seen.ensures.all ∙ c.grow.ensures in
    let last : last_ack c.seen.result ≡ ack = ap last_ack is ∙ last_ack-snoc before ack in
    record {
      same = ap (λ (a : Ack). a.lines) last ∙ (c.self.invariant.2 holds).whole c.if-self.false ∙ ap (λ v. lines_of g.K.LogNaming.form (written v)) c.self.view_is;
      when = ap (λ (a : Ack). a.moment) last ∙ ap (λ v. g.D.Device.moment v.device) c.self.view_is;
      read = ap (λ v. recovered (g.D.Device.seen v.device)) (sym c.self.view_is) ∙ sym (ap (λ (a : Ack). a.lines) last);
    }
