use Rattle.std.proofs.Common.{Result, Ok, Err, OnOk, ◌∙◌, sym, ap, subst}
use Rattle.ilp_line_file.specs.Device.{Only}
use Rattle.ilp_line_file.specs.Text.{recovered}
use Rattle.ilp_line_file.proofs.Growing.{Settled, reserved}
use Rattle.ilp_line_file.proofs.Runs.{blanks, no_more}
use Rattle.ilp_line_file.proofs.line_file.LineFile.reserve.Goals as goal

pub returns-in_err-write_at-clause-any_moment : goal.returns-in_err-write_at-clause-any_moment
returns-in_err-write_at-clause-any_moment g c holds =
    (blanks g.D.Device.seen g.D.Device.may_leave g.D.Device.moment g.D.Device.left_since c.args.self.now c.write_at.new.self c.args.zeros.now (c.requires.settled holds) c.requires.blank (g.met.D.Device.only_now holds c.args.self.now.device) (c.write_at.ensures.time holds) (c.write_at.ensures.crash holds)).so_far

pub returns-clause-any_moment : goal.returns-clause-any_moment
returns-clause-any_moment g c holds =
    let wrote = blanks g.D.Device.seen g.D.Device.may_leave g.D.Device.moment g.D.Device.left_since c.args.self.now c.write_at.new.self c.args.zeros.now (c.requires.settled holds) c.requires.blank (g.met.D.Device.only_now holds c.args.self.now.device) (c.write_at.ensures.time holds) (c.write_at.ensures.crash holds) in
    (no_more g.D.Device.seen g.D.Device.may_leave g.D.Device.moment g.D.Device.left_since c.args.self.now.device c.write_at.new.self c.sync.new.self _ wrote (c.sync.ensures.time holds) (c.sync.ensures.crash holds)).so_far

-- what follows at Ok
on_ok : {T E : Type 0} (P Q : Type 0) (r : Result T E) → (P → Q) → OnOk r P → OnOk r Q
on_ok P Q (Ok t) all is = all is
on_ok P Q (Err e) all is = is

pub returns-clause-lines : goal.returns-clause-lines
returns-clause-lines g c holds =
    let s = c.requires.settled holds in
    let f = g.D.Device.seen c.args.self.now.device in
    let settled : Settled f c.args.self.now.end = record { within = s.within; begins = s.text; blank = s.blank } in
    let r = reserved f c.args.self.now.end c.args.zeros.now (g.D.Device.seen c.write_at.new.self) settled c.requires.blank (c.in_ok-write_at.ensures.written holds) in
    on_ok _ _ c.sync.result (λ _. ap recovered (c.sync.ensures.seen holds) ∙ r.lines) (c.sync.ensures.durable holds)

pub returns-clause-settled : goal.returns-clause-settled
returns-clause-settled g c holds =
    let s = c.requires.settled holds in
    let f = g.D.Device.seen c.args.self.now.device in
    let settled : Settled f c.args.self.now.end = record { within = s.within; begins = s.text; blank = s.blank } in
    let r = reserved f c.args.self.now.end c.args.zeros.now (g.D.Device.seen c.write_at.new.self) settled c.requires.blank (c.in_ok-write_at.ensures.written holds) in
    let here : Settled (g.D.Device.seen c.sync.new.self) c.args.self.now.end = subst (λ x. Settled x c.args.self.now.end) (sym (c.sync.ensures.seen holds)) r.settled in
    on_ok _ _ c.sync.result (λ only. record {
      within = here.within;
      text = here.begins;
      blank = here.blank;
      durable = subst (λ x. Only x (g.D.Device.may_leave c.sync.new.self)) (sym (c.sync.ensures.seen holds)) only;
    }) (c.sync.ensures.durable holds)
