use Rattle.std.proofs.Common.{◌∙◌, sym, ap, subst}
use Rattle.ilp_line_file.specs.Device.{Only}
use Rattle.ilp_line_file.specs.Text.{recovered}
use Rattle.ilp_line_file.proofs.Growing.{Ready, Grown, grown}
use Rattle.ilp_line_file.proofs.Runs.{writes, no_more}
use Rattle.ilp_line_file.proofs.line_file.LineFile.append.Goals as goal

pub returns-in_err-write_at-clause-any_moment : goal.returns-in_err-write_at-clause-any_moment
returns-in_err-write_at-clause-any_moment g c holds =
    (writes g.D.Device.seen g.D.Device.may_leave g.D.Device.moment g.D.Device.left_since c.args.self.now c.write_at.new.self c.args.text.now (c.requires.settled holds) c.requires.text (g.met.D.Device.only_now holds c.args.self.now.device) (c.write_at.ensures.time holds) (c.write_at.ensures.crash holds)).so_far

pub returns-in_err-sync-clause-any_moment : goal.returns-in_err-sync-clause-any_moment
returns-in_err-sync-clause-any_moment g c holds =
    let wrote = writes g.D.Device.seen g.D.Device.may_leave g.D.Device.moment g.D.Device.left_since c.args.self.now c.write_at.new.self c.args.text.now (c.requires.settled holds) c.requires.text (g.met.D.Device.only_now holds c.args.self.now.device) (c.write_at.ensures.time holds) (c.write_at.ensures.crash holds) in
    (no_more g.D.Device.seen g.D.Device.may_leave g.D.Device.moment g.D.Device.left_since c.args.self.now.device c.write_at.new.self c.sync.new.self _ wrote (c.sync.ensures.time holds) (c.sync.ensures.crash holds)).so_far

pub returns-clause-any_moment : goal.returns-clause-any_moment
returns-clause-any_moment g c holds =
    let wrote = writes g.D.Device.seen g.D.Device.may_leave g.D.Device.moment g.D.Device.left_since c.args.self.now c.write_at.new.self c.args.text.now (c.requires.settled holds) c.requires.text (g.met.D.Device.only_now holds c.args.self.now.device) (c.write_at.ensures.time holds) (c.write_at.ensures.crash holds) in
    (no_more g.D.Device.seen g.D.Device.may_leave g.D.Device.moment g.D.Device.left_since c.args.self.now.device c.write_at.new.self c.sync.new.self _ wrote (c.sync.ensures.time holds) (c.sync.ensures.crash holds)).so_far

pub returns-clause-settled : goal.returns-clause-settled
returns-clause-settled g c holds =
    let s = c.requires.settled holds in
    let f = g.D.Device.seen c.args.self.now.device in
    let ready : Ready f c.args.self.now.end c.args.text.now = record { within = s.within; begins = s.text; blank = s.blank; whole = c.requires.text } in
    let n = grown f c.args.self.now.end c.args.text.now (g.D.Device.seen c.write_at.new.self) ready (c.in_ok-write_at.ensures.written holds) in
    let here : Grown f c.args.self.now.end c.args.text.now (g.D.Device.seen c.sync.new.self) = subst (λ x. Grown f c.args.self.now.end c.args.text.now x) (sym (c.sync.ensures.seen holds)) n in
    record {
      within = here.within;
      text = here.begins;
      blank = here.blank;
      durable = subst (λ x. Only x (g.D.Device.may_leave c.sync.new.self)) (sym (c.sync.ensures.seen holds)) (c.in_ok-sync.ensures.durable holds);
    }

pub returns-clause-lines : goal.returns-clause-lines
returns-clause-lines g c holds =
    let s = c.requires.settled holds in
    let f = g.D.Device.seen c.args.self.now.device in
    let ready : Ready f c.args.self.now.end c.args.text.now = record { within = s.within; begins = s.text; blank = s.blank; whole = c.requires.text } in
    let n = grown f c.args.self.now.end c.args.text.now (g.D.Device.seen c.write_at.new.self) ready (c.in_ok-write_at.ensures.written holds) in
    ap recovered (c.sync.ensures.seen holds) ∙ n.lines
