use Rattle.std.proofs.Common.{◌≡◌, ◌≤◌, ℕ, List, length, take, ◌∙◌, sym, ap, subst, arith}
use Rattle.ilp_line_file.specs.Device.{Only}
use Rattle.ilp_line_file.specs.Text.{recovered, text_of}
use Rattle.ilp_line_file.proofs.Mending.{mended}
use Rattle.ilp_line_file.proofs.Runs.{none_yet, no_more, cuts}
use Rattle.ilp_line_file.proofs.line_file.recover.Goals as goal

pub returns-in_err-cut-clause-any_moment : goal.returns-in_err-cut-clause-any_moment
returns-in_err-cut-clause-any_moment g c holds =
    let old = c.args.device.now in
    let f = g.D.Device.seen old in
    let octets_are = c.deref.ensures.value ∙ (c.in_ok-text.ensures.octets holds) in
    let within : c.end_of-end.result ≤ length f = omega (arith, ap length octets_are, c.end_of-end.ensures.within) in
    let text = subst (λ b. take c.end_of-end.result b ≡ text_of (recovered b)) octets_are c.end_of-end.ensures.text in
    let first = none_yet g.D.Device.seen g.D.Device.may_leave g.D.Device.moment g.D.Device.left_since old (λ x. recovered x ≡ recovered f) (g.met.D.Device.only_now holds old) (λ x now. ap recovered (c.requires holds x now)) in
    let read = no_more g.D.Device.seen g.D.Device.may_leave g.D.Device.moment g.D.Device.left_since old old c.read.new.self _ first (c.read.ensures.time holds) (c.read.ensures.crash holds) in
    let cut = cuts g.D.Device.seen g.D.Device.may_leave g.D.Device.moment g.D.Device.left_since old c.read.new.self c.cut.new.self c.end_of-end.result (c.requires holds) read (c.read.ensures.crash holds) within text (c.cut.ensures.time holds) (c.cut.ensures.crash holds) in
    cut.so_far

pub returns-in_err-sync-clause-any_moment : goal.returns-in_err-sync-clause-any_moment
returns-in_err-sync-clause-any_moment g c holds =
    let old = c.args.device.now in
    let f = g.D.Device.seen old in
    let octets_are = c.deref.ensures.value ∙ (c.in_ok-text.ensures.octets holds) in
    let within : c.end_of-end.result ≤ length f = omega (arith, ap length octets_are, c.end_of-end.ensures.within) in
    let text = subst (λ b. take c.end_of-end.result b ≡ text_of (recovered b)) octets_are c.end_of-end.ensures.text in
    let first = none_yet g.D.Device.seen g.D.Device.may_leave g.D.Device.moment g.D.Device.left_since old (λ x. recovered x ≡ recovered f) (g.met.D.Device.only_now holds old) (λ x now. ap recovered (c.requires holds x now)) in
    let read = no_more g.D.Device.seen g.D.Device.may_leave g.D.Device.moment g.D.Device.left_since old old c.read.new.self _ first (c.read.ensures.time holds) (c.read.ensures.crash holds) in
    let cut = cuts g.D.Device.seen g.D.Device.may_leave g.D.Device.moment g.D.Device.left_since old c.read.new.self c.cut.new.self c.end_of-end.result (c.requires holds) read (c.read.ensures.crash holds) within text (c.cut.ensures.time holds) (c.cut.ensures.crash holds) in
    (no_more g.D.Device.seen g.D.Device.may_leave g.D.Device.moment g.D.Device.left_since old c.cut.new.self c.sync.new.self _ cut (c.sync.ensures.time holds) (c.sync.ensures.crash holds)).so_far

pub returns-clause-any_moment : goal.returns-clause-any_moment
returns-clause-any_moment g c holds =
    let old = c.args.device.now in
    let f = g.D.Device.seen old in
    let octets_are = c.deref.ensures.value ∙ (c.in_ok-text.ensures.octets holds) in
    let within : c.end_of-end.result ≤ length f = omega (arith, ap length octets_are, c.end_of-end.ensures.within) in
    let text = subst (λ b. take c.end_of-end.result b ≡ text_of (recovered b)) octets_are c.end_of-end.ensures.text in
    let first = none_yet g.D.Device.seen g.D.Device.may_leave g.D.Device.moment g.D.Device.left_since old (λ x. recovered x ≡ recovered f) (g.met.D.Device.only_now holds old) (λ x now. ap recovered (c.requires holds x now)) in
    let read = no_more g.D.Device.seen g.D.Device.may_leave g.D.Device.moment g.D.Device.left_since old old c.read.new.self _ first (c.read.ensures.time holds) (c.read.ensures.crash holds) in
    let cut = cuts g.D.Device.seen g.D.Device.may_leave g.D.Device.moment g.D.Device.left_since old c.read.new.self c.cut.new.self c.end_of-end.result (c.requires holds) read (c.read.ensures.crash holds) within text (c.cut.ensures.time holds) (c.cut.ensures.crash holds) in
    (no_more g.D.Device.seen g.D.Device.may_leave g.D.Device.moment g.D.Device.left_since old c.cut.new.self c.sync.new.self _ cut (c.sync.ensures.time holds) (c.sync.ensures.crash holds)).so_far

pub returns-clause-same : goal.returns-clause-same
returns-clause-same g c holds =
    let f = g.D.Device.seen c.args.device.now in
    let octets_are = c.deref.ensures.value ∙ (c.in_ok-text.ensures.octets holds) in
    let within : c.end_of-end.result ≤ length f = omega (arith, ap length octets_are, c.end_of-end.ensures.within) in
    let text = subst (λ b. take c.end_of-end.result b ≡ text_of (recovered b)) octets_are c.end_of-end.ensures.text in
    let is = c.sync.ensures.seen holds ∙ (c.in_ok-cut.ensures.cut holds) ∙ ap (λ (x : List ℕ). take c.end_of-end.result x) (c.read.ensures.seen holds) in
    (mended f c.end_of-end.result (g.D.Device.seen c.sync.new.self) (length c.truncate.new.self.items) within text is (ap length c.truncate.ensures.items ∙ ap (λ (x : List ℕ). length (take c.end_of-end.result x)) (c.in_ok-text.ensures.octets holds))).same

pub returns-clause-settled : goal.returns-clause-settled
returns-clause-settled g c holds =
    let f = g.D.Device.seen c.args.device.now in
    let octets_are = c.deref.ensures.value ∙ (c.in_ok-text.ensures.octets holds) in
    let within : c.end_of-end.result ≤ length f = omega (arith, ap length octets_are, c.end_of-end.ensures.within) in
    let text = subst (λ b. take c.end_of-end.result b ≡ text_of (recovered b)) octets_are c.end_of-end.ensures.text in
    let is = c.sync.ensures.seen holds ∙ (c.in_ok-cut.ensures.cut holds) ∙ ap (λ (x : List ℕ). take c.end_of-end.result x) (c.read.ensures.seen holds) in
    let m = mended f c.end_of-end.result (g.D.Device.seen c.sync.new.self) (length c.truncate.new.self.items) within text is (ap length c.truncate.ensures.items ∙ ap (λ (x : List ℕ). length (take c.end_of-end.result x)) (c.in_ok-text.ensures.octets holds)) in
    record {
      within = m.within;
      text = m.begins;
      blank = m.blank;
      durable = subst (λ x. Only x (g.D.Device.may_leave c.sync.new.self)) (sym (c.sync.ensures.seen holds)) (c.in_ok-sync.ensures.durable holds);
    }
