use Rattle.std.proofs.Common.{◌≡◌, ◌∙◌, sym, inl, inr, ⊎_elim, length, refl, rules}
use Rattle.test_tearing.specs.Files.{LeavesSince, Leaves}
use Rattle.test_tearing.specs.declared.change.Change.TheVariants as change
use Rattle.test_tearing.proofs.Disks.{synced_leaves, added_left, added_time}
use Rattle.test_tearing.proofs.Epochs.{elapses_twice}
use Rattle.test_tearing.proofs.tearing_file.TearingFileDevice.take_place.Goals as goal

pub returns-in_err-call-clause-crash : goal.returns-in_err-call-clause-crash
returns-in_err-call-clause-crash c holds x left =
    let v = c.in_ok-octets.octets in
    let same : v.items ≡ c.args.self.now.anew.items = search rules in
    let from = added_left c.args.self.now.disk c.add.new.self c.add.ensures.synced (change.Place v) c.in_ok-add.ensures.ok x left in
    ⊎_elim (λ is. inl (rw is from.1)) (λ is. inr (is ∙ same)) from.2

pub returns-in_err-call-clause-time : goal.returns-in_err-call-clause-time
returns-in_err-call-clause-time c holds =
    let v = c.in_ok-octets.octets in
    added_time c.args.self.now.disk c.add.new.self c.add.ensures.synced (change.Place v) c.in_ok-add.ensures.ok (λ d. inl refl) c.add.ensures.past

pub returns-clause-time : goal.returns-clause-time
returns-clause-time c holds =
    let old = c.args.self.now.disk in
    let mid = c.add.new.self in
    let new = c.place.new.self in
    let v = c.in_ok-octets.octets in
    let same : v.items ≡ c.in_ok-placed.placed.items = search rules in
    let more = c.in_ok-add.ensures.ok in
    elapses_twice (length old.past.items) (LeavesSince old) (LeavesSince mid) (LeavesSince new) (Leaves mid) (Leaves new)
    (added_time old mid c.add.ensures.synced (change.Place v) more (λ d. inl refl) c.add.ensures.past)
    c.place.ensures.time
    (λ t x le left.
    let from = added_left old mid c.add.ensures.synced (change.Place v) more x left in
    ⊎_elim (λ is. inl (inl (rw is from.1))) (λ is. inr (synced_leaves new c.place.ensures.changes x (is ∙ same ∙ sym c.place.ensures.synced))) from.2)
