use Rattle.std.proofs.Common.{◌≡◌, ◌∙◌, List, ℕ, subst, rules}
use Rattle.ilp_line_file.specs.Device.{Holds, Torn}
use Rattle.test_tearing.specs.Files.{seen}
use Rattle.test_tearing.specs.declared.change.Change.TheVariants as change
use Rattle.test_tearing.proofs.Changes.{torn_same, put_holds}
use Rattle.test_tearing.proofs.Disks.{on_ok, same_left, added_left, added_seen, added_time}
use Rattle.test_tearing.proofs.tearing_file.TearingFileDevice.write_at.Goals as goal

pub returns-in_err-octets-clause-crash : goal.returns-in_err-octets-clause-crash
returns-in_err-octets-clause-crash c holds x left = (x, left, torn_same c.args.at c.args.octets.now x)

pub returns-in_err-next-clause-crash : goal.returns-in_err-next-clause-crash
returns-in_err-next-clause-crash c holds x left = (x, left, torn_same c.args.at c.args.octets.now x)

pub returns-in_err-add-clause-crash : goal.returns-in_err-add-clause-crash
returns-in_err-add-clause-crash c holds x left =
    (x, same_left c.args.self.now.disk c.add.new.self c.add.ensures.synced c.in_err-add.ensures.err x left, torn_same c.args.at c.args.octets.now x)

pub returns-clause-written : goal.returns-clause-written
returns-clause-written c holds =
    let old = c.args.self.now.disk in
    let v = c.in_ok-octets.octets in
    let same : v.items ≡ c.args.octets.now = search rules in
    let put = added_seen old c.add.new.self c.add.ensures.synced (change.Write c.args.at v) c.in_ok-add.ensures.ok in
    let whole : Holds (seen old) c.args.at c.args.octets.now (seen c.add.new.self) =
    subst (λ (os : List ℕ). Holds (seen old) c.args.at os (seen c.add.new.self)) same (put ∙ put_holds c.args.at v.items (seen old) (c.requires holds)) in
    on_ok c.call.result _ whole

pub returns-clause-crash : goal.returns-clause-crash
returns-clause-crash c holds x left =
    let v = c.in_ok-octets.octets in
    let same : v.items ≡ c.args.octets.now = search rules in
    let from = added_left c.args.self.now.disk c.add.new.self c.add.ensures.synced (change.Write c.args.at v) c.in_ok-add.ensures.ok x left in
    (from.0, from.1, subst (λ (os : List ℕ). Torn c.args.at os from.0 x) same from.2)

pub returns-clause-time : goal.returns-clause-time
returns-clause-time c holds =
    let v = c.in_ok-octets.octets in
    added_time c.args.self.now.disk c.add.new.self c.add.ensures.synced (change.Write c.args.at v) c.in_ok-add.ensures.ok (torn_same c.args.at v.items) c.add.ensures.past
