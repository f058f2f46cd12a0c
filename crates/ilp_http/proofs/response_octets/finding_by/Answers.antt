use Rattle.std.proofs.Common.{◌≡◌, ◌+◌, ◌-◌, ◌≤◌, length, subst, arith}
use Rattle.ilp_http.specs.Placed.{IsHeadOf}
use Rattle.ilp_http.proofs.ResponseLemmas.{head-within, placed-empty, placed-announced, bad-length, long-rest, placed-rest, ends-open}
use Rattle.ilp_http.proofs.response_octets.finding_by.Goals as goal

pub returns-in-Coded : goal.returns-in-Coded
returns-in-Coded c =
    let octets = c.args.octets.now in
    let head = c.args.head.now in
    let at = subst (IsHeadOf octets head) c.in-Coded.is c.requires in
    let fits = (head-within octets head _ c.requires).0 in
    let within : head.len + 0 ≤ length octets = omega (arith, fits) in
    (within, placed-empty octets head at)

pub returns-in-Octets-2 : goal.returns-in-Octets-2
returns-in-Octets-2 c =
    let octets = c.args.octets.now in
    let head = c.args.head.now in
    let at = subst (IsHeadOf octets head) c.in-Octets-2.is c.requires in
    let fits = (head-within octets head _ c.requires).0 in
    let same : c.in-Octets-2.body ≡ c.in-Octets.body = cc in
    let whole : c.in-Octets-2.body ≤ length octets - head.len = omega (arith, same, c.if-came-body.false) in
    let within : head.len + c.in-Octets-2.body ≤ length octets = omega (arith, fits, whole) in
    (within, placed-announced octets head c.in-Octets-2.body at whole)

pub returns-in-Unannounced : goal.returns-in-Unannounced
returns-in-Unannounced c = long-rest c.args.octets.now c.args.head.now (subst (IsHeadOf c.args.octets.now c.args.head.now) c.in-Unannounced.is c.requires) c.if-came-gt-BODY_LIMIT.true

pub returns-in-Unannounced-2 : goal.returns-in-Unannounced-2
returns-in-Unannounced-2 c =
    let octets = c.args.octets.now in
    let head = c.args.head.now in
    let at = subst (IsHeadOf octets head) c.in-Unannounced.is c.requires in
    let fits = head-within octets head _ c.requires in
    let few = c.if-came-gt-BODY_LIMIT.false in
    let within : head.len + (length octets - head.len) ≤ length octets = omega (arith, fits.0) in
    ((omega (arith, few, fits.0), omega (arith, fits.1)), ends-open octets head at, (within, placed-rest octets head at few))

pub returns-in-Unreadable : goal.returns-in-Unreadable
returns-in-Unreadable c = bad-length c.args.octets.now c.args.head.now (subst (IsHeadOf c.args.octets.now c.args.head.now) c.in-Unreadable.is c.requires)
