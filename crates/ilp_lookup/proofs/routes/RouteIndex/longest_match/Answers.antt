use Rattle.std.proofs.Common.{◌≡◌, ◌+◌, ◌-◌, ◌<◌, length, arith}
use Rattle.ilp_lookup.proofs.Longest.{AreShorter, AreShorter-cut, IsBest-cut, IsBest-empty}
use Rattle.ilp_lookup.proofs.routes.RouteIndex.longest_match.Goals as goal

pub returns-in-Some-peer_of : goal.returns-in-Some-peer_of
returns-in-Some-peer_of g c =
    let place = c.loop-place.place in
    let inside : place - 1 < length c.args.octets.now = omega (arith, c.loop-place-test.true, c.loop-place.auto.place) in
    let same : place - 1 + 1 ≡ place = omega (arith, c.loop-place-test.true) in
    let shorter : AreShorter c.args.self.now c.args.octets.now (place - 1 + 1) = rw same c.loop-place.invariant in
    IsBest-cut c.args.self.now c.args.octets.now (place - 1) c.in-Some-peer_of.peer inside c.if-octets-place-eq46.true shorter c.in-Some-peer_of.ensures

pub loop-place-preserved-in_default-peer_of : goal.loop-place-preserved-in_default-peer_of
loop-place-preserved-in_default-peer_of g c =
    let place = c.loop-place.place in
    let inside : place - 1 < length c.args.octets.now = omega (arith, c.loop-place-test.true, c.loop-place.auto.place) in
    let same : place - 1 + 1 ≡ place = omega (arith, c.loop-place-test.true) in
    let shorter : AreShorter c.args.self.now c.args.octets.now (place - 1 + 1) = rw same c.loop-place.invariant in
    AreShorter-cut c.args.self.now c.args.octets.now (place - 1) inside c.in_default-peer_of.ensures shorter

pub returns : goal.returns
returns g c =
    let done : c.loop-place.place ≡ 0 = omega (arith, c.loop-place-test.false) in
    IsBest-empty c.args.self.now c.args.octets.now c.peer_of-2.result (rw done at c.loop-place.invariant) c.peer_of-2.ensures
