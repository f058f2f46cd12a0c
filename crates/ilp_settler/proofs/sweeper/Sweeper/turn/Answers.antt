use Rattle.std.proofs.Common.{subst}
use Rattle.std.specs.Int.{w64}
use Rattle.std.proofs.Math.Facts.{to_z-of_z}
use Rattle.ilp_settler.specs.Sweeper.{sweeper, IsExpiredAt, Sweeps}
use Rattle.ilp_settler.proofs.Sweeping.{turn_by}
use Rattle.ilp_settler.proofs.sweeper.Sweeper.turn.Goals as goal

pub returns : goal.returns
returns g c =
    let desk = g.J.Naming.desk in
    let before = sweeper c.self.inside.share (g.C.Clock.told c.self.inside.clock) in
    let after = sweeper c.expire_one.new.share (g.C.Clock.told c.now-now.new.self) in
    let reply = c.expire_one.result in
    let same = to_z-of_z {w = w64} {z = c.now-now.result} (record { sfits = c.now-now.type_inv }) in
    let booked = subst (λ now. IsExpiredAt desk now before.share after.share reply) same c.expire_one.ensures in
    subst (λ s. Sweeps desk s after reply) c.self.view_is (turn_by desk c.now-now.result before after reply c.now-now.ensures booked)
