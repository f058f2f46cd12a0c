use Rattle.std.proofs.Common.{◌≡◌, ◌<◌, ◌*◌, ◌-◌, ◌^◌, min, arith}
use Rattle.std.specs.Prelude.{vec_len}
use Rattle.ilp_assets.proofs.Growing.{small_square}
use Rattle.ilp_assets.proofs.table.empty_index.Goals as goal

pub returns-clause-few : goal.returns-clause-few
returns-clause-few g c =
    let small : vec_len c.in_ok-index.index < 2 ^ 63 = omega (arith, c.in_ok-index.index.small, c.in_ok-index.index.ok.1) in
    let counted : vec_len c.in_ok-index.index ≡ min (c.args.count * c.args.count) (2 ^ 64 - 1) = cc c.in_ok-index.ensures.len in
    (small_square c.args.count (vec_len c.in_ok-index.index) counted small).0
