use Rattle.std.proofs.Common.{◌≡◌, ℕ, ◌<◌, ◌≤◌, ◌^◌, arith, subst}
use Rattle.std.proofs.Math.Nat.{mul-pos}
use Rattle.ilp_assets.proofs.Fractions.{ten_pow-pos, converted_up, converted_down}
use Rattle.ilp_assets.proofs.quote.converted.Goals as goal

pub nonzero_div-result-else-rate : goal.nonzero_div-result-else-rate
nonzero_div-result-else-rate c =
    let power : 10 ^ c.from-3.result ≡ c.from-power.result = cc in
    let P : ℕ → Type 0 = λ n. 0 < n in
    mul-pos (omega arith) (subst P power (ten_pow-pos c.from-3.result))

pub returns-then-rate : goal.returns-then-rate
returns-then-rate c = cc (converted_up c.args.rate.p c.args.rate.q c.args.rate.from_scale c.args.rate.to_scale c.args.net c.if-rate.true)

pub returns-else-rate : goal.returns-else-rate
returns-else-rate c =
    let below : c.args.rate.to_scale ≤ c.args.rate.from_scale = omega arith in
    cc (converted_down c.args.rate.p c.args.rate.q c.args.rate.from_scale c.args.rate.to_scale c.args.net below)
