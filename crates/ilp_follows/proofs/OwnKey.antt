-- The key of a settlement of a period's own is a key.
use Rattle.std.proofs.Common.{◌≡◌, ℕ, ◌^◌, ◌<◌, ◌≤◌, Bool, true, false, cond, ◌++◌, length, arith, length-append}
use Rattle.std.specs.Prelude.{codes, ◌==◌}
use Rattle.std.specs.Fmt.{decimal}
use Rattle.std.proofs.lemmas.Bool.Decides.{nat_tests}
use Rattle.std.proofs.lemmas.Fmt.{length-decimal-le}
use Rattle.ilp_accounts.specs.Configuration.{Configuration}
use Rattle.ilp_accounts.specs.Valid.{IsValid}
use Rattle.ilp_journal.specs.Keys.{IsKey}
use Rattle.ilp_rules.specs.Heads.{key_front, period_mark, settlement_key_of}

pub own_key_named : (C : Configuration) (period n : ℕ) → IsValid C → period < 2 ^ 32 → n < 2 ^ 32 → IsKey (settlement_key_of C period n)
own_key_named C period n valid low fits =
    let digits = few_digits n fits in
    let whole = length-append (key_front C period) (decimal n) in
    let front = length-append C.settings.run (period_mark period) in
    (omega (arith, whole, front, run_length.0), omega (arith, whole, front, run_length.1, short_mark (period == 0), digits))
  where
    run_length : (1 ≤ length C.settings.run) × (length C.settings.run ≤ 32)
    run_length = let form = valid.settings.run in (grind (arith, nat_tests), grind (arith, nat_tests))

    few_digits : (k : ℕ) → k < 2 ^ 32 → length (decimal k) ≤ 10
    few_digits k small = length-decimal-le 10 k (omega arith) (omega (arith, small)) (omega (arith, small))

    short_mark : (b : Bool) → length (cond b (codes "-") (codes "." ++ (decimal period ++ codes "-"))) ≤ 12
    short_mark true = omega arith
    short_mark false = omega (arith, length-append (codes ".") (decimal period ++ codes "-"), length-append (decimal period) (codes "-"), few_digits period low)
