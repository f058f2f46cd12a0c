use Rattle.std.proofs.Common.{◌≡◌, ℕ, ◌+◌, ℤ, ap, sym, ◌∙◌, pos, ◌+ℤ◌, ◌-ℤ◌, to_z, of_z, rules, refl}
use Rattle.std.specs.Prelude.{FitsSigned, take}
use Rattle.std.specs.Int.{w128}
use Rattle.std.proofs.lemmas.Int.{to_z-of_z}
use Rattle.ilp_journal.specs.Balance.{balance, rise_at, fall_at}
use Rattle.ilp_statement.specs.declared.line.Line.{Line}
use Rattle.ilp_statement.proofs.Balances.{balance_behind}
use Rattle.ilp_statement.proofs.line.line_behind.Goals as goal

-- The balance moves by what the entry does.
pub returns-clause-line : goal.returns-clause-line
returns-clause-line g c =
    let j = c.args.book.now.entries in
    let p = c.args.peer in
    let n = c.args.number in
    let fits : FitsSigned w128 c.moved.result = search rules in
    let before_fits : FitsSigned w128 c.args.before = search rules in
    let rise : c.rise_at-rise.result ≡ rise_at j p n = c.rise_at-rise.ensures in
    let fall : c.fall_at-fall.result ≡ fall_at j p n = c.fall_at-fall.ensures in
    let sum : c.moved.result ≡ c.args.before +ℤ pos c.rise_at-rise.result -ℤ pos c.fall_at-fall.result =
    c.moved.ensures.sum ∙ ap (λ b. b +ℤ pos c.rise_at-rise.result -ℤ pos c.fall_at-fall.result) (to_z-of_z w128 c.args.before before_fits) in
    let moved : to_z w128 (of_z w128 c.moved.result) ≡ balance (take (n + 1) j) p =
    to_z-of_z w128 c.moved.result fits ∙ sum ∙ ap (λ b. b +ℤ pos c.rise_at-rise.result -ℤ pos c.fall_at-fall.result) c.requires.before
    ∙ ap (λ r. balance (take n j) p +ℤ pos r -ℤ pos c.fall_at-fall.result) rise ∙ ap (λ f. balance (take n j) p +ℤ pos (rise_at j p n) -ℤ pos f) fall
    ∙ sym (balance_behind c.args.book.now p n c.entry.ensures.lawful c.requires.number) in
    let Make : ℕ → ℕ → ℤ → Line = λ r f b. record { number = n; rise = r; fall = f; balance = b } in
    ap (λ r. Make r c.fall_at-fall.result (to_z w128 (of_z w128 c.moved.result))) rise ∙ ap (λ f. Make (rise_at j p n) f (to_z w128 (of_z w128 c.moved.result))) fall
    ∙ ap (λ b. Make (rise_at j p n) (fall_at j p n) b) moved
