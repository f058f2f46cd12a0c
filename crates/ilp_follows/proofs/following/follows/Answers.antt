use Rattle.std.proofs.Common.{◌≡◌, Err, rules}
use Rattle.ilp_follows.proofs.Refusing.{not_read}
use Rattle.ilp_follows.proofs.following.follows.Goals as goal

-- the text before is none
pub returns-in_err-read-clause-refused : goal.returns-in_err-read-clause-refused
returns-in_err-read-clause-refused c =
    let passed : c.from_residual.result ≡ Err c.in_err-read.field-0.0 = search rules in
    rw passed (not_read c.args.ended.config.now c.args.ended.text.now c.args.next.config.now c.args.next.text.now c.in_err-read.field-0.0 c.in_err-read.ensures.refused)
