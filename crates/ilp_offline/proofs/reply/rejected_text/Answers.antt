use Rattle.std.proofs.Common.{sym, subst}
use Rattle.std.specs.Str.{IsAscii}
use Rattle.ilp_book.proofs.RejectCodes.{code_is_ascii}
use Rattle.ilp_offline.proofs.reply.rejected_text.Goals as goal

-- a code is text
pub code_text-code-requires : goal.code_text-code-requires
code_text-code-requires g c = subst IsAscii (sym c.reject_code-code.ensures) (code_is_ascii c.args.fault)
