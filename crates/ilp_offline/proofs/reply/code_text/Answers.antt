use Rattle.std.proofs.lemmas.Str.{IsUtf8-from_ascii}
use Rattle.ilp_offline.proofs.reply.code_text.Goals as goal

pub unreachable-requires : goal.unreachable-requires
unreachable-requires c =
    let fault = c.in-Err.ensures in
    fault.cases.0 (IsUtf8-from_ascii c.args.code.now c.requires)
