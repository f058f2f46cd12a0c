use Rattle.std.proofs.Common.{◌∙◌, sym}
use Rattle.ilp_described.proofs.PrintableText.{IsUtf8-printable}
use Rattle.ilp_described.proofs.describe.spoken.Goals as goal

pub unreachable-requires : goal.unreachable-requires
unreachable-requires g c =
    let fault = c.in-Err.ensures in
    fault.cases.0 (IsUtf8-printable c.args.octets.now (sym c.is_printable.ensures ∙ c.if-not-is_printable.false))
