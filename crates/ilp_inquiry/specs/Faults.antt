-- Why a statement isn't printed.
use Rattle.std.specs.Prelude.{◌≡◌}
use Rattle.ilp_refusals.specs.declared.refusal.Refusal.TheVariants as refusals
use Rattle.ilp_starting.specs.declared.refused.RunFault.TheVariants as run
use Rattle.ilp_statement_text.specs.declared.fault.StatementFault.{StatementFault}
use Rattle.ilp_statement_text.specs.declared.fault.StatementFault.TheVariants as statement
use Rattle.ilp_inquiry.specs.declared.fault.InquiryFault.{InquiryFault}
use Rattle.ilp_inquiry.specs.declared.fault.InquiryFault.TheVariants as inquiry

-- memory was denied
abbrev pub LacksMemory : InquiryFault → Type 0
LacksMemory inquiry.Misused = ⊥
LacksMemory (inquiry.Run (run.Refused refused)) = refused.refusal ≡ refusals.Memory
LacksMemory (inquiry.Run run.OutputFailed) = ⊥

-- it tells why a statement was not written whole: memory was denied, or standard output failed
abbrev pub TellsOf : StatementFault → InquiryFault → Type 0
TellsOf statement.Memory told = LacksMemory told
TellsOf statement.Write told = told ≡ inquiry.Run run.OutputFailed
