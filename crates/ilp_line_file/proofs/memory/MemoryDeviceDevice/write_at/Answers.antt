use Rattle.std.proofs.Common.{◌∙◌, arith}
use Rattle.std.proofs.lemmas.Grind.{common_steps}
use Rattle.ilp_line_file.specs.Device.{Holds}
use Rattle.ilp_line_file.proofs.Done.{undone, done}
use Rattle.ilp_line_file.proofs.Kept.{elapses_to}
use Rattle.ilp_line_file.proofs.memory.MemoryDeviceDevice.write_at.Goals as goal

pub returns-clause-time : goal.returns-clause-time
returns-clause-time c holds =
    let past = c.in_ok-replace.ensures.past in
    elapses_to c.args.self.now.past.items c.replace.new.past.items past.0 c.args.self.now.octets.items c.replace.new.octets.items past.1 past.2

pub returns-in_err-next-clause-crash : goal.returns-in_err-next-clause-crash
returns-in_err-next-clause-crash c holds x is = undone c.args.at c.args.octets.now c.args.self.now.octets.items x is

pub returns-in_err-extend_from_slice-clause-crash : goal.returns-in_err-extend_from_slice-clause-crash
returns-in_err-extend_from_slice-clause-crash c holds x is = undone c.args.at c.args.octets.now c.args.self.now.octets.items x is

pub returns-in_err-extend_from_slice-2-clause-crash : goal.returns-in_err-extend_from_slice-2-clause-crash
returns-in_err-extend_from_slice-2-clause-crash c holds x is = undone c.args.at c.args.octets.now c.args.self.now.octets.items x is

pub returns-in_err-replace-clause-crash : goal.returns-in_err-replace-clause-crash
returns-in_err-replace-clause-crash c holds x is = undone c.args.at c.args.octets.now c.args.self.now.octets.items x (is ∙ c.in_err-replace.ensures.err)

pub returns-clause-crash : goal.returns-clause-crash
returns-clause-crash c holds =
    let written : Holds c.args.self.now.octets.items c.args.at c.args.octets.now c.replace.new.octets.items = grind (arith, common_steps) in
    λ x is. done c.args.at c.args.octets.now c.args.self.now.octets.items c.replace.new.octets.items x (c.requires holds) written is
