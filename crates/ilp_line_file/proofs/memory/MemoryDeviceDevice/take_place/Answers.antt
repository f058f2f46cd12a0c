use Rattle.ilp_line_file.proofs.Kept.{elapses_to}
use Rattle.ilp_line_file.proofs.memory.MemoryDeviceDevice.take_place.Goals as goal

pub returns-clause-time : goal.returns-clause-time
returns-clause-time c holds =
    let past = c.in_ok-replace.ensures.past in
    elapses_to c.args.self.now.past.items c.replace.new.past.items past.0 c.args.self.now.octets.items c.replace.new.octets.items past.1 past.2
