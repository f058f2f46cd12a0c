-- What a file in memory has.
use Rattle.std.specs.Prelude.{ℕ, List}
use Rattle.ilp_line_file.specs.declared.memory.MemoryDevice.{MemoryDevice}

abbrev pub memory_octets : MemoryDevice → List ℕ
memory_octets m = m.octets.items
