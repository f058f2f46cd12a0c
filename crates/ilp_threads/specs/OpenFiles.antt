-- How many connections may wait and how many packets may be in flight, by how many files may be open.
use Rattle.std.specs.Prelude.{ℕ, ◌+◌, ◌-◌, ◌*◌, ◌/◌, min, max}
use Rattle.ilp_intake.specs.declared.limits.TheConstants.{MOST_WAITING}
use Rattle.ilp_threads.specs.declared.open_files.TheConstants.{OWN, OF_A_WORKER}

-- the open files that are kept for all but what waits and is in flight, with so many workers and peers
abbrev pub kept : ℕ → ℕ → ℕ
kept workers peers = OWN + OF_A_WORKER * workers + peers

-- The open files with which as many connections wait at both sides as may, and so many packets and messages are in flight: each of
-- those has a connection on both sides.
abbrev pub wanted : ℕ → ℕ → ℕ → ℕ
wanted workers peers in_flight = kept workers peers + 2 * MOST_WAITING + 2 * in_flight

-- how many connections may wait at each side: an eighth of what is left, within the limits
abbrev pub waiting_by : ℕ → ℕ → ℕ → ℕ
waiting_by limit workers peers = max (min ((limit - kept workers peers) / 8) MOST_WAITING) 1

-- how many may be in flight, of so many that are asked for: half of what is left beside those that wait at both sides
abbrev pub in_flight_by : ℕ → ℕ → ℕ → ℕ → ℕ
in_flight_by limit workers peers asked = max (min ((limit - kept workers peers - 2 * waiting_by limit workers peers) / 2) asked) 1
