-- The numbers that bound a configuration, each once.
use Rattle.std.specs.Prelude.{ℕ}

-- ---- how many there are at most

abbrev pub most_assets : ℕ
most_assets = 64

-- a price of each asset in each other
abbrev pub most_prices : ℕ
most_prices = 4032

abbrev pub most_peers : ℕ
most_peers = 256

abbrev pub most_routes : ℕ
most_routes = 4096

abbrev pub most_workers : ℕ
most_workers = 64

abbrev pub most_in_flight : ℕ
most_in_flight = 65536

-- the percent of a journal at which a new period begins
abbrev pub most_percent : ℕ
most_percent = 95

-- the entries of a journal: a hold and its answer at least
abbrev pub least_journal : ℕ
least_journal = 2

abbrev pub most_journal : ℕ
most_journal = 16777216

-- ---- times in milliseconds

-- an hour, for the window of an expiry and for a hold
abbrev pub longest_ms : ℕ
longest_ms = 3600000

-- a minute, for the rest between two turns
abbrev pub longest_rest_ms : ℕ
longest_rest_ms = 60000

-- a week, for the wait before a settlement
abbrev pub longest_wait_ms : ℕ
longest_wait_ms = 604800000

-- ---- numbers of assets, prices and peers

abbrev pub most_scale : ℕ
most_scale = 255

-- the greatest p and q of a price p / q
abbrev pub most_term : ℕ
most_term = 4294967295

-- the greatest amount that TOML can write, which is 2 ^ 63 - 1
abbrev pub most_written : ℕ
most_written = 9223372036854775807
