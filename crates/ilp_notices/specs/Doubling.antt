-- Rests that grow where a thing comes again and again.
use Rattle.std.specs.Prelude.{ℕ, ◌*◌, min}

-- the rest that follows one of this length: twice as long, and at most the longest
abbrev pub doubled : ℕ → ℕ → ℕ
doubled rest longest = min (2 * rest) longest
