-- The lines of a script that are bad.
use Rattle.std.specs.Prelude.{ℕ, ◌+◌, List, [], ◌∷◌, map, Some, None, Bool, true, false, is_err, if◌then◌else◌}
use Rattle.hex.specs.Hex.{decode_of}
use Rattle.ilp_offline.specs.declared.line_faults.BadLine.{BadLine}
use Rattle.ilp_offline.specs.declared.reply.LineReply.{LineReply}
use Rattle.ilp_offline.specs.declared.reply.LineReply.TheVariants as replies
use Rattle.ilp_offline.specs.Script.{Form, hold, answer, expire, credit, ask, close, report, silent, bad, form_of}

-- it asks for nothing that there is, or its packet isn't in hexadecimal
abbrev pub is_bad_form : Form → Bool
is_bad_form (hold now peer packet) = is_err (decode_of packet)
is_bad_form (answer now number (Some packet)) = is_err (decode_of packet)
is_bad_form (answer now number None) = false
is_bad_form (expire now) = false
is_bad_form (credit now peer key json) = false
is_bad_form (ask now peer) = false
is_bad_form (close now number verdict) = false
is_bad_form report = false
is_bad_form silent = false
is_bad_form bad = true

-- by the names of the peers
abbrev pub is_bad : List (List ℕ) → List ℕ → Bool
is_bad names line = is_bad_form (form_of names line)

-- a reply that is printed as `bad line`
abbrev pub is_bad_line : LineReply → Bool
is_bad_line replies.BadLine = true
is_bad_line _ = false

-- the numbers of the bad ones of lines, of which the first has this number
abbrev pub bad_numbers : List (List ℕ) → ℕ → List (List ℕ) → List ℕ
bad_numbers names number [] = []
bad_numbers names number (line ∷ lines) =
    if is_bad names line then number ∷ bad_numbers names (number + 1) lines
    else bad_numbers names (number + 1) lines

-- the numbers that are told
abbrev pub numbers : List BadLine → List ℕ
numbers found = map (λ (line : BadLine). line.number) found
