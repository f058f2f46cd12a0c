-- The lines of a script, and what each asks for.
use Rattle.std.specs.Prelude.{◌≡◌, ◌≢◌, ◌<◌, slice_index, ℕ, ℤ, pos, List, [], ◌∷◌, length, Bool, ◌==◌, ◌&&◌, nat_le, if◌then◌else◌, codes, Option, Some, None}
use Rattle.std.specs.Char.{is_ascii_digit}
use Rattle.std.specs.List.{list_all, slice_split, join_with_byte, onto_first}
use Rattle.std.specs.Str.{bytes_eq}
use Rattle.std.specs.Str.Parse.{digits_value}
use Rattle.ilp_accounts.specs.Configuration.{place_named}
use Rattle.ilp_described.specs.Printable.{is_printable}
use Rattle.ilp_settlement.specs.declared.verdict.EngineVerdict.{EngineVerdict}
use Rattle.ilp_settlement.specs.declared.verdict.EngineVerdict.TheVariants as verdicts

-- the most octets of a script
abbrev pub most_script : ℕ
most_script = 1048576

-- the lines of a text: each is ended by LF, and the last may lack it
abbrev pub lines_of : List ℕ → List (List ℕ)
lines_of [] = []
lines_of (octet ∷ octets) = if octet == 10 then [] ∷ lines_of octets else onto_first octet (lines_of octets)

-- an octet does not stand below a place
abbrev pub HasNoneBelow : ℕ → List ℕ → ℕ → Type 0
HasNoneBelow octet text end = (k : ℕ) → k < end → slice_index text k ≢ octet

-- an octet stands at a place, and nowhere before it
abbrev pub StandsFirst : ℕ → List ℕ → ℕ → Type 0
StandsFirst octet text end = (end < length text) × (slice_index text end ≡ octet) × HasNoneBelow octet text end

-- what a line asks for, where packets are hexadecimal text, and quantities are JSON
pub data Form : Type 0 where
  hold : (now : ℤ) (peer : ℕ) (packet : List ℕ) → Form
  answer : (now : ℤ) (number : ℕ) (packet : Option (List ℕ)) → Form
  expire : (now : ℤ) → Form
  credit : (now : ℤ) (peer : ℕ) (key json : List ℕ) → Form
  ask : (now : ℤ) (peer : ℕ) → Form
  close : (now : ℤ) (number : ℕ) (verdict : EngineVerdict) → Form
  report : Form
  silent : Form
  bad : Form

-- the number that a text of at most so many decimal digits writes
abbrev pub number_in : ℕ → List ℕ → Option ℕ
number_in most text = if nat_le 1 (length text) && nat_le (length text) most && list_all is_ascii_digit text then Some (digits_value 10 text) else None

-- the most digits of a moment
abbrev pub moment_digits : ℕ
moment_digits = 15

-- the most digits of an entry's number
abbrev pub entry_digits : ℕ
entry_digits = 9

abbrev pub moment_in : List ℕ → Option ℕ
moment_in text = number_in moment_digits text

abbrev pub entry_in : List ℕ → Option ℕ
entry_in text = number_in entry_digits text

-- the most octets of a key
abbrev pub most_key : ℕ
most_key = 128

-- the key that a text is
abbrev pub key_in : List ℕ → Option (List ℕ)
key_in text = if nat_le 1 (length text) && nat_le (length text) most_key then Some text else None

-- what an engine says of a settlement: `yes` where it accepted it, `no` where it refused it
abbrev pub verdict_in : List ℕ → Option EngineVerdict
verdict_in text =
    if bytes_eq text (codes "yes") then Some verdicts.Accepted
    else (if bytes_eq text (codes "no") then Some verdicts.Refused
    else None)

-- some hexadecimal text; that it is one is seen where it is decoded
abbrev pub hold_form : Option ℕ → Option ℕ → List ℕ → Form
hold_form (Some now) (Some peer) (digit ∷ digits) = hold (pos now) peer (digit ∷ digits)
hold_form _ _ _ = bad

abbrev pub answer_form : Option ℕ → Option ℕ → List ℕ → Form
answer_form (Some now) (Some number) (digit ∷ digits) =
    if bytes_eq (digit ∷ digits) (codes "none") then answer (pos now) number None
    else answer (pos now) number (Some (digit ∷ digits))
answer_form _ _ _ = bad

abbrev pub expire_form : Option ℕ → Form
expire_form (Some now) = expire (pos now)
expire_form None = bad

-- any text; that it is a quantity is seen where it is read
abbrev pub credit_form : Option ℕ → Option ℕ → Option (List ℕ) → List ℕ → Form
credit_form (Some now) (Some peer) (Some key) json = credit (pos now) peer key json
credit_form _ _ _ _ = bad

abbrev pub ask_form : Option ℕ → Option ℕ → Form
ask_form (Some now) (Some peer) = ask (pos now) peer
ask_form _ _ = bad

abbrev pub close_form : Option ℕ → Option ℕ → Option EngineVerdict → Form
close_form (Some now) (Some number) (Some verdict) = close (pos now) number verdict
close_form _ _ _ = bad

-- `report`, `expire AT`, `ask AT PEER`, `hold AT PEER HEX`, `answer AT N HEX`, `answer AT N none`, `close AT N yes`, `close AT N no` and `credit AT PEER KEY JSON`
abbrev pub form_of_fields : List (List ℕ) → List (List ℕ) → Form
form_of_fields names (word ∷ []) = if bytes_eq word (codes "report") then report else bad
form_of_fields names (word ∷ now ∷ []) = if bytes_eq word (codes "expire") then expire_form (moment_in now) else bad
form_of_fields names (word ∷ now ∷ peer ∷ []) = if bytes_eq word (codes "ask") then ask_form (moment_in now) (place_named names peer) else bad
form_of_fields names (word ∷ now ∷ third ∷ fourth ∷ []) =
    if bytes_eq word (codes "hold") then hold_form (moment_in now) (place_named names third) fourth
    else (if bytes_eq word (codes "answer") then answer_form (moment_in now) (entry_in third) fourth
    else (if bytes_eq word (codes "close") then close_form (moment_in now) (entry_in third) (verdict_in fourth)
    else bad))
form_of_fields names (word ∷ now ∷ peer ∷ key ∷ json ∷ []) =
    if bytes_eq word (codes "credit") then credit_form (moment_in now) (place_named names peer) (key_in key) json else bad
form_of_fields names _ = bad

-- the space between two fields
abbrev pub is_space : ℕ → Bool
is_space octet = octet == 32

-- four fields, and as the fifth whatever follows them, its spaces too
abbrev pub with_rest : List (List ℕ) → List (List ℕ)
with_rest (a ∷ b ∷ c ∷ d ∷ e ∷ more) = a ∷ b ∷ c ∷ d ∷ join_with_byte 32 (e ∷ more) ∷ []
with_rest fields = fields

-- the fields of a line, of which the fifth is the rest of the line
abbrev pub fields_of : List ℕ → List (List ℕ)
fields_of line = with_rest (slice_split is_space line)

-- an empty line asks for nothing, nor does one that begins with `#`; each octet is printable, and fields are separated by one space
abbrev pub form_of : List (List ℕ) → List ℕ → Form
form_of names [] = silent
form_of names (octet ∷ octets) =
    if octet == 35 then silent
    else (if list_all is_printable (octet ∷ octets) then form_of_fields names (fields_of (octet ∷ octets))
    else bad)
