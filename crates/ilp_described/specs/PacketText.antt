-- What the command `packet` says of a packet in hexadecimal.
use Rattle.std.specs.Prelude.{ℕ, List, [], ◌∷◌, ◌++◌, Option, Some, None, Result, Ok, Err, codes, if◌then◌else◌}
use Rattle.std.specs.Fmt.{decimal, signed_decimal}
use Rattle.std.specs.List.{list_all}
use Rattle.hex.specs.Hex.{decode_of, encode_lower}
use Rattle.hex.specs.declared.error.FromHexError.{FromHexError}
use Rattle.ilp_packet.specs.declared.fault.PacketFault.{PacketFault}
use Rattle.ilp_packet.specs.Packet.{PlainPacket, prepare, fulfill, reject}
use Rattle.ilp_packet.specs.Reading.{reading}
use Rattle.ilp_refusals.specs.declared.refusal.Refusal.{Refusal}
use Rattle.ilp_refusals.specs.declared.refusal.Refusal.TheVariants as refusals
use Rattle.ilp_refusals.specs.Refusals.{packet_refusal}
use Rattle.ilp_described.specs.Printable.{is_printable}

-- octets in hexadecimal, `-` where there are none
abbrev pub hex_text : List ℕ → List ℕ
hex_text [] = codes "-"
hex_text (octet ∷ octets) = encode_lower (octet ∷ octets)

-- a packet as one line: its kind, and its fields in order
abbrev pub packet_text : PlainPacket → List ℕ
packet_text (prepare p) = codes "prepare amount " ++ (decimal p.amount ++ (codes " expires " ++ (signed_decimal p.expires ++ (codes " condition " ++ (hex_text p.condition ++ (codes " to " ++ (p.destination ++ (codes " data " ++ hex_text p.payload))))))))
packet_text (fulfill f) = codes "fulfill preimage " ++ (hex_text f.preimage ++ (codes " data " ++ hex_text f.payload))
packet_text (reject r) = codes "reject code " ++ (hex_text r.code ++ (codes " by " ++ (hex_text r.triggered_by ++ (codes " message " ++ (hex_text r.message ++ (codes " data " ++ hex_text r.payload))))))

-- the line of what was read, or its refusal
abbrev pub read_text : Result PlainPacket PacketFault → Result (List ℕ) Refusal
read_text (Ok packet) = Ok (packet_text packet)
read_text (Err fault) = Err (packet_refusal fault)

-- the line of octets that were hexadecimal
abbrev pub decoded_text : Result (List ℕ) FromHexError → Result (List ℕ) Refusal
decoded_text (Ok octets) = read_text (reading octets)
decoded_text (Err fault) = Err refusals.BadHex

-- the line of a packet in hexadecimal, or why there is none
unfoldable pub description : List ℕ → Result (List ℕ) Refusal
description text = decoded_text (decode_of text)

-- octets in quotes, where each is a space or visible ASCII
abbrev pub spoken : List ℕ → List ℕ
spoken octets = if list_all is_printable octets then codes "\"" ++ (octets ++ codes "\"") else codes "no text"

-- what code and message of a Reject say
abbrev pub words_of : Result PlainPacket PacketFault → Option (List ℕ)
words_of (Ok (reject r)) = Some (codes "code " ++ (spoken r.code ++ (codes ", message " ++ spoken r.message)))
words_of (Ok (prepare p)) = None
words_of (Ok (fulfill f)) = None
words_of (Err fault) = None

abbrev pub decoded_words : Result (List ℕ) FromHexError → Option (List ℕ)
decoded_words (Ok octets) = words_of (reading octets)
decoded_words (Err fault) = None

-- what those of a Reject in hexadecimal say
unfoldable pub reject_words : List ℕ → Option (List ℕ)
reject_words text = decoded_words (decode_of text)
