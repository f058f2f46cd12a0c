-- The calls that a script makes of the book. They rest on the configuration alone, and not on what was booked.
use Rattle.std.specs.Prelude.{ℕ, ℤ, List, [], ◌∷◌, ◌++◌, Some, None, Result, Ok, Err}
use Rattle.hex.specs.Hex.{decode_of}
use Rattle.hex.specs.declared.error.FromHexError.{FromHexError}
use Rattle.ilp_packet.specs.declared.fault.PacketFault.{PacketFault}
use Rattle.ilp_packet.specs.Packet.{PlainPacket, prepare, fulfill, reject}
use Rattle.ilp_packet.specs.Reading.{reading}
use Rattle.ilp_settlement.specs.declared.quantity.Quantity.{Quantity}
use Rattle.ilp_settlement.specs.declared.quantity.QuantityFault.{QuantityFault}
use Rattle.ilp_settlement.specs.Quantity.{quantity_in}
use Rattle.ilp_accounts.specs.Configuration.{Configuration, peer_names}
use Rattle.ilp_book.specs.declared.calls.PeerReply.TheVariants as peer_reply
use Rattle.ilp_book.specs.Book.{by, granted}
use Rattle.ilp_book.specs.HoldStep.{incoming}
use Rattle.ilp_journal.specs.declared.credit_kind.CreditKind.TheVariants.{Settled}
use Rattle.ilp_book.specs.SettleStep.{payment}
use Rattle.ilp_book.specs.Run as run
use Rattle.ilp_offline.specs.Script.{Form, hold, answer, expire, credit, ask, close, report, silent, bad, form_of}
use Rattle.ilp_offline.specs.Replay.{came_back}

-- a call by the actor 0, with memory granted
abbrev pub called : ℤ → run.Call → List run.Step
called now call = record { caller = by 0 now; call = call; growth = granted } ∷ []

abbrev pub calls_of_packet : Configuration → ℤ → ℕ → Result PlainPacket PacketFault → List run.Step
calls_of_packet C now peer (Ok (prepare p)) = called now (run.hold (incoming C peer p))
calls_of_packet C now peer (Ok (fulfill f)) = []
calls_of_packet C now peer (Ok (reject r)) = []
calls_of_packet C now peer (Err fault) = []

abbrev pub calls_of_hold : Configuration → ℤ → ℕ → Result (List ℕ) FromHexError → List run.Step
calls_of_hold C now peer (Ok octets) = calls_of_packet C now peer (reading octets)
calls_of_hold C now peer (Err fault) = []

abbrev pub calls_of_answer : ℤ → ℕ → Result (List ℕ) FromHexError → List run.Step
calls_of_answer now number (Ok octets) = called now (run.answer number (came_back (reading octets)))
calls_of_answer now number (Err fault) = []

abbrev pub calls_of_credit : ℤ → ℕ → List ℕ → Result Quantity QuantityFault → List run.Step
calls_of_credit now peer key (Ok quantity) = called now (run.credit (payment peer key quantity Settled))
calls_of_credit now peer key (Err fault) = []

-- the call that a line makes, if it makes one
abbrev pub calls_of_form : Configuration → Form → List run.Step
calls_of_form C (hold now peer packet) = calls_of_hold C now peer (decode_of packet)
calls_of_form C (answer now number (Some packet)) = calls_of_answer now number (decode_of packet)
calls_of_form C (answer now number None) = called now (run.answer number peer_reply.NoReply)
calls_of_form C (expire now) = called now run.expire
calls_of_form C (credit now peer key json) = calls_of_credit now peer key (quantity_in json)
calls_of_form C (ask now peer) = called now (run.ask peer)
calls_of_form C (close now number verdict) = called now (run.close number verdict)
calls_of_form C report = []
calls_of_form C silent = []
calls_of_form C bad = []

-- the calls that lines make, in order
abbrev pub calls_of : Configuration → List (List ℕ) → List run.Step
calls_of C [] = []
calls_of C (line ∷ lines) = calls_of_form C (form_of (peer_names C.peers) line) ++ calls_of C lines
