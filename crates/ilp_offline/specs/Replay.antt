-- What a script prints, and what a replay reads and writes.
use Rattle.std.specs.Prelude.{ℕ, ◌≤◌, ℤ, List, [], ◌∷◌, ◌++◌, length, Option, Some, None, Result, Ok, Err}
use Rattle.std.specs.Io.KnownBytes.{Consumes, Appends}
use Rattle.hex.specs.Hex.{decode_of}
use Rattle.hex.specs.declared.error.FromHexError.{FromHexError}
use Rattle.ilp_io.specs.Reading.{IsReadWhole}
use Rattle.ilp_io.specs.Writing.{AppendsPrefix}
use Rattle.ilp_packet.specs.declared.fault.PacketFault.{PacketFault}
use Rattle.ilp_packet.specs.Packet.{PlainPacket, prepare, fulfill, reject}
use Rattle.ilp_packet.specs.Reading.{reading}
use Rattle.ilp_settlement.specs.declared.quantity.Quantity.{Quantity}
use Rattle.ilp_settlement.specs.declared.quantity.QuantityFault.{QuantityFault}
use Rattle.ilp_settlement.specs.Quantity.{quantity_in}
use Rattle.ilp_journal.specs.declared.entry.Cause.TheVariants as cause
use Rattle.ilp_accounts.specs.Configuration.{Configuration, peer_names}
use Rattle.ilp_book.specs.declared.calls.Held.{Held}
use Rattle.ilp_book.specs.declared.fault.HoldFault.{HoldFault}
use Rattle.ilp_book.specs.declared.calls.PeerReply.{PeerReply}
use Rattle.ilp_book.specs.declared.calls.PeerReply.TheVariants as peer_reply
use Rattle.ilp_book.specs.declared.calls.Outcome.{Outcome}
use Rattle.ilp_book.specs.declared.calls.Outcome.TheVariants as outcome
use Rattle.ilp_book.specs.declared.fault.NotOpen.{NotOpen}
use Rattle.ilp_book.specs.declared.calls.Kept.{Kept}
use Rattle.ilp_book.specs.declared.fault.CreditFault.{CreditFault}
use Rattle.ilp_book.specs.declared.calls.Asked.{Asked}
use Rattle.ilp_book.specs.declared.fault.AskFault.{AskFault}
use Rattle.ilp_book.specs.Book.{PlainBook, new_book, by, granted, Made, says, replied_as, with_entry}
use Rattle.ilp_book.specs.HoldStep.{incoming, hold_step}
use Rattle.ilp_book.specs.AnswerStep.{answer_step, expire_step}
use Rattle.ilp_settlement.specs.declared.verdict.EngineVerdict.{EngineVerdict}
use Rattle.ilp_settlement.specs.declared.verdict.EngineVerdict.TheVariants as verdicts
use Rattle.ilp_journal.specs.declared.credit_kind.CreditKind.TheVariants.{Settled}
use Rattle.ilp_book.specs.SettleStep.{payment, credit_step, ask_step, close_step}
use Rattle.ilp_refusals.specs.declared.refusal.Refusal.{Refusal}
use Rattle.ilp_refusals.specs.declared.refusal.Refusal.TheVariants as refusals
use Rattle.ilp_offline.specs.declared.reply.LineReply.{LineReply}
use Rattle.ilp_offline.specs.declared.reply.LineReply.TheVariants as replies
use Rattle.ilp_offline.specs.declared.runner.ReplayFault.{ReplayFault}
use Rattle.ilp_offline.specs.declared.runner.ReplayFault.TheVariants as replay_fault
use Rattle.ilp_refusals.specs.Refusals.{packet_refusal, quantity_refusal, credit_refusal, ask_refusal}
use Rattle.ilp_offline.specs.Script.{most_script, lines_of, Form, hold, answer, expire, credit, ask, close, report, silent, bad, form_of}
use Rattle.ilp_offline.specs.Text.{reply_text}

-- ---- one line

abbrev pub hold_reply : Result Held HoldFault → LineReply
hold_reply (Ok held) = replies.Held held
hold_reply (Err fault) = replies.Rejected fault

abbrev pub answer_reply : ℕ → Result Outcome NotOpen → LineReply
answer_reply number (Ok outcome) = replies.Answered number outcome
answer_reply number (Err refused) = replies.NotOpen number refused.closer

abbrev pub expire_reply : ℕ → Option ℕ → LineReply
expire_reply entry (Some number) = replies.Answered number (outcome.Released entry cause.Late)
expire_reply entry None = replies.NoneDue

abbrev pub credit_reply : Result Kept CreditFault → LineReply
credit_reply (Ok kept) = replies.Credited kept
credit_reply (Err fault) = replies.Refused (credit_refusal fault)

abbrev pub ask_reply : Result Asked AskFault → LineReply
ask_reply (Ok asked) = replies.Asked asked
ask_reply (Err fault) = replies.Refused (ask_refusal fault)

-- the settlement is closed by this entry
abbrev pub closed_reply : ℕ → EngineVerdict → ℕ → LineReply
closed_reply number verdicts.Accepted entry = replies.Confirmed number entry
closed_reply number verdicts.Refused entry = replies.Undone number entry

abbrev pub close_reply : ℕ → EngineVerdict → Result ℕ NotOpen → LineReply
close_reply number verdict (Ok entry) = closed_reply number verdict entry
close_reply number verdict (Err refused) = replies.NotOpen number refused.closer

-- a packet of a peer, by the actor 0 and with memory granted: only a Prepare can be held
abbrev pub hold_packet : PlainBook → ℤ → ℕ → Result PlainPacket PacketFault → Made LineReply
hold_packet book now peer (Ok (prepare p)) = replied_as hold_reply (hold_step book (by 0 now) (incoming book.config peer p) granted)
hold_packet book now peer (Ok (fulfill f)) = says (replies.BadPacket refusals.NotPrepare)
hold_packet book now peer (Ok (reject r)) = says (replies.BadPacket refusals.NotPrepare)
hold_packet book now peer (Err fault) = says (replies.BadPacket (packet_refusal fault))

-- what came back: octets that are no packet, and a Prepare, count as no reply
abbrev pub came_back : Result PlainPacket PacketFault → PeerReply
came_back (Ok (prepare p)) = peer_reply.NoReply
came_back (Ok (fulfill f)) = peer_reply.Fulfill f.preimage
came_back (Ok (reject r)) = peer_reply.Reject r.code
came_back (Err fault) = peer_reply.NoReply

abbrev pub answer_with : PlainBook → ℤ → ℕ → PeerReply → Made LineReply
answer_with book now number reply = replied_as (answer_reply number) (answer_step book (by 0 now) number reply)

-- the release of one hold whose deadline has come
abbrev pub expire_due : PlainBook → ℤ → Made LineReply
expire_due book now = replied_as (expire_reply (length book.entries)) (expire_step book (by 0 now))

-- a settlement from a peer, if its JSON is a quantity
abbrev pub credit_json : PlainBook → ℤ → ℕ → List ℕ → Result Quantity QuantityFault → Made LineReply
credit_json book now peer key (Ok quantity) = replied_as credit_reply (credit_step book (by 0 now) (payment peer key quantity Settled) granted)
credit_json book now peer key (Err fault) = says (replies.Refused (quantity_refusal fault))

abbrev pub ask_due : PlainBook → ℤ → ℕ → Made LineReply
ask_due book now peer = replied_as ask_reply (ask_step book (by 0 now) peer granted)

abbrev pub close_with : PlainBook → ℤ → ℕ → EngineVerdict → Made LineReply
close_with book now number verdict = replied_as (close_reply number verdict) (close_step book (by 0 now) number verdict)

-- hexadecimal text that is none makes a bad line
abbrev pub hold_text : PlainBook → ℤ → ℕ → Result (List ℕ) FromHexError → Made LineReply
hold_text book now peer (Ok octets) = hold_packet book now peer (reading octets)
hold_text book now peer (Err fault) = says replies.BadLine

abbrev pub answer_text : PlainBook → ℤ → ℕ → Result (List ℕ) FromHexError → Made LineReply
answer_text book now number (Ok octets) = answer_with book now number (came_back (reading octets))
answer_text book now number (Err fault) = says replies.BadLine

-- what a line replies, and the entry that it books
abbrev pub form_step : PlainBook → Form → Made LineReply
form_step book (hold now peer packet) = hold_text book now peer (decode_of packet)
form_step book (answer now number (Some packet)) = answer_text book now number (decode_of packet)
form_step book (answer now number None) = answer_with book now number peer_reply.NoReply
form_step book (expire now) = expire_due book now
form_step book (credit now peer key json) = credit_json book now peer key (quantity_in json)
form_step book (ask now peer) = ask_due book now peer
form_step book (close now number verdict) = close_with book now number verdict
form_step book report = says replies.Report
form_step book silent = says replies.Silent
form_step book bad = says replies.BadLine

unfoldable pub line_step : PlainBook → List ℕ → Made LineReply
line_step book line = form_step book (form_of (peer_names book.config.peers) line)

-- the book after a line
abbrev pub after_line : PlainBook → List ℕ → PlainBook
after_line book line = with_entry book (line_step book line).entry

-- what a line prints: the text of its reply over the book that it left
abbrev pub line_text : PlainBook → List ℕ → List ℕ
line_text book line = reply_text (after_line book line) (line_step book line).reply

-- ---- a script

-- what lines print, one after another, from a book on
abbrev pub text_from : PlainBook → List (List ℕ) → List ℕ
text_from book [] = []
text_from book (line ∷ lines) = line_text book line ++ text_from (after_line book line) lines

-- the book after lines
abbrev pub after_lines : PlainBook → List (List ℕ) → PlainBook
after_lines book [] = book
after_lines book (line ∷ lines) = after_lines (after_line book line) lines

-- what a script prints
abbrev pub text_of : Configuration → List ℕ → List ℕ
text_of C script = text_from (new_book C) (lines_of script)

-- ---- reading and writing

-- a script was read to its end, and its whole text written
pub record Replays (text : List ℕ → List ℕ) (unread left contents grown : Option (List ℕ)) : Type 0 where
  pub script : List ℕ
  pub read : IsReadWhole unread left script
  pub within : length script ≤ most_script
  pub wrote : Appends contents grown (text script)

-- some octets were read, and a front of their text written
pub record Stops (text : List ℕ → List ℕ) (unread left contents grown : Option (List ℕ)) : Type 0 where
  pub script : List ℕ
  pub read : Consumes unread left script
  pub wrote : AppendsPrefix contents grown (text script)

-- the refusal that a fault is printed as
abbrev pub fault_refusal : ReplayFault → Refusal
fault_refusal replay_fault.Memory = refusals.Memory
fault_refusal replay_fault.ReadFault = refusals.ReadFault
fault_refusal replay_fault.WriteFault = refusals.WriteFault
fault_refusal replay_fault.ScriptTooLong = refusals.ScriptTooLong

-- how many reads failed, and how many writes, by how the replay ended
abbrev pub failed_reads : Result (Unit {0}) ReplayFault → ℕ
failed_reads (Err replay_fault.ReadFault) = 1
failed_reads _ = 0

abbrev pub failed_writes : Result (Unit {0}) ReplayFault → ℕ
failed_writes (Err replay_fault.WriteFault) = 1
failed_writes _ = 0
