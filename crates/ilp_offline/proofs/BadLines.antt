-- A line is bad just where its reply is.
use Rattle.std.proofs.Common.{◌≡◌, ℕ, ℤ, false, List, length, Option, Some, None, refl, sym}
use Rattle.std.specs.Prelude.{Result, Ok, Err, is_err}
use Rattle.hex.specs.Hex.{decode_of}
use Rattle.hex.specs.declared.error.FromHexError.{FromHexError}
use Rattle.ilp_packet.specs.declared.fault.PacketFault.{PacketFault}
use Rattle.ilp_packet.specs.Packet.{PlainPacket, prepare, fulfill, reject}
use Rattle.ilp_packet.specs.Reading.{reading}
use Rattle.ilp_settlement.specs.declared.quantity.Quantity.{Quantity}
use Rattle.ilp_settlement.specs.declared.quantity.QuantityFault.{QuantityFault}
use Rattle.ilp_settlement.specs.Quantity.{quantity_in}
use Rattle.ilp_accounts.specs.Configuration.{peer_names}
use Rattle.ilp_book.specs.declared.calls.Held.{Held}
use Rattle.ilp_book.specs.declared.fault.HoldFault.{HoldFault}
use Rattle.ilp_book.specs.declared.calls.PeerReply.TheVariants as peer_reply
use Rattle.ilp_book.specs.declared.calls.Outcome.{Outcome}
use Rattle.ilp_book.specs.declared.fault.NotOpen.{NotOpen}
use Rattle.ilp_book.specs.declared.calls.Kept.{Kept}
use Rattle.ilp_book.specs.declared.fault.CreditFault.{CreditFault}
use Rattle.ilp_book.specs.declared.calls.Asked.{Asked}
use Rattle.ilp_book.specs.declared.fault.AskFault.{AskFault}
use Rattle.ilp_book.specs.Book.{PlainBook, by, granted}
use Rattle.ilp_book.specs.HoldStep.{incoming, hold_step}
use Rattle.ilp_book.specs.AnswerStep.{answer_step, expire_step}
use Rattle.ilp_settlement.specs.declared.verdict.EngineVerdict.{EngineVerdict}
use Rattle.ilp_settlement.specs.declared.verdict.EngineVerdict.TheVariants as verdicts
use Rattle.ilp_journal.specs.declared.credit_kind.CreditKind.TheVariants.{Settled}
use Rattle.ilp_book.specs.SettleStep.{payment, credit_step, ask_step, close_step}
use Rattle.ilp_offline.specs.Script.{Form, hold, answer, expire, credit, ask, close, report, silent, bad, form_of}
use Rattle.ilp_offline.specs.Replay.{hold_reply, answer_reply, expire_reply, credit_reply, ask_reply, close_reply, hold_packet, hold_text, answer_text, credit_json, came_back, form_step, line_step}
use Rattle.ilp_offline.specs.BadLines.{is_bad_form, is_bad, is_bad_line}

hold_replied : (r : Result Held HoldFault) → is_bad_line (hold_reply r) ≡ false
hold_replied (Ok held) = refl
hold_replied (Err fault) = refl

answer_replied : (number : ℕ) (r : Result Outcome NotOpen) → is_bad_line (answer_reply number r) ≡ false
answer_replied number (Ok outcome) = refl
answer_replied number (Err refused) = refl

expire_replied : (entry : ℕ) (o : Option ℕ) → is_bad_line (expire_reply entry o) ≡ false
expire_replied entry (Some number) = refl
expire_replied entry None = refl

credit_replied : (r : Result Kept CreditFault) → is_bad_line (credit_reply r) ≡ false
credit_replied (Ok kept) = refl
credit_replied (Err fault) = refl

ask_replied : (r : Result Asked AskFault) → is_bad_line (ask_reply r) ≡ false
ask_replied (Ok asked) = refl
ask_replied (Err fault) = refl

close_replied : (number : ℕ) (verdict : EngineVerdict) (r : Result ℕ NotOpen) → is_bad_line (close_reply number verdict r) ≡ false
close_replied number verdicts.Accepted (Ok entry) = refl
close_replied number verdicts.Refused (Ok entry) = refl
close_replied number verdict (Err refused) = refl

packet_replied : (book : PlainBook) (now : ℤ) (peer : ℕ) (r : Result PlainPacket PacketFault) → is_bad_line (hold_packet book now peer r).reply ≡ false
packet_replied book now peer (Ok (prepare p)) = hold_replied (hold_step book (by 0 now) (incoming book.config peer p) granted).reply
packet_replied book now peer (Ok (fulfill f)) = refl
packet_replied book now peer (Ok (reject r)) = refl
packet_replied book now peer (Err fault) = refl

hold_told : (book : PlainBook) (now : ℤ) (peer : ℕ) (d : Result (List ℕ) FromHexError) → is_err d ≡ is_bad_line (hold_text book now peer d).reply
hold_told book now peer (Ok octets) = sym (packet_replied book now peer (reading octets))
hold_told book now peer (Err fault) = refl

answer_told : (book : PlainBook) (now : ℤ) (number : ℕ) (d : Result (List ℕ) FromHexError) → is_err d ≡ is_bad_line (answer_text book now number d).reply
answer_told book now number (Ok octets) = sym (answer_replied number (answer_step book (by 0 now) number (came_back (reading octets))).reply)
answer_told book now number (Err fault) = refl

credit_told : (book : PlainBook) (now : ℤ) (peer : ℕ) (key : List ℕ) (r : Result Quantity QuantityFault) → is_bad_line (credit_json book now peer key r).reply ≡ false
credit_told book now peer key (Ok quantity) = credit_replied (credit_step book (by 0 now) (payment peer key quantity Settled) granted).reply
credit_told book now peer key (Err fault) = refl

form_told : (book : PlainBook) (form : Form) → is_bad_form form ≡ is_bad_line (form_step book form).reply
form_told book (hold now peer packet) = hold_told book now peer (decode_of packet)
form_told book (answer now number (Some packet)) = answer_told book now number (decode_of packet)
form_told book (answer now number None) = sym (answer_replied number (answer_step book (by 0 now) number peer_reply.NoReply).reply)
form_told book (expire now) = sym (expire_replied (length book.entries) (expire_step book (by 0 now)).reply)
form_told book (credit now peer key json) = sym (credit_told book now peer key (quantity_in json))
form_told book (ask now peer) = sym (ask_replied (ask_step book (by 0 now) peer granted).reply)
form_told book (close now number verdict) = sym (close_replied number verdict (close_step book (by 0 now) number verdict).reply)
form_told book report = refl
form_told book silent = refl
form_told book bad = refl

pub lines_told : (book : PlainBook) (line : List ℕ) → is_bad (peer_names book.config.peers) line ≡ is_bad_line (line_step book line).reply
unfolding line_step
lines_told book line = form_told book (form_of (peer_names book.config.peers) line)
