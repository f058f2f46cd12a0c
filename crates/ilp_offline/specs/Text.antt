-- What each reply prints.
use Rattle.std.specs.Prelude.{ℕ, List, [], ◌++◌, if◌then◌else◌, Option, Some, None, codes}
use Rattle.std.specs.Fmt.{decimal}
use Rattle.hex.specs.Hex.{encode_lower}
use Rattle.ilp_journal.specs.declared.entry.Cause.{Cause}
use Rattle.ilp_journal.specs.declared.entry.Cause.TheVariants.{Late, WrongPreimage, NoReply, Peer, Restart}
use Rattle.ilp_accounts.specs.Configuration.{peer_at}
use Rattle.ilp_book.specs.declared.fault.HoldFault.{HoldFault}
use Rattle.ilp_book.specs.declared.calls.Kept.{Kept}
use Rattle.ilp_book.specs.declared.calls.Outcome.{Outcome}
use Rattle.ilp_book.specs.declared.calls.Outcome.TheVariants as outcome
use Rattle.ilp_book.specs.Book.{PlainBook}
use Rattle.ilp_book.specs.RejectCode.{reject_code}
use Rattle.ilp_report.specs.Report.{report_text}
use Rattle.ilp_offline.specs.declared.reply.LineReply.{LineReply}
use Rattle.ilp_offline.specs.declared.reply.LineReply.TheVariants.{Silent, BadLine, BadPacket, Held, Rejected, Answered, NotOpen, NoneDue, Credited, Asked, Confirmed, Undone, Refused, Report}
use Rattle.ilp_refusals.specs.Refusals.{refusal_text, named_text, hold_refusal}

-- the Reject that the sender of a refused Prepare gets
abbrev pub rejected_text : HoldFault → List ℕ
rejected_text fault = codes "reject " ++ (reject_code fault ++ (codes " " ++ (named_text (hold_refusal fault) ++ codes "\n")))

-- why a hold was released; the code of a peer's Reject is hexadecimal
abbrev pub cause_text : Cause → List ℕ
cause_text Late = codes "Late"
cause_text WrongPreimage = codes "WrongPreimage"
cause_text NoReply = codes "NoReply"
cause_text (Peer code) = codes "Peer " ++ encode_lower code
cause_text Restart = codes "Restart"

-- how the hold n ended
abbrev pub outcome_text : ℕ → Outcome → List ℕ
outcome_text n (outcome.Fulfilled entry) = codes "entry " ++ (decimal entry ++ (codes " fulfilled " ++ (decimal n ++ codes "\n")))
outcome_text n (outcome.Released entry cause) = codes "entry " ++ (decimal entry ++ (codes " released " ++ (decimal n ++ (codes " " ++ (cause_text cause ++ codes "\n")))))

-- a settlement is credited: now, or before by this entry
abbrev pub credited_text : Kept → List ℕ
credited_text kept = (if kept.fresh then codes "entry " else codes "kept ") ++ (decimal kept.number ++ (codes " credited " ++ (decimal kept.amount ++ codes "\n")))

-- the hold or the settlement n is not open, for the entry that ended it, if one did
abbrev pub not_open_text : ℕ → Option ℕ → List ℕ
not_open_text n None = codes "not open " ++ (decimal n ++ codes "\n")
not_open_text n (Some entry) = codes "not open " ++ (decimal n ++ (codes " by " ++ (decimal entry ++ codes "\n")))

-- the name of a peer, empty where there is no such peer
abbrev pub name_of : PlainBook → ℕ → List ℕ
name_of book peer = (peer_at book.config peer).name

-- what a reply prints, over the book that its line left
abbrev pub reply_text : PlainBook → LineReply → List ℕ
reply_text book Silent = []
reply_text book BadLine = codes "bad line\n"
reply_text book (BadPacket refusal) = codes "bad packet " ++ (refusal_text refusal ++ codes "\n")
reply_text book (Held held) = codes "held " ++ (decimal held.number ++ (codes " to " ++ (name_of book held.to ++ (codes " out " ++ (decimal held.out ++ codes "\n")))))
reply_text book (Rejected fault) = rejected_text fault
reply_text book (Answered hold outcome) = outcome_text hold outcome
reply_text book (NotOpen hold closer) = not_open_text hold closer
reply_text book NoneDue = codes "none due\n"
reply_text book (Credited kept) = credited_text kept
reply_text book (Asked asked) = codes "entry " ++ (decimal asked.number ++ (codes " asked " ++ (decimal asked.amount ++ codes "\n")))
reply_text book (Confirmed number entry) = codes "entry " ++ (decimal entry ++ (codes " confirmed " ++ (decimal number ++ codes "\n")))
reply_text book (Undone number entry) = codes "entry " ++ (decimal entry ++ (codes " undone " ++ (decimal number ++ codes "\n")))
reply_text book (Refused refusal) = codes "refused " ++ (refusal_text refusal ++ codes "\n")
reply_text book Report = report_text book
