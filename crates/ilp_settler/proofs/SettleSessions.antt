-- What a settler learns of its sessions: how many entries each booked.
use Rattle.std.proofs.Common.{◌≡◌, ℕ, ℤ, List, ◌++◌, Option, Some, None, refl, sym, ap, ◌∙◌}
use Rattle.std.specs.Prelude.{Result, Ok, Err}
use Rattle.ilp_journal.specs.declared.entry.Ask.{Ask}
use Rattle.ilp_journal.specs.Journal.{Entries, open_ask_at}
use Rattle.ilp_book.specs.declared.calls.Asked.{Asked}
use Rattle.ilp_book.specs.declared.fault.AskFault.{AskFault}
use Rattle.ilp_book.specs.declared.fault.NotOpen.{NotOpen}
use Rattle.ilp_book.specs.Book.{PlainBook, By, by, Growth, granted, denied, Does}
use Rattle.ilp_settlement.specs.declared.verdict.EngineVerdict.{EngineVerdict}
use Rattle.ilp_book.specs.SettleStep.{ask_checked, ask_booked, ask_growth, ask_step, close_booked, close_step}
use Rattle.ilp_desk.specs.Desk.{PlainDesk}
use Rattle.ilp_desk.specs.Portion.{Portion, Holding}
use Rattle.ilp_settler.specs.declared.turn.Turn.{Turn}
use Rattle.ilp_link_traits.specs.declared.links.EngineReply.{EngineReply}
use Rattle.ilp_link_traits.specs.Links.{Tells}
use Rattle.ilp_settler.specs.Settler.{IsAskedAt, asks_of, IsAsking, IsClosedAt, closings_of, kept_of_close, turn_of_close, IsClosing}
use Rattle.ilp_desk.proofs.Raising.{raised_by, count_in, booked_more}

-- ---- steps

-- an ask is one entry where it is accepted, else none
ask_counts : (book : PlainBook) (caller : By) (peer : ℕ) (growth : Growth) → count_in (ask_step book caller peer growth).entry ≡ asks_of (ask_step book caller peer growth).reply
unfolding ask_step
ask_counts book caller peer growth = of (ask_checked book peer) growth
  where
    of : (r : Result Ask AskFault) (g : Growth) → count_in (ask_booked book caller g r).entry ≡ asks_of (ask_booked book caller g r).reply
    of (Err fault) g = refl
    of (Ok a) denied = refl
    of (Ok a) granted = refl

-- a closing is one entry where the settlement is open, else none
close_counts : (book : PlainBook) (caller : By) (n : ℕ) (verdict : EngineVerdict) → count_in (close_step book caller n verdict).entry ≡ closings_of (close_step book caller n verdict).reply
unfolding close_step
close_counts book caller n verdict = of (open_ask_at book.entries n)
  where
    of : (o : Option Ask) → count_in (close_booked book caller n verdict o).entry ≡ closings_of (close_booked book caller n verdict o).reply
    of None = refl
    of (Some a) = refl

-- ---- sessions

-- a book was asked for a settlement, at a moment that the clock gave
pub asking_by : (desk : PlainDesk) (peer : ℕ) (moments moments' : Option (List ℤ)) (seen seen' : Entries) (before after : Portion) (now : ℤ) (reply : Result Asked AskFault)
    → Tells moments now moments' → IsAskedAt desk peer now seen seen' before after reply → IsAsking desk peer moments moments' seen seen' before after reply
asking_by desk peer moments moments' seen seen' before after now reply asked at =
    let old = at.0 in
    let made = ask_step old (by before.actor now) peer (ask_growth reply) in
    let does : Does old at.1 reply made = at.3 in
    record {
      now = now;
      asked = asked;
      booked = at;
      raised = raised_by desk old at.1 before after (asks_of reply) at.2
          (booked_more old at.1 reply made (asks_of reply) does (ask_counts old (by before.actor now) peer (ask_growth reply) ∙ ap asks_of (sym does.reply)));
    }

-- a book was told what the engine said, at a moment that the clock gave, and what is kept of it
pub closing_by : (desk : PlainDesk) (peer : ℕ) (a : Asked) (said : EngineReply) (verdict : EngineVerdict) (moments moments' : Option (List ℤ)) (before after : Holding) (later : ℤ) (reply : Result ℕ NotOpen) (turn : Turn)
    → Tells moments later moments' → IsClosedAt desk a.number verdict later before.share after.share reply
    → after.records ≡ before.records ++ kept_of_close peer a verdict reply → turn ≡ turn_of_close a said reply
    → IsClosing desk peer a said verdict moments moments' before after turn
closing_by desk peer a said verdict moments moments' before after later reply turn asked at is turn_is =
    let old = at.0 in
    let made = close_step old (by before.share.actor later) a.number verdict in
    let does : Does old at.1 reply made = at.3 in
    record {
      later = later;
      reply = reply;
      asked = asked;
      booked = at;
      raised = raised_by desk old at.1 before.share after.share (closings_of reply) at.2
          (booked_more old at.1 reply made (closings_of reply) does (close_counts old (by before.share.actor later) a.number verdict ∙ ap closings_of (sym does.reply)));
      records = is;
      turn_is = turn_is;
    }
