-- Which rule an entry breaks that would come next in a journal.
use Rattle.std.specs.Prelude.{◌≡◌, ◌≢◌, ℕ, ◌+◌, ◌<◌, ◌≤◌, ℤ, pos, ◌+ℤ◌, ◌<ℤ◌, ◌≤ℤ◌, None, Some, ◌⊎◌, ◌↔◌, IsTrue, IsSome, IsSomeAnd, IsOkAnd, length}
use Rattle.ilp_assets.specs.declared.quote.Quote.{Quote}
use Rattle.ilp_settlement.specs.Quantity.{credited_at}
use Rattle.ilp_accounts.specs.Configuration.{Configuration, peer_at}
use Rattle.ilp_journal.specs.declared.entry.Entry.{Entry}
use Rattle.ilp_journal.specs.declared.entry.What.{What}
use Rattle.ilp_journal.specs.declared.entry.What.TheVariants as what
use Rattle.ilp_journal.specs.declared.entry.Cause.TheVariants.{Late}
use Rattle.ilp_journal.specs.declared.entry.Hold.{Hold}
use Rattle.ilp_journal.specs.declared.entry.Ask.{Ask}
use Rattle.ilp_journal.specs.declared.entry.Credited.{Credited}
use Rattle.ilp_journal.specs.Journal.{Entries, as_hold, as_ask, answered, closed, open_hold_at, open_ask_at, open_asks, open_count, opening, closing}
use Rattle.ilp_journal.specs.Balance.{balance}
use Rattle.ilp_terms.specs.Condition.{meets}
use Rattle.ilp_rules.specs.declared.rule.BrokenRule.{BrokenRule}
use Rattle.ilp_rules.specs.declared.rule.BrokenRule.TheVariants as rule
use Rattle.ilp_rules.specs.Configured.{IsKnown, scale_at, quote_between}
use Rattle.ilp_journal.specs.Credits.{lowering, as_credit, kept_at}
use Rattle.ilp_journal.specs.BroughtForward.{is_brought_forward, earlier_key, opening_at}
use Rattle.ilp_rules.specs.Heads.{most_open_asks, IsHead, HasOwnKey}
use Rattle.ilp_rules.specs.Lawful.{IsInTime, due_amount, quantity_named}

-- a hold isn't between two different peers of the configuration, or another entry names a peer that isn't one of them
abbrev pub NamesWrongPeer : Configuration → What → Type 0
NamesWrongPeer C (what.Hold h) = ¬ (IsKnown C h.from × IsKnown C h.to × (h.from ≢ h.to))
NamesWrongPeer C (what.Credited c) = ¬ (IsKnown C c.peer)
NamesWrongPeer C (what.Asked a) = ¬ (IsKnown C a.peer)
NamesWrongPeer C (what.Opened peer balance) = ¬ (IsKnown C peer)
NamesWrongPeer C (what.Known c) = ¬ (IsKnown C c.peer)
NamesWrongPeer C (what.Pending peer amount key) = ¬ (IsKnown C peer)
NamesWrongPeer C _ = ⊥

-- a preimage doesn't meet the condition of its open hold
abbrev pub FailsCondition : Entries → What → Type 0
FailsCondition before (what.Fulfilled hold preimage) = IsSomeAnd (open_hold_at before hold) (λ (h : Hold). ¬ (IsTrue (meets h.condition preimage)))
FailsCondition before _ = ⊥

-- an open hold is fulfilled from its deadline on, or released as Late before it, or otherwise from it on
abbrev pub IsMistimed : Entries → ℤ → What → Type 0
IsMistimed before moment (what.Fulfilled hold preimage) = IsSomeAnd (open_hold_at before hold) (λ (h : Hold). h.deadline ≤ℤ moment)
IsMistimed before moment (what.Released hold cause) = IsSomeAnd (open_hold_at before hold) (λ (h : Hold). ¬ ((cause ≡ Late) ↔ (h.deadline ≤ℤ moment)))
IsMistimed before moment _ = ⊥

-- a credit of this period is not what its quantity comes to
abbrev pub CreditsOther : Configuration → What → Type 0
CreditsOther C (what.Credited c) = c.credited ≢ credited_at (quantity_named c) (scale_at C c.peer)
CreditsOther C _ = ⊥

-- a settlement of this period is not asked for at its peer's balance
abbrev pub AsksOther : Configuration → Entries → What → Type 0
AsksOther C before (what.Asked a) = due_amount (balance before a.peer) (peer_at C a.peer).levels ≢ Some a.amount
AsksOther C before _ = ⊥

-- a balance that is opened is 0, or was opened before
abbrev pub OpensWrong : Entries → What → Type 0
OpensWrong before (what.Opened peer b) = (b ≡ pos 0) ⊎ IsSome (opening_at before peer)
OpensWrong before _ = ⊥

-- a hold takes its sender's balance below its least, or a correction its peer's, or a balance is opened below its peer's
abbrev pub FallsShort : Configuration → Entries → What → Type 0
FallsShort C before (what.Hold h) = ¬ (((peer_at C h.from).least +ℤ pos h.amount) ≤ℤ balance before h.from)
FallsShort C before (what.Credited c) = ¬ (((peer_at C c.peer).least +ℤ pos (lowering c.kind c.credited)) ≤ℤ balance before c.peer)
FallsShort C before (what.Opened peer b) = ¬ ((peer_at C peer).least ≤ℤ (balance before peer +ℤ b))
FallsShort C before _ = ⊥

-- each rule but that of moments
abbrev pub BreaksRule : Configuration → ℕ → Entries → ℤ → What → BrokenRule → Type 0
BreaksRule C period before moment w rule.Moment = ⊥
BreaksRule C period before moment w rule.Peer = NamesWrongPeer C w
BreaksRule C period before moment w rule.MaxPacket = IsSomeAnd (as_hold w) (λ (h : Hold). (peer_at C h.from).max_packet < h.amount)
BreaksRule C period before moment w rule.Quote =
    IsSomeAnd (as_hold w) (λ (h : Hold). ¬ (IsOkAnd (quote_between C h.from h.to h.amount) (λ (q : Quote). (h.fee ≡ q.fee) × (h.out ≡ q.out))))
BreaksRule C period before moment w rule.Deadline =
    IsSomeAnd (as_hold w) (λ (h : Hold). ¬ ((moment <ℤ h.deadline) × (h.deadline ≤ℤ (moment +ℤ pos C.settings.max_hold_ms))))
BreaksRule C period before moment w rule.NoOpenHold = IsSomeAnd (answered w) (λ n. open_hold_at before n ≡ None)
BreaksRule C period before moment w rule.Preimage = FailsCondition before w
BreaksRule C period before moment w rule.Lateness = IsMistimed before moment w
BreaksRule C period before moment w rule.Head = IsTrue (is_brought_forward w) × ¬ ((0 < period) × IsHead before)
BreaksRule C period before moment w rule.Opening = OpensWrong before w
BreaksRule C period before moment w rule.Credited = CreditsOther C w
BreaksRule C period before moment w rule.KeyTaken = IsSomeAnd (as_credit w) (λ (c : Credited). IsSome (kept_at before c.peer c.key))
BreaksRule C period before moment w rule.StillOpen = IsSomeAnd (as_ask w) (λ (a : Ask). most_open_asks ≤ open_asks before a.peer)
BreaksRule C period before moment w rule.NotDue = AsksOther C before w
BreaksRule C period before moment w rule.SettlementKey = IsSomeAnd (earlier_key w) (λ key. ¬ (HasOwnKey C period before key))
BreaksRule C period before moment w rule.NoOpenAsk = IsSomeAnd (closed w) (λ n. open_ask_at before n ≡ None)
BreaksRule C period before moment w rule.Room = C.settings.journal + closing w < length before + open_count before + 1 + opening w
BreaksRule C period before moment w rule.Least = FallsShort C before w

-- an entry that would come next breaks the rule
abbrev pub Breaks : Configuration → ℕ → Entries → Entry → BrokenRule → Type 0
Breaks C period before e rule.Moment = ¬ (IsInTime before e)
Breaks C period before e r = BreaksRule C period before e.moment e.what r
