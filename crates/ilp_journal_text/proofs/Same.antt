-- Entries are the same where each of their parts is.
use Rattle.std.proofs.Common.{◌≡◌, ℕ, ℤ, List}
use Rattle.ilp_journal.specs.declared.entry.Entry.{Entry}
use Rattle.ilp_journal.specs.declared.entry.What.{What}
use Rattle.ilp_journal.specs.declared.entry.Hold.{Hold}
use Rattle.ilp_journal.specs.declared.entry.Credited.{Credited}
use Rattle.ilp_journal.specs.declared.credit_kind.CreditKind.{CreditKind}
use Rattle.ilp_journal.specs.declared.entry.Ask.{Ask}

abbrev pub made_hold : ℕ → ℕ → ℕ → ℕ → ℕ → ℤ → List ℕ → Hold
made_hold from to amount fee out deadline condition =
    record { from = from; to = to; amount = amount; fee = fee; out = out; deadline = deadline; condition = condition }

pub same_hold : (h : Hold) (from to amount fee out : ℕ) (deadline : ℤ) (condition : List ℕ) → from ≡ h.from → to ≡ h.to → amount ≡ h.amount → fee ≡ h.fee → out ≡ h.out → deadline ≡ h.deadline → condition ≡ h.condition
    → made_hold from to amount fee out deadline condition ≡ h
same_hold h from to amount fee out deadline condition p q r s t u v = rw (p, q, r, s, t, u, v)

abbrev pub made_credited : ℕ → List ℕ → ℕ → ℕ → ℕ → CreditKind → Credited
made_credited peer key named scale credited kind = record { peer = peer; key = key; named = named; scale = scale; credited = credited; kind = kind }

pub same_credited : (c : Credited) (peer : ℕ) (key : List ℕ) (named scale credited : ℕ) (kind : CreditKind) → peer ≡ c.peer → key ≡ c.key → named ≡ c.named → scale ≡ c.scale → credited ≡ c.credited → kind ≡ c.kind
    → made_credited peer key named scale credited kind ≡ c
same_credited c peer key named scale credited kind p q r s t u = rw (p, q, r, s, t, u)

abbrev pub made_ask : ℕ → ℕ → Ask
made_ask peer amount = record { peer = peer; amount = amount }

pub same_ask : (a : Ask) (peer amount : ℕ) → peer ≡ a.peer → amount ≡ a.amount → made_ask peer amount ≡ a
same_ask a peer amount p q = rw (p, q)

abbrev pub made_entry : ℤ → ℕ → What → Entry
made_entry moment actor what = record { moment = moment; actor = actor; what = what }

pub same_entry : (e : Entry) (moment : ℤ) (actor : ℕ) (what : What) → moment ≡ e.moment → actor ≡ e.actor → what ≡ e.what → made_entry moment actor what ≡ e
same_entry e moment actor what p q r = rw (p, q, r)
