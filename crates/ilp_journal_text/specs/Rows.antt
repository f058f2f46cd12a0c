-- Worked texts. Alice and bob are the peers 0 and 1.
use Rattle.std.specs.Prelude.{◌≡◌, ℕ, pos, negsuc, List, [], ◌∷◌, ◌++◌, codes, replicate, None}
use Rattle.ilp_accounts.specs.Configuration.{Configuration, PlainPeer, nobody}
use Rattle.ilp_accounts.specs.declared.settings.LogSync.TheVariants.{Group}
use Rattle.ilp_journal.specs.declared.entry.Entry.{Entry}
use Rattle.ilp_journal.specs.declared.entry.What.{What}
use Rattle.ilp_journal.specs.declared.entry.What.TheVariants as what
use Rattle.ilp_journal.specs.declared.credit_kind.CreditKind.TheVariants.{Settled, Raised, Lowered}
use Rattle.ilp_journal.specs.declared.entry.Cause.TheVariants.{Late, WrongPreimage, NoReply, Peer, Restart}
use Rattle.ilp_journal_text.specs.Text.{entry_lines, journal_text}

abbrev pub named : List ℕ → PlainPeer
named name = record nobody { name = name }

abbrev pub config : Configuration
config = record {
  settings = record {
    address = codes "test.hub";
    run = codes "r1";
    listen = [];
    engine_listen = [];
    path = [];
    workers = 1;
    journal = 16;
    window_ms = 1000;
    max_hold_ms = 30000;
    sweep_ms = 100;
    settle_ms = 1000;
    sync = Group;
    in_flight = 4096;
    new_period_at = None;
  };
  table = record { assets = []; prices = [] };
  peers = named (codes "alice") ∷ named (codes "bob") ∷ [];
  routes = [];
}

-- what the worker 0 books at a moment
abbrev pub booked : ℕ → What → Entry
booked moment what = record { moment = pos moment; actor = 0; what = what }

abbrev pub hold : What
hold = what.Hold (record { from = 0; to = 1; amount = 100; fee = 1; out = 99; deadline = pos 29000; condition = replicate 32 7 })

-- a payment, a settlement from alice and one to bob
abbrev pub PaidRow : Type 0
PaidRow = journal_text config 0 (
    booked 0 hold
    ∷ booked 500 (what.Fulfilled 0 (replicate 32 171))
    ∷ booked 500 (what.Credited (record { peer = 0; key = codes "k~"; named = 1999999999; scale = 9; credited = 199; kind = Settled }))
    ∷ booked 600 (what.Asked (record { peer = 1; amount = 800 }))
    ∷ booked 700 (what.Undone 3)
    ∷ []) ≡
    codes "ilp-journal 1\n"
    ++ codes "0 0 hold alice bob 100 1 99 29000 0707070707070707070707070707070707070707070707070707070707070707\n"
    ++ codes "500 0 fulfilled 0 abababababababababababababababababababababababababababababababab\n"
    ++ codes "500 0 credited alice 6b7e 1999999999 9 199\n"
    ++ codes "600 0 asked bob 800\n"
    ++ codes "700 0 undone 3\n"
    ++ codes "end 5\n"

-- a correction in each direction, and one of an earlier period
abbrev pub CorrectedRow : Type 0
CorrectedRow = journal_text config 1 (
    booked 500 (what.Known (record { peer = 0; key = codes "k~"; named = 5; scale = 0; credited = 500; kind = Lowered (codes "back") }))
    ∷ booked 500 (what.Credited (record { peer = 0; key = codes "c1"; named = 1500; scale = 2; credited = 1500; kind = Lowered (codes "charged back") }))
    ∷ booked 600 (what.Credited (record { peer = 1; key = codes "c2"; named = 20; scale = 2; credited = 20; kind = Raised (codes "late") }))
    ∷ []) ≡
    codes "ilp-journal 2 1\n"
    ++ codes "500 0 known alice 6b7e 5 0 500 falls 6261636b\n"
    ++ codes "500 0 corrected alice 6331 1500 2 1500 falls 63686172676564206261636b\n"
    ++ codes "600 0 corrected bob 6332 20 2 20 rises 6c617465\n"
    ++ codes "end 3\n"

-- each cause of a release
abbrev pub ReleasedRow : Type 0
ReleasedRow = journal_text config 0 (
    booked 1 (what.Released 0 Late)
    ∷ booked 2 (what.Released 1 WrongPreimage)
    ∷ booked 3 (what.Released 2 NoReply)
    ∷ booked 4 (what.Released 3 (Peer (codes "F99")))
    ∷ booked 5 (what.Released 4 Restart)
    ∷ booked 6 (what.Confirmed 10)
    ∷ []) ≡
    codes "ilp-journal 1\n"
    ++ codes "1 0 released 0 Late\n"
    ++ codes "2 0 released 1 WrongPreimage\n"
    ++ codes "3 0 released 2 NoReply\n"
    ++ codes "4 0 released 3 Peer 463939\n"
    ++ codes "5 0 released 4 Restart\n"
    ++ codes "6 0 confirmed 10\n"
    ++ codes "end 6\n"

-- no entry
abbrev pub EmptyRow : Type 0
EmptyRow = journal_text config 0 [] ≡ codes "ilp-journal 1\nend 0\n"

-- what the third period begins with, and a settlement that is confirmed in it
abbrev pub LaterRow : Type 0
LaterRow = journal_text config 2 (
    booked 700 (what.Opened 0 (negsuc 99))
    ∷ booked 700 (what.Opened 1 (pos 216))
    ∷ booked 700 (what.Known (record { peer = 0; key = codes "k~"; named = 1999999999; scale = 9; credited = 199; kind = Settled }))
    ∷ booked 700 (what.Pending 1 800 (codes "r1-3"))
    ∷ booked 900 (what.Confirmed 3)
    ∷ []) ≡
    codes "ilp-journal 2 2\n"
    ++ codes "700 0 opened alice -100\n"
    ++ codes "700 0 opened bob 216\n"
    ++ codes "700 0 known alice 6b7e 1999999999 9 199\n"
    ++ codes "700 0 pending bob 800 72312d33\n"
    ++ codes "900 0 confirmed 3\n"
    ++ codes "end 5\n"

-- the lines of entries that stand behind others
abbrev pub LinesRow : Type 0
LinesRow = entry_lines config (
    booked 600 (what.Asked (record { peer = 1; amount = 800 }))
    ∷ booked 700 (what.Confirmed 3)
    ∷ []) ≡
    codes "600 0 asked bob 800\n"
    ++ codes "700 0 confirmed 3\n"
