-- Worked reports. Alice and bob are the peers 0 and 1; alice has dollars at scale 2.
use Rattle.std.specs.Prelude.{◌≡◌, ℕ, ℤ, pos, negsuc, List, [], ◌∷◌, ◌++◌, codes, replicate, None}
use Rattle.ilp_assets.specs.Assets.{PlainAsset}
use Rattle.ilp_accounts.specs.Configuration.{PlainPeer, nobody}
use Rattle.ilp_accounts.specs.declared.settings.LogSync.TheVariants.{Group}
use Rattle.ilp_journal.specs.declared.credit_kind.CreditKind.TheVariants.{Settled}
use Rattle.ilp_journal.specs.declared.entry.Entry.{Entry}
use Rattle.ilp_journal.specs.declared.entry.What.{What}
use Rattle.ilp_journal.specs.declared.entry.What.TheVariants as what
use Rattle.ilp_journal.specs.Journal.{Entries}
use Rattle.ilp_book.specs.Book.{PlainBook}
use Rattle.ilp_report.specs.Report.{report_text}

-- ---- the books

abbrev pub dollars : PlainAsset
dollars = record { code = codes "USD"; scale = 2 }

abbrev pub euros : PlainAsset
euros = record { code = codes "EUR"; scale = 9 }

-- a peer whose asset stands at this place
abbrev pub peer_of : List ℕ → ℕ → PlainPeer
peer_of name asset = record nobody { name = name; asset = asset; least = negsuc 9999 }

-- a book of a period with these assets and entries, in which bob's asset stands at this place
abbrev pub book_in : ℕ → List PlainAsset → ℕ → Entries → PlainBook
book_in period assets asset entries = record {
  config = record {
    settings = record { address = []; run = []; listen = []; engine_listen = []; path = []; workers = 1; journal = 65536; window_ms = 1000; max_hold_ms = 30000; sweep_ms = 100; settle_ms = 1000; sync = Group; in_flight = 4096; new_period_at = None };
    table = record { assets = assets; prices = [] };
    peers = peer_of (codes "alice") 0 ∷ peer_of (codes "bob") asset ∷ [];
    routes = [];
  };
  period = period;
  base = 0;
  entries = entries;
}

-- one of the first period
abbrev pub book_of : List PlainAsset → ℕ → Entries → PlainBook
book_of assets asset entries = book_in 0 assets asset entries

abbrev pub booked : What → Entry
booked what = record { moment = pos 0; actor = 0; what = what }

-- alice sends bob an amount
abbrev pub hold : ℕ → ℕ → ℕ → Entry
hold amount fee out = booked (what.Hold (record { from = 0; to = 1; amount = amount; fee = fee; out = out; deadline = pos 1000; condition = [] }))

abbrev pub fulfilled : ℕ → Entry
fulfilled n = booked (what.Fulfilled n (replicate 32 0))

-- alice settles cents
abbrev pub credited : ℕ → Entry
credited n = booked (what.Credited (record { peer = 0; key = codes "k"; named = n; scale = 2; credited = n; kind = Settled }))

-- a settlement to bob is asked for
abbrev pub asked : ℕ → Entry
asked n = booked (what.Asked (record { peer = 1; amount = n }))

-- a balance of an earlier period
abbrev pub opened : ℕ → ℤ → Entry
opened peer balance = booked (what.Opened peer balance)

-- ---- the reports

-- a payment of 100 cents
abbrev pub PaidRow : Type 0
PaidRow = report_text (book_of (dollars ∷ []) 0 (hold 100 0 100 ∷ fulfilled 0 ∷ [])) ≡
    codes "balance   alice                                         -100\n"
    ++ codes "balance   bob                                            100\n"
    ++ codes "open      alice                                            0\n"
    ++ codes "open      bob                                              0\n"
    ++ codes "held      USD/2                                            0\n"
    ++ codes "fees      USD/2                                            0\n"
    ++ codes "bought    USD/2                                          100\n"
    ++ codes "sold      USD/2                                          100\n"
    ++ codes "settled   USD/2                                            0\n"
    ++ codes "entries                                                    2\n"
    ++ codes "fulfilled                                                  1\n"

-- bob has euros: a payment with a fee, one that is open, and a settlement from alice and one to bob
abbrev pub SettledRow : Type 0
SettledRow = report_text (book_of (dollars ∷ euros ∷ []) 1 (hold 1000 10 5000 ∷ fulfilled 0 ∷ hold 300 3 1400 ∷ credited 500 ∷ asked 2000 ∷ [])) ≡
    codes "balance   alice                                         -800\n"
    ++ codes "balance   bob                                           3000\n"
    ++ codes "open      alice                                            1\n"
    ++ codes "open      bob                                              0\n"
    ++ codes "held      USD/2                                          300\n"
    ++ codes "fees      USD/2                                           10\n"
    ++ codes "bought    USD/2                                          990\n"
    ++ codes "sold      USD/2                                            0\n"
    ++ codes "settled   USD/2                                          500\n"
    ++ codes "held      EUR/9                                            0\n"
    ++ codes "fees      EUR/9                                            0\n"
    ++ codes "bought    EUR/9                                            0\n"
    ++ codes "sold      EUR/9                                         5000\n"
    ++ codes "settled   EUR/9                                        -2000\n"
    ++ codes "entries                                                    5\n"
    ++ codes "fulfilled                                                  1\n"

-- the period 12, which begins with what alice owes and bob is owed
abbrev pub NextPeriodRow : Type 0
NextPeriodRow = report_text (book_in 12 (dollars ∷ []) 0 (opened 0 (negsuc 99) ∷ opened 1 (pos 250) ∷ [])) ≡
    codes "balance   alice                                         -100\n"
    ++ codes "balance   bob                                            250\n"
    ++ codes "open      alice                                            0\n"
    ++ codes "open      bob                                              0\n"
    ++ codes "held      USD/2                                            0\n"
    ++ codes "fees      USD/2                                            0\n"
    ++ codes "bought    USD/2                                            0\n"
    ++ codes "sold      USD/2                                            0\n"
    ++ codes "settled   USD/2                                          150\n"
    ++ codes "entries                                                    2\n"
    ++ codes "fulfilled                                                  0\n"
    ++ codes "period                                                    12\n"
