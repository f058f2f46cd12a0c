-- Holds, credits and settlements to peers that the rules allow are admitted where there is room for them.
use Rattle.std.proofs.Common.{◌≡◌, ℕ, ◌+◌, ◌≤◌, ℤ, pos, negsuc, ◌+ℤ◌, ◌-ℤ◌, true, length, Option, Some, None, refl, sym, ap, ◌∙◌, arith}
use Rattle.std.specs.Prelude.{◌≤ℤ◌, ◌<ℤ◌, int_le, nat_le, nat_abs, IfSome, IsSomeAnd}
use Rattle.std.specs.Int.{int_min}
use Rattle.std.proofs.lemmas.Int.{ints, clamps}
use Rattle.std.proofs.lemmas.Bool.{leb-true}
use Rattle.ilp_assets.specs.Quote.{most}
use Rattle.ilp_accounts.specs.declared.peer.Levels.{Levels}
use Rattle.ilp_accounts.specs.Configuration.{PlainPeer, peer_at}
use Rattle.ilp_accounts.specs.Valid.{IsValid, AreOrdered}
use Rattle.ilp_journal.specs.declared.entry.What.TheVariants as what
use Rattle.ilp_journal.specs.declared.entry.Hold.{Hold}
use Rattle.ilp_journal.specs.declared.entry.Ask.{Ask}
use Rattle.ilp_journal.specs.declared.entry.Credited.{Credited}
use Rattle.ilp_journal.specs.Journal.{open_count}
use Rattle.ilp_journal.specs.Balance.{below, balance}
use Rattle.ilp_journal.specs.Credits.{lowering}
use Rattle.ilp_journal.specs.TrialBalance.{total_in, total_out, amount_in, amount_out}
use Rattle.ilp_order.proofs.RefusalLemmas.{some_same, chosen}
use Rattle.ilp_rules.specs.Book.{PlainBook, has_room}
use Rattle.ilp_rules.specs.Configured.{peer_assets}
use Rattle.ilp_rules.specs.Heads.{StandsInHead}
use Rattle.ilp_rules.specs.Lawful.{IsLawful, IsWithinLimits, IsInTime, HasTerms, IsFreshCredit, IsDueAsk, owed_above, due_amount}
use Rattle.ilp_rules.proofs.Known.{peer_valid, covered}
use Rattle.ilp_rules.proofs.LawfulGrowth.{Admits, counted, at_most, limits_now}
use Rattle.ilp_rules.proofs.InTime.{calm}

-- ---- holds

-- a hold of allowed terms is admitted where it is in time, and there is room, totals and balance for it
pub hold_admits : (book : PlainBook) (m : ℤ) (actor : ℕ) (h : Hold) → IsLawful book → IsInTime book.entries (record { moment = m; actor = actor; what = what.Hold h }) → HasTerms book.config m h
    → has_room book 2 ≡ true → ((peer_at book.config h.from).least +ℤ pos h.amount) ≤ℤ balance book.entries h.from
    → ((x : ℕ) → total_in (peer_assets book.config) book.base book.entries x + counted book (amount_in (peer_assets book.config) x h) ≤ most)
    → ((x : ℕ) → total_out (peer_assets book.config) book.base book.entries x + counted book (amount_out (peer_assets book.config) x h) ≤ most)
    → Admits book (record { moment = m; actor = actor; what = what.Hold h })
hold_admits book m actor h lawful timely terms room least totals_in totals_out =
    let limits : IsWithinLimits book = limits_now book lawful in
    let fits : length book.entries + open_count book.entries + 2 ≤ book.config.settings.journal = leb-true _ _ room in
    record {
      rule = terms;
      moments = timely;
      cover = λ p known. covered book.config book.entries h.from h.amount p (limits.least p known) least;
      room = omega (arith, fits);
      totals_in = totals_in;
      totals_out = totals_out;
    }

-- ---- credits

-- a fresh credit is admitted where it is in time, and there is room and, for a correction, balance for it
pub credit_admits : (book : PlainBook) (m : ℤ) (actor : ℕ) (c : Credited) → IsLawful book → IsInTime book.entries (record { moment = m; actor = actor; what = what.Credited c })
    → IsFreshCredit book.config book.entries c → has_room book 1 ≡ true
    → ((peer_at book.config c.peer).least +ℤ pos (lowering c.kind c.credited)) ≤ℤ balance book.entries c.peer
    → Admits book (record { moment = m; actor = actor; what = what.Credited c })
credit_admits book m actor c lawful timely fresh fits least =
    let limits : IsWithinLimits book = limits_now book lawful in
    let room : length book.entries + open_count book.entries + 1 ≤ book.config.settings.journal = leb-true _ _ fits in
    record {
      rule = fresh;
      moments = timely;
      cover = λ p known. covered book.config book.entries c.peer (lowering c.kind c.credited) p (limits.least p known) least;
      room = omega (arith, room);
      totals_in = λ x. omega (arith, at_most (nat_le book.base (length book.entries)) 0, limits.totals_in x);
      totals_out = λ x. omega (arith, at_most (nat_le book.base (length book.entries)) 0, limits.totals_out x);
    }

-- ---- balances that are brought forward

-- a balance that is brought forward is admitted where it is in time and there is room, and it leaves its peer at its least or above
pub opening_admits : (book : PlainBook) (m : ℤ) (actor peer : ℕ) (b : ℤ) → IsLawful book → IsInTime book.entries (record { moment = m; actor = actor; what = what.Opened peer b })
    → StandsInHead book.config book.period book.base book.entries (what.Opened peer b) → has_room book 1 ≡ true → (peer_at book.config peer).least ≤ℤ (balance book.entries peer +ℤ b)
    → Admits book (record { moment = m; actor = actor; what = what.Opened peer b })
opening_admits book m actor peer b lawful timely stands fits least =
    let limits : IsWithinLimits book = limits_now book lawful in
    let room : length book.entries + open_count book.entries + 1 ≤ book.config.settings.journal = leb-true _ _ fits in
    record {
      rule = stands;
      moments = timely;
      cover = λ q q_known. covered book.config book.entries peer (below b) q (limits.least q q_known)
          (lowered b (peer_at book.config peer).least (balance book.entries peer) (limits.least peer stands.rule.0) least);
      room = omega (arith, room);
      totals_in = λ x. omega (arith, at_most (nat_le book.base (length book.entries)) 0, limits.totals_in x);
      totals_out = λ x. omega (arith, at_most (nat_le book.base (length book.entries)) 0, limits.totals_out x);
    }
  where
    lowered : (b least old : ℤ) → least ≤ℤ old → least ≤ℤ (old +ℤ b) → (least +ℤ pos (below b)) ≤ℤ old
    lowered (pos n) least old now after = omega (arith, ints, now)
    lowered (negsuc n) least old now after = omega (arith, ints, after)

-- ---- asks

-- what is due is asked for from the threshold on
pub due_from : (o : Option Levels) (peer : PlainPeer) (b : ℤ) (amount : ℕ) → IfSome o (AreOrdered peer) → due_amount b o ≡ Some amount
    → IsSomeAnd o (λ (v : Levels). (v.threshold ≤ℤ b) × (pos amount ≡ owed_above b v))
due_from None peer b amount v e = absurd cc
due_from (Some v) peer b amount h e =
    let t : (int_le v.threshold b ≡ true) × (◌≡◌ {A = Option ℕ} (Some (nat_abs (owed_above b v))) (Some amount))
    = chosen (int_le v.threshold b) (Some (nat_abs (owed_above b v))) amount e in
    let reached : v.threshold ≤ℤ b = late v.threshold b t.0 in
    let whole : pos (nat_abs (owed_above b v)) ≡ owed_above b v = natural (owed_above b v) (above b v.threshold v.settle_to v.settle_max reached h.settle_to) in
    (reached, ap pos (sym (some_same _ amount t.1)) ∙ whole)
  where
    late : (a b : ℤ) → int_le a b ≡ true → a ≤ℤ b
    late a b e = omega (arith, ints)

    natural : (z : ℤ) → pos 0 ≤ℤ z → pos (nat_abs z) ≡ z
    natural (pos n) h = refl
    natural (negsuc n) h = absurd (never (negsuc n) n refl h)
      where
        never : (z : ℤ) (n : ℕ) → z ≡ negsuc n → pos 0 ≤ℤ z → ⊥
        never z n e h = omega (arith, ints)

    above : (b t s : ℤ) (n : ℕ) → t ≤ℤ b → s <ℤ t → pos 0 ≤ℤ int_min (b -ℤ s) (pos n)
    above b t s n h k = omega (arith, ints, clamps)

-- a due ask leaves the balance at its least or above
due_covered : (o : Option Levels) (peer : PlainPeer) (b : ℤ) (amount : ℕ) → IfSome o (AreOrdered peer) → IsSomeAnd o (λ (v : Levels). (v.threshold ≤ℤ b) × (pos amount ≡ owed_above b v))
    → (peer.least +ℤ pos amount) ≤ℤ b
due_covered None peer b amount h due = absurd due
due_covered (Some v) peer b amount h due = bounded b peer.least v.settle_to amount v.settle_max due.1 h.least
  where
    bounded : (b l s : ℤ) (n limit : ℕ) → pos n ≡ int_min (b -ℤ s) (pos limit) → l ≤ℤ s → (l +ℤ pos n) ≤ℤ b
    bounded b l s n limit e h = omega (arith, ints, clamps)

-- a due ask is admitted where it is in time and there is room
pub ask_admits : (book : PlainBook) (m : ℤ) (actor : ℕ) (a : Ask) → IsValid book.config → IsLawful book → IsInTime book.entries (record { moment = m; actor = actor; what = what.Asked a })
    → IsDueAsk book.config book.entries a → has_room book 2 ≡ true → Admits book (record { moment = m; actor = actor; what = what.Asked a })
ask_admits book m actor a valid lawful timely due fits =
    let limits : IsWithinLimits book = limits_now book lawful in
    let room : length book.entries + open_count book.entries + 2 ≤ book.config.settings.journal = leb-true _ _ fits in
    let p = peer_at book.config a.peer in
    record {
      rule = due;
      moments = timely;
      cover = λ q q_known. covered book.config book.entries a.peer a.amount q (limits.least q q_known)
          (due_covered p.levels p (balance book.entries a.peer) a.amount (peer_valid book.config a.peer valid due.known).levels due.due);
      room = omega (arith, room);
      totals_in = λ x. omega (arith, at_most (nat_le book.base (length book.entries)) 0, limits.totals_in x);
      totals_out = λ x. omega (arith, at_most (nat_le book.base (length book.entries)) 0, limits.totals_out x);
    }
