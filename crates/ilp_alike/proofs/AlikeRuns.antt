-- Two books that are alike answer each list of calls alike.
use Rattle.std.proofs.Common.{◌≡◌, ◌⊎◌, ℕ, ◌+◌, ◌≤◌, ℤ, false, List, [], ◌∷◌, length, map, refl, ap₂, All, IsSome, Option, option_map, IfSome}
use Rattle.std.specs.Prelude.{◌≤ℤ◌}
use Rattle.std.proofs.lemmas.List.Elements.{All-head, All-tail}
use Rattle.ilp_terms.specs.Expiry.{last_of_all}
use Rattle.ilp_accounts.specs.Configuration.{Configuration}
use Rattle.ilp_accounts.specs.Valid.{IsValid}
use Rattle.ilp_journal.specs.Credits.{kept_credit}
use Rattle.ilp_journal.specs.Balance.{balance}
use Rattle.ilp_journal.specs.declared.entry.What.TheVariants as what
use Rattle.ilp_journal.specs.Journal.{Entries, ask_at}
use Rattle.ilp_rules.specs.Book.{PlainBook, By, by, Growth, appended, moment_at}
use Rattle.ilp_rules.specs.Configured.{peer_assets, IsKnown}
use Rattle.ilp_rules.specs.Lawful.{IsLawful}
use Rattle.ilp_rules.proofs.InTime.{in_time}
use Rattle.ilp_next_period.specs.NextPeriod.{MayFollow, next_head, next_book}
use Rattle.ilp_book.specs.Run.{Call, hold, answer, expire, credit, ask, close, CallReply, Step, IsAllowed, AreAllowed, made_by, step, replies_to, book_after}
use Rattle.ilp_book.specs.SettleStep.{open_settlement}
use Rattle.ilp_alike.specs.Alike.{place_there, by_config, call_with, step_with, reply_with, is_full, NamesKnown, HasRoomForAll, before_of, calls_before, BothHaveRoom, entries_later, entries_before, AreCalls, asked_with, MayBeNamed}
use Rattle.ilp_alike.proofs.Renamed.{renamed}
use Rattle.ilp_alike.proofs.Numbered.{IsNumbering}
use Rattle.ilp_alike.proofs.AlikeJournals.{AreAlike}
use Rattle.ilp_alike.proofs.Begun.{numbering, begun_alike}
use Rattle.ilp_alike.proofs.AlikeCalls.{Twins, ends_alike, sweeps_alike, closes_alike, credits_alike, asks_alike, holds_alike}
use Rattle.ilp_alike.proofs.FirstOpen.{told_alike}

module _ (C : Configuration) (valid : IsValid C) (begun : PlainBook) (first : ℕ) (number : ℕ → ℕ) (start : ℤ) (earlier_period period : ℕ) where
  abbrev later : ℕ
  later = length begun.entries

  abbrev Named : ℕ → Type 0
  Named k = IsSome (ask_at begun.entries k) ⊎ (length begun.entries ≤ k)

  abbrev old_of : Entries → PlainBook
  old_of before = record { config = C; period = earlier_period; base = first; entries = before }

  abbrev new_of : Entries → PlainBook
  new_of after = record { config = C; period = period; base = length begun.entries; entries = after }

  module _ (is : IsNumbering first (length begun.entries) number Named) (in_years : start ≤ℤ last_of_all) where
    -- one call
    call_alike : (before after : Entries) (alike : AreAlike (length C.peers) (peer_assets C) first (length begun.entries) number Named start before after) (caller : By) (come : start ≤ℤ caller.now) (growth : Growth) (call : Call)
        → IsAllowed C call → NamesKnown begun call → is_full (made_by (new_of after) caller growth call).reply ≡ false → is_full (made_by (old_of before) caller growth (call_with number call)).reply ≡ false
        → Twins C valid first (length begun.entries) number Named start is in_years earlier_period period before after alike caller come (made_by (new_of after) caller growth call) (made_by (old_of before) caller growth (call_with number call))
    call_alike before after alike caller come growth (hold sent) allowed named full also = holds_alike C valid first (length begun.entries) number Named start is in_years earlier_period period before after alike caller come sent growth allowed full also
    call_alike before after alike caller come growth (answer n reply) allowed named full also = ends_alike C valid first (length begun.entries) number Named start is in_years earlier_period period before after alike caller come n reply named
    call_alike before after alike caller come growth expire allowed named full also = sweeps_alike C valid first (length begun.entries) number Named start is in_years earlier_period period before after alike caller come
    call_alike before after alike caller come growth (credit p) allowed named full also = credits_alike C valid first (length begun.entries) number Named start is in_years earlier_period period before after alike caller come p growth allowed.0 full also
    call_alike before after alike caller come growth (ask q) allowed named full also = asks_alike C valid first (length begun.entries) number Named start is in_years earlier_period period before after alike caller come q growth allowed full also
    call_alike before after alike caller come growth (close n verdict) allowed named full also = closes_alike C valid first (length begun.entries) number Named start is in_years earlier_period period before after alike caller come n verdict named

    -- both answer alike, and are alike in the end
    record Ran (before after : Entries) (steps : List Step) : Type 0 where
      replies : map (reply_with number) (replies_to (new_of after) steps) ≡ replies_to (old_of before) (map (step_with number) steps)
      stay : AreAlike (length C.peers) (peer_assets C) first (length begun.entries) number Named start (book_after (old_of before) (map (step_with number) steps)).entries (book_after (new_of after) steps).entries

    -- and each list of calls
    runs_alike : (steps : List Step) (before after : Entries) → AreAlike (length C.peers) (peer_assets C) first (length begun.entries) number Named start before after
        → AreAllowed C steps → All (λ (s : Step). NamesKnown begun s.call) steps → All (λ (s : Step). start ≤ℤ s.caller.now) steps
        → HasRoomForAll (new_of after) steps → HasRoomForAll (old_of before) (map (step_with number) steps) → Ran before after steps
    runs_alike [] before after alike allowed named come full also = record { replies = refl; stay = alike }
    runs_alike (s ∷ ss) before after alike allowed named come full also =
        let new_step = step (new_of after) s in
        let old_step = step (old_of before) (step_with number s) in
        let Room : CallReply → Type 0 = λ r. is_full r ≡ false in
        let twins = call_alike before after alike s.caller (All-head (λ (x : Step). start ≤ℤ x.caller.now) s ss come) s.growth s.call allowed.0 (All-head (λ (x : Step). NamesKnown begun x.call) s ss named)
        (All-head Room new_step.reply (replies_to (new_of (appended after new_step.entry)) ss) full)
        (All-head Room old_step.reply (replies_to (old_of (appended before old_step.entry)) (map (step_with number) ss)) also) in
        let rest = runs_alike ss (appended before old_step.entry) (appended after new_step.entry) twins.stay allowed.1
        (All-tail (λ (x : Step). NamesKnown begun x.call) s ss named) (All-tail (λ (x : Step). start ≤ℤ x.caller.now) s ss come)
        (All-tail Room new_step.reply (replies_to (new_of (appended after new_step.entry)) ss) full)
        (All-tail Room old_step.reply (replies_to (old_of (appended before old_step.entry)) (map (step_with number) ss)) also) in
        record { replies = ap₂ (λ (r : CallReply) (more : List CallReply). r ∷ more) twins.replies rest.replies; stay = rest.stay }

-- so it is of a book that was brought forward and the one that it came from
module _ (book : PlainBook) (next : Configuration) (now : ℤ) (valid : IsValid book.config) (later_valid : IsValid next) (lawful : IsLawful book) (may : MayFollow book next) (steps : List Step) (calls : AreCalls book next now steps) (room : BothHaveRoom book next now steps) where
  run : Ran next later_valid (next_book book next now) (length book.entries) (before_of book next now) (moment_at book.entries now) book.period (book.period + 1)
      (numbering book next now valid later_valid lawful may.run may.closed) (in_time book (by 0 now) (what.Confirmed 0) lawful).last
      (renamed (place_there book.config next) book.entries) (next_head book next now) steps
  run =
      runs_alike next later_valid (next_book book next now) (length book.entries) (before_of book next now) (moment_at book.entries now) book.period (book.period + 1)
      (numbering book next now valid later_valid lawful may.run may.closed) (in_time book (by 0 now) (what.Confirmed 0) lawful).last
      steps (renamed (place_there book.config next) book.entries) (next_head book next now)
      (begun_alike book next now valid later_valid lawful may.run may.closed)
      calls.allowed calls.named calls.later room.0 room.1

  pub forward_answers_alike : map (reply_with (before_of book next now)) (replies_to (next_book book next now) steps) ≡ replies_to (by_config book next) (calls_before book next now steps)
  forward_answers_alike = run.replies

  module _ (q : ℕ) (known : IsKnown next q) where
    pub balance_stays : balance (entries_later book next now steps) q ≡ balance (entries_before book next now steps) q
    balance_stays = run.stay.balances q known

    pub credit_stays : (key : List ℕ) → kept_credit (entries_later book next now steps) q key ≡ kept_credit (entries_before book next now steps) q key
    credit_stays key = run.stay.credits q key known

    pub settlement_stays : (tried : Option ℕ) → IfSome tried (MayBeNamed (next_book book next now))
        → option_map (asked_with (before_of book next now)) (open_settlement (entries_later book next now steps) q tried) ≡ open_settlement (entries_before book next now steps) q (option_map (before_of book next now) tried)
    settlement_stays =
        told_alike (length next.peers) (peer_assets next) (length book.entries) (length (next_head book next now)) (before_of book next now) (MayBeNamed (next_book book next now)) (moment_at book.entries now)
        (numbering book next now valid later_valid lawful may.run may.closed) (entries_before book next now steps) (entries_later book next now steps) run.stay q known
