-- Two halves make a turn.
use Rattle.std.proofs.Common.{◌≡◌, ◌≢◌, ℕ, zero, suc, List, [], ◌∷◌, Option, Some, None, refl, ap, sym, ◌∙◌, subst, inl, inr}
use Rattle.std.specs.Prelude.{Bool, true, Result, Ok, Err, IsErr, ok_or}
use Rattle.ilp_journal.specs.Journal.{Entries}
use Rattle.ilp_book.specs.declared.calls.Asked.{Asked}
use Rattle.ilp_book.specs.declared.fault.AskFault.{AskFault}
use Rattle.ilp_book.specs.declared.fault.AskFault.TheVariants as ask_fault
use Rattle.ilp_desk.specs.Desk.{PlainDesk}
use Rattle.ilp_desk.specs.Portion.{holding}
use Rattle.ilp_keeping.specs.Keeping.{IsHanded}
use Rattle.ilp_link_traits.specs.declared.links.EngineReply.{EngineReply}
use Rattle.ilp_link_traits.specs.Links.{Tells, ToEngine}
use Rattle.ilp_settler.specs.declared.turn.Turn.{Turn}
use Rattle.ilp_settler.specs.declared.turn.Turn.TheVariants.{Idle, Withheld}
use Rattle.ilp_settler.specs.declared.asking.BegunTurn.{BegunTurn}
use Rattle.ilp_settler.specs.declared.asking.BegunTurn.TheVariants.{NeedsAccount, Asks, Over}
use Rattle.ilp_settler.specs.Asking.{PlainAsking, settlement_of}
use Rattle.ilp_settler.specs.Settler.{PlainSettler, settler, knows_account, with_account, HasAccount, last_tried, with_tried, IsAsking, IsChoosing, settlement_told, verdict_by, ClosesBy, IsIdle, IsUnwritten, IsSettling, CarriesOut, GoesOn, IsTurn, Turns}
use Rattle.ilp_settler.specs.Halves.{Finds, IsSeeking, IsGivenOut, IsHeldBack, GivesOut, IsOver, StartsAsking, EndsUnasked, LacksMemory, BeginsTurn, IsLooking, GivesOutFound, TakesUpOpen, asking_told, IsEngineAsked, FinishesTurn}
use Rattle.ilp_settler.proofs.TurnLemmas.{carries_a_settlement, told_turn, carried_on, idled, denied_on}

-- a settler whose engine has the account by now
abbrev pub knowing : PlainSettler → Option (List ToEngine) → List Bool → PlainSettler
knowing before engine accounts = record before { engine = engine; accounts = accounts }

-- the engine said that it has the account, now or before, and no more became of the settler
pub record IsKnowing (peer : ℕ) (before : PlainSettler) (engine : Option (List ToEngine)) (accounts : List Bool) : Type 0 where
  pub account : HasAccount (knows_account before.accounts peer) peer before.engine engine
  pub accounts_are : accounts ≡ with_account before.accounts peer

-- what a turn is, once a book was asked and replied
asked_turn : (E : Type 0) (desk : PlainDesk) (peer : ℕ) (before between after : PlainSettler) (engine : Option (List ToEngine)) (accounts : List Bool) (turn : Result Turn E) (found : Result Asked AskFault)
    → IsKnowing peer before engine accounts → (s : IsSeeking desk peer (knowing before engine accounts) between found) → after.accounts ≡ accounts
    → GoesOn {E = E} desk peer before after engine between.share between.moments s.seen turn s.reply → IsTurn {E = E} desk peer before after turn
asked_turn E desk peer before between after engine accounts turn found knows s same goes = record {
  engine = engine;
  account = knows.account;
  accounts = same ∙ knows.accounts_are;
  reply = s.reply;
  share = between.share;
  moments = between.moments;
  seen = s.seen;
  asked = s.asked;
  goes_on = goes;
}

-- ---- the first half

-- what is open is looked for where a book refused a settlement, and not for want of memory
finds_open : (desk : PlainDesk) (peer : ℕ) (tried : Option ℕ) (seen seen' : Entries) (fault : AskFault) (found : Option Asked)
    → fault ≢ ask_fault.Memory → IsChoosing desk peer tried seen seen' found → Finds desk peer tried seen seen' (Err fault) (ok_or found fault)
finds_open desk peer tried seen seen' (ask_fault.StillOpen n amount) found other chosen = (found, chosen, refl)
finds_open desk peer tried seen seen' (ask_fault.NotDue balance) found other chosen = (found, chosen, refl)
finds_open desk peer tried seen seen' ask_fault.Full found other chosen = (found, chosen, refl)
finds_open desk peer tried seen seen' ask_fault.Memory found other chosen = absurd (other refl)

-- a settler that was refused a settlement, and that looked for what is open
pub sought_open : (desk : PlainDesk) (peer : ℕ) (before between after : PlainSettler) (fault : AskFault) (found : Option Asked)
    → fault ≢ ask_fault.Memory → IsAsking desk peer before.moments between.moments before.seen between.seen before.share between.share (Err fault)
    → IsChoosing desk peer (last_tried between.tried peer) between.seen after.seen found
    → between.tried ≡ before.tried → after.share ≡ between.share → after.moments ≡ between.moments
    → after ≡ record before { share = after.share; moments = after.moments; seen = after.seen } → IsSeeking desk peer before after (ok_or found fault)
sought_open desk peer before between after fault found other asking chosen tried share moments others = record {
  reply = Err fault;
  seen = between.seen;
  asked = subst (λ m. IsAsking desk peer before.moments m before.seen between.seen before.share after.share (Err fault)) (sym moments)
      (subst (λ s. IsAsking desk peer before.moments between.moments before.seen between.seen before.share s (Err fault)) (sym share) asking);
  finds = finds_open desk peer (last_tried before.tried peer) between.seen after.seen fault found other
      (subst (λ t. IsChoosing desk peer (last_tried t peer) between.seen after.seen found) tried chosen);
  others = others;
}

-- a turn that has begun, once it is known what is to be settled
pub begun_by : (A E : Type 0) (desk : PlainDesk) (peer : ℕ) (before between after : PlainSettler) (a : Asked) (begun : BegunTurn A)
    → knows_account before.accounts peer ≡ true → IsSeeking desk peer before between (Ok a) → GivesOut desk peer between after a begun → BeginsTurn {A = A} {E = E} desk peer before after (Ok begun)
begun_by A E desk peer before between after a NeedsAccount knows sought gives = absurd gives
begun_by A E desk peer before between after a (Asks p) knows sought gives = (knows, record { between = between; settlement = a; sought = sought; given = gives })
begun_by A E desk peer before between after a (Over turn) knows sought gives = (knows, record { between = between; found = Ok a; sought = sought; over = gives })

-- ---- the first half, where nothing new is to be asked for

-- a turn that has begun with what is open, once that was looked for
pub taken_by : (A E : Type 0) (desk : PlainDesk) (peer : ℕ) (before between after : PlainSettler) (found : Option Asked) (begun : BegunTurn A)
    → knows_account before.accounts peer ≡ true → IsLooking desk peer before between found → GivesOutFound desk peer between after begun found
    → TakesUpOpen {A = A} {E = E} desk peer before after (Ok begun)
taken_by A E desk peer before between after None NeedsAccount knows looked given = let no : ◌≡◌ {A = BegunTurn A} NeedsAccount (Over Withheld) = given.0 in cc
taken_by A E desk peer before between after (Some a) NeedsAccount knows looked given = absurd given
taken_by A E desk peer before between after found (Asks p) knows looked given = (knows, record { between = between; found = found; looked = looked; given = given })
taken_by A E desk peer before between after found (Over turn) knows looked given = (knows, record { between = between; found = found; looked = looked; given = given })

-- ---- both halves

-- what a settler learns of a settlement that was given out, of which the engine was asked, and that was finished
settled_by_halves : (desk : PlainDesk) (peer : ℕ) (before between begun asked after : PlainSettler) (engine : Option (List ToEngine)) (accounts : List Bool) (a : Asked) (p : PlainAsking) (said : EngineReply) (turn : Turn)
    → between ≡ record (knowing before engine accounts) { share = between.share; moments = between.moments; seen = between.seen }
    → IsGivenOut desk peer between begun a p → IsEngineAsked p said begun asked → FinishesTurn desk p said asked after turn
    → IsSettling desk peer before after engine a between.share between.moments between.seen turn
settled_by_halves desk peer before between begun asked after engine accounts a p said turn same given hands finishes =
    let kept_before : between.kept ≡ before.kept = ap (λ (s : PlainSettler). s.kept) same in
    let records_before : between.records ≡ before.records = ap (λ (s : PlainSettler). s.records) same in
    let engine_before : between.engine ≡ engine = ap (λ (s : PlainSettler). s.engine) same in
    let tried_before : between.tried ≡ before.tried = ap (λ (s : PlainSettler). s.tried) same in
    let kept_after : after.kept ≡ begun.kept = ap (λ (s : PlainSettler). s.kept) finishes.others ∙ ap (λ (s : PlainSettler). s.kept) hands.others in
    let seen_after : after.seen ≡ begun.seen = ap (λ (s : PlainSettler). s.seen) finishes.others ∙ ap (λ (s : PlainSettler). s.seen) hands.others in
    let tried_after : after.tried ≡ begun.tried = ap (λ (s : PlainSettler). s.tried) finishes.others ∙ ap (λ (s : PlainSettler). s.tried) hands.others in
    let engine_after : after.engine ≡ asked.engine = ap (λ (s : PlainSettler). s.engine) finishes.others in
    let engine_begun : begun.engine ≡ engine = ap (λ (s : PlainSettler). s.engine) given.others ∙ engine_before in
    let moments : asked.moments ≡ between.moments = ap (λ (s : PlainSettler). s.moments) hands.others ∙ ap (λ (s : PlainSettler). s.moments) given.others in
    let share : asked.share ≡ between.share = ap (λ (s : PlainSettler). s.share) hands.others ∙ ap (λ (s : PlainSettler). s.share) given.others in
    let records : asked.records ≡ before.records = ap (λ (s : PlainSettler). s.records) hands.others ∙ (ap (λ (s : PlainSettler). s.records) given.others ∙ records_before) in
    let closed : ClosesBy desk peer a said (verdict_by said) asked.moments after.moments (holding asked.share asked.records) (holding after.share after.records) turn =
    subst (λ (x : PlainAsking). ClosesBy desk x.peer (settlement_of x) said (verdict_by said) asked.moments after.moments (holding asked.share asked.records) (holding after.share after.records) turn) given.asks finishes.closed in
    let handed : Tells begun.engine (settlement_told desk peer a said) asked.engine =
    subst (λ (x : PlainAsking). Tells begun.engine (asking_told x said) asked.engine) given.asks hands.handed in
    record {
      kept = subst (λ k. IsHanded between.seen (Ok tt) k after.kept after.seen) kept_before
          (subst (λ k. IsHanded between.seen (Ok tt) between.kept k after.seen) (sym kept_after)
          (subst (λ s. IsHanded between.seen (Ok tt) between.kept begun.kept s) (sym seen_after) given.kept));
      said = said;
      handed = subst (λ t. Tells t (settlement_told desk peer a said) after.engine) engine_begun
          (subst (λ t. Tells begun.engine (settlement_told desk peer a said) t) (sym engine_after) handed);
      closed = subst (λ m. ClosesBy desk peer a said (verdict_by said) m after.moments (holding between.share before.records) (holding after.share after.records) turn) moments
          (subst (λ s. ClosesBy desk peer a said (verdict_by said) asked.moments after.moments (holding s before.records) (holding after.share after.records) turn) share
          (subst (λ r. ClosesBy desk peer a said (verdict_by said) asked.moments after.moments (holding asked.share r) (holding after.share after.records) turn) records closed));
      tried = tried_after ∙ (given.tried ∙ ap (λ t. with_tried t peer a.number) tried_before);
    }

-- a settlement that was given out, for which the engine was asked, and that was finished was a turn
pub turn_by_halves : (E : Type 0) (desk : PlainDesk) (peer : ℕ) (before begun asked after : PlainSettler) (engine : Option (List ToEngine)) (accounts : List Bool) (p : PlainAsking) (said : EngineReply) (turn : Turn)
    → IsKnowing peer before engine accounts → StartsAsking desk peer (knowing before engine accounts) begun p
    → IsEngineAsked p said begun asked → FinishesTurn desk p said asked after turn → Turns {E = E} desk peer before after (Ok turn)
turn_by_halves E desk peer before begun asked after engine accounts p said turn knows starts hands finishes =
    let between = starts.between in
    let a = starts.settlement in
    let s = starts.sought in
    let carries : CarriesOut desk peer before after engine a between.share between.moments between.seen turn =
    inl (settled_by_halves desk peer before between begun asked after engine accounts a p said turn s.others starts.given hands finishes) in
    let same : after.accounts ≡ accounts = ap (λ (x : PlainSettler). x.accounts) finishes.others
    ∙ (ap (λ (x : PlainSettler). x.accounts) hands.others ∙ (ap (λ (x : PlainSettler). x.accounts) starts.given.others ∙ ap (λ (x : PlainSettler). x.accounts) s.others)) in
    told_turn {E = E} desk peer before after turn (carries_a_settlement desk peer before after engine a between.share between.moments between.seen turn carries)
    (asked_turn E desk peer before between after engine accounts (Ok turn) (Ok a) knows s same
    (carried_on E desk peer before after engine between.share between.moments s.seen between.seen s.reply a turn s.finds carries))

-- ---- a turn that is over at once

-- what is left of a settler that did no more than seek
left_idle : (before between after : PlainSettler) (engine : Option (List ToEngine)) (accounts : List Bool)
    → between ≡ record (knowing before engine accounts) { share = between.share; moments = between.moments; seen = between.seen } → after ≡ between
    → IsIdle before after engine between.share between.moments between.seen
left_idle before between after engine accounts same is = record {
  same = is ∙ (same ∙ ap (λ c. settler between.share before.records between.moments engine c before.tried between.seen before.kept before.pending) (sym (ap (λ (x : PlainSettler). x.accounts) is ∙ ap (λ (x : PlainSettler). x.accounts) same)));
}

-- or that held the settlement back
left_unwritten : (before between after : PlainSettler) (engine : Option (List ToEngine)) (accounts : List Bool) (a : Asked) (turn : Turn)
    → between ≡ record (knowing before engine accounts) { share = between.share; moments = between.moments; seen = between.seen } → IsHeldBack between after a turn
    → IsUnwritten before after engine a between.share between.moments between.seen turn
left_unwritten before between after engine accounts a turn same held = record {
  why = held.why;
  kept = subst (λ k. IsHanded between.seen (Err held.why) k after.kept after.seen) (ap (λ (s : PlainSettler). s.kept) same) held.kept;
  same = held.others ∙ (ap (λ (s : PlainSettler). record s { seen = after.seen; kept = after.kept }) same
      ∙ ap (λ c. settler between.share before.records between.moments engine c before.tried after.seen after.kept before.pending) (sym (ap (λ (x : PlainSettler). x.accounts) held.others ∙ ap (λ (x : PlainSettler). x.accounts) same)));
  turn_is = held.turn_is;
}

-- a turn in which nothing was to be settled
idle_by : (E : Type 0) (desk : PlainDesk) (peer : ℕ) (before between after : PlainSettler) (engine : Option (List ToEngine)) (accounts : List Bool) (turn : Turn) (why : AskFault)
    → why ≢ ask_fault.Memory → IsKnowing peer before engine accounts → IsSeeking desk peer (knowing before engine accounts) between (Err why) → turn ≡ Idle why → after ≡ between
    → Turns {E = E} desk peer before after (Ok turn)
idle_by E desk peer before between after engine accounts turn why other knows s turn_is is =
    let same : after.accounts ≡ accounts = ap (λ (x : PlainSettler). x.accounts) is ∙ ap (λ (x : PlainSettler). x.accounts) s.others in
    subst (λ t. Turns {E = E} desk peer before after (Ok t)) (sym turn_is)
    (asked_turn E desk peer before between after engine accounts (Ok (Idle why)) (Err why) knows s same
    (idled E desk peer before after engine between.share between.moments s.seen between.seen s.reply why other s.finds (left_idle before between after engine accounts s.others is)))

-- what a turn is that is over before the engine is to be asked, by what was to be settled
over_by : (E : Type 0) (desk : PlainDesk) (peer : ℕ) (before between after : PlainSettler) (engine : Option (List ToEngine)) (accounts : List Bool) (turn : Turn) (found : Result Asked AskFault)
    → IsKnowing peer before engine accounts → IsSeeking desk peer (knowing before engine accounts) between found → IsOver between after turn found
    → Turns {E = E} desk peer before after (Ok turn)
over_by E desk peer before between after engine accounts turn (Ok a) knows s over =
    let carries : CarriesOut desk peer before after engine a between.share between.moments between.seen turn = inr (left_unwritten before between after engine accounts a turn s.others over) in
    let same : after.accounts ≡ accounts = ap (λ (x : PlainSettler). x.accounts) over.others ∙ ap (λ (x : PlainSettler). x.accounts) s.others in
    told_turn {E = E} desk peer before after turn (carries_a_settlement desk peer before after engine a between.share between.moments between.seen turn carries)
    (asked_turn E desk peer before between after engine accounts (Ok turn) (Ok a) knows s same
    (carried_on E desk peer before after engine between.share between.moments s.seen between.seen s.reply a turn s.finds carries))
over_by E desk peer before between after engine accounts turn (Err ask_fault.Memory) knows s over = absurd over
over_by E desk peer before between after engine accounts turn (Err (ask_fault.StillOpen n amount)) knows s over =
    idle_by E desk peer before between after engine accounts turn (ask_fault.StillOpen n amount) (λ (x : ◌≡◌ {A = AskFault} (ask_fault.StillOpen n amount) ask_fault.Memory). cc) knows s over.0 over.1
over_by E desk peer before between after engine accounts turn (Err (ask_fault.NotDue balance)) knows s over =
    idle_by E desk peer before between after engine accounts turn (ask_fault.NotDue balance) (λ (x : ◌≡◌ {A = AskFault} (ask_fault.NotDue balance) ask_fault.Memory). cc) knows s over.0 over.1
over_by E desk peer before between after engine accounts turn (Err ask_fault.Full) knows s over =
    idle_by E desk peer before between after engine accounts turn ask_fault.Full (λ (x : ◌≡◌ {A = AskFault} ask_fault.Full ask_fault.Memory). cc) knows s over.0 over.1

pub turn_over : (E : Type 0) (desk : PlainDesk) (peer : ℕ) (before after : PlainSettler) (engine : Option (List ToEngine)) (accounts : List Bool) (turn : Turn)
    → IsKnowing peer before engine accounts → EndsUnasked desk peer (knowing before engine accounts) after turn → Turns {E = E} desk peer before after (Ok turn)
turn_over E desk peer before after engine accounts turn knows ends = over_by E desk peer before ends.between after engine accounts turn ends.found knows ends.sought ends.over

-- ---- a turn without memory

pub turn_denied : (E : Type 0) (desk : PlainDesk) (peer : ℕ) (before after : PlainSettler) (engine : Option (List ToEngine)) (accounts : List Bool) (e : E)
    → IsKnowing peer before engine accounts → LacksMemory desk peer (knowing before engine accounts) after → IsErr {T = Turn} {E = E} (Err e) → Turns {E = E} desk peer before after (Err e)
turn_denied E desk peer before after engine accounts e knows (inl same) is = inl (record {
  account = subst (λ t. HasAccount (knows_account before.accounts peer) peer before.engine t) (sym (ap (λ (x : PlainSettler). x.engine) same)) knows.account;
  same = same ∙ (ap (λ t. knowing before t accounts) (sym (ap (λ (x : PlainSettler). x.engine) same)) ∙ ap (λ c. knowing before after.engine c) knows.accounts_are);
})
turn_denied E desk peer before after engine accounts e knows (inr s) is =
    inr (asked_turn E desk peer before after after engine accounts (Err e) (Err ask_fault.Memory) knows s (ap (λ (x : PlainSettler). x.accounts) s.others)
    (denied_on E desk peer before after engine after.share after.moments s.seen after.seen s.reply e s.finds (left_idle before after after engine accounts s.others refl) is))

-- ---- the account

-- what is known is so once it is noted
pub noted : (accounts : List Bool) (peer : ℕ) → knows_account accounts peer ≡ true → accounts ≡ with_account accounts peer
noted [] peer is = cc
noted (x ∷ xs) zero is = ap (λ y. y ∷ xs) is
noted (x ∷ xs) (suc peer) is = ap (λ ys. x ∷ ys) (noted xs peer is)

-- where the account is known, both halves make a turn
pub known_turn_by_halves : (E : Type 0) (desk : PlainDesk) (peer : ℕ) (before begun asked after : PlainSettler) (p : PlainAsking) (said : EngineReply) (turn : Turn)
    → knows_account before.accounts peer ≡ true → StartsAsking desk peer before begun p → IsEngineAsked p said begun asked → FinishesTurn desk p said asked after turn
    → Turns {E = E} desk peer before after (Ok turn)
known_turn_by_halves E desk peer before begun asked after p said turn knows starts hands finishes =
    let known : IsKnowing peer before before.engine before.accounts = record {
      account = subst (λ k. HasAccount k peer before.engine before.engine) (sym knows) refl;
      accounts_are = noted before.accounts peer knows;
    } in
    turn_by_halves E desk peer before begun asked after before.engine before.accounts p said turn known starts hands finishes
