-- What a turn of the settler comes to once the engine has the account.
use Rattle.std.proofs.Common.{◌≡◌, ◌≢◌, ℕ, ℤ, List, Option, Some, None, refl, ap, sym, subst, inl, inr}
use Rattle.std.specs.Prelude.{Result, Ok, Err, IsErr, ok_or, ⊤}
use Rattle.ilp_journal.specs.Journal.{Entries}
use Rattle.ilp_book.specs.declared.calls.Asked.{Asked}
use Rattle.ilp_book.specs.declared.fault.AskFault.{AskFault}
use Rattle.ilp_book.specs.declared.fault.AskFault.TheVariants as ask_fault
use Rattle.ilp_book.specs.declared.fault.NotOpen.{NotOpen}
use Rattle.ilp_settlement.specs.declared.verdict.EngineVerdict.{EngineVerdict}
use Rattle.ilp_desk.specs.Desk.{PlainDesk}
use Rattle.ilp_desk.specs.Portion.{Portion, Holding, holding}
use Rattle.ilp_link_traits.specs.declared.links.EngineReply.{EngineReply}
use Rattle.ilp_link_traits.specs.Links.{ToEngine}
use Rattle.ilp_settler.specs.declared.turn.Turn.{Turn}
use Rattle.ilp_settler.specs.declared.turn.Turn.TheVariants.{NoAccount, Idle, Withheld, Unwritten, Kept, Closed}
use Rattle.ilp_settler.specs.Settler.{PlainSettler, last_tried, verdict_by, turn_of_close, ClosesBy, IsIdle, CarriesOut, TakesUp, GoesOn, IsTurn, Turns}
use Rattle.ilp_settler.specs.Halves.{Finds}

-- ---- turns that tell of a settlement

-- a turn tells of a settlement, or why none was asked for
abbrev pub IsOfSettlement : Turn → Type 0
IsOfSettlement NoAccount = ⊥
IsOfSettlement Withheld = ⊥
IsOfSettlement (Idle fault) = ⊤
IsOfSettlement (Unwritten n amount) = ⊤
IsOfSettlement (Kept n amount said) = ⊤
IsOfSettlement (Closed n amount said) = ⊤

-- one in which the engine was asked for a settlement tells of that
closes_a_settlement : (desk : PlainDesk) (peer : ℕ) (a : Asked) (said : EngineReply) (verdict : Option EngineVerdict) (moments moments' : Option (List ℤ)) (before after : Holding) (told : Turn)
    → ClosesBy desk peer a said verdict moments moments' before after told → IsOfSettlement told
closes_a_settlement desk peer a said None moments moments' before after told c = subst IsOfSettlement (sym c.turn_is) tt
closes_a_settlement desk peer a said (Some verdict) moments moments' before after told c = subst IsOfSettlement (sym c.turn_is) (of c.reply)
  where
    of : (r : Result ℕ NotOpen) → IsOfSettlement (turn_of_close a said r)
    of (Ok entry) = tt
    of (Err fault) = tt

-- and so does a turn that carries one out
pub carries_a_settlement : (desk : PlainDesk) (peer : ℕ) (before after : PlainSettler) (engine : Option (List ToEngine)) (a : Asked) (share : Portion) (moments : Option (List ℤ)) (seen : Entries) (told : Turn)
    → CarriesOut desk peer before after engine a share moments seen told → IsOfSettlement told
carries_a_settlement desk peer before after engine a share moments seen told (inl s) =
    closes_a_settlement desk peer a s.said (verdict_by s.said) moments after.moments (holding share before.records) (holding after.share after.records) told s.closed
carries_a_settlement desk peer before after engine a share moments seen told (inr u) = subst IsOfSettlement (sym u.turn_is) tt

-- a turn that tells of a settlement, or why none was asked for, has had a book asked
pub told_turn : {E : Type 0} (desk : PlainDesk) (peer : ℕ) (before after : PlainSettler) (told : Turn)
    → IsOfSettlement told → IsTurn {E = E} desk peer before after (Ok told) → Turns {E = E} desk peer before after (Ok told)
told_turn desk peer before after NoAccount other turn = absurd other
told_turn desk peer before after Withheld other turn = absurd other
told_turn desk peer before after (Idle fault) other turn = turn
told_turn desk peer before after (Unwritten n amount) other turn = turn
told_turn desk peer before after (Kept n amount said) other turn = turn
told_turn desk peer before after (Closed n amount said) other turn = turn

-- ---- by what was found to be settled

-- a settlement that was found open is taken up
taken_up : (desk : PlainDesk) (peer : ℕ) (before after : PlainSettler) (engine : Option (List ToEngine)) (fault : AskFault) (share : Portion) (moments : Option (List ℤ)) (seen : Entries) (a : Asked) (told : Turn) (found : Option Asked)
    → ◌≡◌ {A = Result Asked AskFault} (Ok a) (ok_or found fault) → CarriesOut desk peer before after engine a share moments seen told → TakesUp desk peer before after engine fault share moments seen told found
taken_up desk peer before after engine fault share moments seen a told None is carries = cc
taken_up desk peer before after engine fault share moments seen a told (Some b) is carries =
    let same : a ≡ b = cc in
    subst (λ x. CarriesOut desk peer before after engine x share moments seen told) same carries

-- where none was, the turn tells why none was asked for
none_up : (desk : PlainDesk) (peer : ℕ) (before after : PlainSettler) (engine : Option (List ToEngine)) (fault why : AskFault) (share : Portion) (moments : Option (List ℤ)) (seen : Entries) (found : Option Asked)
    → ◌≡◌ {A = Result Asked AskFault} (Err why) (ok_or found fault) → IsIdle before after engine share moments seen → TakesUp desk peer before after engine fault share moments seen (Idle why) found
none_up desk peer before after engine fault why share moments seen None is idle = let same : why ≡ fault = cc in (idle, ap Idle same)
none_up desk peer before after engine fault why share moments seen (Some b) is idle = cc

-- a turn that carries out what was found
pub carried_on : (E : Type 0) (desk : PlainDesk) (peer : ℕ) (before after : PlainSettler) (engine : Option (List ToEngine)) (share : Portion) (moments : Option (List ℤ)) (seen seen' : Entries) (reply : Result Asked AskFault) (a : Asked) (told : Turn)
    → Finds desk peer (last_tried before.tried peer) seen seen' reply (Ok a) → CarriesOut desk peer before after engine a share moments seen' told
    → GoesOn {E = E} desk peer before after engine share moments seen (Ok told) reply
carried_on E desk peer before after engine share moments seen seen' (Ok b) a told finds carries =
    let is : ◌≡◌ {A = Result Asked AskFault} (Ok a) (Ok b) = finds.0 in
    let same : a ≡ b = cc in
    (told, subst (λ x. CarriesOut desk peer before after engine x share moments seen told) same (subst (λ s. CarriesOut desk peer before after engine a share moments s told) finds.1 carries), refl)
carried_on E desk peer before after engine share moments seen seen' (Err ask_fault.Memory) a told finds carries =
    let is : ◌≡◌ {A = Result Asked AskFault} (Ok a) (Err ask_fault.Memory) = finds.0 in
    cc
carried_on E desk peer before after engine share moments seen seen' (Err (ask_fault.StillOpen n amount)) a told finds carries =
    (told, record { found = finds.0; looked = seen'; chosen = finds.1; taken = taken_up desk peer before after engine (ask_fault.StillOpen n amount) share moments seen' a told finds.0 finds.2 carries }, refl)
carried_on E desk peer before after engine share moments seen seen' (Err (ask_fault.NotDue balance)) a told finds carries =
    (told, record { found = finds.0; looked = seen'; chosen = finds.1; taken = taken_up desk peer before after engine (ask_fault.NotDue balance) share moments seen' a told finds.0 finds.2 carries }, refl)
carried_on E desk peer before after engine share moments seen seen' (Err ask_fault.Full) a told finds carries =
    (told, record { found = finds.0; looked = seen'; chosen = finds.1; taken = taken_up desk peer before after engine ask_fault.Full share moments seen' a told finds.0 finds.2 carries }, refl)

-- one that found nothing
pub idled : (E : Type 0) (desk : PlainDesk) (peer : ℕ) (before after : PlainSettler) (engine : Option (List ToEngine)) (share : Portion) (moments : Option (List ℤ)) (seen seen' : Entries) (reply : Result Asked AskFault) (why : AskFault)
    → why ≢ ask_fault.Memory → Finds desk peer (last_tried before.tried peer) seen seen' reply (Err why) → IsIdle before after engine share moments seen'
    → GoesOn {E = E} desk peer before after engine share moments seen (Ok (Idle why)) reply
idled E desk peer before after engine share moments seen seen' (Ok b) why other finds idle =
    let is : ◌≡◌ {A = Result Asked AskFault} (Err why) (Ok b) = finds.0 in
    cc
idled E desk peer before after engine share moments seen seen' (Err ask_fault.Memory) why other finds idle =
    let is : ◌≡◌ {A = Result Asked AskFault} (Err why) (Err ask_fault.Memory) = finds.0 in
    let same : why ≡ ask_fault.Memory = cc in
    absurd (other same)
idled E desk peer before after engine share moments seen seen' (Err (ask_fault.StillOpen n amount)) why other finds idle =
    (Idle why, record { found = finds.0; looked = seen'; chosen = finds.1; taken = none_up desk peer before after engine (ask_fault.StillOpen n amount) why share moments seen' finds.0 finds.2 idle }, refl)
idled E desk peer before after engine share moments seen seen' (Err (ask_fault.NotDue balance)) why other finds idle =
    (Idle why, record { found = finds.0; looked = seen'; chosen = finds.1; taken = none_up desk peer before after engine (ask_fault.NotDue balance) why share moments seen' finds.0 finds.2 idle }, refl)
idled E desk peer before after engine share moments seen seen' (Err ask_fault.Full) why other finds idle =
    (Idle why, record { found = finds.0; looked = seen'; chosen = finds.1; taken = none_up desk peer before after engine ask_fault.Full why share moments seen' finds.0 finds.2 idle }, refl)

-- an open settlement is looked for only where memory is not what was missing
no_memory : (fault : AskFault) (found : Option Asked) → fault ≢ ask_fault.Memory → ◌≢◌ {A = Result Asked AskFault} (Err ask_fault.Memory) (ok_or found fault)
no_memory fault None other is = let same : fault ≡ ask_fault.Memory = cc in other same
no_memory fault (Some b) other is = cc

-- and one to whose book memory was denied
pub denied_on : (E : Type 0) (desk : PlainDesk) (peer : ℕ) (before after : PlainSettler) (engine : Option (List ToEngine)) (share : Portion) (moments : Option (List ℤ)) (seen seen' : Entries) (reply : Result Asked AskFault) (e : E)
    → Finds desk peer (last_tried before.tried peer) seen seen' reply (Err ask_fault.Memory) → IsIdle before after engine share moments seen' → IsErr {T = Turn} {E = E} (Err e)
    → GoesOn {E = E} desk peer before after engine share moments seen (Err e) reply
denied_on E desk peer before after engine share moments seen seen' (Ok b) e finds idle is =
    let no : ◌≡◌ {A = Result Asked AskFault} (Err ask_fault.Memory) (Ok b) = finds.0 in
    cc
denied_on E desk peer before after engine share moments seen seen' (Err ask_fault.Memory) e finds idle is =
    (subst (λ s. IsIdle before after engine share moments s) finds.1 idle, is)
denied_on E desk peer before after engine share moments seen seen' (Err (ask_fault.StillOpen n amount)) e finds idle is =
    absurd (no_memory (ask_fault.StillOpen n amount) finds.0 (λ (x : ◌≡◌ {A = AskFault} (ask_fault.StillOpen n amount) ask_fault.Memory). cc) finds.2)
denied_on E desk peer before after engine share moments seen seen' (Err (ask_fault.NotDue balance)) e finds idle is =
    absurd (no_memory (ask_fault.NotDue balance) finds.0 (λ (x : ◌≡◌ {A = AskFault} (ask_fault.NotDue balance) ask_fault.Memory). cc) finds.2)
denied_on E desk peer before after engine share moments seen seen' (Err ask_fault.Full) e finds idle is =
    absurd (no_memory ask_fault.Full finds.0 (λ (x : ◌≡◌ {A = AskFault} ask_fault.Full ask_fault.Memory). cc) finds.2)
