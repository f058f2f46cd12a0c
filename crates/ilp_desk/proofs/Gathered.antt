-- Ends that are whole add up to what was booked since the opening.
use Rattle.std.proofs.Common.{◌≡◌, ℕ, zero, suc, ◌+◌, ◌≤◌, true, false, cond, List, [], ◌∷◌, ◌++◌, length, take, drop, Option, Some, None, option_to_list, refl, sym, ap, ◌∙◌, subst, append_assoc, append-nil, arith}
use Rattle.std.specs.Prelude.{slice_get, All, sum_by, unwrap_or, option_map, is_some, nat_le, ◌&&◌, IsSome, IsNone, IfSome}
use Rattle.std.proofs.lemmas.Bool.{le-leb, lt-leb}
use Rattle.std.proofs.lemmas.List.{take-append-drop}
use Rattle.std.proofs.lemmas.List.Sums.{sum_by-cons, sum_by-append}
use Rattle.ilp_journal.specs.declared.entry.Entry.{Entry}
use Rattle.ilp_journal.specs.declared.entry.What.{What}
use Rattle.ilp_journal.specs.declared.entry.What.TheVariants as what
use Rattle.ilp_journal.specs.declared.entry.Cause.{Cause}
use Rattle.ilp_journal.specs.declared.entry.Cause.TheVariants as cause
use Rattle.ilp_journal.specs.declared.entry.Hold.{Hold}
use Rattle.ilp_order.specs.Places.{sum_from, EachAfter, Each}
use Rattle.ilp_journal.specs.Journal.{Entries, hold_at, ask_at, answered, fulfilled, answer_of, AnswersOnce, fulfilled_since}
use Rattle.ilp_journal.specs.TrialBalance.{amount_in, amount_out, of_named, has_asset}
use Rattle.ilp_journal.proofs.Naming.{hold_at-append}
use Rattle.ilp_book.specs.Book.{PlainBook}
use Rattle.ilp_book.specs.Configured.{peer_assets}
use Rattle.ilp_rules.proofs.Rules.{answers_once}
use Rattle.ilp_settlement.specs.declared.verdict.EngineVerdict.TheVariants as engine
use Rattle.ilp_desk.specs.declared.record.Record.{Record}
use Rattle.ilp_desk.specs.declared.record.Recorded.{Recorded}
use Rattle.ilp_desk.specs.declared.record.AnsweredHold.{AnsweredHold}
use Rattle.ilp_desk.specs.declared.record.HoldEnd.TheVariants.{Fulfilled, Released}
use Rattle.ilp_desk.specs.declared.gathering.WhyNotGathered.{WhyNotGathered}
use Rattle.ilp_desk.specs.declared.gathering.WhyNotGathered.TheVariants.{Double, Missing, Disagrees}
use Rattle.ilp_desk.specs.Desk.{PlainDesk, IsActor, IsBookOf, actors_of}
use Rattle.ilp_desk.specs.Portion.{Holding}
use Rattle.ilp_desk.specs.Records.{answered_hold, closed, record_of}
use Rattle.ilp_desk.specs.Totals.{of_packet, sum_of_packets, sum_of_fulfilled}
use Rattle.ilp_desk.specs.Gathering.{IsGathered, IsWhole, IsWhyNotGathered, holders, records_of}
use Rattle.ilp_desk.proofs.Splits.{All-first, All-rest, listed, split, sum_by_same}

-- ---- what records tell of what was fulfilled

-- f of a hold is what g is of the record of its fulfillment
module _ (f : Hold → ℕ) (g : AnsweredHold → ℕ) (tells : (n : ℕ) (h : Hold) → of_packet g (answered_hold n Fulfilled h) ≡ f h) (j : Entries) where
  -- what a record weighs
  abbrev weight : Record → ℕ
  weight r = of_packet g r.what

  -- what is kept of a hold that ended, or of a settlement that was closed
  kept : {X : Type 0} (n : ℕ) (told : X → Recorded) (value : X → ℕ) (o : Option X) → ((x : X) → of_packet g (told x) ≡ value x)
      → sum_by weight (option_to_list (option_map (λ (r : Recorded). record { number = n; what = r }) (option_map told o))) ≡ unwrap_or (option_map value o) 0
  kept n told value None same = refl
  kept n told value (Some x) same = omega (arith, same x, sum_by-cons weight (record { number = n; what = told x }) [])

  -- where nothing of it counts
  nothing : {X : Type 0} (o : Option X) → ◌≡◌ {A = ℕ} (unwrap_or (option_map (λ (x : X). 0) o) 0) 0
  nothing None = refl
  nothing (Some x) = refl

  -- an entry's record tells what it fulfilled
  of_entry : (n : ℕ) (e : Entry) → sum_by weight (option_to_list (record_of j n e)) ≡ of_named j f (fulfilled e.what)
  of_entry n e = of e.what
    where
      released_as : (hold : ℕ) (c : Cause) → sum_by weight (option_to_list (option_map (λ (r : Recorded). record { number = n; what = r }) (option_map (answered_hold hold (Released c)) (hold_at j hold)))) ≡ 0
      released_as hold c = kept n (answered_hold hold (Released c)) (λ _. 0) (hold_at j hold) (λ h. refl) ∙ nothing (hold_at j hold)

      of : (w : What) → sum_by weight (option_to_list (record_of j n (record e { what = w }))) ≡ of_named j f (fulfilled w)
      of (what.Hold h) = refl
      of (what.Fulfilled hold preimage) = kept n (answered_hold hold Fulfilled) f (hold_at j hold) (tells hold)
      of (what.Released hold cause.Late) = refl
      of (what.Released hold cause.WrongPreimage) = released_as hold cause.WrongPreimage
      of (what.Released hold cause.NoReply) = released_as hold cause.NoReply
      of (what.Released hold (cause.Peer code)) = released_as hold (cause.Peer code)
      of (what.Released hold cause.Restart) = released_as hold cause.Restart
      of (what.Credited c) = refl
      of (what.Asked a) = refl
      of (what.Confirmed ask) = kept n (closed ask engine.Accepted) (λ _. 0) (ask_at j ask) (λ a. refl) ∙ nothing (ask_at j ask)
      of (what.Undone ask) = kept n (closed ask engine.Refused) (λ _. 0) (ask_at j ask) (λ a. refl) ∙ nothing (ask_at j ask)
      of (what.Opened peer balance) = refl
      of (what.Known c) = refl
      of (what.Pending peer amount key) = refl

  -- all records tell what was fulfilled
  of_entries : (n : ℕ) (es : Entries) → sum_by weight (listed j (λ _. true) n es) ≡ sum_by (λ (e : Entry). of_named j f (fulfilled e.what)) es
  of_entries n [] = refl
  of_entries n (e ∷ es) =
      omega (
        arith,
        sum_by-append weight (option_to_list (record_of j n e)) (listed j (λ _. true) (n + 1) es),
        of_entry n e,
        of_entries (n + 1) es,
        sum_by-cons (λ (d : Entry). of_named j f (fulfilled d.what)) e es,
      )

-- ---- how many were fulfilled

-- a fulfilled hold counts once, since it stands in the journal
counts_one : (j more : Entries) (w : What) → IfSome (answered w) (λ n. IsSome (hold_at j n) × IsNone (answer_of j n))
    → of_named (j ++ more) (λ _. 1) (fulfilled w) ≡ cond (is_some (fulfilled w)) 1 0
counts_one j more (what.Hold h) once = refl
counts_one j more (what.Fulfilled hold preimage) once =
    ap (λ o. unwrap_or (option_map (λ (h : Hold). 1) o) 0) (hold_at-append j more hold once.0) ∙ one (hold_at j hold) once.0
  where
    one : (o : Option Hold) → IsSome o → ◌≡◌ {A = ℕ} (unwrap_or (option_map (λ (h : Hold). 1) o) 0) 1
    one None stands = absurd cc
    one (Some h) stands = refl
counts_one j more (what.Released hold c) once = refl
counts_one j more (what.Credited c) once = refl
counts_one j more (what.Asked a) once = refl
counts_one j more (what.Confirmed ask) once = refl
counts_one j more (what.Undone ask) once = refl
counts_one j more (what.Opened peer balance) once = refl
counts_one j more (what.Known c) once = refl
counts_one j more (what.Pending peer amount key) once = refl

count_after : (before es : Entries) → EachAfter AnswersOnce before es → (j : Entries) → j ≡ before ++ es
    → sum_by (λ (e : Entry). of_named j (λ _. 1) (fulfilled e.what)) es ≡ sum_by (λ (e : Entry). cond (is_some (fulfilled e.what)) 1 0) es
count_after before [] each j is = refl
count_after before (e ∷ es) each j is =
    let here : of_named j (λ _. 1) (fulfilled e.what) ≡ cond (is_some (fulfilled e.what)) 1 0
    = ap (λ k. of_named k (λ _. 1) (fulfilled e.what)) is ∙ counts_one before (e ∷ es) e.what each.0 in
    let rest = count_after (before ++ e ∷ []) es each.1 j (is ∙ sym (append_assoc before (e ∷ []) es)) in
    omega (
      arith,
      here,
      rest,
      sum_by-cons (λ (d : Entry). of_named j (λ _. 1) (fulfilled d.what)) e es,
      sum_by-cons (λ (d : Entry). cond (is_some (fulfilled d.what)) 1 0) e es,
    )

-- what holds of each element of a list holds of each of what follows a front
EachAfter-rest : {X : Type 0} (P : List X → X → Type 0) (before xs ys : List X) → EachAfter P before (xs ++ ys) → EachAfter P (before ++ xs) ys
EachAfter-rest P before [] ys each = subst (λ l. EachAfter P l ys) (sym (append-nil before)) each
EachAfter-rest P before (x ∷ xs) ys each =
    subst (λ l. EachAfter P l ys) (append_assoc before (x ∷ []) xs) (EachAfter-rest P (before ++ x ∷ []) xs ys each.1)

-- the count from a place on, by place and by what follows
count_all : (base n : ℕ) (es : Entries) → base ≤ n
    → sum_from (λ k (e : Entry). cond (nat_le base k && is_some (fulfilled e.what)) 1 0) n es ≡ sum_by (λ (e : Entry). cond (is_some (fulfilled e.what)) 1 0) es
count_all base n [] low = refl
count_all base n (e ∷ es) low =
    let here : ◌≡◌ {A = ℕ} (cond (nat_le base n && is_some (fulfilled e.what)) 1 0) (cond (is_some (fulfilled e.what)) 1 0)
    = ap (λ b. cond (b && is_some (fulfilled e.what)) 1 0) (le-leb base n low) in
    omega (arith, here, count_all base (n + 1) es (omega arith), sum_by-cons (λ (d : Entry). cond (is_some (fulfilled d.what)) 1 0) e es)

count_from : (base n i : ℕ) (es : Entries) → n + i ≡ base
    → sum_from (λ k (e : Entry). cond (nat_le base k && is_some (fulfilled e.what)) 1 0) n es ≡ sum_by (λ (e : Entry). cond (is_some (fulfilled e.what)) 1 0) (drop i es)
count_from base n zero es at = count_all base n es (omega arith)
count_from base n (suc i) [] at = refl
count_from base n (suc i) (e ∷ es) at =
    let here : ◌≡◌ {A = ℕ} (cond (nat_le base n && is_some (fulfilled e.what)) 1 0) 0
    = ap (λ b. cond (b && is_some (fulfilled e.what)) 1 0) (lt-leb base n (omega arith)) in
    omega (arith, here, count_from base (n + 1) i es (omega arith))

-- so many entries fulfill a hold since a place
pub count_since : (base : ℕ) (j : Entries) → Each AnswersOnce j → sum_of_fulfilled (λ _. 1) base j ≡ fulfilled_since base j
count_since base j each =
    let parts = take-append-drop base j in
    count_after (take base j) (drop base j) (EachAfter-rest AnswersOnce [] (take base j) (drop base j) (subst (Each AnswersOnce) (sym parts) each)) j (sym parts)
    ∙ sym (count_from base 0 base j (omega arith))

-- ---- the whole

module _ (desk : PlainDesk) (book : PlainBook) (ends : List Holding) (of_desk : IsBookOf desk book) (whole : IsWhole desk book ends) where
  -- the actors of what was booked since the base are known
  acted : All (λ (e : Entry). IsActor desk e.actor) (drop book.base book.entries)
  acted = subst (λ b. All (λ (e : Entry). IsActor desk e.actor) (drop b book.entries)) (sym of_desk.base) of_desk.acted

  -- the ends tell what was fulfilled
  adds : (f : Hold → ℕ) (g : AnsweredHold → ℕ) → ((n : ℕ) (h : Hold) → of_packet g (answered_hold n Fulfilled h) ≡ f h)
      → sum_by (λ (h : Holding). sum_of_packets g h.records) ends ≡ sum_of_fulfilled f book.base book.entries
  adds f g tells =
      let w : Record → ℕ = λ r. of_packet g r.what in
      sum_by_same (λ (h : Holding). sum_by w h.records) (λ (h : Holding). sum_by w (records_of book h.share.actor)) ends (λ k d less. ap (sum_by w) (whole.records k d less))
      ∙ split w book.entries (actors_of desk) ends whole.once book.base (drop book.base book.entries) acted
      ∙ of_entries f g tells book.entries book.base (drop book.base book.entries)

  pub gathered : sum_by (λ (h : Holding). h.share.entries) ends + book.base ≡ length book.entries → IsGathered desk book ends
  gathered added = record {
    whole = whole;
    entries_add = added;
    packets_add = adds (λ _. 1) (λ _. 1) (λ n h. refl) ∙ count_since book.base book.entries (answers_once book of_desk.lawful);
    in_adds = λ asset. adds (amount_in (peer_assets book.config) asset) (λ h. cond (has_asset (peer_assets book.config) asset h.from) h.amount 0) (λ n h. refl);
    out_adds = λ asset. adds (amount_out (peer_assets book.config) asset) (λ h. cond (has_asset (peer_assets book.config) asset h.to) h.out 0) (λ n h. refl);
  }

-- ---- why not

-- what holds of each element holds of the one at a place
at_place : {X : Type 0} (P : X → Type 0) (xs : List X) (k : ℕ) (x : X) → slice_get xs k ≡ Some x → All P xs → P x
at_place P [] k x at all = absurd cc
at_place P (y ∷ ys) zero x at all = subst P (cc) (All-first P y ys all)
at_place P (y ∷ ys) (suc k) x at all = at_place P ys k x at (All-rest P y ys all)

-- where each actor has one end, one can only disagree
pub only_disagrees : (desk : PlainDesk) (book : PlainBook) (ends : List Holding) (why : WhyNotGathered) → ((actor : ℕ) → IsActor desk actor → holders actor ends ≡ 1)
    → IsWhyNotGathered desk book ends why → (actor : ℕ) × (why ≡ Disagrees actor)
only_disagrees desk book ends (Double actor) once is = absurd (omega (arith, is.several, once actor is.known))
only_disagrees desk book ends (Missing actor) once is = absurd (omega (arith, is.none, once actor is.known))
only_disagrees desk book ends (Disagrees actor) once is = (actor, refl)

-- and where each has kept its records, none does
pub never_whole : (desk : PlainDesk) (book : PlainBook) (ends : List Holding) (why : WhyNotGathered) → IsWhole desk book ends → IsWhyNotGathered desk book ends why → ⊥
never_whole desk book ends (Double actor) whole is = absurd (omega (arith, is.several, whole.once actor is.known))
never_whole desk book ends (Missing actor) whole is = absurd (omega (arith, is.none, whole.once actor is.known))
never_whole desk book ends (Disagrees actor) whole is =
    let other = is.differs in
    other.other (at_place (λ (h : Holding). h.records ≡ records_of book h.share.actor) ends other.place other.there other.stands whole.records ∙ ap (records_of book) other.is_of)
