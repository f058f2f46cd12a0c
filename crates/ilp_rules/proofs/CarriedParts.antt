-- What the parts of a book keep while its entries are taken up.
use Rattle.std.proofs.Common.{◌≡◌, ℕ, ◌+◌, ◌^◌, ◌<◌, ◌≤◌, [], ◌∷◌, ◌++◌, length, None, refl, sym, ap, ◌∙◌, subst, arith, length-append}
use Rattle.ilp_accounts.specs.Configuration.{Configuration}
use Rattle.ilp_accounts.specs.Valid.{IsValid}
use Rattle.ilp_journal.specs.declared.entry.Entry.{Entry}
use Rattle.ilp_journal.specs.Booked.{Booked}
use Rattle.ilp_journal.specs.Journal.{open_hold_at, open_count, closing}
use Rattle.ilp_holds.specs.Table.{Table}
use Rattle.ilp_tallies.specs.Tallies.{PlainTallies, GrowsBy}
use Rattle.ilp_rules.specs.CreditTables.{PlainCredits, KeepsKey}
use Rattle.ilp_rules.specs.Book.{pushed}
use Rattle.ilp_rules.specs.Configured.{peer_assets}
use Rattle.ilp_rules.specs.Judging.{behind_all}
use Rattle.ilp_rules.specs.Lawful.{IsLawful}
use Rattle.ilp_rules.specs.Parts.{AreParts, AreCarried, book_of}
use Rattle.ilp_rules.specs.Tables.{deadline_of, AreTables}
use Rattle.ilp_rules.proofs.Keeping.{IsNext, next_by, end_frees, opens_at_most, opens_one, end_keeps, parts_new, rule_last}
use Rattle.ilp_rules.proofs.LawfulGrowth.{limits_now}
use Rattle.ilp_rules.proofs.TableSteps.{kept_after, key_fresh}

-- those of a book of no entries
pub carried_new : (C : Configuration) (period : ℕ) (journal : Booked) (tallies : PlainTallies) (holds : Table) (keys : PlainCredits) → IsValid C → period < 2 ^ 32 → journal.entries ≡ [] → journal.limit ≡ C.settings.journal
    → AreTables (peer_assets C) behind_all [] tallies holds keys → AreCarried C period journal tallies holds keys
carried_new C period journal tallies holds keys valid numbered empty limited tabled =
    let parts = parts_new C period behind_all journal tallies holds keys valid numbered empty limited tabled in
    record {
      valid = valid;
      lawful = parts.lawful;
      limited = limited;
      tallied = parts.tabled.tallied;
      kept = parts.tabled.kept;
      none = λ n. tabled.open_holds n;
      room = parts.room;
    }

-- ---- one entry more

-- an entry that may come next fits
pub carried_fits : (C : Configuration) (period : ℕ) (journal : Booked) (tallies : PlainTallies) (holds : Table) (keys : PlainCredits) (e : Entry) → AreCarried C period journal tallies holds keys → IsLawful (pushed (book_of C period behind_all journal) e)
    → length journal.entries < journal.limit
carried_fits C period journal tallies holds keys e parts after =
    omega (arith, (limits_now (pushed (book_of C period behind_all journal) e) after).room, length-append journal.entries (e ∷ []), parts.limited)

-- the tallies may take it up
pub carried_next : (C : Configuration) (period : ℕ) (journal : Booked) (tallies : PlainTallies) (holds : Table) (keys : PlainCredits) (e : Entry) → AreCarried C period journal tallies holds keys → IsLawful (pushed (book_of C period behind_all journal) e)
    → IsNext journal.entries tallies holds.map e
carried_next C period journal tallies holds keys e parts after =
    next_by C period behind_all journal tallies holds.map e parts.valid parts.lawful after (omega (arith, carried_fits C period journal tallies holds keys e parts after, parts.limited)) parts.tallied (parts.none (length journal.entries))

-- the parts with it
with_next : (C : Configuration) (period : ℕ) (before after : Booked) (tallies tallied : PlainTallies) (holds those : Table) (keys kept : PlainCredits) (e : Entry) → AreCarried C period before tallies holds keys → IsLawful (pushed (book_of C period behind_all before) e)
    → after.entries ≡ before.entries ++ e ∷ [] → after.limit ≡ before.limit → open_count (before.entries ++ e ∷ []) ≤ after.spare
    → GrowsBy before.entries e tallies tallied → those.map ≡ holds.map → KeepsKey keys kept (length before.entries) e.what → AreCarried C period after tallied those kept
with_next C period before after tallies tallied holds those keys kept e parts lawful grown limit room grows same keeps =
    let j = before.entries in
    let book = book_of C period behind_all before in
    record {
      valid = parts.valid;
      lawful = rw grown lawful;
      limited = limit ∙ parts.limited;
      tallied = rw grown (grows (peer_assets C) behind_all parts.tallied);
      kept = rw grown (kept_after j e keys kept (key_fresh C period behind_all j e.moment e.what (rule_last book e lawful)) parts.kept keeps);
      none = rw same parts.none;
      room = rw grown room;
    }

-- where room was made for it
pub carried_grown : (C : Configuration) (period : ℕ) (before between after : Booked) (tallies same tallied : PlainTallies) (holds those : Table) (keys kept : PlainCredits) (e : Entry) → AreCarried C period before tallies holds keys → IsLawful (pushed (book_of C period behind_all before) e)
    → between.entries ≡ before.entries → after.entries ≡ between.entries ++ e ∷ [] → open_count before.entries + 1 ≤ after.spare → after.limit ≡ before.limit
    → same ≡ tallies → GrowsBy between.entries e same tallied → those.map ≡ holds.map → KeepsKey keys kept (length before.entries) e.what → AreCarried C period after tallied those kept
carried_grown C period before between after tallies same tallied holds those keys kept e parts lawful entries grown room limit listed grows held keeps =
    let counted = opens_at_most (book_of C period behind_all before) e parts.lawful lawful in
    with_next C period before after tallies tallied holds those keys kept e parts lawful (grown ∙ ap (λ es. es ++ e ∷ []) entries) limit (omega (arith, counted, opens_one e.what, room))
    (subst (λ (t : PlainTallies). GrowsBy before.entries e t tallied) listed (subst (λ es. GrowsBy es e same tallied) entries grows)) held keeps

-- ---- one that ends something

-- it has its room
pub carried_end_fits : (C : Configuration) (period : ℕ) (journal : Booked) (tallies : PlainTallies) (holds : Table) (keys : PlainCredits) (e : Entry) → AreCarried C period journal tallies holds keys → IsLawful (pushed (book_of C period behind_all journal) e) → closing e.what ≡ 1
    → 1 ≤ journal.spare
carried_end_fits C period journal tallies holds keys e parts after one =
    omega (arith, end_frees (book_of C period behind_all journal) e parts.lawful after one, parts.room)

-- the parts with it
pub carried_closed : (C : Configuration) (period : ℕ) (before after : Booked) (tallies tallied : PlainTallies) (holds : Table) (keys : PlainCredits) (e : Entry) → AreCarried C period before tallies holds keys → IsLawful (pushed (book_of C period behind_all before) e)
    → closing e.what ≡ 1 → after.entries ≡ before.entries ++ e ∷ [] → after.spare + 1 ≡ before.spare → after.limit ≡ before.limit → GrowsBy before.entries e tallies tallied → AreCarried C period after tallied holds keys
carried_closed C period before after tallies tallied holds keys e parts lawful one grown used limit grows =
    with_next C period before after tallies tallied holds holds keys keys e parts lawful grown limit (omega (arith, end_frees (book_of C period behind_all before) e parts.lawful lawful one, used, parts.room)) grows refl
    (end_keeps keys (length before.entries) e.what one)

-- ---- the book that is made of them

-- where no hold is open any more
pub carried_parts : (C : Configuration) (period : ℕ) (journal : Booked) (tallies : PlainTallies) (holds : Table) (keys : PlainCredits) → AreCarried C period journal tallies holds keys → ((n : ℕ) → open_hold_at journal.entries n ≡ None)
    → AreParts C period behind_all journal tallies holds keys
carried_parts C period journal tallies holds keys parts ended = record {
  valid = parts.valid;
  lawful = parts.lawful;
  limited = parts.limited;
  tabled = record {
    tallied = parts.tallied;
    open_holds = λ n. parts.none n ∙ sym (ap deadline_of (ended n));
    kept = parts.kept;
  };
  room = parts.room;
}
