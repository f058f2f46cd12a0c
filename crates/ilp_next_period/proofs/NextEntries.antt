-- The entries of a head, one by one: which comes next, by what was looked up.
use Rattle.std.proofs.Common.{◌≡◌, ℕ, zero, suc, ◌^◌, ℤ, pos, negsuc, Option, Some, None, w64, refl, sym, ap, ◌∙◌, subst, option_map, option_and_then, arith}
use Rattle.std.specs.Prelude.{FitsSigned, ◌≤ℤ◌, ◌<ℤ◌}
use Rattle.std.proofs.lemmas.Int.{ints}
use Rattle.ilp_lookup.specs.Texts.{IsPlaceOf}
use Rattle.ilp_accounts.specs.Configuration.{Configuration, peer_at, peer_names}
use Rattle.ilp_accounts.specs.Valid.{IsValid}
use Rattle.ilp_accounts.proofs.Lookups.{placed}
use Rattle.ilp_journal.specs.declared.entry.Entry.{Entry}
use Rattle.ilp_journal.specs.declared.entry.What.{What}
use Rattle.ilp_journal.specs.declared.entry.What.TheVariants as what
use Rattle.ilp_journal.specs.declared.entry.Ask.{Ask}
use Rattle.ilp_journal.specs.declared.entry.Credited.{Credited}
use Rattle.ilp_journal.specs.Journal.{ask_at, opening}
use Rattle.ilp_journal.specs.Balance.{balance}
use Rattle.ilp_journal.specs.Credits.{credit_at}
use Rattle.ilp_journal.specs.BroughtForward.{credited_to, earlier_place, head_entry, opening_of}
use Rattle.ilp_rules.specs.Book.{PlainBook}
use Rattle.ilp_rules.specs.Configured.{IsKnown}
use Rattle.ilp_rules.specs.SettlementKeys.{settlement_key_at}
use Rattle.ilp_next_period.specs.NextPeriod.{Leaves, MayFollow, next_credit, next_settlement, place_in_next, places_by_name}
use Rattle.ilp_next_period.proofs.PeerNames.{earlier_of, earlier_stands}

-- what is booked of an opening is the entry with it
pub entry_some : (m : ℤ) (o : Option What) (e : Entry) → Some e ≡ option_map (head_entry m) o → (o ≡ Some e.what) × (e ≡ head_entry m e.what)
entry_some m None e is = cc
entry_some m (Some w) e is =
    let same : e ≡ head_entry m w = cc in
    (ap (λ (d : Entry). Some d.what) (sym same), same ∙ ap (λ (d : Entry). head_entry m d.what) (sym same))

pub entry_none : (m : ℤ) (o : Option What) → None ≡ option_map (head_entry m) o → o ≡ None
entry_none m None is = refl
entry_none m (Some w) is = cc

-- it opens no settlement
pub opens_nothing : (q : ℕ) (b : ℤ) (w : What) → opening_of q b ≡ Some w → opening w ≡ 0
opens_nothing q (pos zero) w is = cc
opens_nothing q (pos (suc n)) w is = let same : what.Opened q (pos (suc n)) ≡ w = cc in ap opening (sym same)
opens_nothing q (negsuc n) w is = let same : what.Opened q (negsuc n) ≡ w = cc in ap opening (sym same)

-- the credit of a number, by its peer's place
module _ (book : PlainBook) (next : Configuration) (n : ℕ) where
  pub credit_placed : (c : Credited) (q : ℕ) → credit_at book.entries n ≡ Some c → place_in_next book.config next c.peer ≡ Some q → next_credit book next n ≡ Some (what.Known (credited_to q c))
  credit_placed c q is there =
      ap (option_and_then (λ (d : Credited). option_map (λ r. what.Known (credited_to r d)) (place_in_next book.config next d.peer))) is
      ∙ ap (option_map (λ r. what.Known (credited_to r c))) there

  pub credit_unplaced : (c : Credited) → credit_at book.entries n ≡ Some c → place_in_next book.config next c.peer ≡ None → next_credit book next n ≡ None
  credit_unplaced c is none =
      ap (option_and_then (λ (d : Credited). option_map (λ r. what.Known (credited_to r d)) (place_in_next book.config next d.peer))) is
      ∙ ap (option_map (λ r. what.Known (credited_to r c))) none

  pub no_credit : credit_at book.entries n ≡ None → next_credit book next n ≡ None
  no_credit none = ap (option_and_then (λ (d : Credited). option_map (λ r. what.Known (credited_to r d)) (place_in_next book.config next d.peer))) none

  abbrev placed_at : Ask → ℕ → What
  placed_at a q = what.Pending q a.amount (settlement_key_at book.config book.period book.entries n)

  pub ask_placed : (a : Ask) (q : ℕ) → ask_at book.entries n ≡ Some a → place_in_next book.config next a.peer ≡ Some q
      → next_settlement book next n ≡ Some (what.Pending q a.amount (settlement_key_at book.config book.period book.entries n))
  ask_placed a q is there =
      ap (option_and_then (λ (b : Ask). option_map (placed_at b) (place_in_next book.config next b.peer))) is ∙ ap (option_map (placed_at a)) there

  pub ask_unplaced : (a : Ask) → ask_at book.entries n ≡ Some a → place_in_next book.config next a.peer ≡ None → next_settlement book next n ≡ None
  ask_unplaced a is none =
      ap (option_and_then (λ (b : Ask). option_map (placed_at b) (place_in_next book.config next b.peer))) is ∙ ap (option_map (placed_at a)) none

  pub no_ask : ask_at book.entries n ≡ None → next_settlement book next n ≡ None
  no_ask none = ap (option_and_then (λ (b : Ask). option_map (placed_at b) (place_in_next book.config next b.peer))) none

-- where nothing comes next, nothing is left out
pub stays : (book : PlainBook) (next : Configuration) (now : ℤ) (first : Option What) (made : PlainBook) → first ≡ None → Leaves book next now first made made
stays book next now first made none left has = subst (λ (o : Option What). Leaves book next now o made made) (sym none) (λ l h. h) left has

-- ---- the balance that a peer had

-- a number between bounds of 64 bits has 64 bits
fits_between : (b least : ℤ) → FitsSigned w64 least → least ≤ℤ b → b <ℤ pos (2 ^ 63) → FitsSigned w64 b
fits_between (pos n) least fits low high = record { sfits = omega (arith, ints, high) }
fits_between (negsuc n) (pos m) fits low high = absurd (omega (arith, ints, low))
fits_between (negsuc n) (negsuc m) fits low high = record { sfits = omega (arith, ints, low, fits.sfits) }

-- a look-up by its name finds its earlier place
pub found_earlier : (C next : Configuration) (q : ℕ) (answer : Option ℕ) → IsKnown next q → IsPlaceOf (peer_names C.peers) (peer_at next q).name answer
    → answer ≡ earlier_place (places_by_name C next) q
found_earlier C next q answer known is = placed (peer_names C.peers) (peer_at next q).name answer is ∙ sym (earlier_of C next q known)

-- where the next period may begin, the balance there has 64 bits
pub balance_fits : (book : PlainBook) (next : Configuration) (q p : ℕ) → IsValid book.config → IsValid next → MayFollow book next → IsKnown next q
    → earlier_place (places_by_name book.config next) q ≡ Some p → FitsSigned w64 (peer_at next q).least → FitsSigned w64 (balance book.entries p)
balance_fits book next q p valid later may known is fits =
    let stands = earlier_stands book.config next valid later q p known is in
    let keeps = may.peers p stands.0 in
    fits_between (balance book.entries p) (peer_at next q).least fits (keeps.least q stands.1) keeps.told
