-- How a book's tables follow its journal.
use Rattle.std.proofs.Common.{◌≡◌, ℕ, ℤ, Bool, true, false, cond, List, [], ◌∷◌, ◌++◌, length, Option, Some, None, refl, sym, ap, ◌∙◌, subst, arith, zero-add}
use Rattle.std.specs.Prelude.{◌==◌, ◌&&◌, IsNone, IfSome, is_some, option_map, unwrap_or}
use Rattle.std.specs.Ordering.{nat_cmp}
use Rattle.std.specs.FinMap as fin_map
use Rattle.std.specs.FinMap.{FinMap, get-empty, get-insert, get-remove}
use Rattle.std.specs.Cmp.{unsigned_tied}
use Rattle.std.specs.Option.{option_or}
use Rattle.std.specs.Str.{bytes_eq}
use Rattle.std.proofs.lemmas.Bool.{eqb-true}
use Rattle.std.proofs.lemmas.List.{append-nil}
use Rattle.std.proofs.lemmas.Cmp.{nat_cmp_total}
use Rattle.std.proofs.lemmas.Slice.Eq.{bytes_eq-Decides}
use Rattle.ilp_accounts.specs.Configuration.{Configuration}
use Rattle.ilp_journal.specs.declared.entry.Entry.{Entry}
use Rattle.ilp_journal.specs.declared.entry.What.{What}
use Rattle.ilp_journal.specs.declared.entry.What.TheVariants as what
use Rattle.ilp_journal.specs.declared.entry.Hold.{Hold}
use Rattle.ilp_journal.specs.declared.entry.Credited.{Credited}
use Rattle.ilp_order.specs.Places.{Each}
use Rattle.ilp_journal.specs.Journal.{Entries, AnswersOnce, as_hold, answered, is_number, open_hold_at}
use Rattle.ilp_order.proofs.Sums.{first_from-append}
use Rattle.ilp_order.proofs.PlaceLemmas.{places-push}
use Rattle.ilp_journal.proofs.Growth.{open_hold_at-push}
use Rattle.ilp_holds.specs.Table.{Table}
use Rattle.ilp_tallies.specs.OpenAsks.{HasRoomToAsk}
use Rattle.ilp_tallies.specs.Tallies.{PlainTallies, AreTallies, KnowsPeers}
use Rattle.ilp_settlement.specs.KeyTable.{entry_of}
use Rattle.ilp_rules.specs.CreditTables.{PlainCredits, no_credits, credit_numbers, AreKept, KeepsKey}
use Rattle.ilp_rules.specs.Configured.{peer_assets}
use Rattle.ilp_journal.specs.Credits.{as_credit, has_key, kept_at}
use Rattle.ilp_rules.specs.Lawful.{KeepsRule}
use Rattle.ilp_rules.proofs.Known.{peers_listed}
use Rattle.ilp_rules.specs.Tables.{deadline_of, AreTables, AreOpen, FollowsHolds}

-- ---- at first

-- the tables of no entries
pub tables_new : (assets : List ℕ) (base : ℕ) (tallies : PlainTallies) (holds : Table) (keys : PlainCredits) → AreTallies assets base [] tallies → holds.map ≡ fin_map.empty → keys ≡ no_credits → AreTables assets base [] tallies holds keys
tables_new assets base tallies holds keys tallied empty none = record {
  tallied = tallied;
  open_holds = λ n. ap (λ (m : FinMap nat_cmp ℤ). fin_map.get m n) empty ∙ get-empty nat_cmp n;
  kept = record { under = λ peer key. ap (λ (t : PlainCredits). entry_of t.keys peer key) none; listed = ap (λ (t : PlainCredits). t.numbers) none };
}

-- ---- open holds

-- a table that follows the entry has the open holds after it
pub open_after : (j : Entries) (e : Entry) (old new : FinMap nat_cmp ℤ) → Each AnswersOnce j → AnswersOnce j e → AreOpen j old → FollowsHolds old new (length j) e.what → AreOpen (j ++ e ∷ []) new
open_after j e old new each last open_now follows n =
    follows n ∙ ap (λ o. cond (n == length j) (deadline_of (as_hold e.what)) (cond (is_number n (answered e.what)) None o)) (open_now n)
    ∙ told (n == length j) (is_number n (answered e.what)) (as_hold e.what) (open_hold_at j n)
    ∙ ap deadline_of (sym (open_hold_at-push j e n each last))
  where
    told : (a b : Bool) (h g : Option Hold) → cond a (deadline_of h) (cond b None (deadline_of g)) ≡ deadline_of (cond a h (cond b None g))
    told true b h g = refl
    told false true h g = refl
    told false false h g = refl

-- a hold that is added
pub follows_hold : (old : FinMap nat_cmp ℤ) (n : ℕ) (w : What) (h : Hold) → w ≡ what.Hold h → FollowsHolds old (fin_map.insert old n h.deadline) n w
follows_hold old n w h is k =
    subst (λ (v : What). fin_map.get (fin_map.insert old n h.deadline) k ≡ cond (k == n) (deadline_of (as_hold v)) (cond (is_number k (answered v)) None (fin_map.get old k))) (sym is)
    (get-insert nat_cmp_total old n h.deadline k ∙ ap (λ b. cond b (Some h.deadline) (fin_map.get old k)) (unsigned_tied k n))

-- a hold that is taken out
pub follows_answer : (old : FinMap nat_cmp ℤ) (n hold : ℕ) (w : What) → fin_map.get old n ≡ None → as_hold w ≡ None → answered w ≡ Some hold → FollowsHolds old (fin_map.remove old hold) n w
follows_answer old n hold w absent none names k =
    get-remove nat_cmp_total old hold k ∙ ap (λ b. cond b None (fin_map.get old k)) (unsigned_tied k hold)
    ∙ told (k == n) (eqb-true k n) (k == hold)
    ∙ ap (λ o. cond (k == n) (deadline_of o) (cond (k == hold) None (fin_map.get old k))) (sym none)
    ∙ ap (λ o. cond (k == n) (deadline_of (as_hold w)) (cond (is_number k o) None (fin_map.get old k))) (sym names)
  where
    nothing : (b : Bool) → ◌≡◌ {A = Option ℤ} (cond b None None) None
    nothing true = refl
    nothing false = refl

    told : (a : Bool) → (a ≡ true → k ≡ n) → (b : Bool) → cond b None (fin_map.get old k) ≡ cond a None (cond b None (fin_map.get old k))
    told true is b = ap (λ o. cond b None o) (ap (fin_map.get old) (is refl) ∙ absent) ∙ nothing b
    told false is b = refl

-- ---- keys

-- what stands under a key after one more entry
kept_at-push : (j : Entries) (e : Entry) (peer : ℕ) (key : List ℕ) → kept_at (j ++ e ∷ []) peer key ≡ option_or (kept_at j peer key) (cond (has_key peer key e.what) (Some (length j)) None)
kept_at-push j e peer key =
    first_from-append (λ _ (d : Entry). has_key peer key d.what) 0 j (e ∷ [])
    ∙ ap (λ n. option_or (kept_at j peer key) (cond (has_key peer key e.what) (Some n) None)) (zero-add (length j))

-- a credit under the key is of the peer, and has that key
has_key_parts : (w : What) (peer : ℕ) (key : List ℕ) → has_key peer key w ≡ true → (P : ℕ → List ℕ → Type 0) → IfSome (as_credit w) (λ (c : Credited). P c.peer c.key) → P peer key
has_key_parts w peer key = of (as_credit w)
  where
    both : (c : Credited) (a b : Bool) → (c.peer == peer) ≡ a → bytes_eq c.key key ≡ b → (a && b) ≡ true → (P : ℕ → List ℕ → Type 0) → P c.peer c.key → P peer key
    both c true true p k e P x = subst (λ q. P q key) (eqb-true c.peer peer p) (subst (P c.peer) ((bytes_eq-Decides c.key key).0 k) x)
    both c true false p k e P x = cc
    both c false b p k e P x = cc

    of : (o : Option Credited) → unwrap_or (option_map (λ (c : Credited). (c.peer == peer) && bytes_eq c.key key) o) false ≡ true → (P : ℕ → List ℕ → Type 0) → IfSome o (λ (c : Credited). P c.peer c.key) → P peer key
    of None e P x = cc
    of (Some c) e P x = both c (c.peer == peer) (bytes_eq c.key key) refl refl e P x

-- what a credit's key has before it
abbrev pub IsFresh : Entries → What → Type 0
IsFresh j w = IfSome (as_credit w) (λ (c : Credited). IsNone (kept_at j c.peer c.key))

-- a table that keeps the entry's key has the keys after it
pub kept_after : (j : Entries) (e : Entry) (old new : PlainCredits) → IsFresh j e.what → AreKept j old → KeepsKey old new (length j) e.what → AreKept (j ++ e ∷ []) new
kept_after j e old new fresh kept_now keeps = record {
  under = λ peer key.
      keeps.under peer key ∙ ap (λ o. cond (has_key peer key e.what) (Some (length j)) o) (kept_now.under peer key)
      ∙ by_test peer key (has_key peer key e.what) refl (kept_at j peer key) refl
      ∙ sym (kept_at-push j e peer key);
  listed =
      keeps.listed ∙ ap (λ (numbers : List ℕ). numbers ++ cond (is_some (as_credit e.what)) (length j ∷ []) []) kept_now.listed
      ∙ sym (places-push (λ _ (d : Entry). is_some (as_credit d.what)) 0 j e
      ∙ ap (λ n. credit_numbers j ++ cond (is_some (as_credit e.what)) (n ∷ []) []) (zero-add (length j)));
}
  where
    none_or : (o : Option ℕ) → o ≡ option_or o None
    none_or None = refl
    none_or (Some n) = refl

    of_none : (o : Option ℕ) → IsNone o → Some (length j) ≡ option_or o (Some (length j))
    of_none None none = refl
    of_none (Some n) none = cc

    by_test : (peer : ℕ) (key : List ℕ) (b : Bool) → has_key peer key e.what ≡ b → (o : Option ℕ) → kept_at j peer key ≡ o → cond b (Some (length j)) o ≡ option_or o (cond b (Some (length j)) None)
    by_test peer key true t o is = of_none o (subst IsNone is (has_key_parts e.what peer key t (λ p k. IsNone (kept_at j p k)) fresh))
    by_test peer key false t o is = none_or o

-- an entry that is no credit keeps no key
pub keeps_nothing : (keys : PlainCredits) (n : ℕ) (w : What) → as_credit w ≡ None → KeepsKey keys keys n w
keeps_nothing keys n w none = record {
  under = λ peer key. ap (λ o. cond (unwrap_or (option_map (λ (c : Credited). (c.peer == peer) && bytes_eq c.key key) o) false) (Some n) (entry_of keys.keys peer key)) (sym none);
  listed = sym (append-nil keys.numbers) ∙ ap (λ (o : Option Credited). keys.numbers ++ cond (is_some o) (n ∷ []) []) (sym none);
}

-- ---- what the rules say of an entry's peers

-- the peers of an entry that its rules allow are known
pub peers_known : (C : Configuration) (period base : ℕ) (j : Entries) (m : ℤ) (w : What) → KeepsRule C period base j m w → KnowsPeers (length (peer_assets C)) w
peers_known C period base j m (what.Hold h) rule = (rw (peers_listed C) rule.sender, rw (peers_listed C) rule.receiver)
peers_known C period base j m (what.Fulfilled hold preimage) rule = tt
peers_known C period base j m (what.Released hold cause) rule = tt
peers_known C period base j m (what.Credited c) rule = rw (peers_listed C) rule.known
peers_known C period base j m (what.Asked a) rule = rw (peers_listed C) rule.known
peers_known C period base j m (what.Confirmed ask) rule = tt
peers_known C period base j m (what.Undone ask) rule = tt
peers_known C period base j m (what.Opened peer balance) rule = rw (peers_listed C) rule.rule.0
peers_known C period base j m (what.Known c) rule = rw (peers_listed C) rule.rule.0
peers_known C period base j m (what.Pending peer amount key) rule = rw (peers_listed C) rule.rule.0

-- a settlement is opened where fewer are open than there is room for
pub room_to_ask : (C : Configuration) (period base : ℕ) (j : Entries) (m : ℤ) (w : What) → KeepsRule C period base j m w → HasRoomToAsk j w
room_to_ask C period base j m (what.Hold h) rule = tt
room_to_ask C period base j m (what.Fulfilled hold preimage) rule = tt
room_to_ask C period base j m (what.Released hold cause) rule = tt
room_to_ask C period base j m (what.Credited c) rule = tt
room_to_ask C period base j m (what.Asked a) rule = omega (arith, rule.few_open)
room_to_ask C period base j m (what.Confirmed ask) rule = tt
room_to_ask C period base j m (what.Undone ask) rule = tt
room_to_ask C period base j m (what.Opened peer balance) rule = tt
room_to_ask C period base j m (what.Known c) rule = tt
room_to_ask C period base j m (what.Pending peer amount key) rule = omega (arith, rule.rule.1)

-- a credit's key is not kept yet
pub key_fresh : (C : Configuration) (period base : ℕ) (j : Entries) (m : ℤ) (w : What) → KeepsRule C period base j m w → IsFresh j w
key_fresh C period base j m (what.Hold h) rule = tt
key_fresh C period base j m (what.Fulfilled hold preimage) rule = tt
key_fresh C period base j m (what.Released hold cause) rule = tt
key_fresh C period base j m (what.Credited c) rule = rule.fresh
key_fresh C period base j m (what.Asked a) rule = tt
key_fresh C period base j m (what.Confirmed ask) rule = tt
key_fresh C period base j m (what.Undone ask) rule = tt
key_fresh C period base j m (what.Opened peer balance) rule = tt
key_fresh C period base j m (what.Known c) rule = rule.rule.1
key_fresh C period base j m (what.Pending peer amount key) rule = tt
