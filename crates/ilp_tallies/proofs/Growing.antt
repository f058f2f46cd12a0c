-- The tallies of a journal, with what one more entry adds, are those of the longer journal.
use Rattle.std.proofs.Common.{◌≡◌, ℕ, ◌+◌, ◌<◌, cond, List, [], ◌∷◌, ◌++◌, length, All, refl, sym, ap, ◌∙◌, subst, arith, length-append}
use Rattle.std.specs.Prelude.{is_some}
use Rattle.std.proofs.lemmas.Bool.{le-leb}
use Rattle.std.proofs.lemmas.Int.{ints}
use Rattle.ilp_journal.specs.declared.entry.Entry.{Entry}
use Rattle.ilp_journal.specs.declared.entry.What.{What}
use Rattle.ilp_order.specs.Places.{Each}
use Rattle.ilp_journal.specs.Journal.{Entries, AnswersOnce, ClosesOnce, fulfilled, fulfilled_since}
use Rattle.ilp_journal.proofs.Growth.{balance-push, open_count-push}
use Rattle.ilp_journal.proofs.OpenGrowth.{open_holds-push}
use Rattle.ilp_journal.proofs.BooksGrowth.{held-push, fees-push, taken-push, sold-push, settled-push, total_in-push, total_out-push}
use Rattle.ilp_journal.proofs.Bases.{fulfilled_since-push}
use Rattle.ilp_tallies.specs.declared.rows.PeerRow.{PeerRow}
use Rattle.ilp_tallies.specs.declared.rows.AssetRow.{AssetRow}
use Rattle.ilp_tallies.specs.declared.step.Step.{Step}
use Rattle.ilp_tallies.specs.Rows.{peer_plus, asset_plus, peer_row, asset_row}
use Rattle.ilp_tallies.specs.Steps.{step_of}
use Rattle.ilp_tallies.specs.OpenAsks.{asks_after}
use Rattle.ilp_tallies.specs.Tallies.{PlainTallies, AreTallies, IsPeerRow, IsAssetRow, KnowsPeers, GrowsBy, with_step}
use Rattle.ilp_tallies.proofs.StepSums.{with_step_peer, with_step_asset, with_step_peers-length, with_step_sums-length}
use Rattle.ilp_tallies.proofs.AskLemmas.{open_asks_grow, asks_after-length}
use Rattle.ilp_tallies.proofs.StepLemmas.{peer_step, asset_step, peer_part_is, asset_part_is, IsStep, step_is, KnowsNamed, knows_named, knows_holds-push, knows_asks-push}

-- the tallies after an entry that comes next in the journal
abbrev pub with_entry : Entries → What → PlainTallies → PlainTallies
with_entry j w t = record (with_step t (step_of t.base j w)) { asks = asks_after t.asks j w }

module _ (j : Entries) (e : Entry) (answers : Each AnswersOnce j) (closings : Each ClosesOnce j) (answer : AnswersOnce j e) («closing» : ClosesOnce j e) where
  -- each number of a peer grows by what the entry does to it
  grown_peer : (p : ℕ) (r : PeerRow) → IsPeerRow j p r → IsPeerRow (j ++ e ∷ []) p (peer_plus r (peer_step j p e.what))
  grown_peer p r is = record {
    balance = omega (arith, ints, balance-push j e p answers closings answer «closing», is.balance);
    open_holds = omega (arith, open_holds-push j e p answers answer, is.open_holds);
  }

  -- each number of an asset grows by what the entry does to it
  grown_asset : (assets : List ℕ) (base x : ℕ) (r : AssetRow) → IsAssetRow assets base j x r
      → IsAssetRow assets base (j ++ e ∷ []) x (asset_plus r (asset_step assets base j x e.what))
  grown_asset assets base x r is = record {
    held = omega (arith, held-push assets j e x answers answer, is.held);
    taken = omega (arith, taken-push assets j e x answers answer, is.taken);
    fees = omega (arith, fees-push assets j e x answers answer, is.fees);
    sold = omega (arith, sold-push assets j e x answers answer, is.sold);
    settled = omega (arith, ints, settled-push assets j e x closings «closing», is.settled);
    total_in = omega (arith, total_in-push assets j e x base answers answer, is.total_in);
    total_out = omega (arith, total_out-push assets j e x base answers answer, is.total_out);
  }

  -- an entry that fulfills a hold counts since the beginning
  grown_fulfilled : fulfilled_since 0 (j ++ e ∷ []) ≡ fulfilled_since 0 j + cond (is_some (fulfilled e.what)) 1 0
  grown_fulfilled = fulfilled_since-push 0 j e ∙ rw (le-leb 0 (length j) (omega arith)) refl

  -- each row after the entry is what the longer journal comes to
  pub tallies_grow : (t : PlainTallies) → AreTallies t.assets t.base j t → KnowsPeers (length t.assets) e.what
      → AreTallies t.assets t.base (j ++ e ∷ []) (with_entry j e.what t)
  tallies_grow t are known =
      let s : Step = step_of t.base j e.what in
      let named : KnowsNamed (length t.assets) j e.what = knows_named (length t.assets) j are.knows_holds are.knows_asks e.what known in
      let is : IsStep (length t.assets) e.what s = step_is t.base j (length t.assets) e.what named answer «closing» in
      let Within : ℕ → Type 0 = λ n. All (λ asset. asset < n) t.assets in
      record {
        listed = are.listed;
        since = are.since;
        rows = with_step_peers-length t s ∙ are.rows;
        ask_rows = asks_after-length t.asks j e.what ∙ are.ask_rows;
        within = subst Within (sym (with_step_sums-length t s)) are.within;
        peers = λ p.
            let at : peer_row (with_step t s).peers p ≡ peer_plus (peer_row t.peers p) (peer_step j p e.what)
            = with_step_peer t s p (omega (arith, is.knows_from, are.rows)) (omega (arith, is.knows_to, are.rows))
            ∙ ap (peer_plus (peer_row t.peers p)) (peer_part_is t.base j p e.what) in
            subst (IsPeerRow (j ++ e ∷ []) p) (sym at) (grown_peer p (peer_row t.peers p) (are.peers p));
        asks = open_asks_grow t.asks j e are.asks (subst (λ n. KnowsNamed n j e.what) (sym are.ask_rows) named) closings «closing»;
        sums = λ x.
            let at : asset_row (with_step t s).sums x ≡ asset_plus (asset_row t.sums x) (asset_step t.assets t.base j x e.what)
            = with_step_asset t s x is.knows_from is.knows_to are.within
            ∙ ap (asset_plus (asset_row t.sums x)) (asset_part_is t.assets t.base j x e.what) in
            subst (IsAssetRow t.assets t.base (j ++ e ∷ []) x) (sym at) (grown_asset t.assets t.base x (asset_row t.sums x) (are.sums x));
        knows_holds = knows_holds-push (length t.assets) j are.knows_holds are.knows_asks e known;
        knows_asks = knows_asks-push (length t.assets) j are.knows_holds are.knows_asks e known;
        entries = omega (arith, are.entries, length-append j (e ∷ []));
        left_open = omega (arith, are.left_open, open_count-push j e answers closings answer «closing», is.opens, is.ends);
        fulfilled = omega (arith, are.fulfilled, grown_fulfilled, is.fulfills);
      }

-- the tallies after rows and counts were changed, and then the open settlements
pub with_entry_is : (t u v : PlainTallies) (s : Step) (base : ℕ) (j : Entries) (w : What) → base ≡ t.base → s ≡ step_of base j w
    → u ≡ with_step t s → v ≡ record u { asks = asks_after u.asks j w } → v ≡ with_entry j w t
with_entry_is t u v s base j w same step taken settled =
    settled ∙ ap (λ (x : PlainTallies). record x { asks = asks_after x.asks j w }) (taken ∙ ap (with_step t) (step ∙ ap (λ b. step_of b j w) same))

-- the assets and the base of tallies are those that they list themselves
pub own_tallies : (assets : List ℕ) (base : ℕ) (j : Entries) (t : PlainTallies) → AreTallies assets base j t → AreTallies t.assets t.base j t
own_tallies assets base j t are =
    subst (λ xs. AreTallies xs t.base j t) (sym are.listed) (subst (λ b. AreTallies assets b j t) (sym are.since) are)

-- to grow by an entry it is enough to do so with the assets and the base that they list themselves
pub grows_by : (t u : PlainTallies) (j : Entries) (e : Entry) → AreTallies t.assets t.base (j ++ e ∷ []) u → GrowsBy j e t u
grows_by t u j e own = λ assets base are.
    subst (λ xs. AreTallies xs base (j ++ e ∷ []) u) are.listed (subst (λ b. AreTallies t.assets b (j ++ e ∷ []) u) are.since own)

-- what adding the entry made are the tallies of the longer journal
pub tallies_next : (assets : List ℕ) (base : ℕ) (j longer : Entries) (e : Entry) (t u : PlainTallies) → AreTallies assets base j t → GrowsBy j e t u
    → longer ≡ j ++ e ∷ [] → AreTallies assets base longer u
tallies_next assets base j longer e t u are grows is = subst (λ es. AreTallies assets base es u) (sym is) (grows assets base are)
