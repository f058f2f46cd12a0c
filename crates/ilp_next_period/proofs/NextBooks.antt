-- What is brought forward of an asset is the sum of the balances in it.
use Rattle.std.proofs.Common.{◌≡◌, ◌≢◌, inl, inr, ℕ, ◌+◌, ◌<◌, ◌≤◌, ℤ, pos, ◌+ℤ◌, ◌-ℤ◌, Bool, true, false, cond, List, [], ◌∷◌, ◌++◌, map, length, Option, Some, None, refl, sym, ap, ap₂, ◌∙◌, subst, arith, slice_get, option_map, option_and_then, unwrap_or, IfSome, ◌==◌, ◌&&◌}
use Rattle.std.specs.Str.{bytes_eq}
use Rattle.std.proofs.lemmas.Bool.{eqb-true, ne_eqb, eq-eqb, cases_lt}
use Rattle.std.proofs.lemmas.Int.{ints}
use Rattle.std.proofs.lemmas.Option.{slice_get-map}
use Rattle.std.proofs.lemmas.Slice.Eq.{bytes_eq-Decides}
use Rattle.ilp_assets.specs.Assets.{PlainAsset, asset_at, is_asset}
use Rattle.ilp_accounts.specs.Configuration.{Configuration, PlainPeer, peer_at}
use Rattle.ilp_accounts.specs.Valid.{IsValid}
use Rattle.ilp_journal.specs.declared.entry.Entry.{Entry}
use Rattle.ilp_journal.specs.declared.entry.What.{What}
use Rattle.ilp_journal.specs.declared.entry.What.TheVariants as what
use Rattle.ilp_journal.specs.declared.entry.Hold.{Hold}
use Rattle.ilp_journal.specs.declared.entry.Ask.{Ask}
use Rattle.ilp_order.specs.Places.{Each, int_sum_from}
use Rattle.ilp_journal.specs.Journal.{Entries, hold_at, ask_at, as_hold, as_ask}
use Rattle.ilp_journal.specs.Credits.{raising, lowering}
use Rattle.ilp_journal.specs.Balance.{above, below, balance, rise, fall}
use Rattle.ilp_journal.specs.TrialBalance.{balances}
use Rattle.ilp_journal.specs.BroughtForward.{next_place, KeepsPeers}
use Rattle.ilp_order.proofs.Sums.{by_push, Each-parts, Each-each}
use Rattle.ilp_journal.proofs.Growth.{balance-push}
use Rattle.ilp_journal.proofs.HeadBooks.{balances_brought_forward_sum}
use Rattle.ilp_journal.proofs.Heads.{next_stands}
use Rattle.ilp_journal.proofs.Naming.{hold_at-push, ask_at-push}
use Rattle.ilp_tallies.specs.Tallies.{KnowsHold, KnowsAsk, KnowsPeers}
use Rattle.ilp_rules.specs.Book.{PlainBook}
use Rattle.ilp_rules.specs.Configured.{IsKnown, peer_assets}
use Rattle.ilp_rules.specs.Lawful.{IsLawful, KeepsRuleOf}
use Rattle.ilp_rules.proofs.Known.{peers_listed, peer_stands}
use Rattle.ilp_rules.proofs.Rules.{rule_answers, rule_closes}
use Rattle.ilp_rules.proofs.TableSteps.{peers_known}
use Rattle.ilp_next_period.specs.NextPeriod.{period_end, next_head, places_by_name, peer_asset, asset_balances, MayFollow}
use Rattle.ilp_next_period.proofs.PeerNames.{earlier_stands, known_place}

-- ---- nothing is owed to whom no entry names

module _ (book : PlainBook) (p : ℕ) (unknown : length book.config.peers ≤ p) where
  abbrev count : ℕ
  count = length (peer_assets book.config)

  -- whatever entries name is of known peers, and nothing is owed to another
  record Knows (j : Entries) : Type 0 where
    zero : balance j p ≡ pos 0
    holds : (n : ℕ) → IfSome (hold_at j n) (KnowsHold count)
    asks : (n : ℕ) → IfSome (ask_at j n) (KnowsAsk count)

  other : (q : ℕ) → q < count → (q == p) ≡ false
  other q known = ne_eqb q p (λ same. omega (arith, known, unknown, same, peers_listed book.config))

  of_holds : (f : Hold → ℕ) → ((h : Hold) → KnowsHold count h → f h ≡ 0) → (o : Option Hold) → IfSome o (KnowsHold count) → unwrap_or (option_map f o) 0 ≡ 0
  of_holds f zero None knows = refl
  of_holds f zero (Some h) knows = zero h knows

  of_asks : (f : Ask → ℕ) → ((a : Ask) → KnowsAsk count a → f a ≡ 0) → (o : Option Ask) → IfSome o (KnowsAsk count) → unwrap_or (option_map f o) 0 ≡ 0
  of_asks f zero None knows = refl
  of_asks f zero (Some a) knows = zero a knows

  rises : (j : Entries) → Knows j → (w : What) → KnowsPeers count w → rise j p w ≡ 0
  rises j knows (what.Hold h) named = refl
  rises j knows (what.Fulfilled hold preimage) named = of_holds (λ (h : Hold). cond (h.to == p) h.out 0) (λ h is. ap (λ b. cond b h.out 0) (other h.to is.1)) (hold_at j hold) (knows.holds hold)
  rises j knows (what.Released hold cause) named = of_holds (λ (h : Hold). cond (h.from == p) h.amount 0) (λ h is. ap (λ b. cond b h.amount 0) (other h.from is.0)) (hold_at j hold) (knows.holds hold)
  rises j knows (what.Credited c) named = ap (λ b. cond b (raising c.kind c.credited) 0) (other c.peer named)
  rises j knows (what.Asked a) named = refl
  rises j knows (what.Confirmed ask) named = refl
  rises j knows (what.Undone ask) named = of_asks (λ (a : Ask). cond (a.peer == p) a.amount 0) (λ a is. ap (λ b. cond b a.amount 0) (other a.peer is)) (ask_at j ask) (knows.asks ask)
  rises j knows (what.Opened peer b) named = ap (λ t. cond t (above b) 0) (other peer named)
  rises j knows (what.Known c) named = refl
  rises j knows (what.Pending peer amount key) named = refl

  falls : (w : What) → KnowsPeers count w → fall p w ≡ 0
  falls (what.Hold h) named = ap (λ b. cond b h.amount 0) (other h.from named.0)
  falls (what.Fulfilled hold preimage) named = refl
  falls (what.Released hold cause) named = refl
  falls (what.Credited c) named = ap (λ b. cond b (lowering c.kind c.credited) 0) (other c.peer named)
  falls (what.Asked a) named = ap (λ b. cond b a.amount 0) (other a.peer named)
  falls (what.Confirmed ask) named = refl
  falls (what.Undone ask) named = refl
  falls (what.Opened peer b) named = ap (λ t. cond t (below b) 0) (other peer named)
  falls (what.Known c) named = refl
  falls (what.Pending peer amount key) named = refl

  -- the hold and the settlement that an entry opens are of known peers
  opens_hold : (w : What) → KnowsPeers count w → IfSome (as_hold w) (KnowsHold count)
  opens_hold (what.Hold h) named = named
  opens_hold (what.Fulfilled hold preimage) named = tt
  opens_hold (what.Released hold cause) named = tt
  opens_hold (what.Credited c) named = tt
  opens_hold (what.Asked a) named = tt
  opens_hold (what.Confirmed ask) named = tt
  opens_hold (what.Undone ask) named = tt
  opens_hold (what.Opened peer b) named = tt
  opens_hold (what.Known c) named = tt
  opens_hold (what.Pending peer amount key) named = tt

  opens_ask : (w : What) → KnowsPeers count w → IfSome (as_ask w) (KnowsAsk count)
  opens_ask (what.Hold h) named = tt
  opens_ask (what.Fulfilled hold preimage) named = tt
  opens_ask (what.Released hold cause) named = tt
  opens_ask (what.Credited c) named = tt
  opens_ask (what.Asked a) named = named
  opens_ask (what.Confirmed ask) named = tt
  opens_ask (what.Undone ask) named = tt
  opens_ask (what.Opened peer b) named = tt
  opens_ask (what.Known c) named = tt
  opens_ask (what.Pending peer amount key) named = named

  either : {K : Type 0} (P : K → Type 0) (b : Bool) (x y : Option K) → IfSome x P → IfSome y P → IfSome (cond b x y) P
  either P true x y is also = is
  either P false x y is also = also

  at_first : balance [] p ≡ pos 0
  unfolding balance
  at_first = refl

  knows_all : (j : Entries) → Each (KeepsRuleOf book) j → Knows j
  knows_all = by_push (λ j. Each (KeepsRuleOf book) j → Knows j) (λ _. record { zero = at_first; holds = λ n. tt; asks = λ n. tt }) more
    where
      still : (new old : ℤ) (r f : ℕ) → new ≡ old +ℤ pos r -ℤ pos f → old ≡ pos 0 → r ≡ 0 → f ≡ 0 → new ≡ pos 0
      still new old r f moved was up down = omega (arith, ints, moved, was, up, down)

      more : (j : Entries) (e : Entry) → (Each (KeepsRuleOf book) j → Knows j) → Each (KeepsRuleOf book) (j ++ e ∷ []) → Knows (j ++ e ∷ [])
      more j e before each =
          let parts : Each (KeepsRuleOf book) j × KeepsRuleOf book j e = Each-parts (KeepsRuleOf book) j e each in
          let knows : Knows j = before parts.0 in
          let named : KnowsPeers count e.what = peers_known book.config book.period book.base j e.moment e.what parts.1 in
          let answers = λ (k : Entries) (d : Entry) (rule : KeepsRuleOf book k d). rule_answers book.config book.period book.base k d rule in
          let closes = λ (k : Entries) (d : Entry) (rule : KeepsRuleOf book k d). rule_closes book.config book.period book.base k d rule in
          let moved = balance-push j e p (Each-each (KeepsRuleOf book) _ j answers parts.0) (Each-each (KeepsRuleOf book) _ j closes parts.0) (answers j e parts.1) (closes j e parts.1) in
          record {
            zero = still (balance (j ++ e ∷ []) p) (balance j p) (rise j p e.what) (fall p e.what) moved knows.zero (rises j knows e.what named) (falls e.what named);
            holds = λ n. subst (λ (o : Option Hold). IfSome o (KnowsHold count)) (sym (hold_at-push j e n)) (either (KnowsHold count) (n == length j) (as_hold e.what) (hold_at j n) (opens_hold e.what named) (knows.holds n));
            asks = λ n. subst (λ (o : Option Ask). IfSome o (KnowsAsk count)) (sym (ask_at-push j e n)) (either (KnowsAsk count) (n == length j) (as_ask e.what) (ask_at j n) (opens_ask e.what named) (knows.asks n));
          }

  pub nothing_owed : IsLawful book → balance book.entries p ≡ pos 0
  nothing_owed lawful = (knows_all book.entries lawful.rules).zero

-- ---- an asset of both configurations

same_asset : (a b : PlainAsset) → is_asset a b ≡ true → a ≡ b
same_asset a b is = ap₂ (λ (c : List ℕ) (n : ℕ). let x : PlainAsset = record { code = c; scale = n } in x) ((bytes_eq-Decides a.code b.code).0 (both (bytes_eq a.code b.code) (a.scale == b.scale) is).0) (eqb-true a.scale b.scale (both (bytes_eq a.code b.code) (a.scale == b.scale) is).1)
  where
    both : (s t : Bool) → (s && t) ≡ true → (s ≡ true) × (t ≡ true)
    both true true is = (refl, refl)
    both true false is = cc
    both false t is = cc

asset_same : (a b : PlainAsset) → a ≡ b → is_asset a b ≡ true
asset_same a b same = ap (is_asset a) (sym same) ∙ ap₂ ◌&&◌ ((bytes_eq-Decides a.code a.code).1 refl) (eq-eqb a.scale a.scale refl)

module _ (book : PlainBook) (next : Configuration) (now : ℤ) (asset : PlainAsset) (valid : IsValid book.config) (later : IsValid next) (lawful : IsLawful book) (may : MayFollow book next) where
  -- 1 for a peer with the asset, else 0
  abbrev marked : Configuration → PlainPeer → ℕ
  marked C peer = cond (is_asset asset (asset_at C.table.assets peer.asset)) 1 0

  abbrev marks : Configuration → List ℕ
  marks C = map (marked C) C.peers

  -- the books of the marked peers are those of the asset
  same_sum : (C : Configuration) (j : Entries) (n : ℕ) (peers : List PlainPeer)
      → int_sum_from (λ p mark. cond (1 == mark) (balance j p) (pos 0)) n (map (marked C) peers)
      ≡ int_sum_from (λ p (peer : PlainPeer). cond (is_asset asset (asset_at C.table.assets peer.asset)) (balance j p) (pos 0)) n peers
  same_sum C j n [] = refl
  same_sum C j n (peer ∷ peers) = ap₂ (λ a b. a +ℤ b) (one (is_asset asset (asset_at C.table.assets peer.asset))) (same_sum C j (n + 1) peers)
    where
      one : (b : Bool) → cond (1 == cond b 1 0) (balance j n) (pos 0) ≡ cond b (balance j n) (pos 0)
      one true = refl
      one false = refl

  marked_sum : (C : Configuration) (j : Entries) → balances (marks C) j 1 ≡ asset_balances C j asset
  unfolding balances
  marked_sum C j = same_sum C j 0 C.peers

  mark_stands : (C : Configuration) (p : ℕ) → IsKnown C p → slice_get (marks C) p ≡ Some (marked C (peer_at C p))
  mark_stands C p known = slice_get-map (marked C) C.peers p ∙ ap (option_map (marked C)) (peer_stands C p known)

  -- peers keep what they have
  keeps : KeepsPeers (marks book.config) (marks next) (places_by_name book.config next) book.entries
  keeps = record {
    once = λ p q is. (earlier_stands book.config next valid later q p (known_place book.config next q p is) is).1;
    kept = kept;
    removed = removed;
  }
    where
      removed : (p : ℕ) → next_place (places_by_name book.config next) p ≡ None → balance book.entries p ≡ pos 0
      removed p none = elim (cases_lt p (length book.config.peers)) [
        | inl known ↦ ((may.peers p known).removed none).balance
        | inr unknown ↦ nothing_owed book p unknown lawful
      ]

      kept : (p q : ℕ) → next_place (places_by_name book.config next) p ≡ Some q → balance book.entries p ≢ pos 0 → slice_get (marks next) q ≡ slice_get (marks book.config) p
      kept p q there some = elim (cases_lt p (length book.config.peers)) [
        | inl known ↦ of known (is_asset (peer_asset book.config p) (peer_asset next q)) refl
        | inr unknown ↦ absurd (some (nothing_owed book p unknown lawful))
      ]
        where
          stands : IsKnown next q
          stands = known_place book.config next q p (ap (option_and_then (λ (old : Option ℕ). old)) (next_stands (places_by_name book.config next) p q there))

          of : IsKnown book.config p → (b : Bool) → is_asset (peer_asset book.config p) (peer_asset next q) ≡ b → slice_get (marks next) q ≡ slice_get (marks book.config) p
          of known true same =
              let one : peer_asset book.config p ≡ peer_asset next q = same_asset (peer_asset book.config p) (peer_asset next q) same in
              mark_stands next q stands ∙ ap (λ (a : PlainAsset). Some (cond (is_asset asset a) 1 0)) (sym one) ∙ sym (mark_stands book.config p known)
          of known false differ =
              absurd (some ((may.peers p known).asset q there (λ one. let same : is_asset (peer_asset book.config p) (peer_asset next q) ≡ true = asset_same (peer_asset book.config p) (peer_asset next q) one in cc)).balance)

  -- so the asset's balances come to the same
  pub books_kept : asset_balances next (next_head book next now) asset ≡ asset_balances book.config book.entries asset
  books_kept =
      sym (marked_sum next (next_head book next now))
      ∙ balances_brought_forward_sum (marks book.config) (marks next) (period_end book next now) book.entries 1 keeps
      ∙ marked_sum book.config book.entries
