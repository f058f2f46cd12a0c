-- The trial balance of what is told of a book.
use Rattle.std.proofs.Common.{◌≡◌, ℕ, suc, ◌+◌, ◌<◌, pos, ◌+ℤ◌, ◌-ℤ◌, cond, List, [], ◌∷◌, length, map, Some, refl, sym, ap, ◌∙◌, subst, arith}
use Rattle.std.specs.Prelude.{slice_get, unwrap_or, ◌==◌}
use Rattle.std.specs.List.{range_with_len}
use Rattle.std.proofs.lemmas.List.FromFn.{get_or-map-range_with_len, length-map-range_with_len}
use Rattle.std.proofs.lemmas.Option.{get_or_from_slice_get, slice_get_within}
use Rattle.ilp_accounts.specs.Configuration.{PlainPeer, nobody, peer_at}
use Rattle.ilp_journal.specs.Places.{int_sum_from}
use Rattle.ilp_journal.specs.Balance.{balance}
use Rattle.ilp_journal.specs.TrialBalance.{balances}
use Rattle.ilp_book.specs.Book.{PlainBook}
use Rattle.ilp_book.specs.Configured.{peer_assets}
use Rattle.ilp_book.specs.Lawful.{IsLawful}
use Rattle.ilp_rules.proofs.Rules.{lawful_balanced}
use Rattle.ilp_report.specs.Report.{PlainPeerAccount, PlainAssetBooks, peer_account, asset_books}
use Rattle.ilp_report.specs.Sound.{balances_in, AreBalanced}

-- the balances of the peers from a place on, by what is told of them and by the journal
balances_from : (book : PlainBook) (x n : ℕ) (ps : List PlainPeer) → ((i : ℕ) (p : PlainPeer) → slice_get ps i ≡ Some p → peer_at book.config (n + i) ≡ p)
    → int_sum_from (λ _ (peer : PlainPeerAccount). cond (x == peer.asset) peer.balance (pos 0)) n (map (peer_account book) (range_with_len n (length ps)))
    ≡ int_sum_from (λ p asset. cond (x == asset) (balance book.entries p) (pos 0)) n (map (λ (p : PlainPeer). p.asset) ps)
unfolding peer_account
balances_from book x n [] stand = refl
balances_from book x n (p ∷ ps) stand =
    let place : n ≡ n + 0 = omega arith in
    let here : peer_at book.config n ≡ p = ap (peer_at book.config) place ∙ stand 0 p refl in
    let told = int_sum_from (λ _ (peer : PlainPeerAccount). cond (x == peer.asset) peer.balance (pos 0)) (n + 1) (map (peer_account book) (range_with_len (n + 1) (length ps))) in
    let more = balances_from book x (n + 1) ps (λ i q stands. let next : n + 1 + i ≡ n + suc i = omega arith in ap (peer_at book.config) next ∙ stand (suc i) q stands) in
    ap (λ (q : PlainPeer). cond (x == q.asset) (balance book.entries n) (pos 0) +ℤ told) here ∙ ap (λ z. cond (x == p.asset) (balance book.entries n) (pos 0) +ℤ z) more

-- all of them
balances_are : (book : PlainBook) (x : ℕ) → balances_in (map (peer_account book) (range_with_len 0 (length book.config.peers))) x ≡ balances (peer_assets book.config) book.entries x
unfolding balances
balances_are book x =
    balances_from book x 0 book.config.peers
    (λ i p stands. let place : 0 + i ≡ i = omega arith in ap (peer_at book.config) place ∙ ap (λ o. unwrap_or o nobody) stands)

-- what stands at a place is what is told of the place
told_at : {X : Type 0} (f : ℕ → X) (n x : ℕ) (y : X) → slice_get (map f (range_with_len 0 n)) x ≡ Some y → f x ≡ y
told_at f n x y stands =
    let all = map f (range_with_len 0 n) in
    let within : x < n = omega (arith, slice_get_within all x y stands, length-map-range_with_len f 0 n) in
    sym (get_or-map-range_with_len f 0 n x x y within (omega arith)) ∙ get_or_from_slice_get all x y y stands

-- what is told of the peers and the assets of a lawful book balances
pub told_balance : (book : PlainBook) (peers : List PlainPeerAccount) (assets : List PlainAssetBooks) → IsLawful book
    → peers ≡ map (peer_account book) (range_with_len 0 (length book.config.peers)) → assets ≡ map (asset_books book) (range_with_len 0 (length book.config.table.assets))
    → AreBalanced peers assets
unfolding asset_books
told_balance book peers assets lawful same_peers same_assets x asset stands =
    let here = subst (λ (l : List PlainAssetBooks). slice_get l x ≡ Some asset) same_assets stands in
    let told : asset_books book x ≡ asset = told_at (asset_books book) (length book.config.table.assets) x asset here in
    let sums = (asset_books book x).sums in
    subst (λ (a : PlainAssetBooks). balances_in peers x +ℤ a.sums.held +ℤ a.sums.fees +ℤ a.sums.bought -ℤ a.sums.sold ≡ a.sums.settled) told
    (ap (λ (l : List PlainPeerAccount). balances_in l x +ℤ sums.held +ℤ sums.fees +ℤ sums.bought -ℤ sums.sold) same_peers
    ∙ ap (λ z. z +ℤ sums.held +ℤ sums.fees +ℤ sums.bought -ℤ sums.sold) (balances_are book x) ∙ lawful_balanced book x lawful)
