-- What a book looks up in its configuration. Peers and assets are named by their places.
use Rattle.std.specs.Prelude.{ℕ, ◌<◌, List, length, map, Result}
use Rattle.ilp_assets.specs.declared.quote.Quote.{Quote}
use Rattle.ilp_assets.specs.declared.quote.QuoteFault.{QuoteFault}
use Rattle.ilp_assets.specs.Quote.{quote, scale_of}
use Rattle.ilp_accounts.specs.Configuration.{Configuration, peer_at}

-- there is a peer at the place
abbrev pub IsKnown : Configuration → ℕ → Type 0
IsKnown C peer = peer < length C.peers

-- each peer's asset, by the peer's place
abbrev pub peer_assets : Configuration → List ℕ
peer_assets C = map (λ p. p.asset) C.peers

-- the asset of a peer's balance
abbrev pub asset_of : Configuration → ℕ → ℕ
asset_of C peer = (peer_at C peer).asset

-- the scale of a peer's balance
abbrev pub scale_at : Configuration → ℕ → ℕ
scale_at C peer = scale_of C.table (asset_of C peer)

-- what an amount becomes on its way from one peer to another; the sender pays the fee
abbrev pub quote_between : Configuration → ℕ → ℕ → ℕ → Result Quote QuoteFault
quote_between C from to amount = quote C.table (asset_of C from) (asset_of C to) (peer_at C from).fee_ppm amount
