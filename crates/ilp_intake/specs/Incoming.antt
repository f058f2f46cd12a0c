-- The octets of a request that come piece by piece.
use Rattle.std.specs.Prelude.{ℕ, ◌+◌, ◌<◌, ◌≤◌, List, ◌++◌, length, take}
use Rattle.ilp_http.specs.Request.{HoldsRequest}
use Rattle.ilp_http.specs.Layout.{TakesLineFeed, StayRefused}
use Rattle.ilp_http.specs.declared.refusal.Refusal.{Refusal}
use Rattle.ilp_intake.specs.declared.incoming.Arrival.{Arrival}
use Rattle.ilp_intake.specs.declared.incoming.Arrival.TheVariants.{Partial, Whole, Refused}
use Rattle.ilp_intake.specs.declared.incoming.Wanted.{Wanted}
use Rattle.ilp_intake.specs.declared.incoming.Wanted.TheVariants.{LineFeed, Body}

-- with those that follow the octets are a request once they are so many, and not before
pub record IsWholeAt (octets : List ℕ) (whole : ℕ) : Type 0 where
  pub below : (more : List ℕ) → length octets + length more < whole → ¬ (HoldsRequest (octets ++ more))
  pub reached : (more : List ℕ) → whole ≤ length octets + length more → HoldsRequest (octets ++ more)

-- what the octets want before they are a request
abbrev pub Wants : List ℕ → ℕ → Wanted → Type 0
Wants octets limit (LineFeed seen) = (seen ≤ length octets) × TakesLineFeed (take seen octets)
Wants octets limit Body = IsWholeAt octets limit

-- the octets are what is told of them
abbrev pub Are : List ℕ → Arrival → Type 0
Are octets Partial = ¬ (HoldsRequest octets)
Are octets Whole = ∥ HoldsRequest octets ∥₁
Are octets Refused = (refusal : Refusal) × StayRefused octets refusal
