-- A settlement that a peer's engine is to be asked for, as contracts see it.
use Rattle.std.specs.Prelude.{ℕ, List}
use Rattle.ilp_book.specs.declared.calls.Asked.{Asked}
use Rattle.ilp_book.specs.Configured.{scale_at}
use Rattle.ilp_desk.specs.Desk.{PlainDesk, settlement_key_in}

-- the peer, the settlement's number, its amount in units of the peer's asset, the scale of these, and the key under which the engine
-- takes it once
pub record PlainAsking : Type 0 where
  pub peer : ℕ
  pub number : ℕ
  pub amount : ℕ
  pub scale : ℕ
  pub key : List ℕ

abbrev pub asking_for : ℕ → Asked → ℕ → List ℕ → PlainAsking
asking_for peer a scale key = record { peer = peer; number = a.number; amount = a.amount; scale = scale; key = key }

-- what the peer's engine is to be asked for a settlement of the desk
abbrev pub asking_in : PlainDesk → ℕ → Asked → PlainAsking
asking_in desk peer a = asking_for peer a (scale_at desk.config peer) (settlement_key_in desk a.number)

-- the settlement that it is asked for
abbrev pub settlement_of : PlainAsking → Asked
settlement_of p = record { number = p.number; amount = p.amount }
