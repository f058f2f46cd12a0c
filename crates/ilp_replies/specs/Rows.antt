-- Worked Rejects of a connector whose address is `test.hub`.
use Rattle.std.specs.Prelude.{ℕ, List, [], ◌∷◌, ◌++◌, codes}
use Rattle.ilp_packet.specs.Packet.{reject, Spells}
use Rattle.ilp_accounts.specs.Configuration.{Configuration}
use Rattle.ilp_replies.specs.declared.rejects.LocalReject.TheVariants.{WrongCondition, AmountTooLarge}
use Rattle.ilp_replies.specs.Rejects.{local_reject}

-- 0e1d463035 08746573742e687562 0f77726f6e6720636f6e646974696f6e 00
abbrev pub wrong_condition : List ℕ
wrong_condition = 14 ∷ 29 ∷ codes "F05" ++ (8 ∷ codes "test.hub" ++ (15 ∷ codes "wrong condition" ++ 0 ∷ []))

-- 0e2e463038 08746573742e687562 10616d6f756e7420746f6f206c61726765 10 0000000000000064 000000000000000a
abbrev pub amount_too_large : List ℕ
amount_too_large =
    14 ∷ 46 ∷ codes "F08" ++ (8 ∷ codes "test.hub" ++ (16 ∷ codes "amount too large"
    ++ 16 ∷ 0 ∷ 0 ∷ 0 ∷ 0 ∷ 0 ∷ 0 ∷ 0 ∷ 100 ∷ 0 ∷ 0 ∷ 0 ∷ 0 ∷ 0 ∷ 0 ∷ 0 ∷ 10 ∷ []))

-- one Reject without data, and the one that has data
pub record RejectRows (config : Configuration) : Type 0 where
  pub without_data : Spells wrong_condition (reject (local_reject config WrongCondition))
  pub with_amounts : Spells amount_too_large (reject (local_reject config (AmountTooLarge 100 10)))
