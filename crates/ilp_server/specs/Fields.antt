-- What the fields of a request say of who sends it, and of what.
use Rattle.std.specs.Prelude.{◌≡◌, ℕ, ◌<◌, List, [], ◌∷◌, ◌++◌, length, map, codes}
use Rattle.http_header.specs.Token.{lowercase}
use Rattle.http_header.specs.FieldValue.{FieldValue}
use Rattle.http_header.specs.HeaderMap.{Entries, get_all}
use Rattle.ilp_accounts.specs.Configuration.{Configuration, peer_at}
use Rattle.ilp_journal.specs.Keys.{IsKey}

-- the values of the fields of a name, in order. The name is given in lower case
abbrev pub values_in : Entries FieldValue → List ℕ → List (List ℕ)
values_in headers name = map (λ value. value.bytes) (get_all headers name)

-- there is one value, and it is this
abbrev pub IsOnly : List (List ℕ) → List ℕ → Type 0
IsOnly values value = values ≡ value ∷ []

-- the value is `Bearer` in any case, one space, and the token (RFC 6750, section 2.1)
pub record ShowsToken (value token : List ℕ) : Type 0 where
  pub scheme : List ℕ
  pub is_bearer : lowercase scheme ≡ codes "bearer "
  pub whole : value ≡ scheme ++ token

-- the one value, of those of Authorization, shows the token of the peer
pub record IsFrom (C : Configuration) (values : List (List ℕ)) (peer : ℕ) : Type 0 where
  pub known : peer < length C.peers
  pub value : List ℕ
  pub only : IsOnly values value
  pub shown : ShowsToken value (peer_at C peer).token

-- the one value, of those of Idempotency-Key, is a key
pub record IsKeyAmong (values : List (List ℕ)) (key : List ℕ) : Type 0 where
  pub only : IsOnly values key
  pub is_key : IsKey key
