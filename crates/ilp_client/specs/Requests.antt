-- The requests that go to peers and to settlement engines.
use Rattle.std.specs.Prelude.{◌≡◌, ℕ, List, ◌++◌, codes}
use Rattle.ilp_http.specs.Writing.{own_field, line}
use Rattle.ilp_http.specs.declared.outgoing.Outgoing.{Outgoing}
use Rattle.ilp_http.specs.declared.status.Kind.{Kind}

-- the head of a request for this host and target, whose body is of this kind, and which has this line for the receiver
pub record IsHead (head : Outgoing) (host target : List ℕ) (kind : Kind) (own : List ℕ) : Type 0 where
  pub to_host : head.host.now ≡ host
  pub to_target : head.target.now ≡ target
  pub of_kind : head.kind ≡ kind
  pub own_line : own_field head.own ≡ own

-- the line by which a peer knows the connector (RFC 6750, section 2.1)
abbrev pub token_line : List ℕ → List ℕ
token_line token = codes "Authorization: Bearer " ++ line token

-- the line by which an engine knows a settlement again (RFC 0038, "Idempotence")
abbrev pub key_line : List ℕ → List ℕ
key_line key = codes "Idempotency-Key: " ++ line key

-- the JSON by which an engine is told of an account (RFC 0038)
abbrev pub account_text : List ℕ → List ℕ
account_text name = codes "{\"id\":\"" ++ (name ++ codes "\"}")
