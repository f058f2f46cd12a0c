-- What a response of a peer or of a settlement engine comes to.
use Rattle.std.specs.Prelude.{ℕ, List, Bool, false, not, ◌&&◌, ◌||◌, ◌==◌, nat_le, if◌then◌else◌, Option, Some, None, Result, Ok, Err}
use Rattle.std.specs.Borrow.{Bor}
use Rattle.ilp_http.specs.declared.response.Response.{Response}
use Rattle.ilp_link_traits.specs.declared.links.EngineReply.{EngineReply}
use Rattle.ilp_link_traits.specs.declared.links.EngineReply.TheVariants.{Accepted, Refused, Unknown}
use Rattle.ilp_link_traits.specs.declared.links.LinkFault.{LinkFault}
use Rattle.ilp_client.specs.declared.exchange.PostFault.{PostFault}

-- 200 to 299 (RFC 9110, section 15.3)
abbrev pub is_success : ℕ → Bool
is_success status = nat_le 200 status && nat_le status 299

-- 400 to 499 (RFC 9110, section 15.5)
abbrev pub is_client_error : ℕ → Bool
is_client_error status = nat_le 400 status && nat_le status 499

-- the key of a settlement is in use, or the account is there already
abbrev pub is_conflict : ℕ → Bool
is_conflict status = status == 409

-- the octets that came over a link, if any did
abbrev pub link_octets : Result (Bor (List ℕ)) LinkFault → Option (List ℕ)
link_octets (Ok octets) = Some octets.now
link_octets (Err fault) = None

-- a peer's answer to a packet: the body of a 200
abbrev pub packet_reply : Result Response PostFault → Option (List ℕ)
packet_reply (Ok came) = if came.status == 200 then Some came.body.now else None
packet_reply (Err fault) = None

-- an engine's answer to a message: the body of a success
abbrev pub message_reply : Result Response PostFault → Option (List ℕ)
message_reply (Ok came) = if is_success came.status then Some came.body.now else None
message_reply (Err fault) = None

-- what a status says of a settlement
abbrev pub settlement_status : ℕ → EngineReply
settlement_status status =
    if is_success status then Accepted
    else if is_client_error status && not (is_conflict status) then Refused status
    else Unknown (Some status)

-- what an engine says of a settlement: neither yes nor no where no response came
abbrev pub settlement_reply : Result Response PostFault → EngineReply
settlement_reply (Ok came) = settlement_status came.status
settlement_reply (Err fault) = Unknown None

-- an engine has the account that it was told of
abbrev pub has_account : Result Response PostFault → Bool
has_account (Ok came) = is_success came.status || is_conflict came.status
has_account (Err fault) = false
