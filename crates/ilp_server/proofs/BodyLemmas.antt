-- How long the body of a request is that was read.
use Rattle.std.proofs.Common.{ℕ, ◌≤◌, List, length}
use Rattle.ilp_http.specs.Limits.{body_limit}
use Rattle.ilp_http.specs.Answer.{HasPartsOf}
use Rattle.ilp_http.specs.declared.request.Request.{Request}
use Rattle.ilp_http.proofs.HeadLemmas.{small-body}

-- it is within the limit of a body
pub short_body : (octets : List ℕ) (request : Request) → HasPartsOf octets request → length request.body.now ≤ body_limit
short_body octets request parts = small-body parts.0 (length request.body.now) parts.2.begins.announced
