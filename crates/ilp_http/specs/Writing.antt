-- The octets of messages that are written.
use Rattle.std.specs.Prelude.{ℕ, List, [], ◌∷◌, ◌++◌, length, codes, decimal}
use Rattle.httparse.specs.Ascii.{crlf_bytes}
use Rattle.ilp_http.specs.declared.outgoing.Outgoing.{Outgoing}
use Rattle.ilp_http.specs.declared.outgoing.OwnField.{OwnField}
use Rattle.ilp_http.specs.declared.outgoing.OwnField.TheVariants.{Absent, Bearer, IdempotencyKey}
use Rattle.ilp_http.specs.declared.refusal.Refusal.{Refusal}
use Rattle.ilp_http.specs.declared.refusal.Refusal.TheVariants as Refused
use Rattle.ilp_http.specs.declared.status.Status.{Status}
use Rattle.ilp_http.specs.declared.status.Status.TheVariants.{Ok, Created, BadRequest, Unauthorized, NotFound, MethodNotAllowed, Conflict, Forbidden, LengthRequired, ContentTooLarge, FieldsTooLarge, BadGateway, Unavailable}
use Rattle.ilp_http.specs.declared.status.Kind.{Kind}
use Rattle.ilp_http.specs.declared.status.Kind.TheVariants.{OctetStream, Json, Text}

-- a line, and the line break
abbrev pub line : List ℕ → List ℕ
line text = text ++ crlf_bytes

-- ---- a response

-- the code and the reason
abbrev pub status_text : Status → List ℕ
status_text Ok = codes "200 OK"
status_text Created = codes "201 Created"
status_text BadRequest = codes "400 Bad Request"
status_text Unauthorized = codes "401 Unauthorized"
status_text NotFound = codes "404 Not Found"
status_text MethodNotAllowed = codes "405 Method Not Allowed"
status_text Forbidden = codes "403 Forbidden"
status_text Conflict = codes "409 Conflict"
status_text LengthRequired = codes "411 Length Required"
status_text ContentTooLarge = codes "413 Content Too Large"
status_text FieldsTooLarge = codes "431 Request Header Fields Too Large"
status_text BadGateway = codes "502 Bad Gateway"
status_text Unavailable = codes "503 Service Unavailable"

abbrev pub status_line : Status → List ℕ
status_line status = line (codes "HTTP/1.1 " ++ status_text status)

-- the status that tells of a refusal
abbrev pub status_of : Refusal → Status
status_of Refused.BadRequest = BadRequest
status_of Refused.MethodNotAllowed = MethodNotAllowed
status_of Refused.LengthRequired = LengthRequired
status_of Refused.ContentTooLarge = ContentTooLarge
status_of Refused.FieldsTooLarge = FieldsTooLarge

-- the line that a status has of its own
abbrev pub own_line : Status → List ℕ
own_line Unauthorized = line (codes "WWW-Authenticate: Bearer")
own_line MethodNotAllowed = line (codes "Allow: POST")
own_line status = []

abbrev pub kind_text : Kind → List ℕ
kind_text OctetStream = codes "application/octet-stream"
kind_text Json = codes "application/json"
kind_text Text = codes "text/plain"

-- the line of the content's type, which an empty body lacks
abbrev pub kind_line : Kind → List ℕ → List ℕ
kind_line kind [] = []
kind_line kind (octet ∷ octets) = line (codes "Content-Type: " ++ kind_text kind)

-- the lines before the body, and the empty line after them
abbrev pub response_head : Status → Kind → List ℕ → List ℕ
response_head status kind body =
    status_line status
    ++ own_line status
    ++ kind_line kind body
    ++ line (codes "Content-Length: " ++ decimal (length body))
    ++ line (codes "Connection: close")
    ++ line []

-- the octets of a response
abbrev pub response_text : Status → Kind → List ℕ → List ℕ
response_text status kind body = response_head status kind body ++ body

-- ---- a request

-- the line of the field for the receiver
abbrev pub own_field : OwnField → List ℕ
own_field Absent = []
own_field (Bearer token) = codes "Authorization: Bearer " ++ line token.now
own_field (IdempotencyKey key) = codes "Idempotency-Key: " ++ line key.now

-- the lines before a body of so many octets, and the empty line after them
abbrev pub request_head : Outgoing → ℕ → List ℕ
request_head head size =
    codes "POST " ++ head.target.now ++ line (codes " HTTP/1.1")
    ++ line (codes "Host: " ++ head.host.now)
    ++ line (codes "Content-Type: " ++ kind_text head.kind)
    ++ line (codes "Content-Length: " ++ decimal size)
    ++ own_field head.own
    ++ (line (codes "Connection: close") ++ line [])

-- the octets of a request
abbrev pub request_text : Outgoing → List ℕ → List ℕ
request_text head body = request_head head (length body) ++ body

-- the same lines before the body, text by text, from the kind of the body and its length in words
abbrev pub head_lines : Outgoing → List ℕ → List ℕ → List ℕ
head_lines head kind size =
    (codes "POST " ++ (head.target.now ++ codes " HTTP/1.1\r\n"))
    ++ ((codes "Host: " ++ (head.host.now ++ codes "\r\n"))
    ++ ((codes "Content-Type: " ++ (kind ++ codes "\r\n"))
    ++ ((codes "Content-Length: " ++ (size ++ codes "\r\n"))
    ++ (own_field head.own ++ codes "Connection: close\r\n\r\n"))))
