use Rattle.std.proofs.lemmas.List.{append-nil}
use Rattle.std.proofs.Common.{[], take, drop, sym, ◌∙◌, subst, arith, length-drop}
use Rattle.httparse.specs.Grammar.{HasNoRequest, NeverHasRequest, MayBecomeRequest}
use Rattle.httparse.specs.Spans.{RequestOverflows, RequestExceeds}
use Rattle.ilp_http.specs.Limits.{head_limit, field_limit}
use Rattle.ilp_http.proofs.FrontLemmas.{take_cut}
use Rattle.ilp_http.proofs.HeadLemmas.{found-head, front-short, refused-by_head, refused-many, refused-never}
use Rattle.ilp_http.proofs.EarlyLemmas.{in-head, in-body}
use Rattle.ilp_http.proofs.examination.examine.Goals as goal

pub returns-in-Ok : goal.returns-in-Ok
returns-in-Ok c =
    let octets = c.args.octets.now in
    let at = rw c.in-Ok-Complete.field-0-is at c.in-Ok-Complete.ensures.complete in
    let within = rw c.in-Ok-Complete.field-0-is at c.in-Ok-Complete.ensures.within in
    let found = found-head octets _ _ _ at.0 (take_cut octets c.min.result head_limit c.min.ensures) (c.parse_request.auto.headers ∙ c.requires) at.1 within in
    in-body octets at.0 c.in-Ok-Complete.head.len c.in-Ok.body found.parsed.len found.begins (sym found.announces ∙ sym c.announced.ensures ∙ c.in-Ok.is) c.if-octets-head.true

pub returns-in-Ok-2 : goal.returns-in-Ok-2
returns-in-Ok-2 c =
    let octets = c.args.octets.now in
    let len = c.in-Ok-Complete.head.len in
    let at = rw c.in-Ok-Complete.field-0-is at c.in-Ok-Complete.ensures.complete in
    let within = rw c.in-Ok-Complete.field-0-is at c.in-Ok-Complete.ensures.within in
    let found = found-head octets _ _ _ at.0 (take_cut octets c.min.result head_limit c.min.ensures) (c.parse_request.auto.headers ∙ c.requires) at.1 within in
    let rest = length-drop len octets in
    (at.0, drop len octets, record { begins = found.begins; announced = sym found.announces ∙ sym c.announced.ensures ∙ c.in-Ok.is; whole = omega arith; parsed = found.parsed; within = found.within })

pub returns-in-Err-announced : goal.returns-in-Err-announced
returns-in-Err-announced c =
    let octets = c.args.octets.now in
    let at = rw c.in-Ok-Complete.field-0-is at c.in-Ok-Complete.ensures.complete in
    let within = rw c.in-Ok-Complete.field-0-is at c.in-Ok-Complete.ensures.within in
    let found = found-head octets _ _ _ at.0 (take_cut octets c.min.result head_limit c.min.ensures) (c.parse_request.auto.headers ∙ c.requires) at.1 within in
    refused-by_head octets at.0 _ c.in-Err-announced.refusal found.begins (sym found.announces ∙ sym c.announced.ensures ∙ c.in-Err-announced.is)

pub returns-in-Ok-Partial : goal.returns-in-Ok-Partial
returns-in-Ok-Partial c =
    let octets = c.args.octets.now in
    let cut = take_cut octets c.min.result head_limit c.min.ensures in
    let none = rw c.in-Ok-Partial.field-0-is at c.in-Ok-Partial.ensures.partial in
    let may_become = rw c.in-Ok-Partial.field-0-is at c.in-Ok-Partial.ensures.unfinished in
    in-head octets c.if-octets-lt-HEAD_LIMIT.true (subst HasNoRequest cut none) (subst MayBecomeRequest cut may_become)

pub long_refusal-requires-clause-none : goal.long_refusal-requires-clause-none
long_refusal-requires-clause-none c =
    let cut = take_cut c.args.octets.now c.min.result head_limit c.min.ensures in
    let none = rw c.in-Ok-Partial.field-0-is at c.in-Ok-Partial.ensures.partial in
    subst HasNoRequest cut none

pub long_refusal-requires-in_default-2 : goal.long_refusal-requires-in_default-2
long_refusal-requires-in_default-2 c =
    let front = take c.min.result c.args.octets.now in
    let cut = take_cut c.args.octets.now c.min.result head_limit c.min.ensures in
    let none = subst HasNoRequest (append-nil front) (c.in-Err.ensures.invalid c.in_default-2.not-TooManyHeaders []) in
    record { spans = c.parse_request.auto.headers ∙ c.requires; long = c.if-octets-lt-HEAD_LIMIT-2.false; none = subst HasNoRequest cut none }

pub returns-in-TooManyHeaders : goal.returns-in-TooManyHeaders
returns-in-TooManyHeaders c =
    let octets = c.args.octets.now in
    let front = take c.min.result octets in
    let cut = take_cut octets c.min.result head_limit c.min.ensures in
    let overflows = subst (λ room. RequestOverflows room front) c.requires c.in-Err.ensures.no_room in
    let exceeds = subst (λ room. RequestExceeds room front) c.requires (c.in-Err.ensures.too_many cc) in
    refused-many octets (subst (RequestOverflows field_limit) cut overflows) (subst (RequestExceeds field_limit) cut exceeds)

pub returns-in_default : goal.returns-in_default
returns-in_default c =
    let octets = c.args.octets.now in
    let cut = take_cut octets c.min.result head_limit c.min.ensures ∙ front-short octets c.if-octets-lt-HEAD_LIMIT-2.true in
    refused-never octets (subst NeverHasRequest cut (c.in-Err.ensures.invalid c.in_default.not-TooManyHeaders))
