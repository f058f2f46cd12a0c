use Rattle.std.proofs.Common.{subst}
use Rattle.httparse.specs.Grammar.{HasNoResponse, NeverHasResponse, MayBecomeResponse}
use Rattle.httparse.specs.Spans.{ResponseOverflows}
use Rattle.ilp_http.specs.Limits.{head_limit, field_limit}
use Rattle.ilp_http.proofs.FrontLemmas.{take_cut}
use Rattle.ilp_http.proofs.ResponseLemmas.{head-found, long-status, bad-never}
use Rattle.ilp_http.proofs.response_octets.examine_response.Goals as goal

pub finding_by-requires : goal.finding_by-requires
finding_by-requires c =
    let octets = c.args.octets.now in
    let at = rw c.in-Ok-Complete.field-0-is at c.in-Ok-Complete.ensures.complete in
    let within = rw c.in-Ok-Complete.field-0-is at c.in-Ok-Complete.ensures.within in
    (at.0, head-found octets _ _ _ _ at.0 (take_cut octets c.min.result head_limit c.min.ensures) c.parse_response.auto.headers at.1 within c.framing_of-framing.ensures)

pub returns-in-Ok-Partial-2 : goal.returns-in-Ok-Partial-2
returns-in-Ok-Partial-2 c =
    let octets = c.args.octets.now in
    let cut = take_cut octets c.min.result head_limit c.min.ensures in
    let none = rw c.in-Ok-Partial.field-0-is at c.in-Ok-Partial.ensures.partial in
    let may_become = rw c.in-Ok-Partial.field-0-is at c.in-Ok-Partial.ensures.unfinished in
    long-status octets c.if-octets-lt-HEAD_LIMIT.false (subst HasNoResponse cut none) (subst MayBecomeResponse cut may_become)

pub examine_many-requires : goal.examine_many-requires
examine_many-requires c =
    let cut = take_cut c.args.octets.now c.min.result head_limit c.min.ensures in
    subst (ResponseOverflows field_limit) cut c.in-Err.ensures.no_room

pub returns-in_default : goal.returns-in_default
returns-in_default c =
    let octets = c.args.octets.now in
    let cut = take_cut octets c.min.result head_limit c.min.ensures in
    bad-never octets (subst NeverHasResponse cut (c.in-Err.ensures.invalid c.in_default.not-TooManyHeaders))
