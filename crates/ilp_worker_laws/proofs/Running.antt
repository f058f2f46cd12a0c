-- As many Fulfills are to be told as packets are kept, whatever waits meanwhile.
use Rattle.std.proofs.Common.{◌≡◌, ℕ, ◌+◌, List, [], ◌∷◌, ◌++◌, sym, ap, ◌∙◌, arith, ◌⊎◌, inl, inr}
use Rattle.std.proofs.lemmas.List.Sums.{sum_by-append}
use Rattle.ilp_packet.specs.Packet.{fulfill, reject}
use Rattle.ilp_packet.specs.Reading.{reading}
use Rattle.ilp_packet.proofs.ReadingLemmas.{reading_again}
use Rattle.ilp_desk.specs.declared.record.Record.{Record}
use Rattle.ilp_desk.specs.declared.record.HoldEnd.TheVariants.{Fulfilled}
use Rattle.ilp_desk.specs.Desk.{PlainDesk}
use Rattle.ilp_desk.specs.Totals.{packets, of_packet}
use Rattle.ilp_replies.specs.declared.answer.Receipt.{Receipt}
use Rattle.ilp_replies.specs.Rejects.{local_reject}
use Rattle.ilp_workers.specs.Worker.{PlainWorker}
use Rattle.ilp_workers.specs.Forwarding.{record_of_end}
use Rattle.ilp_workers.specs.Pending.{PlainPending, told_order}
use Rattle.ilp_worker_laws.specs.Outcome.{IsFulfilledEnd, IsRejectedEnd}
use Rattle.ilp_worker_laws.specs.Runs.{Half, refused, begun, finished, booked, kept, IsHalf, Step, IsRun, fulfills_in, fulfills_of, fulfills_told}
use Rattle.ilp_worker_laws.proofs.Outcomes.{finished_outcome, booked_outcome}

-- a fulfilled hold that is kept is one packet more
one_more : (desk : PlainDesk) (p : PlainPending) (entry : ℕ) (records records' : List Record) → records' ≡ records ++ record_of_end (told_order desk p.prepare) p.prepare.held Fulfilled entry ∷ [] → packets records' ≡ packets records + 1
one_more desk p entry records records' is =
    let f = λ (r : Record). of_packet (λ _. 1) r.what in
    ap packets is ∙ (sum_by-append f records (record_of_end (told_order desk p.prepare) p.prepare.held Fulfilled entry ∷ []) ∙ omega arith)

-- a packet that is ended
by_outcome : (desk : PlainDesk) (p : PlainPending) (before after : PlainWorker) (receipt : Receipt) (octets : List ℕ) → IsFulfilledEnd desk p before after receipt octets ⊎ IsRejectedEnd before after receipt octets
    → packets after.records ≡ packets before.records + fulfills_in (reading octets)
by_outcome desk p before after receipt octets outcome =
    elim outcome [
      | inl told ↦
          one_more desk p told.entry before.records after.records told.records ∙ ap (λ r. packets before.records + fulfills_in r) (sym (reading_again octets (fulfill told.answer) told.reply))
      | inr other ↦
          let none : packets before.records ≡ packets before.records + 0 = omega arith in
          other.records ∙ (none ∙ ap (λ r. packets before.records + fulfills_in r) (sym (reading_again octets (reject other.answer) other.reply)))
    ]

-- a step that keeps the records
no_more : (before after : PlainWorker) → after.records ≡ before.records → packets after.records ≡ packets before.records + 0
no_more before after same =
    let none : packets before.records ≡ packets before.records + 0 = omega arith in
    ap packets same ∙ none

by_half : (desk : PlainDesk) (half : Half) (before after : PlainWorker) → IsHalf desk half before after → packets after.records ≡ packets before.records + fulfills_of half after.reply
by_half desk (refused o receipt) before after is =
    no_more before after is.records ∙ ap (λ r. packets before.records + fulfills_in r) (sym (reading_again after.reply (reject (local_reject o.desk.config is.why)) is.told))
by_half desk (begun o p) before after is = no_more before after is.booked.records
by_half desk (finished p came receipt octets) before after is = by_outcome desk p before after receipt octets (finished_outcome desk p came before after receipt octets is.1 is.0)
by_half desk (booked p came b) before after is = by_outcome desk p before after b.receipt b.octets (booked_outcome desk p came before after b is.1 is.0)
by_half desk (kept said) before after is = no_more before after is.kept.records

pub run_is_kept : (desk : PlainDesk) (steps : List Step) (before after : PlainWorker) → IsRun desk steps before after → packets after.records ≡ packets before.records + fulfills_told steps
run_is_kept desk [] before after is = no_more before after (ap (λ (w : PlainWorker). w.records) is)
run_is_kept desk (step ∷ steps) before after is =
    let first = by_half desk step.half before step.after is.0 in
    let rest = run_is_kept desk steps step.after after is.1 in
    let parts : fulfills_told (step ∷ steps) ≡ (0 + fulfills_of step.half step.after.reply) + fulfills_told steps = sum_by-append (λ (s : Step). fulfills_of s.half s.after.reply) (step ∷ []) steps in
    omega (arith, first, rest, parts)
