use Rattle.std.proofs.Common.{rules, ◌≡◌, length, refl}
use Rattle.std.specs.Prelude.{vec_len}
use Rattle.std.proofs.lemmas.Option.{slice_get_read}
use Rattle.ilp_flow.specs.declared.flow.Flow.{Flow}
use Rattle.ilp_flow.proofs.Ending.{ends}
use Rattle.ilp_flow.proofs.flow.Flow.end.Goals as goal

pub returns-clause-counts : goal.returns-clause-counts
returns-clause-counts c before after begun counts =
    let f : Flow = c.args.self.now in
    let p = c.args.passage in
    let long : vec_len f.senders ≡ length f.senders.items = search rules in
    let wide : vec_len f.receivers ≡ length f.receivers.items = search rules in
    let old = slice_get_read f.senders.items _ p.sender c.index.result.now long c.requires.known.0 c.index.ensures in
    let was = slice_get_read f.receivers.items _ p.receiver c.index-2.result.now wide c.requires.known.1 c.index-2.ensures in
    ends f _ p before after begun c.index.result.now c.without_one.result c.index-2.result.now c.saturating_sub.result counts (record {
      most = refl;
      part = refl;
      room = refl;
      flying = c.saturating_sub-self.ensures;
      octets = cc;
      turns = refl;
      has_old = old;
      of_sender = c.without_one.ensures;
      senders = refl;
      was_count = was;
      of_receiver = c.saturating_sub.ensures;
      receivers = refl;
    })
