use Rattle.std.proofs.Common.{rules, ◌≡◌, length, refl}
use Rattle.std.specs.Prelude.{vec_len}
use Rattle.std.proofs.lemmas.Option.{slice_get_read}
use Rattle.ilp_flow.specs.declared.flow.Flow.{Flow}
use Rattle.ilp_flow.specs.Flow.{MayBegin}
use Rattle.ilp_flow.proofs.Counting.{begins}
use Rattle.ilp_flow.proofs.flow.Flow.begin.Goals as goal

pub returns-clause-begins : goal.returns-clause-begins
returns-clause-begins c flying begun counts =
    let f : Flow = c.args.self.now in
    let p = c.args.passage in
    let may : MayBegin f.most flying p = c.if-not-may_begin.ensures flying begun counts in
    let long : vec_len f.senders ≡ length f.senders.items = search rules in
    let wide : vec_len f.receivers ≡ length f.receivers.items = search rules in
    let old = slice_get_read f.senders.items _ p.sender c.index.result.now long c.requires.known.0 c.index.ensures in
    let was = slice_get_read f.receivers.items _ p.receiver c.index-2.result.now wide c.requires.known.1 c.index-2.ensures in
    record {
      may = may;
      counts = begins f _ p flying begun c.index.result.now c.with_one.result c.index-2.result.now c.saturating_add.result counts may (record {
        most = refl;
        part = refl;
        room = refl;
        flying = c.saturating_add-self-2.ensures;
        octets = cc;
        turns = c.saturating_add-self.ensures;
        has_old = old;
        of_sender = c.with_one.ensures;
        senders = refl;
        was_count = was;
        of_receiver = c.saturating_add.ensures;
        receivers = refl;
      });
    }
