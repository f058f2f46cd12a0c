use Rattle.std.proofs.Common.{ℕ, ◌+◌, ◌-◌, ◌<◌, ◌≤◌, List, [], ◌++◌, length, take, inl, inr, sym, ap, ◌∙◌, subst, arith, append_assoc, length-append}
use Rattle.std.specs.Io.KnownBytes.{Consumes}
use Rattle.std.proofs.KnownBytes.{Consumes-nil, Consumes-trans}
use Rattle.std.proofs.lemmas.List.{length-take-le, append-nil}
use Rattle.ilp_io.specs.Pulls.{PullsWhile, no_pull, one_more}
use Rattle.ilp_io.proofs.ReadingLemmas.{Consumes-stream}
use Rattle.ilp_http.specs.Request.{EndsEarly, IsRefused}
use Rattle.ilp_http.specs.Answer.{IsFaultOf}
use Rattle.ilp_http.specs.declared.refusal.RequestFault.TheVariants.{Refused}
use Rattle.ilp_http.proofs.SourceLemmas.{Tallies-none, Tallies-next, taken_more}
use Rattle.ilp_http.proofs.EarlyLemmas.{ends-in_head}
use Rattle.ilp_http.proofs.PartsLemmas.{IsFaultOf-refused}
use Rattle.ilp_http.proofs.request.fill.Goals.{then-needed-filled+in-InHead, then-needed-filled+in-InBody, else-needed-filled}
use Rattle.ilp_http.proofs.request.fill.Goals as goal

pub returns-in-Refused-clause-refused : goal.returns-in-Refused-clause-refused
returns-in-Refused-clause-refused g c =
    let refusal = c.in-Refused.refusal in
    Consumes-stream _ _ _ (λ input. IsFaultOf input (Refused refusal)) c.loop-needed.invariant.known
    (λ more. IsFaultOf-refused _ refusal (c.in-Refused.ensures more))

pub returns-in-Refused-clause-refused_in_time : goal.returns-in-Refused-clause-refused_in_time
returns-in-Refused-clause-refused_in_time g c =
    let seen = take c.loop-needed.filled c.loop-needed.octets in
    let refusal = c.in-Refused.refusal in
    λ _. record {
      octets = seen;
      pulls = c.loop-needed.invariant.pulls;
      answered = IsFaultOf-refused seen refusal (subst (λ xs. IsRefused xs refusal) (append-nil seen) (c.in-Refused.ensures []));
    }

pub returns-in-Ok-eq0-clause-refused_in_time : goal.returns-in-Ok-eq0-clause-refused_in_time
returns-in-Ok-eq0-clause-refused_in_time g c =
    let octets = c.loop-needed.octets in
    let filled = c.loop-needed.filled in
    let seen = take filled octets in
    let inside : filled ≤ length octets = omega arith in
    let early : EndsEarly seen = elim c.if-needed-filled.branch [
      | then-needed-filled+in-InHead w ↦ inl w.in-InHead.ensures.ends
      | then-needed-filled+in-InBody w ↦ inr w.in-InBody.ensures.ends
      | else-needed-filled w ↦ subst EndsEarly (append-nil seen) (c.loop-needed.invariant.early [] (omega (arith, w.if-needed-filled.false)))
    ] in
    let gave = subst (λ n. g.S.Source.pulled c.loop-needed.source (take n c.pull.new.room) c.pull.new.self) c.in-Ok-eq0.field-0-test c.in-Ok-eq0.ensures.gave in
    λ _. record {
      octets = seen;
      pulls = subst (λ xs. PullsWhile g.S.Source.pulled EndsEarly c.args.source.now xs c.pull.new.self) (append-nil seen) (one_more seen [] _ _ c.loop-needed.invariant.pulls early gave);
      answered = inl early;
    }

pub loop-needed-init : goal.loop-needed-init
loop-needed-init g c = record {
  filled = omega arith;
  needed = omega arith;
  reads = omega arith;
  known = Consumes-nil _;
  counted = Tallies-none _;
  pulls = no_pull;
  early = λ more few. absurd (omega arith);
}

pub loop-needed-preserved : goal.loop-needed-preserved
loop-needed-preserved g c =
    let octets = c.loop-needed.octets in
    let filled = c.loop-needed.filled in
    let count = c.in-Ok.count in
    let room = c.pull.new.room in
    let needed = c.if-needed-filled.needed in
    let inside : filled ≤ length octets = omega arith in
    let fits = c.in-Ok.ensures.bound.0 in
    let taken = taken_more filled (length octets - filled) count octets room inside fits in
    let before : (more : List ℕ) → filled + length more < needed → EndsEarly (take filled octets ++ more) = λ more few.
    elim c.if-needed-filled.branch [
      | then-needed-filled+in-InHead w ↦ ends-in_head _ more w.in-InHead.ensures (omega (arith, w.needed-is))
      | then-needed-filled+in-InBody w ↦ inr (w.in-InBody.ensures.below more (omega (arith, w.needed-is, length-take-le filled octets inside)))
      | else-needed-filled w ↦ c.loop-needed.invariant.early more (omega (arith, w.needed-is))
    ] in
    let seen = take filled octets in
    let early : EndsEarly seen = elim c.if-needed-filled.branch [
      | then-needed-filled+in-InHead w ↦ inl w.in-InHead.ensures.ends
      | then-needed-filled+in-InBody w ↦ inr w.in-InBody.ensures.ends
      | else-needed-filled w ↦ subst EndsEarly (append-nil seen) (c.loop-needed.invariant.early [] (omega (arith, w.if-needed-filled.false)))
    ] in
    record {
      filled = omega (arith, fits);
      needed = elim c.if-needed-filled.branch [
        | then-needed-filled+in-InHead w ↦ omega (arith, w.needed-is, w.in-InHead.ensures.ends.short, length-take-le filled octets inside)
        | then-needed-filled+in-InBody w ↦ omega (arith, w.needed-is, w.in-InBody.ensures.room)
        | else-needed-filled w ↦ omega (arith, w.needed-is, c.loop-needed.invariant.needed)
      ];
      reads = omega arith;
      pulls = subst (λ xs. PullsWhile g.S.Source.pulled EndsEarly c.args.source.now xs c.pull.new.self) (sym taken)
          (one_more seen (take count room) _ _ c.loop-needed.invariant.pulls early c.in-Ok.ensures.gave);
      known = subst (Consumes (g.S.Source.remaining c.args.source.now) (g.S.Source.remaining c.pull.new.self)) (sym taken)
          (Consumes-trans _ _ _ _ _ c.loop-needed.invariant.known c.in-Ok.ensures.octets.0);
      counted = Tallies-next _ _ _ _ _ c.loop-needed.invariant.counted c.in-Ok.ensures.counted;
      early = λ more few. subst EndsEarly (sym (ap (λ xs. xs ++ more) taken ∙ append_assoc (take filled octets) (take count room) more))
          (before (take count room ++ more) (omega (arith, length-append (take count room) more, length-take-le count room fits)));
    }
