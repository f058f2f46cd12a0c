use Rattle.std.proofs.Common.{◌≡◌, ◌∙◌, ap, subst, map, All, IfOk}
use Rattle.toml.specs.Data.{Members}
use Rattle.toml.specs.View.{table_view}
use Rattle.ilp_fields.specs.Fields.{tables}
use Rattle.ilp_accounts.specs.Configuration.{configuration, peer_names, route_of}
use Rattle.ilp_warnings.specs.Meaning.{targets_of}
use Rattle.ilp_warnings.specs.Told.{Warrants}
use Rattle.ilp_warnings.specs.Complete.{IsComplete}
use Rattle.ilp_warnings.proofs.Targets.{targets_seen}
use Rattle.ilp_warnings.proofs.telling.warnings_of.Goals as goal

-- the peers that were read are those to which the routes of the configuration lead
pub returns : goal.returns
returns c =
    let t = table_view c.args.table.now in
    let C = c.args.config.now in
    let give = λ (m : Members). (route_of (peer_names C.peers) m).peer in
    let seen : configuration t ≡ C → c.deref.result.now ≡ targets_of C = λ same. c.deref.ensures.value ∙ c.in_ok-targets.ensures.are ∙ ap (λ vs. map give (tables vs)) c.tables_in.ensures ∙ targets_seen t C same in
    record {
      sound = λ same. subst (λ targets. IfOk c.all_told.result (λ told. All (Warrants t C targets) told.items)) (seen same) c.all_told.ensures.sound;
      complete = λ same. subst (λ targets. IfOk c.all_told.result (λ told. IsComplete t C targets told.items)) (seen same) c.all_told.ensures.complete;
    }
