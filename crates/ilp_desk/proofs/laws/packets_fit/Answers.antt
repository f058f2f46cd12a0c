use Rattle.ilp_book.specs.Configured.{peer_assets}
use Rattle.ilp_rules.proofs.LawfulGrowth.{limits_now}
use Rattle.ilp_rules.proofs.Rules.{answers_once}
use Rattle.ilp_desk.proofs.Fulfilled.{taken_within, sold_within}
use Rattle.ilp_desk.proofs.laws.packets_fit.Goals as goal

pub returns : goal.returns
returns c = record {
  taken = λ book asset lawful opened. taken_within book.base book.entries (answers_once book lawful) opened (peer_assets book.config) asset;
  sold = λ book asset lawful opened. sold_within book.base book.entries (answers_once book lawful) opened (peer_assets book.config) asset;
  most_in = λ book asset lawful. (limits_now book lawful).totals_in asset;
  most_out = λ book asset lawful. (limits_now book lawful).totals_out asset;
}
