use Rattle.std.proofs.Common.{◌∙◌}
use Rattle.ilp_journal_file.proofs.log_device.LogDevice.create.Goals as goal

-- no call of the file has failed
pub invariant_of-result : goal.invariant_of-result
invariant_of-result g c = record {
  sound = λ _ claims. c.in_ok-give_name.ensures.sound claims ∙ c.in_ok-keep_all.ensures.sound claims ∙ c.in_ok-put.ensures.sound claims ∙ c.in_ok-given.ensures.sound claims;
  whole = λ claims. tt;
}
