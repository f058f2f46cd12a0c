use Rattle.std.proofs.Common.{refl}
use Rattle.sha2.specs.Sha256.{sha256, hash_after, compress, rounds, schedule, first_words, digest_bytes}
use Rattle.ilp_replies.proofs.laws.messages_are_met.Goals as goal

-- the digest is computed
pub returns : goal.returns
unfolding sha256 hash_after compress rounds schedule first_words digest_bytes
returns c = refl
