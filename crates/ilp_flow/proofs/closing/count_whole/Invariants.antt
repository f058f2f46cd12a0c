use Rattle.std.proofs.Common.{◌≡◌, ◌<◌, ℕ, length, take, slice_index_or}
use Rattle.ilp_flow.specs.Closing.{whole_of}
use Rattle.ilp_flow.proofs.closing.count_whole.Given as goal

-- of those that were looked at, how many are of each sender
abbrev pub invariant-loop-waiter : goal.invariant-loop-waiter
invariant-loop-waiter l = (sender : ℕ) → sender < length l.counts → slice_index_or l.counts sender 0 ≡ whole_of sender (take l.waiter-index l.waiters)
