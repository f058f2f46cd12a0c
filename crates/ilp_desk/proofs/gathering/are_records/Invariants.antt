use Rattle.std.specs.Prelude.{◌≡◌, ◌≤◌, ◌++◌, length, take}
use Rattle.ilp_desk.specs.Records.{actor_records}
use Rattle.ilp_desk.proofs.gathering.are_records.Given as goal

abbrev pub invariant-loop-number : goal.invariant-loop-number
invariant-loop-number l =
    (l.next ≤ length l.kept) × (actor_records l.book.entries l.book.base l.actor ≡ take l.next l.kept ++ actor_records l.book.entries l.number l.actor)
