-- What a disk has of a file, and what a crash may leave of it.
use Rattle.std.specs.Prelude.{ℕ, List}
use Rattle.test_tearing.specs.Tearing.{after, MayLeave}
use Rattle.test_tearing.specs.Past.{LeftSince}
use Rattle.test_tearing.specs.declared.disk.Disk.{Disk}
use Rattle.test_tearing.specs.declared.tearing_file.TearingFile.{TearingFile}

-- what a read returns
abbrev pub seen : Disk → List ℕ
seen d = after d.synced.items d.changes.items

-- a crash may leave this now
abbrev pub Leaves : Disk → List ℕ → Type 0
Leaves d = MayLeave d.synced.items d.changes.items

-- and this since there were so many syncs
abbrev pub LeavesSince : Disk → ℕ → List ℕ → Type 0
LeavesSince d = LeftSince d.past.items d.synced.items d.changes.items

-- the same of a file
abbrev pub seen_of : TearingFile → List ℕ
seen_of f = seen f.disk

abbrev pub left_of : TearingFile → List ℕ → Type 0
left_of f = Leaves f.disk
