-- When a peer's next turn begins.
use Rattle.std.specs.Prelude.{◌≡◌}
use Rattle.std.specs.declared.time.Duration.{Duration}
use Rattle.ilp_settling.specs.declared.course.Course.{Course}
use Rattle.ilp_settling.specs.declared.course.Course.TheVariants.{Rests, AsksForAccount, Settles}

-- No engine is asked, and the next turn begins then.
abbrev pub RestsUntil : Course → Duration → Type 0
RestsUntil (Rests until) due = until ≡ due
RestsUntil (AsksForAccount call) due = ⊥
RestsUntil (Settles asking call) due = ⊥
