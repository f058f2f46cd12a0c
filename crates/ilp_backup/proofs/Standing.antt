-- What two looks at each name see alike lay there between them.
use Rattle.std.proofs.Common.{◌≡◌, ◌≤◌, ℕ, sym, ◌∙◌, le_trans}
use Rattle.ilp_backup.specs.Moment.{History, GoesOneWay, IsSeen, AreBefore, AreBehind, AreSame, LayThere, seen_at}
use Rattle.ilp_backup.specs.declared.seen.Part.{Part}
use Rattle.ilp_backup.specs.declared.seen.Part.TheVariants as parts
use Rattle.ilp_backup.specs.declared.seen.Places.{Places}

-- Each name had the same.
same_at : (seen seen_behind : Places) → AreSame seen seen_behind → (part : Part) → seen_at seen part ≡ seen_at seen_behind part
same_at seen seen_behind same parts.Journal = same.0
same_at seen seen_behind same parts.Log = same.1
same_at seen seen_behind same parts.Ended = same.2
same_at seen seen_behind same parts.Next = same.3

pub lay_there : (history : History) (seen seen_behind : Places) (before behind : Part → ℕ) (moment : ℕ) → GoesOneWay history
    → IsSeen history seen before → IsSeen history seen_behind behind → AreBefore before moment → AreBehind behind moment
    → AreSame seen seen_behind → LayThere history seen moment
lay_there history seen seen_behind before behind moment one_way is_seen is_seen_behind are_before are_behind alike part =
    let from = before parts.Journal in
    let till = behind parts.Journal in
    let same : history from parts.Journal ≡ history till parts.Journal =
    is_seen.is parts.Journal ∙ same_at seen seen_behind alike parts.Journal ∙ sym (is_seen_behind.is parts.Journal) in
    let between : before part ≤ behind part = le_trans (are_before.each part) (are_behind.each part) in
    let at_before : history (before part) parts.Journal ≡ history from parts.Journal =
    one_way from (before part) till parts.Journal (are_before.journal part) (le_trans between (are_behind.journal part)) same same in
    let at_behind : history (behind part) parts.Journal ≡ history from parts.Journal =
    one_way from (behind part) till parts.Journal (le_trans (are_before.journal part) between) (are_behind.journal part) same same in
    one_way (before part) moment (behind part) part (are_before.each part) (are_behind.each part) (at_before ∙ sym at_behind)
    (is_seen.is part ∙ same_at seen seen_behind alike part ∙ sym (is_seen_behind.is part))
    ∙ is_seen.is part
