-- What a turn of the sweeper makes of its share.
use Rattle.std.proofs.Common.{◌≡◌, ℕ, ◌+◌, ℤ, [], ◌∷◌, length, Option, Some, None, sym, ap, ◌∙◌, subst, arith, length-append}
use Rattle.ilp_journal.specs.declared.entry.What.TheVariants as what
use Rattle.ilp_journal.specs.declared.entry.Cause.TheVariants as cause
use Rattle.ilp_book.specs.Book.{PlainBook, By, Does, by, entry_by, moment_at}
use Rattle.ilp_book.specs.AnswerStep.{due, expire_booked, expire_step}
use Rattle.ilp_desk.specs.Desk.{PlainDesk}
use Rattle.ilp_desk.specs.Portion.{Portion, portion}
use Rattle.ilp_link_traits.specs.Links.{Tells}
use Rattle.ilp_settler.specs.Sweeper.{PlainSweeper, IsExpiredAt, swept, Sweeps}

-- shares of one actor are equal where they count as many entries
same_share : (one other : Portion) → one.actor ≡ other.actor → one.entries ≡ other.entries → one ≡ other
same_share one other actor entries = ap (λ a. portion a one.entries) actor ∙ ap (portion other.actor) entries

-- a step that finds a hold due books one entry, and another none; so a share that counts what is booked is raised by that
step_raises : (old new : PlainBook) (caller : By) (before after : Portion) (reply : Option ℕ)
    → after.actor ≡ before.actor → after.entries + length old.entries ≡ before.entries + length new.entries
    → Does old new reply (expire_step old caller) → after ≡ swept before reply
unfolding expire_step
step_raises old new caller before after reply actor counted = of (due old.entries (moment_at old.entries caller.now))
  where
    of : (o : Option ℕ) → Does old new reply (expire_booked old caller o) → after ≡ swept before reply
    of None does =
        let same = ap (λ (b : PlainBook). length b.entries) does.book in
        subst (λ r. after ≡ swept before r) (sym does.reply)
        (same_share after before actor (omega arith))
    of (Some n) does =
        let entry = entry_by old caller (what.Released n cause.Late) in
        let more = ap (λ (b : PlainBook). length b.entries) does.book in
        subst (λ r. after ≡ swept before r) (sym does.reply)
        (same_share after (portion before.actor (before.entries + 1)) actor (omega (arith, length-append old.entries (entry ∷ []))))

-- a desk's session by which one due hold is released raises the share by one entry, and another leaves it
pub session_raises : (desk : PlainDesk) (now : ℤ) (before after : Portion) (reply : Option ℕ)
    → IsExpiredAt desk now before after reply → after ≡ swept before reply
session_raises desk now before after reply session =
    step_raises session.0 session.1 (by before.actor now) before after reply session.2.actor session.2.raised session.3

-- so that session, at a moment that the clock gave, is a turn
pub turn_by : (desk : PlainDesk) (now : ℤ) (before after : PlainSweeper) (reply : Option ℕ)
    → Tells before.moments now after.moments → IsExpiredAt desk now before.share after.share reply → Sweeps desk before after reply
turn_by desk now before after reply asked booked = record { now = now; asked = asked; booked = booked; raised = session_raises desk now before.share after.share reply booked }
