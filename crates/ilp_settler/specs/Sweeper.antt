-- A sweeper as contracts see it, and what a turn of it does.
use Rattle.std.specs.Prelude.{◌≡◌, ℕ, ◌+◌, ℤ, List, Option, Some, None}
use Rattle.ilp_book.specs.Book.{by}
use Rattle.ilp_book.specs.AnswerStep.{expire_step}
use Rattle.ilp_desk.specs.Desk.{PlainDesk}
use Rattle.ilp_desk.specs.Portion.{Portion, portion}
use Rattle.ilp_desk.specs.Session.{IsReplyAt}
use Rattle.ilp_link_traits.specs.Links.{Tells}

-- its share, and the moments that its clock gave, where that tells
pub record PlainSweeper : Type 0 where
  pub share : Portion
  pub moments : Option (List ℤ)

abbrev pub sweeper : Portion → Option (List ℤ) → PlainSweeper
sweeper share moments = record { share = share; moments = moments }

-- A book of the desk was asked at a moment for one release that is due, and this was its reply.
abbrev pub IsExpiredAt : PlainDesk → ℤ → Portion → Portion → Option ℕ → Type 0
IsExpiredAt desk now before after reply = IsReplyAt desk (λ book. expire_step book (by before.actor now)) before after reply

-- the share after a reply: it has one entry more exactly where a hold was released
abbrev pub swept : Portion → Option ℕ → Portion
swept share None = share
swept share (Some hold) = portion share.actor (share.entries + 1)

-- A book is asked once, at a moment that the clock gives, and the share is raised by what that booked.
pub record Sweeps (desk : PlainDesk) (before after : PlainSweeper) (reply : Option ℕ) : Type 0 where
  pub now : ℤ
  pub asked : Tells before.moments now after.moments
  pub booked : IsExpiredAt desk now before.share after.share reply
  pub raised : after.share ≡ swept before.share reply
