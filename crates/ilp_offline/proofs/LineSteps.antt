-- What a Prepare's hold says of its line.
use Rattle.std.proofs.Common.{◌≡◌, ℕ, ℤ, Ok, Err, Result, ap, ◌∙◌, subst}
use Rattle.std.specs.Prelude.{IfOk, OnErr}
use Rattle.ilp_packet.specs.Packet.{PlainPrepare, prepare}
use Rattle.ilp_book.specs.declared.calls.Held.{Held}
use Rattle.ilp_book.specs.declared.fault.HoldFault.{HoldFault}
use Rattle.ilp_book.specs.Book.{PlainBook, by, Growth, granted, Does}
use Rattle.ilp_book.specs.HoldStep.{incoming, hold_step}
use Rattle.ilp_offline.specs.declared.reply.LineReply.{LineReply}
use Rattle.ilp_offline.specs.Replay.{hold_packet, hold_reply}

-- where memory was granted a hold's reply is the line's
pub hold_line : (book new : PlainBook) (now same : ℤ) (peer : ℕ) (p : PlainPrepare) (outcome : Result Held HoldFault) (growth : Growth) (reply : LineReply)
    → same ≡ now → growth ≡ granted → reply ≡ hold_reply outcome → Does book new outcome (hold_step book (by 0 same) (incoming book.config peer p) growth)
    → Does book new reply (hold_packet book now peer (Ok (prepare p)))
hold_line book new now same peer p outcome growth reply is ample told does =
    let Done : ℤ → Growth → Type 0 = λ t g. Does book new outcome (hold_step book (by 0 t) (incoming book.config peer p) g) in
    let done : Done now granted = subst (λ t. Done t granted) is (subst (Done same) ample does) in
    record { reply = told ∙ ap hold_reply done.reply; book = done.book }

-- a hold's reply is the line's, where want of memory does not take it away
pub hold_lines : {E : Type 0} (book new : PlainBook) (now same : ℤ) (peer : ℕ) (p : PlainPrepare) (outcome : Result Held HoldFault) (growth : Growth) (told : Result LineReply E)
    → same ≡ now → IfOk told (λ reply. reply ≡ hold_reply outcome) → IfOk told (λ _. growth ≡ granted) → Does book new outcome (hold_step book (by 0 same) (incoming book.config peer p) growth)
    → IfOk told (λ reply. Does book new reply (hold_packet book now peer (Ok (prepare p))))
hold_lines book new now same peer p outcome growth (Err e) is reply ample does = tt
hold_lines book new now same peer p outcome growth (Ok x) is reply ample does = hold_line book new now same peer p outcome growth x is ample reply does

-- what want of memory leaves is left where it takes the reply away
pub on_denied : {X Y E F : Type 0} (P : Type 0) (told : Result X E) (outcome : Result Y F) (why : F) → OnErr told (outcome ≡ Err why) → OnErr outcome P → OnErr told P
on_denied P (Ok x) outcome why denied left = tt
on_denied P (Err e) outcome why denied left = subst (λ o. OnErr o P) denied left
