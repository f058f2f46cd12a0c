use Rattle.std.proofs.Common.{◌≡◌, ◌≤◌, ◌∙◌, ap, sym, subst}
use Rattle.std.specs.Prelude.{Some, IfSome}
use Rattle.ilp_book.specs.Book.{PlainBook}
use Rattle.ilp_line_file.specs.Text.{IsBetween}
use Rattle.ilp_log.specs.declared.ack.Ack.{Ack}
use Rattle.ilp_log.specs.declared.open_log.PlainLog.{PlainLog}
use Rattle.ilp_log.specs.Lines.{lines_of}
use Rattle.ilp_running.specs.Logging.{told_at, EndsLog, IsLogged}
use Rattle.ilp_running.proofs.Logged.{is_logged}
use Rattle.ilp_running.proofs.logging.has_all.Goals as goal

-- What it told first and last is found again: nothing has changed in between.
pub returns-clause-logged : goal.returns-clause-logged
returns-clause-logged g c claims is =
    let D = g.D.Device in
    let form = g.K.LogNaming.form in
    let first = c.in-Some.begun in
    let last = c.in-Ok.kept in
    let entries = c.args.book.now.entries in
    let device = c.commit_all.new.self.device in
    let then_ : c.find.new.self.device ≡ device = ap (λ (l : PlainLog _). l.device) c.find.ensures.log in
    let later : c.find-2.new.self.device ≡ c.find.new.self.device = ap (λ (l : PlainLog _). l.device) c.find-2.ensures.log in
    let book : c.commit_all.new.book.entries ≡ entries = ap (λ (b : PlainBook). b.entries) c.commit_all.ensures.book in
    let book2 : c.find.new.book.entries ≡ entries = ap (λ (b : PlainBook). b.entries) c.find.ensures.book ∙ book in
    let logged : IsLogged D.seen D.may_leave D.left_since form first.moment entries device =
    is_logged D.seen D.may_leave D.moment D.left_since form entries device first last
    (subst (λ o. IfSome o (λ (first : Ack). first.lines ≡ form.head)) c.in-Some.is (c.requires claims))
    (λ crash left. subst (λ es. IsBetween first.lines (lines_of form es) crash) book (c.find.ensures.each claims crash left))
    (c.in-Ok.ensures.kept claims)
    (λ crash left. subst (λ es. IsBetween last.lines (lines_of form es) crash) book2
    (c.find-2.ensures.each claims crash (subst (λ d. D.left_since d last.moment crash) (sym then_) left)))
    (λ crash left. g.met.D.Device.counts_now claims device last.moment crash (subst (λ d. last.moment ≤ D.moment d) then_ (c.find-2.ensures.earlier claims)) left) in
    subst (λ o. EndsLog D.seen D.may_leave D.left_since form (told_at o) entries (Some c.find-2.new.self.device)) (sym c.in-Some.is)
    (subst (λ d. IsLogged D.seen D.may_leave D.left_since form first.moment entries d) (sym (later ∙ then_)) logged)
