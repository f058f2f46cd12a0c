use Rattle.std.proofs.Common.{rules, ◌≡◌, ℕ, List, length, subst}
use Rattle.ilp_line_file.specs.Device.{Only}
use Rattle.ilp_line_file.specs.Text.{text_of}
use Rattle.ilp_log_text.specs.Head.{head_lines}
use Rattle.ilp_starting.proofs.Heads.{are_text}
use Rattle.ilp_starting.proofs.book_file.BookFile.begin_log.Goals as goal

pub returns-clause-alone : goal.returns-clause-alone
returns-clause-alone g c claims =
    let files = g.R.PlacesFiles in
    let device = c.in_ok-device.device in
    let head : List ℕ = c.into_bytes-head.result.items in
    let lines : List (List ℕ) = head_lines c.args.self.now.config.now c.args.base c.args.text.now in
    let begun = c.in_ok-device.ensures.begun claims in
    let same : c.deref.result.now ≡ head = search rules in
    let is : head ≡ text_of lines = search rules in
    let end : c.len.result ≡ length head = search rules in
    record {
      read = subst (λ (l : List ℕ). files.seen device.file.file ≡ l) same begun.0;
      kept = subst (λ (l : List ℕ). Only l (files.may_leave device.place.sync device.file.file)) same begun.1;
      end = end;
      lines = are_text head lines is c.in_ok-head_text.ensures.lines;
    }
