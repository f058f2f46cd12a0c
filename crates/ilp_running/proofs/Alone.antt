-- A file that has its head alone is ready to grow.
use Rattle.std.proofs.Common.{◌≡◌, ◌∙◌, ℕ, List, [], length, take, drop, sym, ap, subst, arith}
use Rattle.std.proofs.Math.Seq.{take-length, drop-length}
use Rattle.ilp_line_file.specs.Text.{recovered, text_of, IsBlank}
use Rattle.ilp_log.specs.declared.start.BegunLog.{BegunLog}
use Rattle.ilp_running.specs.Logging.{IsAlone, IsBegun}

pub alone_begun : {D : Type 0} (seen : D → List ℕ) (may_leave : D → List ℕ → Type 0) (log : BegunLog D) → IsAlone seen may_leave log → IsBegun seen may_leave log
alone_begun seen may_leave log alone =
    let head : List ℕ = log.start.head.items in
    let octets : List ℕ = seen log.file.device in
    let lines : head ≡ text_of (recovered octets) = alone.lines ∙ ap (λ (l : List ℕ). text_of (recovered l)) (sym alone.read) in
    record {
      settled = record {
        within = omega (arith, alone.end, ap (λ (l : List ℕ). length l) alone.read);
        text = ap (λ (e : ℕ). take e octets) alone.end ∙ ap (λ (l : List ℕ). take (length head) l) alone.read ∙ take-length head ∙ lines;
        blank = subst IsBlank (sym (ap (λ (e : ℕ). drop e octets) alone.end ∙ ap (λ (l : List ℕ). drop (length head) l) alone.read ∙ drop-length head)) tt;
        durable = λ c left. alone.kept c left ∙ sym alone.read;
      };
      head = lines;
    }
