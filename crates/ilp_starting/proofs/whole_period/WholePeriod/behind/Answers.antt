use Rattle.std.proofs.Common.{◌≡◌, List, ℕ, ◌+◌, ◌++◌, Some, ap, ◌∙◌, arith, string_bytes}
use Rattle.std.proofs.lemmas.Bool.Decides.{Decides-eqb}
use Rattle.std.proofs.lemmas.Slice.Eq.{strip_suffix_is}
use Rattle.ilp_journal_text.specs.Text.{end_line}
use Rattle.ilp_line_file.specs.Text.{text_of}
use Rattle.ilp_starting.specs.Beginning.{line_count}
use Rattle.ilp_starting.proofs.whole_period.WholePeriod.behind.Goals as goal

-- what stands before the last line is the front, and the new last line counts the log's lines too
pub returns : goal.returns
returns c =
    let front = c.in-Some.front.now in
    let log = c.args.log.now in
    let found = strip_suffix_is Decides-eqb c.args.saved.now c.as_bytes.result.now (Some c.in-Some.front) c.in-Some.ensures.cases in
    let said : c.from.result ≡ log.count = omega (arith, c.from.ensures, c.count.ensures) in
    let last : c.as_bytes.result.now ≡ end_line log.count = c.as_bytes.ensures.value ∙ c.in_ok-last.ensures ∙ ap end_line said in
    let lines = c.lines-lines.ensures.text in
    let counted : c.in-Some-checked_add.count ≡ log.count + line_count (text_of log.lines) =
    omega (arith, c.in-Some-checked_add.ensures, c.from-2.ensures, c.count-2.ensures, c.line_count.ensures, ap line_count lines) in
    let end : string_bytes c.in_ok-end_line.field-0 ≡ end_line (log.count + line_count (text_of log.lines)) = c.in_ok-end_line.ensures ∙ ap end_line counted in
    record {
      whole = record {
        front = front;
        is = found ∙ ap (λ (octets : List ℕ). front ++ octets) last;
        all =
            ap (λ (octets : List ℕ). front ++ (octets ++ string_bytes c.in_ok-end_line.field-0)) lines
            ∙ ap (λ (octets : List ℕ). front ++ (text_of log.lines ++ octets)) end;
      };
    }
