-- The whole text of a period's journal and log.
use Rattle.std.proofs.Common.{◌≡◌, ℕ, List, [], ◌∷◌, ◌++◌, ◌+◌, ap, sym, ◌∙◌, length}
use Rattle.std.specs.Prelude.{codes}
use Rattle.std.specs.Fmt.{decimal}
use Rattle.std.proofs.lemmas.List.{append_assoc, append_cancel_right, append-nil, length-append}
use Rattle.std.proofs.lemmas.Grind.{flat_map-append}
use Rattle.ilp_accounts.specs.Configuration.{Configuration}
use Rattle.ilp_journal.specs.Journal.{Entries}
use Rattle.ilp_journal_text.specs.Text.{entry_line, entry_lines, end_line, first_line, journal_text}
use Rattle.ilp_line_file.specs.Text.{text_of}
use Rattle.ilp_log_text.specs.Text.{PlainLogText}
use Rattle.ilp_starting.specs.Beginning.{line_count}
use Rattle.ilp_starting.specs.Ended.{IsWholeText}

-- how the last line is spelt
pub end_spelt : (count : ℕ) → codes "end " ++ (decimal count ++ codes "\n") ≡ end_line count
end_spelt count = ap (λ (digits : List ℕ). codes "end " ++ (digits ++ 10 ∷ [])) (sym (append-nil (decimal count)))

pub whole_text : (C : Configuration) (period : ℕ) (j logged : Entries) (log : PlainLogText) (whole : List ℕ) → log.count ≡ length j
    → text_of log.lines ≡ entry_lines C logged → line_count (text_of log.lines) ≡ length logged → IsWholeText (journal_text C period j) log whole
    → whole ≡ journal_text C period (j ++ logged)
whole_text C period j logged log whole count lines as_many is =
    let first = first_line period in
    let front : is.front ≡ first ++ entry_lines C j =
    append_cancel_right is.front (first ++ entry_lines C j) (end_line log.count)
    (sym is.is ∙ ap (λ n. first ++ (entry_lines C j ++ end_line n)) (sym count) ∙ sym (append_assoc first (entry_lines C j) (end_line log.count))) in
    let behind : log.count + line_count (text_of log.lines) ≡ length (j ++ logged) =
    ap (λ n. n + line_count (text_of log.lines)) count ∙ ap (λ n. length j + n) as_many ∙ sym (length-append j logged) in
    let all : entry_lines C (j ++ logged) ≡ entry_lines C j ++ entry_lines C logged = flat_map-append (entry_line C) j logged in
    is.all
    ∙ ap (λ (octets : List ℕ). octets ++ (text_of log.lines ++ end_line (log.count + line_count (text_of log.lines)))) front
    ∙ ap (λ (octets : List ℕ). (first ++ entry_lines C j) ++ (octets ++ end_line (log.count + line_count (text_of log.lines)))) lines
    ∙ ap (λ n. (first ++ entry_lines C j) ++ (entry_lines C logged ++ end_line n)) behind
    ∙ append_assoc first (entry_lines C j) (entry_lines C logged ++ end_line (length (j ++ logged)))
    ∙ ap (λ (octets : List ℕ). first ++ octets) (sym (append_assoc (entry_lines C j) (entry_lines C logged) (end_line (length (j ++ logged)))))
    ∙ ap (λ (octets : List ℕ). first ++ (octets ++ end_line (length (j ++ logged)))) (sym all)
