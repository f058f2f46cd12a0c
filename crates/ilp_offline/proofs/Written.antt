-- Parts of a text that were written one after another.
use Rattle.std.proofs.Common.{◌≡◌, ℕ, List, ◌∷◌, ◌++◌, Option, sym, ◌∙◌, ap, append_assoc}
use Rattle.std.specs.Io.KnownBytes.{Appends}
use Rattle.std.proofs.KnownBytes.{Appends-trans}
use Rattle.ilp_io.specs.Writing.{AppendsPrefix}
use Rattle.ilp_book.specs.Book.{PlainBook}
use Rattle.ilp_offline.specs.Script.{lines_of}
use Rattle.ilp_offline.specs.Replay.{text_from, line_text, after_line}

-- a front of the next part, after what was written
pub prefix_after : (before between after : Option (List ℕ)) (written part more text : List ℕ) → Appends before between written → AppendsPrefix between after part
    → written ++ (part ++ more) ≡ text → AppendsPrefix before after text
prefix_after before between after written part more text first next whole = record {
  written = written ++ next.written;
  rest = next.rest ++ more;
  whole = sym whole ∙ ap (λ (xs : List ℕ). written ++ (xs ++ more)) next.whole ∙ ap (λ (xs : List ℕ). written ++ xs) (append_assoc next.written next.rest more)
      ∙ sym (append_assoc written next.written (next.rest ++ more));
  taken = Appends-trans before between after written next.written first next.taken;
}

-- the text of a script that has a first line
pub text_from-line : (book : PlainBook) (script line more : List ℕ) → lines_of script ≡ line ∷ lines_of more
    → text_from book (lines_of script) ≡ line_text book line ++ text_from (after_line book line) (lines_of more)
text_from-line book script line more lines = ap (text_from book) lines

-- after a line, what it prints and the text of the lines after it stand in the place of the rest
pub text_from-step : (book after : PlainBook) (rest line more written whole : List ℕ)
    → lines_of rest ≡ line ∷ lines_of more → after ≡ after_line book line
    → written ++ text_from book (lines_of rest) ≡ whole → written ++ (line_text book line ++ text_from after (lines_of more)) ≡ whole
text_from-step book after rest line more written whole lines booked before =
    rw booked (ap (λ (xs : List ℕ). written ++ xs) (sym (text_from-line book rest line more lines)) ∙ before)
