-- What was told of a log is what a crash leaves of it.
use Rattle.std.proofs.lemmas.List.{append-nil}
use Rattle.std.proofs.Common.{◌≡◌, ℕ, ◌<◌, ◌^◌, ℤ, List, [], length, All, Option, Some, refl, sym, ap, subst, ◌∙◌}
use mathlib.Core.List.{IsPrefix}
use Rattle.ilp_accounts.specs.Valid.{IsValid}
use Rattle.ilp_journal.specs.Journal.{Entries}
use Rattle.ilp_journal_text.specs.Reading.{IsTyped}
use Rattle.ilp_journal_text.specs.Text.{journal_text}
use Rattle.ilp_line_file.specs.Text.{IsBetween}
use Rattle.ilp_log.specs.Lines.{LogForm, lines_of}
use Rattle.ilp_log.proofs.Begins.{wider}
use Rattle.ilp_refusals.specs.declared.refusal.Refusal.{Refusal}
use Rattle.ilp_refusals.specs.declared.refusal.Refusal.TheVariants as refusals
use Rattle.ilp_rules.specs.Book.{PlainBook}
use Rattle.ilp_desk.specs.Desk.{PlainDesk, IsBookOf}
use Rattle.ilp_starting.specs.Beginning.{saved_or_none, BeginsBy, IsWhyNotBegunBy}
use Rattle.ilp_crash_laws.specs.Crash.{log_behind, IsLeft, IsOfRun, IsWhole}
use Rattle.test_crash.specs.Whole.{IsWholeBehind}

-- what the law says of a crash
pub record Known : Type 0 where
  pub whole : (opening told : Entries) (book : PlainBook) (text : Option (List ℕ)) (octets : List ℕ) → IsOfRun opening book → IsLeft opening told book text octets → (now : ℤ) (again : PlainBook)
      → BeginsBy book.config text (Some octets) now again → IsWhole told book again
  pub refused : (opening told : Entries) (book : PlainBook) (text : Option (List ℕ)) (octets : List ℕ) → IsOfRun opening book → IsLeft opening told book text octets → (refusal : Refusal)
      → IsWhyNotBegunBy book.config text (Some octets) refusal → refusal ≡ refusals.Memory

module _ (known : Known) (desk : PlainDesk) (form : LogForm) (text : Option (List ℕ)) (book : PlainBook) (seen : Entries) (told : List (List ℕ)) where
  pub found : (crash : List ℕ → Type 0) → form ≡ log_behind desk.config desk.opening text → saved_or_none text ≡ journal_text desk.config desk.period desk.opening
      → IsBookOf desk book → IsValid book.config → All IsTyped book.entries → length book.entries < 2 ^ 32
      → IsPrefix desk.opening seen → IsPrefix seen book.entries → IsPrefix (lines_of form seen) told
      → ((c : List ℕ) → crash c → IsBetween told (lines_of form book.entries) c) → IsWholeBehind desk text crash seen
  found crash named saved of_desk valid typed few begins booked kept each = record {
    book = book;
    of_desk = of_desk;
    whole = λ octets left now again by.
        known.whole desk.opening seen book text octets run (is_left octets left) now again
        (subst (λ C. BeginsBy C text (Some octets) now again) (sym of_desk.config) by);
    refused = λ octets left refusal why.
        known.refused desk.opening seen book text octets run (is_left octets left) refusal
        (subst (λ C. IsWhyNotBegunBy C text (Some octets) refusal) (sym of_desk.config) why);
  }
    where
      run : IsOfRun desk.opening book
      run = record { valid = valid; lawful = of_desk.lawful; typed = typed; few = few; base = of_desk.base }

      same_form : form ≡ log_behind book.config desk.opening text
      same_form = named ∙ ap (λ C. log_behind C desk.opening text) (sym of_desk.config)

      is_left : (octets : List ℕ) → crash octets → IsLeft desk.opening seen book text octets
      is_left octets left =
          let all = wider told (lines_of form book.entries) (lines_of form seen) (lines_of form book.entries) octets kept ([], append-nil (lines_of form book.entries)) (each octets left) in
          record {
            saved = saved ∙ ap (λ C. journal_text C desk.period desk.opening) (sym of_desk.config) ∙ ap (λ (p : ℕ). journal_text book.config p desk.opening) (sym of_desk.period);
            begun = begins;
            booked = booked;
            between = subst (λ (f : LogForm). IsBetween (lines_of f seen) (lines_of f book.entries) octets) same_form all;
          }
