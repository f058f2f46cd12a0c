-- What a start makes of what a crash left.
use Rattle.std.proofs.Common.{◌≡◌, ◌⊎◌, inl, inr, ℕ, ◌+◌, ◌<◌, ◌^◌, ◌≤◌, ℤ, List, [], ◌∷◌, ◌++◌, length, take, drop, Option, Some, None, All, refl, sym, ◌∙◌, ap, subst, arith, append_assoc, codes}
use Rattle.std.specs.List.{flat_map}
use Rattle.sha2.specs.Sha256.{sha256}
use Rattle.ilp_journal.specs.Journal.{Entries}
use Rattle.ilp_accounts.specs.Valid.{IsValid}
use Rattle.ilp_journal_text.specs.Reading.{IsTyped}
use Rattle.ilp_journal_text.specs.Text.{journal_text}
use Rattle.ilp_journal_text.specs.Text as text
use Rattle.ilp_line_file.specs.Text.{recovered, text_of}
use Rattle.ilp_log.specs.Lines.{LogForm, HasJournalLines}
use Rattle.ilp_log.proofs.Begins.{prefix_length}
use Rattle.ilp_log_text.specs.Head.{first_line, second_line, further_line}
use Rattle.ilp_log_text.specs.Text.{PlainLogText, IsLogText, IsBadHead, CanBegin}
use Rattle.ilp_log_text.specs.declared.reading.BadHead.{BadHead}
use Rattle.ilp_refusals.specs.declared.refusal.Refusal.{Refusal}
use Rattle.ilp_refusals.specs.declared.refusal.Refusal.TheVariants as refusals
use Rattle.ilp_rules.specs.Book.{PlainBook}
use Rattle.ilp_rules.specs.Heads.{IsBooked}
use Rattle.ilp_rules.specs.Lawful.{IsLawful}
use Rattle.ilp_rules.specs.Recover.{IsRecovered, IsWhyNotRecovered, BeginsWith}
use Rattle.ilp_rules.specs.declared.fault.RecoverFault.{RecoverFault}
use Rattle.ilp_rules.specs.declared.fault.RecoverFault.TheVariants as recover_fault
use Rattle.ilp_starting.specs.Beginning.{text_or_nothing, saved_or_none, GoesOn, BeginsWithLog, BeginsBy, recover_refusal, IsWhyNotRecoveredBy, IsWhyNotBegunWithLog, IsWhyNotBegunBy}
use Rattle.ilp_crash_laws.specs.Crash.{IsLeft, IsOfRun, IsWhole}
use Rattle.ilp_crash_laws.proofs.Digest.{digest_octets}
use Rattle.ilp_crash_laws.proofs.Own.{own_booked}
use Rattle.ilp_crash_laws.proofs.Reached.{behind, count, reached, whole, has_told, was_booked, same_text}

-- what the laws say on which this rests
pub record Known : Type 0 where
  pub has_lines : (form : LogForm) (entries : Entries) → HasJournalLines form entries
  pub one_log : (octets : List ℕ) (log other : PlainLogText) → IsLogText octets log → IsLogText octets other → log ≡ other
  pub not_bad : (octets : List ℕ) (log : PlainLogText) (bad : BadHead) → IsLogText octets log → ¬ (IsBadHead octets bad)
  pub begins : (book : PlainBook) (j l : Entries) (n : ℕ) → IsLawful book → All IsTyped book.entries → book.entries ≡ j ++ l → (0 < book.period → All IsBooked l) → IsValid book.config → (now : ℤ) (again : PlainBook)
      → IsRecovered book.config (journal_text book.config book.period j) (text.entry_lines book.config (take n l)) now again → BeginsWith (j ++ take n l) again
  pub refused : (book : PlainBook) (j l : Entries) (n : ℕ) → IsLawful book → All IsTyped book.entries → book.entries ≡ j ++ l → (0 < book.period → All IsBooked l) → IsValid book.config → (fault : RecoverFault)
      → IsWhyNotRecovered book.config (journal_text book.config book.period j) (text.entry_lines book.config (take n l)) fault → fault ≡ recover_fault.Memory

module _ (known : Known) (opening told : Entries) (book : PlainBook) (saved : Option (List ℕ)) (octets : List ℕ) (run : IsOfRun opening book) (left : IsLeft opening told book saved octets) where
  abbrev rest : Entries
  rest = drop (length opening) book.entries

  abbrev lines : List (List ℕ)
  lines = (behind opening told book saved octets left).lines

  n : ℕ
  n = count opening told book saved octets left

  all : book.entries ≡ opening ++ rest
  all = whole opening told book saved octets left

  own : 0 < book.period → All IsBooked rest
  own later = subst (λ (k : ℕ). All IsBooked (drop k book.entries)) run.base (own_booked book run.lawful)

  -- ---- the log

  -- what was left is a log
  log : PlainLogText
  log = record { count = length opening; digest = sha256 (text_or_nothing saved); remembered = second_line book.config; lines = lines }

  begins : CanBegin (length opening) (sha256 (text_or_nothing saved))
  begins =
      let shorter : length opening ≤ length told = prefix_length opening told left.begun in
      let longer : length told ≤ length book.entries = prefix_length told book.entries left.booked in
      record { few = omega (arith, shorter, longer, run.few); octets = digest_octets (text_or_nothing saved) }

  is_log : IsLogText octets log
  unfolding log
  is_log = record {
    lines = (behind opening told book saved octets left).whole;
    begins = begins;
    run = (book.config.settings.run ++ flat_map (further_line book.config) book.config.peers, append_assoc (codes "run ") book.config.settings.run _);
  }

  -- and can be read in no other way
  only_log : (other : PlainLogText) → IsLogText octets other → other ≡ log
  only_log other is = known.one_log octets other log is is_log

  goes_on : GoesOn log saved
  unfolding log
  goes_on = refl

  log_text : text_of log.lines ≡ text.entry_lines book.config (take n rest)
  unfolding log n
  log_text = same_text opening told book saved octets left known.has_lines

  -- ---- the book

  of_saved : (now : ℤ) (again : PlainBook) → IsRecovered book.config (saved_or_none saved) (text_of log.lines) now again → IsWhole told book again
  unfolding n
  of_saved now again is = record {
    reached = reached opening told book saved octets left;
    has = has_told opening told book saved octets left;
    booked = was_booked opening told book saved octets left;
    begins = known.begins book opening rest n run.lawful run.typed all own run.valid now again
        (subst (λ (t : List ℕ). IsRecovered book.config (journal_text book.config book.period opening) t now again) log_text
        (subst (λ (t : List ℕ). IsRecovered book.config t (text_of log.lines) now again) left.saved is));
  }

  pub is_whole : (now : ℤ) (again : PlainBook) → BeginsBy book.config saved (Some octets) now again → IsWhole told book again
  is_whole now again (other, is, by) = of_it (subst (λ (l : PlainLogText). BeginsWithLog book.config saved l now again) (only_log other is) by)
    where
      of_it : BeginsWithLog book.config saved log now again → IsWhole told book again
      of_it (inl (on, recovered)) = of_saved now again recovered
      of_it (inr (off, has, begun)) = absurd (off goes_on)

  -- ---- no refusal

  not_recovered : (refusal : Refusal) → IsWhyNotRecoveredBy book.config (saved_or_none saved) (text_of log.lines) refusal → refusal ≡ refusals.Memory
  not_recovered refusal (fault, why, is) =
      let memory : fault ≡ recover_fault.Memory = known.refused book opening rest n run.lawful run.typed all own run.valid fault
      (subst (λ (t : List ℕ). IsWhyNotRecovered book.config (journal_text book.config book.period opening) t fault) log_text
      (subst (λ (t : List ℕ). IsWhyNotRecovered book.config t (text_of log.lines) fault) left.saved why)) in
      is ∙ ap recover_refusal memory

  pub is_not_refused : (refusal : Refusal) → IsWhyNotBegunBy book.config saved (Some octets) refusal → refusal ≡ refusals.Memory
  is_not_refused refusal (inl (bad, is_bad, is)) = absurd (known.not_bad octets log bad is_log is_bad)
  is_not_refused refusal (inr (other, is, why)) = of_it (subst (λ (l : PlainLogText). IsWhyNotBegunWithLog book.config saved l refusal) (only_log other is) why)
    where
      of_it : IsWhyNotBegunWithLog book.config saved log refusal → refusal ≡ refusals.Memory
      of_it (inl (on, fault)) = not_recovered refusal fault
      of_it (inr (inl (off, has, begun))) = absurd (off goes_on)
      of_it (inr (inr (off, lacks, unread))) = absurd (off goes_on)
