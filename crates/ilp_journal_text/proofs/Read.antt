-- What a reader knows of a text on its way.
use Rattle.std.proofs.Common.{◌≡◌, ℕ, ◌^◌, ◌<◌, All, List, [], ◌∷◌, ◌++◌, sym, ap, subst, ◌∙◌, arith, append_assoc, length-append}
use Rattle.std.specs.List.{flat_map}
use Rattle.std.proofs.lemmas.Grind.{flat_map-append}
use Rattle.std.proofs.lemmas.List.{append-nil}
use Rattle.std.proofs.lemmas.List.Elements.{All-nil, All-push}
use Rattle.ilp_accounts.specs.Configuration.{Configuration}
use Rattle.ilp_journal.specs.declared.entry.Entry.{Entry}
use Rattle.ilp_journal.specs.Journal.{Entries}
use Rattle.ilp_journal_text.specs.Text.{first_line, entry_line, end_line}
use Rattle.ilp_journal_text.specs.Reading.{StandsIn, IsTextOf, Unread, Begins, Takes, IsAtEnd, HasRead}

module _ (C : Configuration) (text : List ℕ) where
  -- after the first line no entry was read
  pub has_begun : (u : Unread) → Begins text u → HasRead C text [] u
  has_begun u begins = record { whole = begins.whole; numbered = begins.numbered; entries = All-nil (StandsIn C u.period); count = begins.count }

  -- the line of an entry adds it to those that were read
  pub has_taken : (j : Entries) (e : Entry) (u v : Unread) → HasRead C text j u → Takes C e u v → HasRead C text (j ++ e ∷ []) v
  has_taken j e u v read takes = record {
    whole =
        let lines : List ℕ = flat_map (entry_line C) j in
        let grown : flat_map (entry_line C) (j ++ e ∷ []) ≡ lines ++ entry_line C e =
        flat_map-append (entry_line C) j (e ∷ []) ∙ ap (λ (octets : List ℕ). lines ++ octets) (append-nil (entry_line C e)) in
        read.whole
        ∙ ap (λ (octets : List ℕ). first_line u.period ++ octets)
        (ap (λ (octets : List ℕ). lines ++ octets) takes.line ∙ sym (append_assoc lines (entry_line C e) v.rest) ∙ ap (λ (octets : List ℕ). octets ++ v.rest) (sym grown))
        ∙ ap (λ (period : ℕ). first_line period ++ (flat_map (entry_line C) (j ++ e ∷ []) ++ v.rest)) (sym takes.period);
    numbered = subst (λ (period : ℕ). period < 2 ^ 32) (sym takes.period) read.numbered;
    entries = subst (λ (period : ℕ). All (StandsIn C period) (j ++ e ∷ [])) (sym takes.period) (All-push (StandsIn C u.period) j e read.entries takes.stands);
    count = omega (arith, takes.count, read.count, length-append j (e ∷ []));
  }

  -- at the end line the text is that of all entries
  pub has_ended : (j : Entries) (u : Unread) → HasRead C text j u → IsAtEnd u → IsTextOf C u.period j text
  has_ended j u read ended = record {
    whole = read.whole ∙ ap (λ (octets : List ℕ). first_line u.period ++ (flat_map (entry_line C) j ++ octets)) (ended ∙ ap end_line read.count);
    numbered = read.numbered;
    entries = read.entries;
  }
