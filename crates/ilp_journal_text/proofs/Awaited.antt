-- What a text begins with where the line of an entry comes next.
use Rattle.std.proofs.Common.{◌≡◌, ℕ, ◌≤◌, false, List, [], ◌∷◌, ◌++◌, length, Result, Ok, Err, sym, ◌∙◌, arith, inl, inr, All}
use Rattle.std.specs.List.{slice_split}
use Rattle.std.specs.Result.{IfErr}
use Rattle.std.proofs.lemmas.List.{append-nil}
use Rattle.std.specs.Fmt.{decimal, signed_decimal}
use Rattle.ilp_accounts.specs.Configuration.{Configuration}
use Rattle.ilp_accounts.specs.Valid.{IsValid}
use Rattle.ilp_journal.specs.declared.entry.Entry.{Entry}
use Rattle.ilp_journal.specs.declared.entry.What.{What}
use Rattle.ilp_journal.specs.declared.entry.What.TheVariants as what
use Rattle.ilp_journal.specs.declared.credit_kind.CreditKind.{CreditKind}
use Rattle.ilp_journal.specs.declared.credit_kind.CreditKind.TheVariants.{Settled, Raised, Lowered}
use Rattle.ilp_journal.specs.declared.entry.Cause.{Cause}
use Rattle.ilp_journal.specs.declared.entry.Cause.TheVariants.{Late, WrongPreimage, NoReply, Peer, Restart}
use Rattle.ilp_journal_text.specs.declared.fields.LineFault.{LineFault}
use Rattle.ilp_journal_text.specs.declared.fields.LineFault.TheVariants.{Bad}
use Rattle.ilp_journal_text.specs.Text.{cause_fields, kind_fields, what_fields, entry_line}
use Rattle.ilp_journal_text.specs.Reading.{CanStand, IsTyped, IsLine, HasNoNul}
use Rattle.ilp_journal_text.specs.Fields.{is_space, is_line_end, entry_fields, Gives}
use Rattle.ilp_journal_text.proofs.Ink.{moment_ink, further_ink, typed_of}
use Rattle.ilp_journal_text.proofs.Cuts.{body, cut_fields, body_ink, line_ink, line_parts}

-- the line of an entry without its end
abbrev pub entry_body : Configuration → Entry → List ℕ
entry_body C e = body (signed_decimal e.moment) (decimal e.actor ∷ what_fields C e.what)

cause_few : (cause : Cause) → length (cause_fields cause) ≤ 2
cause_few Late = omega arith
cause_few WrongPreimage = omega arith
cause_few NoReply = omega arith
cause_few (Peer code) = omega arith
cause_few Restart = omega arith

kind_few : (kind : CreditKind) → length (kind_fields kind) ≤ 2
kind_few Settled = omega arith
kind_few (Raised reason) = omega arith
kind_few (Lowered reason) = omega arith

module _ (C : Configuration) where
  what_few : (w : What) → length (what_fields C w) ≤ 8
  what_few (what.Hold h) = omega arith
  what_few (what.Fulfilled hold preimage) = omega arith
  what_few (what.Released hold cause) = omega (arith, cause_few cause)
  what_few (what.Credited c) = omega (arith, kind_few c.kind)
  what_few (what.Asked a) = omega arith
  what_few (what.Confirmed ask) = omega arith
  what_few (what.Undone ask) = omega arith
  what_few (what.Opened peer balance) = omega arith
  what_few (what.Known c) = omega (arith, kind_few c.kind)
  what_few (what.Pending peer amount key) = omega arith

  -- no line has more than ten fields
  pub entry_few : (e : Entry) → length (entry_fields C e) ≤ 10
  entry_few e = omega (arith, what_few e.what)

  pub entry_parts : (e : Entry) (after text : List ℕ) → text ≡ entry_line C e ++ after → text ≡ entry_body C e ++ 10 ∷ after
  entry_parts e after text whole = whole ∙ line_parts (signed_decimal e.moment) (decimal e.actor ∷ what_fields C e.what) after

  module _ (valid : IsValid C) (e : Entry) (typed : IsTyped e) where
    typed_clean : All (λ octet. is_line_end octet ≡ false) (entry_body C e)
    typed_clean = body_ink (signed_decimal e.moment) (decimal e.actor ∷ what_fields C e.what) (moment_ink e.moment typed.moment) (further_ink C valid e typed)

    -- it is one line
    pub typed_line : IsLine (entry_line C e)
    typed_line = record { body = entry_body C e; whole = entry_parts e [] (entry_line C e) (sym (append-nil (entry_line C e))); clean = typed_clean }

    -- without NUL
    pub typed_no_nul : HasNoNul (entry_line C e)
    typed_no_nul = line_ink (signed_decimal e.moment) (decimal e.actor ∷ what_fields C e.what) (moment_ink e.moment typed.moment) (further_ink C valid e typed)

  module _ (valid : IsValid C) (e : Entry) (stands : CanStand C e) where
    pub entry_clean : All (λ octet. is_line_end octet ≡ false) (entry_body C e)
    entry_clean = typed_clean valid e (typed_of C e stands)

    pub entry_cut : slice_split is_space (entry_body C e) ≡ entry_fields C e
    entry_cut =
        let typed = typed_of C e stands in
        cut_fields (signed_decimal e.moment) (decimal e.actor ∷ what_fields C e.what) (moment_ink e.moment typed.moment) (further_ink C valid e typed)

-- what a reader of fields says
pub on_err : {T E : Type 0} (r : Result T E) (Q : E → Type 0) → ((e : E) → Q e) → IfErr r Q
on_err (Ok x) Q all = tt
on_err (Err e) Q all = all e

pub given : {T : Type 0} (x y : T) → Gives (Ok x) y → x ≡ y
given x y (inl same) = cc
given x y (inr other) = absurd (cc)

pub refused : {T : Type 0} (y : T) (fault : LineFault) → fault ≡ Bad → Gives {T = T} (Err fault) y → ⊥
refused y fault bad (inl other) = cc
refused y fault bad (inr other) = cc
