-- What the octets of a log's file say, and that they say one thing.
use Rattle.std.proofs.Common.{◌≡◌, ◌≢◌, ℕ, List, [], ◌∷◌, sym, ◌∙◌, ap, subst}
use Rattle.ilp_line_file.specs.Text.{recovered}
use Rattle.ilp_log_text.specs.declared.reading.BadHead.{BadHead}
use Rattle.ilp_log_text.specs.declared.reading.BadHead.TheVariants.{First, Second}
use Rattle.ilp_log_text.specs.Head.{first_line}
use Rattle.ilp_log_text.specs.Lines.{CutsLine}
use Rattle.ilp_log_text.specs.Text.{PlainLogText, CanBegin, NamesRun, IsLogText, LacksFirst, LacksSecond, IsBadHead}
use Rattle.ilp_log_text.proofs.Origins.{same_count, same_digest}

-- ---- reading

module _ (octets text : List ℕ) (same : recovered text ≡ recovered octets) where
  -- there is no line
  pub no_first : recovered text ≡ [] → LacksFirst (recovered octets)
  no_first none count digest after begins is = absurd (cc (same, none, is))

  -- the first line is not that of a log
  pub not_first : (line rest : List ℕ) → CutsLine text line rest → ((count : ℕ) (digest : List ℕ) → CanBegin count digest → line ≢ first_line count digest) → LacksFirst (recovered octets)
  not_first line rest cuts none count digest after begins is =
      let lines : line ∷ recovered rest ≡ first_line count digest ∷ after = sym cuts.first ∙ same ∙ is in
      none count digest begins (cc)

  module _ (line rest : List ℕ) (cuts : CutsLine text line rest) (count : ℕ) (digest : List ℕ) (begins : CanBegin count digest) (is : line ≡ first_line count digest) where
    first_is : recovered octets ≡ first_line count digest ∷ recovered rest
    first_is = sym same ∙ cuts.first ∙ ap (λ (l : List ℕ). l ∷ recovered rest) is

    -- it is, and there is no other
    pub no_second : recovered rest ≡ [] → LacksSecond (recovered octets)
    no_second none = record {
      count = count;
      digest = digest;
      after = recovered rest;
      first = first_is;
      begins = begins;
      lacks = λ second further names is_second. absurd (cc (none, is_second));
    }

    -- or none of a run
    pub not_second : (second lines : List ℕ) → CutsLine rest second lines → (NamesRun second → ⊥) → LacksSecond (recovered octets)
    not_second second lines cuts_second none = record {
      count = count;
      digest = digest;
      after = recovered rest;
      first = first_is;
      begins = begins;
      lacks = λ line further names is_second.
          let all : second ∷ recovered lines ≡ line ∷ further = sym cuts_second.first ∙ is_second in
          let same_line : line ≡ second = cc in
          none (subst NamesRun same_line names);
    }

    -- or one of a run
    pub has_both : (second lines : List ℕ) → CutsLine rest second lines → NamesRun second → IsLogText octets (record { count = count; digest = digest; remembered = second; lines = recovered lines })
    has_both second lines cuts_second names = record {
      lines = first_is ∙ ap (λ (l : List (List ℕ)). first_line count digest ∷ l) cuts_second.first;
      begins = begins;
      run = names;
    }

-- ---- one reading

abbrev log_of : ℕ → List ℕ → List ℕ → List (List ℕ) → PlainLogText
log_of count digest remembered lines = record { count = count; digest = digest; remembered = remembered; lines = lines }

pub one_log : (octets : List ℕ) (log other : PlainLogText) → IsLogText octets log → IsLogText octets other → log ≡ other
one_log octets log other is is' =
    let both : first_line log.count log.digest ∷ log.remembered ∷ log.lines ≡ first_line other.count other.digest ∷ other.remembered ∷ other.lines = sym is.lines ∙ is'.lines in
    let first : first_line log.count log.digest ≡ first_line other.count other.digest = cc in
    let counts = same_count log.count other.count log.digest other.digest is.begins is'.begins first in
    let digests = same_digest log.count other.count log.digest other.digest is.begins is'.begins first in
    let seconds : log.remembered ≡ other.remembered = cc in
    let lines : log.lines ≡ other.lines = cc in
    ap (λ (n : ℕ). log_of n log.digest log.remembered log.lines) counts
    ∙ ap (λ (d : List ℕ). log_of other.count d log.remembered log.lines) digests
    ∙ ap (λ (r : List ℕ). log_of other.count other.digest r log.lines) seconds
    ∙ ap (λ (l : List (List ℕ)). log_of other.count other.digest other.remembered l) lines

-- what can be read has no bad line
pub not_bad : (octets : List ℕ) (log : PlainLogText) (bad : BadHead) → IsLogText octets log → IsBadHead octets bad → ⊥
not_bad octets log First is lacks = lacks log.count log.digest (log.remembered ∷ log.lines) is.begins is.lines
not_bad octets log Second is lacks =
    let both : first_line lacks.count lacks.digest ∷ lacks.after ≡ first_line log.count log.digest ∷ log.remembered ∷ log.lines = sym lacks.first ∙ is.lines in
    let after : lacks.after ≡ log.remembered ∷ log.lines = cc in
    lacks.lacks log.remembered log.lines is.run after
