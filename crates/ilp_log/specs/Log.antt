-- What a log knows of its file, of the desk's journal, and of those whom it told that their entries are on the disk.
use Rattle.std.specs.Prelude.{◌≡◌, ◌≤◌, ℕ, Bool, false, List, [], ◌∷◌, length, take}
use mathlib.Core.List.{IsPrefix}
use Rattle.ilp_journal.specs.Journal.{Entries}
use Rattle.ilp_line_file.specs.Text.{recovered, text_of, AreLines, IsBetween}
use Rattle.ilp_line_file.specs.File.{IsSettled}
use Rattle.ilp_line_file.specs.declared.line_file.LineFile.{LineFile}
use Rattle.ilp_log.specs.declared.ack.Ack.{Ack}
use Rattle.ilp_log.specs.declared.open_log.PlainLog.{PlainLog}
use Rattle.ilp_log.specs.declared.renewing.Anew.{Anew}
use Rattle.ilp_log.specs.declared.start.LogStart.{LogStart}
use Rattle.ilp_log.specs.Lines.{LogForm, lines_of}

-- the entries that are on the disk
abbrev pub written : {D : Type 0} → PlainLog D → Entries
written log = take log.count log.seen

-- ---- what is told

-- It was told that these lines at least, which are the device's, are on the disk at its moment.
pub record IsKept {D : Type 0} (seen : D → List ℕ) (moment : D → ℕ) (device : D) (least : List (List ℕ)) (told : Ack) : Type 0 where
  pub has : IsPrefix least told.lines
  pub when : told.moment ≡ moment device
  pub read : recovered (seen device) ≡ told.lines

-- It was told that just these are.
pub record IsAllKept {D : Type 0} (seen : D → List ℕ) (moment : D → ℕ) (device : D) (all : List (List ℕ)) (told : Ack) : Type 0 where
  pub same : told.lines ≡ all
  pub when : told.moment ≡ moment device
  pub read : recovered (seen device) ≡ told.lines

-- what was told last
abbrev pub last_ack : List Ack → Ack
last_ack [] = record { moment = 0; lines = [] }
last_ack (ack ∷ []) = ack
last_ack (ack ∷ next ∷ acks) = last_ack (next ∷ acks)

-- ---- what a log keeps

-- At its moment these lines were on the disk, and each crash since then leaves them at least, and none that the desk hadn't.
pub record HoldsAck {D : Type 0} (moment : D → ℕ) (left_since : D → ℕ → List ℕ → Type 0) (device : D) (least most : List (List ℕ)) (ack : Ack) : Type 0 where
  pub earlier : ack.moment ≤ moment device
  pub kept : IsPrefix ack.lines least
  pub each : (c : List ℕ) → left_since device ack.moment c → IsBetween ack.lines most c

abbrev pub HoldAcks : {D : Type 0} → (D → ℕ) → (D → ℕ → List ℕ → Type 0) → D → List (List ℕ) → List (List ℕ) → List Ack → Type 0
HoldAcks moment left_since device least most [] = Unit {0}
HoldAcks moment left_since device least most (ack ∷ acks) = HoldsAck moment left_since device least most ack × HoldAcks moment left_since device least most acks

-- What a log keeps where its device claims what a device does: the file has the first entries of the desk's journal. A crash now leaves these at least, and none that the desk hadn't; and unless
-- a call of the device has failed, the file is settled and has just these.
pub record IsLog {D : Type 0} (seen : D → List ℕ) (may_leave : D → List ℕ → Type 0) (moment : D → ℕ) (left_since : D → ℕ → List ℕ → Type 0) (form : LogForm) (file : LineFile D) (failed : Bool) (entries : Entries) (count : ℕ) (acks : List Ack) : Type 0 where
  pub base : form.base ≤ count
  pub within : count ≤ length entries
  pub now : (c : List ℕ) → may_leave file.device c → IsBetween (lines_of form (take count entries)) (lines_of form entries) c
  pub settled : failed ≡ false → IsSettled seen may_leave file
  pub whole : failed ≡ false → recovered (seen file.device) ≡ lines_of form (take count entries)
  pub told : HoldAcks moment left_since file.device (lines_of form (take count entries)) (lines_of form entries) acks

-- ---- a log that is written anew

-- where a log of this form begins
pub record IsStart (form : LogForm) (start : LogStart) : Type 0 where
  pub text : start.head.items ≡ text_of form.head
  pub lines : AreLines form.head
  pub base : form.base ≡ start.base

-- the new file has these octets, and they are the log of the first so many entries
pub record IsAnew (form : LogForm) (entries : Entries) (octets : List ℕ) (anew : Anew) : Type 0 where
  pub base : form.base ≤ anew.count
  pub end : anew.end ≡ length octets
  pub text : octets ≡ text_of (lines_of form (take anew.count entries))
  pub read : recovered octets ≡ lines_of form (take anew.count entries)
