-- The log of a running connector, as it begins and as it ends.
use Rattle.std.specs.Prelude.{◌≡◌, ◌≤◌, ℕ, List, length, ⊤, Option, Some, None, option_map}
use Rattle.ilp_line_file.specs.File.{IsSettled}
use Rattle.ilp_line_file.specs.Device.{Only}
use Rattle.ilp_line_file.specs.Text.{recovered, text_of, IsText, IsBetween}
use Rattle.ilp_accounts.specs.Configuration.{Configuration}
use Rattle.ilp_journal.specs.Journal.{Entries}
use Rattle.ilp_log.specs.declared.ack.Ack.{Ack}
use Rattle.ilp_log.specs.Lines.{LogForm, lines_of, no_form}
use Rattle.ilp_desk.specs.Desk.{PlainDesk}
use Rattle.ilp_log.specs.declared.start.BegunLog.{BegunLog}

-- a log of this form goes on from so many entries of the desk's opening journal
pub record IsLogOf (form : LogForm) (desk : PlainDesk) (base : ℕ) : Type 0 where
  pub config : form.config ≡ desk.config
  pub from : form.base ≡ base
  pub within : base ≤ length desk.opening

-- the file has its head alone, which is whole lines, and a crash leaves nothing else
pub record IsAlone {D : Type 0} (seen : D → List ℕ) (may_leave : D → List ℕ → Type 0) (log : BegunLog D) : Type 0 where
  pub read : seen log.file.device ≡ log.start.head.items
  pub kept : Only log.start.head.items (may_leave log.file.device)
  pub end : log.file.end ≡ length log.start.head.items
  pub lines : IsText log.start.head.items

-- the file is ready to grow, and has the head alone
pub record IsBegun {D : Type 0} (seen : D → List ℕ) (may_leave : D → List ℕ → Type 0) (log : BegunLog D) : Type 0 where
  pub settled : IsSettled seen may_leave log.file
  pub head : log.start.head.items ≡ text_of (recovered (seen log.file.device))

-- the log begins with the head of this form
pub record HasHead {D : Type 0} (seen : D → List ℕ) (form : LogForm) (log : BegunLog D) : Type 0 where
  pub lines : recovered (seen log.file.device) ≡ form.head
  pub text : log.start.head.items ≡ text_of form.head

-- the form of a log that begins with this file: its head is what the file has
abbrev pub form_of : {D : Type 0} → (D → List ℕ) → Configuration → Option (BegunLog D) → LogForm
form_of seen C None = no_form
form_of seen C (Some log) = record { config = C; head = recovered (seen log.file.device); base = log.start.base }

-- what a log of this form told as it began, at this moment: the head is on the disk
pub record IsToldFirst (form : LogForm) (began : ℕ) (told : Ack) : Type 0 where
  pub head : told.lines ≡ form.head
  pub when : told.moment ≡ began

-- A log in the end, which began at this moment: the file has the lines of all these entries behind the head, and no other. So has
-- what a crash may leave now. One at any moment since the log began left the head and the lines of the first so many entries.
pub record IsLogged {D : Type 0} (seen : D → List ℕ) (may_leave : D → List ℕ → Type 0) (left_since : D → ℕ → List ℕ → Type 0) (form : LogForm) (began : ℕ) (entries : Entries) (device : D) : Type 0 where
  pub whole : recovered (seen device) ≡ lines_of form entries
  pub now : (c : List ℕ) → may_leave device c → recovered c ≡ lines_of form entries
  pub since : (c : List ℕ) → left_since device began c → IsBetween form.head (lines_of form entries) c

-- What is given back of a log, which began at this moment if there was one: nothing, or its file.
abbrev pub EndsLog : {D : Type 0} → (D → List ℕ) → (D → List ℕ → Type 0) → (D → ℕ → List ℕ → Type 0) → LogForm → Option ℕ → Entries → Option D → Type 0
EndsLog seen may_leave left_since form began entries None = ⊤
EndsLog seen may_leave left_since form None entries (Some device) = ⊥
EndsLog seen may_leave left_since form (Some began) entries (Some device) = IsLogged seen may_leave left_since form began entries device

-- the moment at which a log begins, if there is one
abbrev pub began_at : {D : Type 0} → (D → ℕ) → Option (BegunLog D) → Option ℕ
began_at moment log = option_map (λ l. moment l.file.device) log

-- the moment at which it told this first, if it did
abbrev pub told_at : Option Ack → Option ℕ
told_at told = option_map (λ t. t.moment) told
