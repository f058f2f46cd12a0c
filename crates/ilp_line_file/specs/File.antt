-- A file of lines that is ready to grow.
use Rattle.std.specs.Prelude.{◌≡◌, ◌≤◌, ℕ, List, length, take, drop}
use Rattle.ilp_line_file.specs.Device.{Only}
use Rattle.ilp_line_file.specs.Text.{recovered, text_of, IsBlank}
use Rattle.ilp_line_file.specs.declared.line_file.LineFile.{LineFile}

-- The file is the text of its lines and perhaps zeros behind it, all of it on the disk.
pub record IsSettled {D : Type 0} (seen : D → List ℕ) (may_leave : D → List ℕ → Type 0) (file : LineFile D) : Type 0 where
  pub within : file.end ≤ length (seen file.device)
  pub text : take file.end (seen file.device) ≡ text_of (recovered (seen file.device))
  pub blank : IsBlank (drop file.end (seen file.device))
  pub durable : Only (seen file.device) (may_leave file.device)
