-- What a clause sees of a line's form and of its fields, without references.
use Rattle.std.specs.Prelude.{◌≡◌, ℕ, List, [], ◌∷◌, Option, Some, None, option_map, ◌<◌, ⊤}
use Rattle.std.specs.Borrow.{Bor}
use Rattle.std.specs.List.{slice_split}
use Rattle.ilp_journal.specs.Keys.{IsKey}
use Rattle.ilp_offline.specs.declared.form.Form.{Form as Read}
use Rattle.ilp_offline.specs.declared.form.Form.TheVariants as read
use Rattle.ilp_offline.specs.declared.form.Fields.{Fields}
use Rattle.ilp_offline.specs.declared.form.Fields.TheVariants.{One, Two, Three, Four, Five}
use Rattle.ilp_offline.specs.Script.{Form, hold, answer, expire, credit, ask, close, report, silent, bad, is_space}

abbrev pub hex_seen : Option (Bor (List ℕ)) → Option (List ℕ)
hex_seen packet = option_map (λ (text : Bor (List ℕ)). text.now) packet

abbrev pub form_seen : Read → Form
form_seen (read.Hold now peer packet) = hold now peer packet.now
form_seen (read.Answer now number packet) = answer now number (hex_seen packet)
form_seen (read.Expire now) = expire now
form_seen (read.Credit now peer key json) = credit now peer key.now json.now
form_seen (read.Ask now peer) = ask now peer
form_seen (read.Close now number verdict) = close now number verdict
form_seen read.Report = report
form_seen read.Silent = silent
form_seen read.Bad = bad

-- a peer that a line names is one of so many, and a key is one
abbrev pub IsOfPeers : ℕ → Read → Type 0
IsOfPeers peers (read.Hold now peer packet) = peer < peers
IsOfPeers peers (read.Credit now peer key json) = (peer < peers) × IsKey key.now
IsOfPeers peers (read.Ask now peer) = peer < peers
IsOfPeers peers _ = ⊤

-- the fields of what follows a space, if there is one
abbrev pub fields_after : Option (Bor (List ℕ)) → List (List ℕ)
fields_after None = []
fields_after (Some rest) = slice_split is_space rest.now

-- these are the fields
abbrev pub field_list : List (List ℕ) → Fields → Type 0
field_list found (One a) = found ≡ a.now ∷ []
field_list found (Two a b) = found ≡ a.now ∷ b.now ∷ []
field_list found (Three a b c) = found ≡ a.now ∷ b.now ∷ c.now ∷ []
field_list found (Four a b c d) = found ≡ a.now ∷ b.now ∷ c.now ∷ d.now ∷ []
field_list found (Five a b c d e) = found ≡ a.now ∷ b.now ∷ c.now ∷ d.now ∷ e.now ∷ []
