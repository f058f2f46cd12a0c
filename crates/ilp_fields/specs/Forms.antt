-- The forms of texts.
use Rattle.std.specs.Prelude.{ℕ, Bool, not, ◌&&◌, ◌||◌, ◌==◌, nat_le, List, length, codes, bytes_eq, slice_index}
use Rattle.std.specs.List.{list_all, before_first}
use Rattle.ilp_packet.specs.Address.{is_address, is_scheme, is_dot}
use Rattle.ilp_fields.specs.declared.form.Form.{Form}
use Rattle.ilp_fields.specs.declared.form.Form.TheVariants as form

-- the number lies between the two, both included
abbrev pub is_within : ℕ → ℕ → ℕ → Bool
is_within least most n = nat_le least n && nat_le n most

abbrev pub is_digit : ℕ → Bool
is_digit octet = is_within 48 57 octet

abbrev pub is_capital : ℕ → Bool
is_capital octet = is_within 65 90 octet

abbrev pub is_small : ℕ → Bool
is_small octet = is_within 97 122 octet

-- A-Z 0-9
abbrev pub is_code_octet : ℕ → Bool
is_code_octet octet = is_capital octet || is_digit octet

-- a-z 0-9 _ -
abbrev pub is_name_octet : ℕ → Bool
is_name_octet octet = ((is_small octet || is_digit octet) || octet == 95) || octet == 45

-- A-Z a-z 0-9 -
abbrev pub is_run_octet : ℕ → Bool
is_run_octet octet = ((is_capital octet || is_small octet) || is_digit octet) || octet == 45

-- visible ASCII
abbrev pub is_visible_octet : ℕ → Bool
is_visible_octet octet = is_within 33 126 octet

-- the scheme of a prefix: what stands before its first dot
abbrev pub scheme_of : List ℕ → List ℕ
scheme_of prefix = before_first is_dot prefix

-- what a route may serve: all addresses, those of a scheme, or one address and those below it; never those of the scheme `peer`
abbrev pub is_prefix : List ℕ → Bool
is_prefix text = ((length text == 0 || is_scheme text) || is_address text) && not (bytes_eq (scheme_of text) (codes "peer"))

-- the text has this form
abbrev pub admits : Form → List ℕ → Bool
admits form.Address text = is_address text
admits form.Run text = is_within 1 32 (length text) && list_all is_run_octet text
admits form.SocketAddress text = is_within 1 64 (length text)
admits form.Path text = is_within 1 128 (length text) && (slice_index text 0 == 47 && list_all is_visible_octet text)
admits form.Code text = is_within 1 12 (length text) && list_all is_code_octet text
admits form.Name text = is_within 1 16 (length text) && list_all is_name_octet text
admits form.Token text = is_within 1 128 (length text) && list_all is_visible_octet text
admits form.Prefix text = is_prefix text
admits form.Sync text = bytes_eq text (codes "group") || bytes_eq text (codes "off")
