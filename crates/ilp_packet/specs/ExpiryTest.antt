-- Whether octets are an expiry, as a test.
use Rattle.std.specs.Prelude.{ℕ, Bool, ◌&&◌, ◌==◌, nat_le, List, length}
use Rattle.std.specs.List.{list_all}
use Rattle.ilp_terms.specs.Calendar.{days_in_month}
use Rattle.ilp_terms.specs.Expiry.{year, month, day, hour, minute, second}

-- whether an octet is a decimal digit
abbrev pub is_digit : ℕ → Bool
is_digit octet = nat_le 48 octet && nat_le octet 57

-- whether the calendar has this date, in the years 0 to 9999
abbrev pub is_date : ℕ → ℕ → ℕ → Bool
is_date y m d =
    nat_le y 9999
    && ((nat_le 1 m && nat_le m 12) && (nat_le 1 d && nat_le d (days_in_month y m)))

-- whether a text is seventeen digits that name a day of the calendar and a time of that day
unfoldable pub is_expiry : List ℕ → Bool
is_expiry text =
    ((length text == 17) && list_all is_digit text)
    && (is_date (year text) (month text) (day text)
    && (nat_le (hour text) 23 && (nat_le (minute text) 59 && nat_le (second text) 59)))
