-- What the field of a table holds where its check has no fault.
use Rattle.ilp_assets.specs.Quote.{most}
use Rattle.std.proofs.Common.{◌≡◌, ℕ, suc, ◌≤◌, nat_le, Bool, true, List, [], ◌∷◌, length, Option, Some, None, IfSome, is_some, unwrap_or, option_and_then, refl, ap, arith, inl, inr}
use Rattle.std.specs.List.{list_all, cons_option}
use Rattle.std.specs.Option.{IsSomeAnd}
use Rattle.std.proofs.lemmas.Bool.{and_parts}
use Rattle.std.proofs.lemmas.Bool.Decides.{nat_tests}
use Rattle.toml.specs.Data.{Data, Items, Members, string, integer, float, boolean, datetime, array, table, as_str, as_array, as_table}
use Rattle.ilp_fields.specs.declared.fault.Field.{Field}
use Rattle.ilp_fields.specs.declared.fault.ConfigFault.TheVariants.{BadValue}
use Rattle.ilp_fields.specs.declared.form.Form.{Form}
use Rattle.ilp_fields.specs.Forms.{is_within}
use Rattle.ilp_fields.specs.Checks.{required, required_in, optional, optional_in}
use Rattle.ilp_fields.specs.Fields.{at, is_text, is_natural, is_natural_within, natural, text_of, text_in, natural_of, natural_in, elements_in, elements_of, are_tables, are_tables_in, list_of, is_table, tables}
use Rattle.ilp_accounts.specs.Limits.{most_written}
use Rattle.ilp_accounts.specs.Valid.{HasForm, IsWithin, IsMaxPacket, IsMaxSettlement}
use Rattle.ilp_accounts.proofs.Passing.{unless-None}

-- ---- a field whose value is read by `read`, where each value that fits is read as one of which P holds
module _ {V : Type 0} (fits : Data → Bool) (read : Data → Option V) (P : V → Type 0) (reads : (value : Data) → fits value ≡ true → IsSomeAnd (read value) P) where
  there : (o : Option V) (default : V) → IsSomeAnd o P → P (unwrap_or o default)
  there None default h = absurd h
  there (Some x) default h = h

  if_there : (o : Option V) → IsSomeAnd o P → IfSome o P
  if_there None h = tt
  if_there (Some x) h = h

  or_default : (o : Option V) (default : V) → P default → IfSome o P → P (unwrap_or o default)
  or_default None default holds h = holds
  or_default (Some x) default holds h = h

  -- what stands under the key, of a field that has to be there
  pub required_holds : (which : Field) (t : Members) (default : V) → required fits which t ≡ None → P (unwrap_or (option_and_then read (at which t)) default)
  required_holds which t default none = by (at which t) none
    where
      by : (found : Option Data) → required_in fits which found ≡ None → P (unwrap_or (option_and_then read found) default)
      by None none = cc
      by (Some value) none = there (read value) default (reads value (unless-None (fits value) (BadValue which) none))

  -- what stands under the key, if anything does
  pub optional_holds : (which : Field) (t : Members) → optional fits which t ≡ None → IfSome (option_and_then read (at which t)) P
  optional_holds which t none = by (at which t) none
    where
      by : (found : Option Data) → optional_in fits which found ≡ None → IfSome (option_and_then read found) P
      by None none = tt
      by (Some value) none = if_there (read value) (reads value (unless-None (fits value) (BadValue which) none))

  -- what stands under the key, or else a default
  pub defaulted_holds : (which : Field) (t : Members) (default : V) → P default → optional fits which t ≡ None → P (unwrap_or (option_and_then read (at which t)) default)
  defaulted_holds which t default holds none = or_default (option_and_then read (at which t)) default holds (optional_holds which t none)

-- ---- texts

formed : (f : Form) (value : Data) → is_text f value ≡ true → IsSomeAnd (as_str value) (HasForm f)
formed f (string text) fits = fits
formed f (integer z) fits = cc
formed f (float x) fits = cc
formed f (boolean b) fits = cc
formed f (datetime d) fits = cc
formed f (array items) fits = cc
formed f (table t) fits = cc

pub text_formed : (f : Form) (which : Field) (t : Members) → required (is_text f) which t ≡ None → HasForm f (text_of which t)
text_formed f which t none = required_holds (is_text f) as_str (HasForm f) (formed f) which t [] none

pub text_formed_if : (f : Form) (which : Field) (t : Members) → optional (is_text f) which t ≡ None → IfSome (text_in which t) (HasForm f)
text_formed_if f which t none = optional_holds (is_text f) as_str (HasForm f) (formed f) which t none

pub text_formed_or : (f : Form) (which : Field) (t : Members) (default : List ℕ) → HasForm f default → optional (is_text f) which t ≡ None → HasForm f (unwrap_or (text_in which t) default)
text_formed_or f which t default h none = defaulted_holds (is_text f) as_str (HasForm f) (formed f) which t default h none

-- ---- numbers

within_parts : (least most n : ℕ) → is_within least most n ≡ true → IsWithin least most n
within_parts least most n fits =
    let both = and_parts (nat_le least n) (nat_le n most) fits in
    (grind (arith, nat_tests, both.0), grind (arith, nat_tests, both.1))

ranged : (least most : ℕ) (n : Option ℕ) → is_natural_within least most n ≡ true → IsSomeAnd n (IsWithin least most)
ranged least most None fits = cc
ranged least most (Some n) fits = within_parts least most n fits

pub number_ranged : (least most : ℕ) (which : Field) (t : Members) → required (is_natural least most) which t ≡ None → IsWithin least most (natural_of which t)
number_ranged least most which t none = required_holds (is_natural least most) natural (IsWithin least most) (λ value. ranged least most (natural value)) which t 0 none

pub number_ranged_or : (least most : ℕ) (which : Field) (t : Members) (default : ℕ) → IsWithin least most default → optional (is_natural least most) which t ≡ None → IsWithin least most (unwrap_or (natural_in which t) default)
number_ranged_or least most which t default h none = defaulted_holds (is_natural least most) natural (IsWithin least most) (λ value. ranged least most (natural value)) which t default h none

pub number_ranged_if : (least most : ℕ) (which : Field) (t : Members) → optional (is_natural least most) which t ≡ None → IfSome (natural_in which t) (IsWithin least most)
number_ranged_if least most which t none = optional_holds (is_natural least most) natural (IsWithin least most) (λ value. ranged least most (natural value)) which t none

written : (n : Option ℕ) → is_natural_within 0 most_written n ≡ true → IsSomeAnd n IsMaxPacket
written None fits = cc
written (Some n) fits = inl (within_parts 0 most_written n fits).1

-- the greatest amount that a peer may send
pub max_packet_of : (which : Field) (t : Members) → optional (is_natural 0 most_written) which t ≡ None → IsMaxPacket (unwrap_or (natural_in which t) most)
max_packet_of which t none = defaulted_holds (is_natural 0 most_written) natural IsMaxPacket (λ value. written (natural value)) which t most (inr refl) none

asked : (n : Option ℕ) → is_natural_within 1 most_written n ≡ true → IsSomeAnd n IsMaxSettlement
asked None fits = cc
asked (Some n) fits = inl (within_parts 1 most_written n fits)

-- the greatest amount of a settlement
pub max_settlement_of : (which : Field) (t : Members) → optional (is_natural 1 most_written) which t ≡ None → IsMaxSettlement (unwrap_or (natural_in which t) most)
max_settlement_of which t none = defaulted_holds (is_natural 1 most_written) natural IsMaxSettlement (λ value. asked (natural value)) which t most (inr refl) none

-- ---- arrays of tables

-- where all elements are tables, there are as many tables
all_tables : (values : List Data) → list_all is_table values ≡ true → length (tables values) ≡ length values
all_tables [] all = refl
all_tables (value ∷ values) all =
    let both = and_parts (is_table value) (list_all is_table values) all in
    one_more (as_table value) (tables values) both.0 (all_tables values both.1)
  where
    one_more : (t : Option Members) (ts : List Members) → is_some t ≡ true → length ts ≡ length values → length (cons_option t ts) ≡ length (value ∷ values)
    one_more None ts some h = cc
    one_more (Some t) ts some h = ap suc h

-- what an array with no fault has: tables alone, and at most so many
abbrev pub AreTables : ℕ → List Data → Type 0
AreTables most values = (length (tables values) ≡ length values) × (length values ≤ most)

tables_listed : (most : ℕ) (items : Option Items) → are_tables_in most items ≡ true → AreTables most (elements_in items)
tables_listed most None fits = cc
tables_listed most (Some values) fits =
    let both = and_parts (nat_le (length (list_of values)) most) (list_all is_table (list_of values)) fits in
    (all_tables (list_of values) both.1, grind (arith, nat_tests, both.0))

tables_found : (most : ℕ) (which : Field) (found : Option Data) → optional_in (are_tables most) which found ≡ None → AreTables most (elements_in (option_and_then as_array found))
tables_found most which None none = (refl, omega arith)
tables_found most which (Some value) none = tables_listed most (as_array value) (unless-None (are_tables most value) (BadValue which) none)

pub tables_counted : (most : ℕ) (which : Field) (t : Members) → optional (are_tables most) which t ≡ None → AreTables most (elements_of which t)
tables_counted most which t none = tables_found most which (at which t) none
