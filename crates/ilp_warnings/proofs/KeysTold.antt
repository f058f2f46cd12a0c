-- Fields that are not known in their tables, as loops over keys and tables tell of them.
use Rattle.std.proofs.Common.{arith, ◌≡◌, ◌⊎◌, inl, inr, ℕ, ◌<◌, ◌≤◌, List, [], ◌∷◌, map, length, slice_get, Option, Some, None, option_and_then, string_bytes, Contains, refl, sym, subst}
use Rattle.std.proofs.lemmas.List.Elements.{Contains-append_cases, Contains-push_cases}
use Rattle.std.proofs.lemmas.List.{length-map}
use Rattle.std.proofs.lemmas.Option.{slice_get_within}
use Rattle.toml.specs.Data.{Data, Members, as_table}
use Rattle.toml.specs.View.{view, members_view}
use Rattle.toml.specs.declared.value.Value.{Value}
use Rattle.ilp_accounts.specs.Limits.{most_routes}
use Rattle.ilp_warnings.specs.declared.warning.ConfigTable.{ConfigTable}
use Rattle.ilp_warnings.specs.declared.warning.Warning.{Warning}
use Rattle.ilp_warnings.specs.Told.{IsNoneOf, known_in, keys_of, table_at}
use Rattle.ilp_warnings.specs.Complete.{KeepsAll, IsFieldTold, IsTableTold}
use Rattle.ilp_warnings.proofs.Keys.{Entry, keys_seen}

-- what reads as two things is one of them twice
pub one_table : (o : Option Members) (a b : Members) → o ≡ Some a → o ≡ Some b → a ≡ b
one_table o a b x y = cc

pub field_kept : (within : ConfigTable) (key : List ℕ) (old new : List Warning) → KeepsAll old new → IsFieldTold within key old → IsFieldTold within key new
field_kept within key old new keeps told = (told.0, (keeps told.0 told.1.0, told.1.1))

pub table_kept : (t : Members) (within : ConfigTable) (old new : List Warning) → KeepsAll old new → IsTableTold t within old → IsTableTold t within new
table_kept t within old new keeps told = λ key unknown. field_kept within key old new keeps (told key unknown)

-- a table that is not there has no fields
pub no_table : (t : Members) (within : ConfigTable) (told : List Warning) → table_at t within ≡ None → IsTableTold t within told
no_table t within told none = λ key unknown. absurd (not_both none unknown.there)
  where
    not_both : {m : Members} {o : Option Members} → o ≡ None → o ≡ Some m → ⊥
    not_both a b = cc

-- each of these keys that is not known was told, or is still to come
abbrev pub AreLeft : ConfigTable → List (List ℕ) → List Entry → List Warning → Type 0
AreLeft within keys entries told = (key : List ℕ) → Contains keys key → IsNoneOf (known_in within) key → IsFieldTold within key told ⊎ Contains (map (λ (e : Entry). string_bytes e.0) entries) key

pub all_left : (within : ConfigTable) (entries : List Entry) (told : List Warning) → AreLeft within (keys_of (members_view entries)) entries told
all_left within entries told = λ key has unknown. inr (subst (λ keys. Contains keys key) (keys_seen entries) has)

pub one_less : (within : ConfigTable) (keys : List (List ℕ)) (e : Entry) (rest : List Entry) (old new : List Warning) → KeepsAll old new
    → (IsNoneOf (known_in within) (string_bytes e.0) → IsFieldTold within (string_bytes e.0) new)
    → AreLeft within keys (e ∷ rest) old → AreLeft within keys rest new
one_less within keys e rest old new keeps tells left = λ key has unknown.
    let later = map (λ (f : Entry). string_bytes f.0) rest in
    elim (left key has unknown) [
      | inl told ↦ inl (field_kept within key old new keeps told)
      | inr comes ↦ elim (Contains-append_cases (string_bytes e.0 ∷ []) later key comes) [
        | inl first ↦ elim (Contains-push_cases [] (string_bytes e.0) key first) [
          | inl none ↦ absurd (omega (arith, none.1))
          | inr same ↦ inl (subst (λ k. IsFieldTold within k new) same (tells (subst (λ k. IsNoneOf (known_in within) k) (sym same) unknown)))
        ]
        | inr more ↦ inr more
      ]
    ]

-- where no key is to come any more, the table was told of
pub none_left : (t : Members) (within : ConfigTable) (members : Members) (entries : List Entry) (told : List Warning)
    → table_at t within ≡ Some members → entries ≡ [] → AreLeft within (keys_of members) entries told → IsTableTold t within told
none_left t within members entries told there empty left = λ key unknown.
    let has = subst (λ m. Contains (keys_of m) key) (one_table (table_at t within) unknown.members members unknown.there there) unknown.has in
    elim (left key has unknown.unknown) [
      | inl is ↦ is
      | inr comes ↦ absurd (nothing (subst (λ es. Contains (map (λ (e : Entry). string_bytes e.0) es) key) empty comes))
    ]
  where
    nothing : {key : List ℕ} → Contains [] key → ⊥
    nothing has = omega (arith, has.1)

-- the table of this number lies within its array
pub inside : (values : List Data) (n : ℕ) (members : Members) → option_and_then as_table (slice_get values n) ≡ Some members → n < length values
inside values n members is = by (slice_get values n) refl is
  where
    by : (o : Option Data) → slice_get values n ≡ o → option_and_then as_table o ≡ Some members → n < length values
    by None there some = absurd cc
    by (Some value) there some = slice_get_within values n value there

-- a loop over the values of an array that has come to their count, or to the most, has come to each table below the most
pub reached : (array : List Data) (values : List Value) (n count at : ℕ) (members : Members) → map view values ≡ array
    → option_and_then as_table (slice_get array n) ≡ Some members → n < most_routes → (length values ≤ count ⊎ (count ≡ most_routes)) → count ≤ at → n < at
reached array values n count at members seen is few counted over =
    let here : n < length (map view values) = subst (λ vs. n < length vs) (sym seen) (inside array n members is) in
    let below : n < length values = subst (λ m. n < m) (length-map values view) here in
    elim counted [
      | inl all ↦ omega (arith, below, all, over)
      | inr most ↦ omega (arith, few, most, over)
    ]
