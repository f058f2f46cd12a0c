-- The keys of a table, as a loop over its entries sees them.
use Rattle.std.proofs.Common.{◌≡◌, ℕ, List, [], ◌∷◌, map, string_bytes, String, refl, sym, ap, subst, All, Contains}
use Rattle.std.proofs.lemmas.List.Elements.{All-nil, All-cons, All-head, All-tail, All-contains_itself}
use Rattle.std.specs.declared.alloc.Global.{Global}
use Rattle.toml.specs.View.{members_view}
use Rattle.toml.specs.declared.value.Value.{Value}
use Rattle.ilp_warnings.specs.Told.{keys_of}

abbrev pub Entry : Type 0
Entry = String Global × Value

-- the table of these members has the key of each of these entries
abbrev pub HasKeys : List (List ℕ) → List Entry → Type 0
HasKeys keys entries = All (λ e. Contains keys (string_bytes e.0)) entries

pub keys_seen : (entries : List Entry) → keys_of (members_view entries) ≡ map (λ e. string_bytes e.0) entries
keys_seen [] = refl
keys_seen (e ∷ entries) = ap (λ keys. string_bytes e.0 ∷ keys) (keys_seen entries)

each_key : (keys : List (List ℕ)) (entries : List Entry) → All (Contains keys) (map (λ e. string_bytes e.0) entries) → HasKeys keys entries
each_key keys [] all = All-nil (λ (e : Entry). Contains keys (string_bytes e.0))
each_key keys (e ∷ entries) all =
    let rest = map (λ (f : Entry). string_bytes f.0) entries in
    All-cons (λ (f : Entry). Contains keys (string_bytes f.0)) e entries (All-head (Contains keys) (string_bytes e.0) rest all) (each_key keys entries (All-tail (Contains keys) (string_bytes e.0) rest all))

-- a table has the keys of its own entries
pub own_keys : (entries : List Entry) → HasKeys (keys_of (members_view entries)) entries
own_keys entries =
    let keys = map (λ (e : Entry). string_bytes e.0) entries in
    subst (λ ks. HasKeys ks entries) (sym (keys_seen entries)) (each_key keys entries (All-contains_itself keys))
