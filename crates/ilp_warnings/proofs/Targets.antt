-- The peers to which the routes of a configuration lead, as they are read from its table.
use Rattle.std.proofs.Common.{◌≡◌, ℕ, List, [], ◌∷◌, map, Option, None, refl, ap, subst}
use Rattle.toml.specs.Data.{Members}
use Rattle.ilp_fields.specs.declared.fault.ConfigFault.{ConfigFault}
use Rattle.ilp_fields.specs.declared.fault.Field.TheVariants as field
use Rattle.ilp_fields.specs.Fields.{elements_of, tables}
use Rattle.ilp_accounts.specs.Configuration.{Configuration, configuration, arrays_of, peer_names, route_of}
use Rattle.ilp_warnings.specs.Meaning.{targets_of}

-- no table has a fault here
abbrev pub none : List ℕ → Members → Option ConfigFault
none before t = None

peers_along : (names : List (List ℕ)) (ts : List Members) → map (λ t. (route_of names t).peer) ts ≡ map (λ route. route.peer) (map (route_of names) ts)
peers_along names [] = refl
peers_along names (t ∷ ts) = ap (λ peers. (route_of names t).peer ∷ peers) (peers_along names ts)

pub targets_seen : (t : Members) (C : Configuration) → configuration t ≡ C
    → map (λ m. (route_of (peer_names C.peers) m).peer) (tables (elements_of field.Route t)) ≡ targets_of C
unfolding arrays_of
targets_seen t C same =
    subst
    (λ (D : Configuration). map (λ m. (route_of (peer_names D.peers) m).peer) (tables (elements_of field.Route t)) ≡ targets_of D)
    same
    (peers_along (peer_names (configuration t).peers) (tables (elements_of field.Route t)))
