-- What a peer and a route have whose table has no fault.
use Rattle.ilp_assets.specs.Quote.{million, most}
use Rattle.std.proofs.Common.{◌≡◌, ℕ, suc, ◌+◌, ◌<◌, pos, ℤ, ◌≤ℤ◌, Bool, true, false, not, ◌&&◌, int_lt, int_le, cond, List, [], ◌∷◌, length, Option, Some, None, is_some, is_none, IsSome, IfSome, unwrap_or, refl, sym, arith, codes}
use Rattle.std.proofs.lemmas.Bool.{and_parts, false≢true}
use Rattle.std.proofs.lemmas.Float.{T_from_true}
use Rattle.std.specs.List.{position, position_from}
use Rattle.std.proofs.lemmas.List.Quantifiers.{position-Some}
use Rattle.std.specs.Str.{bytes_eq}
use Rattle.std.specs.Int.Signed.{le_z_yes, lt_z_yes, lt_z_no}
use Rattle.toml.specs.Data.{Members}
use Rattle.ilp_order.specs.Checks.{first_of}
use Rattle.ilp_assets.specs.Assets.{PlainAsset, is_asset as same_asset, place_of}
use Rattle.ilp_order.proofs.CheckLemmas.{when-None, passed}
use Rattle.ilp_order.proofs.RefusalLemmas.{not_true}
use Rattle.ilp_fields.specs.declared.fault.Field.TheVariants as field
use Rattle.ilp_fields.specs.declared.fault.ConfigFault.{ConfigFault}
use Rattle.ilp_fields.specs.declared.fault.ConfigFault.TheVariants.{NoSuchAsset, DoublePeer, DoubleToken, BadValue, DoubleRoute, BadLevels, Missing}
use Rattle.ilp_fields.specs.declared.form.Form.TheVariants as form
use Rattle.ilp_fields.specs.Fields.{text_of}
use Rattle.ilp_lookup.specs.Route.{Route, prefixes}
use Rattle.ilp_accounts.specs.Configuration.{PlainPeer, fields_of, peer_from, peer_of, peer_names, peer_tokens, levels_from, route_of}
use Rattle.ilp_accounts.specs.Faults.{is_among, fields_checks, fields_fault, levels_checks, levels_fault, are_ordered, peer_rules_checks, peer_rules_fault, peer_checks, peer_fault, route_checks, route_fault}
use Rattle.ilp_accounts.specs.Limits.{longest_wait_ms}
use Rattle.ilp_accounts.specs.Valid.{AreOrdered, IsMaxSettlement, IsPeer, IsRouteTo}
use Rattle.ilp_accounts.proofs.FieldLaws.{text_formed, text_formed_if, text_formed_or, number_ranged_or, max_packet_of, max_settlement_of}

-- a place that is found lies in the list
bound_either : (b : Bool) (start n : ℕ) (r : Option ℕ) → (is_none r ≡ false → unwrap_or r 0 < start + 1 + n) → is_none (cond b (Some start) r) ≡ false → unwrap_or (cond b (Some start) r) 0 < start + suc n
bound_either true start n r h some = omega arith
bound_either false start n r h some = omega (arith, h some)

position_from-bound : {X : Type 0} (test : X → Bool) (start : ℕ) (xs : List X) → is_none (position_from test start xs) ≡ false → unwrap_or (position_from test start xs) 0 < start + length xs
position_from-bound test start [] some = absurd (false≢true (sym some))
position_from-bound test start (x ∷ xs) some = bound_either (test x) start (length xs) (position_from test (start + 1) xs) (position_from-bound test (start + 1) xs) some

position-bound : {X : Type 0} (test : X → Bool) (xs : List X) (d : X) → is_none (position test xs) ≡ false → unwrap_or (position test xs) 0 < length xs
position-bound test xs d some = by (position test xs) refl some
  where
    by : (place : Option ℕ) → position test xs ≡ place → is_none place ≡ false → unwrap_or place 0 < length xs
    by None is none = absurd (false≢true (sym none))
    by (Some place) is there = (position-Some test xs place d is).0

not_above : (a b : ℤ) → int_lt a b ≡ false → b ≤ℤ a
not_above a b e = lt_z_no (T_from_true (not (int_lt a b)) (rw e refl))

is_there : {X : Type 0} (o : Option X) → is_none o ≡ false → IsSome o
is_there None h = cc
is_there (Some x) h = refl

levels_ordered : (p : PlainPeer) (threshold settle_to : Option ℤ) (settle_max : Option ℕ)
    → (is_some threshold && is_none p.engine) ≡ false → not (are_ordered p.least threshold settle_to) ≡ false
    → IfSome (levels_from threshold settle_to settle_max) (AreOrdered p)
levels_ordered p None None most_amount engine ordered = tt
levels_ordered p None (Some s) most_amount engine ordered = tt
levels_ordered p (Some t) None most_amount engine ordered = tt
levels_ordered p (Some t) (Some s) most_amount engine ordered =
    let both = and_parts (int_le p.least s) (int_lt s t) (not_true _ ordered) in
    record {
      engine = is_there p.engine engine;
      least = le_z_yes (T_from_true _ both.0);
      settle_to = lt_z_yes (T_from_true _ both.1);
    }

levels_limited : (threshold settle_to : Option ℤ) (settle_max : Option ℕ) → IsMaxSettlement (unwrap_or settle_max most)
    → IfSome (levels_from threshold settle_to settle_max) (λ levels. IsMaxSettlement levels.settle_max)
levels_limited None None settle_max is = tt
levels_limited None (Some s) settle_max is = tt
levels_limited (Some t) None settle_max is = tt
levels_limited (Some t) (Some s) settle_max is = is

module _ (assets : List PlainAsset) (before : List PlainPeer) (t : Members) (none : peer_fault assets before t ≡ None) where
  fields_pass : first_of (fields_checks t) ≡ None
  unfolding peer_fault fields_fault
  fields_pass = passed (peer_checks assets before t) none 0

  rules : List (Option ConfigFault)
  rules = peer_rules_checks assets (peer_names before) (peer_tokens before) (fields_of t)

  rules_pass : first_of rules ≡ None
  unfolding peer_fault peer_rules_fault rules
  rules_pass = passed (peer_checks assets before t) none 1

  levels_pass : first_of (levels_checks (fields_of t)) ≡ None
  unfolding levels_fault rules
  levels_pass = passed rules rules_pass 3

  -- a peer without a fault is one
  pub is_peer : IsPeer (length assets) (peer_of assets t)
  unfolding peer_from fields_of rules
  is_peer =
      let checks = fields_checks t in
      let levels = levels_checks (fields_of t) in
      let known : is_none (place_of assets (fields_of t).asset) ≡ false = when-None _ NoSuchAsset (passed rules rules_pass 0) in
      let with_engine = when-None _ (Missing field.Engine) (passed levels levels_pass 1) in
      let ordered = when-None _ BadLevels (passed levels levels_pass 3) in
      record {
        name = text_formed form.Name field.Name t (passed checks fields_pass 0);
        asset = omega (arith, position_from-bound (same_asset (fields_of t).asset) 0 assets known);
        token = text_formed form.Token field.Token t (passed checks fields_pass 2);
        out_token = text_formed form.Token field.OutToken t (passed checks fields_pass 3);
        host = text_formed form.SocketAddress field.Host t (passed checks fields_pass 4);
        out_path = text_formed_or form.Path field.OutPath t (codes "/ilp") refl (passed checks fields_pass 5);
        least = not_above (pos 0) (fields_of t).least (when-None _ BadLevels (passed levels levels_pass 2));
        fee_ppm = (number_ranged_or 0 million field.FeePpm t 0 (omega arith, omega arith) (passed checks fields_pass 7)).1;
        max_packet = max_packet_of field.MaxPacket t (passed checks fields_pass 8);
        engine = text_formed_if form.SocketAddress field.Engine t (passed checks fields_pass 9);
        levels = levels_ordered (peer_of assets t) (fields_of t).threshold (fields_of t).settle_to (fields_of t).settle_max with_engine ordered;
        settle_max = levels_limited (fields_of t).threshold (fields_of t).settle_to (fields_of t).settle_max (max_settlement_of field.SettleMax t (passed checks fields_pass 12));
        settle_after_ms = (number_ranged_or 0 longest_wait_ms field.SettleAfterMs t 0 (omega arith, omega arith) (passed checks fields_pass 13)).1;
      }

  -- no peer before it has its name, and none its token
  pub name_fresh : is_among (peer_of assets t).name (peer_names before) ≡ false
  unfolding peer_from rules
  name_fresh = when-None _ DoublePeer (passed rules rules_pass 1)

  pub token_fresh : is_among (peer_of assets t).token (peer_tokens before) ≡ false
  unfolding peer_from rules
  token_fresh = when-None _ DoubleToken (passed rules rules_pass 2)

module _ (names : List (List ℕ)) (before : List Route) (t : Members) (none : route_fault names before t ≡ None) where
  route_passes : first_of (route_checks names before t) ≡ None
  unfolding route_fault
  route_passes = none

  -- a route without a fault is one
  pub is_route : IsRouteTo (length names) (route_of names t)
  is_route =
      let known = when-None _ (BadValue field.Peer) (passed (route_checks names before t) route_passes 2) in
      record {
        prefix = text_formed form.Prefix field.Prefix t (passed (route_checks names before t) route_passes 0);
        peer = position-bound (bytes_eq (text_of field.Peer t)) names [] known;
      }

  -- no route before it has its prefix
  pub prefix_fresh : is_among (route_of names t).prefix (prefixes before) ≡ false
  prefix_fresh = when-None _ DoubleRoute (passed (route_checks names before t) route_passes 3)
