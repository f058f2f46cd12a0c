-- What was told of some stays told.
use Rattle.std.proofs.Common.{◌≡◌, ℕ, ◌+◌, ◌<◌, ◌≤◌, nat_lt, List, Option, Some, None, IfSome, Contains, Bool, true, false, IsTrue, Result, Ok, Err, OnOk, refl, subst, arith}
use Rattle.std.proofs.lemmas.Bool.Decides.{nat_tests}
use Rattle.ilp_fields.specs.declared.fault.Field.TheVariants as field
use Rattle.ilp_accounts.specs.Configuration.{Configuration, peer_at}
use Rattle.ilp_warnings.specs.declared.warning.ConfigTable.TheVariants.{Peer}
use Rattle.ilp_warnings.specs.declared.warning.Warning.{Warning}
use Rattle.ilp_warnings.specs.declared.warning.Warning.TheVariants.{NoAddress, SharedHost, OnePacket, TooLargeOut}
use Rattle.ilp_warnings.specs.Meaning.{IsSocketAddress}
use Rattle.ilp_warnings.specs.Complete.{KeepsAll, Names, AreTopTold, AreTokensTold, AreAddressesTold, IsPeerTold, ArePeersTold, AreRoutesTold}

-- what follows on success
pub on_ok : {X E P Q : Type 0} (r : Result X E) → (P → Q) → OnOk r P → OnOk r Q
on_ok (Ok x) give p = give p
on_ok (Err e) give p = tt

pub on_ok_both : {X E P Q R : Type 0} (r : Result X E) → (P → Q → R) → OnOk r P → OnOk r Q → OnOk r R
on_ok_both (Ok x) give p q = give p q
on_ok_both (Err e) give p q = tt

-- a test that fails only where this is so
pub must : {P : Type 0} (b : Bool) → (b ≡ false → P) → ¬ P → IsTrue b
must true fails not = refl
must false fails not = absurd (not (fails refl))

-- what holds below a number, and at it, holds below the next one
pub one_more : (P Q : ℕ → Type 0) (count : ℕ) → ((n : ℕ) → P n → Q n) → ((n : ℕ) → n < count → P n) → Q count → (n : ℕ) → n < count + 1 → Q n
one_more P Q count keep before last n below = by (nat_lt n count) refl
  where
    by : (b : Bool) → nat_lt n count ≡ b → Q n
    by true is =
        let less : n < count = grind (arith, nat_tests, is) in
        keep n (before n less)
    by false is =
        let not_less : count ≤ n = grind (arith, nat_tests, is) in
        let same : count ≡ n = omega (arith, not_less, below) in
        subst Q same last

-- what reads as something does not read as nothing
pub not_both : {X : Type 0} (t : X) (o : Option X) → o ≡ None → o ≡ Some t → ⊥
not_both t None none some = cc
not_both t (Some x) none some = cc

module _ (old new : List Warning) (keeps : KeepsAll old new) where
  pub top_kept : (C : Configuration) → AreTopTold C old → AreTopTold C new
  top_kept C told = record {
    listen = λ h. keeps _ (told.listen h);
    engine_listen = λ h. keeps _ (told.engine_listen h);
    engines = λ h. keeps _ (told.engines h);
    shared = λ h. keeps _ (told.shared h);
    holds = λ h. keeps _ (told.holds h);
    no_routes = λ h. keeps _ (told.no_routes h);
  }

  pub tokens_kept : (C : Configuration) (peer : ℕ) → AreTokensTold C peer old → AreTokensTold C peer new
  tokens_kept C peer told = record {
    short = λ h. keeps _ (told.short h);
    short_out = λ h. keeps _ (told.short_out h);
    example = λ h. keeps _ (told.example h);
    example_out = λ h. keeps _ (told.example_out h);
    same = λ h. keeps _ (told.same h);
  }

  if_kept : (P : List ℕ → Type 0) (w : Warning) (text : Option (List ℕ)) → IfSome text (λ x. P x → Contains old w) → IfSome text (λ x. P x → Contains new w)
  if_kept P w None told = tt
  if_kept P w (Some x) told = λ h. keeps w (told h)

  pub addresses_kept : (C : Configuration) (peer : ℕ) → AreAddressesTold C peer old → AreAddressesTold C peer new
  addresses_kept C peer told = record {
    host = λ h. keeps _ (told.host h);
    engine = if_kept (λ x. ¬ IsSocketAddress x) (NoAddress (Peer peer) field.Engine) (peer_at C peer).engine told.engine;
  }

  pub names_kept : (warning : ℕ → Warning) → Names old warning → Names new warning
  names_kept warning told = (told.0, keeps (warning told.0) told.1)

  pub peer_kept : (C : Configuration) (targets : List ℕ) (peer : ℕ) → IsPeerTold C targets peer old → IsPeerTold C targets peer new
  peer_kept C targets peer told = record {
    tokens = tokens_kept C peer told.tokens;
    addresses = addresses_kept C peer told.addresses;
    same_host = λ other below h. names_kept (SharedHost peer) (told.same_host other below h);
    one_packet = λ sender below other h. names_kept (OnePacket peer) (told.one_packet sender below other h);
    too_large = λ other below differs h. names_kept (TooLargeOut peer) (told.too_large other below differs h);
    unreached = λ h. keeps _ (told.unreached h);
  }

  pub peers_kept : (C : Configuration) (targets : List ℕ) (count : ℕ) → ArePeersTold C targets count old → ArePeersTold C targets count new
  peers_kept C targets count told = λ peer below. peer_kept C targets peer (told peer below)

  pub routes_kept : (C : Configuration) (targets : List ℕ) (count : ℕ) → AreRoutesTold C targets count old → AreRoutesTold C targets count new
  routes_kept C targets count told = λ route below peer leads h. keeps _ (told route below peer leads h)
