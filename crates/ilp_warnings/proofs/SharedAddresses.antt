-- Texts that name addresses, each of which a text names in one way.
use Rattle.std.proofs.Common.{◌≢◌, ◌↔◌, ℕ, List, Bool, IsTrue, subst}
use Rattle.std.proofs.NetLemmas.Theorems.{IsSocketText_unique}
use Rattle.std.specs.Net.Grammar.{IsSocketText}
use Rattle.std.specs.Net.Socket.{socket_port}
use Rattle.std.specs.declared.net.socket_addr.SocketAddr.{SocketAddr}
use Rattle.ilp_warnings.specs.Meaning.{Meets, IsShared}

-- what tells of the addresses that two texts name tells of the texts
pub shared_by : (text other : List ℕ) (a b : SocketAddr) → IsSocketText text a → IsSocketText other b → (r : Bool)
    → (IsTrue r ↔ ((socket_port a ≢ 0) × Meets a b)) → (IsTrue r ↔ IsShared text other)
shared_by text other a b is other_is r tells =
    let same : (s : IsShared text other) → (socket_port a ≢ 0) × Meets a b = λ s.
    subst (λ (x : SocketAddr). (socket_port x ≢ 0) × Meets x b) (IsSocketText_unique text s.a a s.text_is is)
    (subst (λ (y : SocketAddr). (socket_port s.a ≢ 0) × Meets s.a y) (IsSocketText_unique other s.b b s.other_is other_is) (s.port, s.meets)) in
    ((λ yes. let h = tells.0 yes in record { a = a; b = b; text_is = is; other_is = other_is; port = h.0; meets = h.1 }), (λ s. tells.1 (same s)))
