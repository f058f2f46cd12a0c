-- What the target of a request asks for (RFC 9112, section 3.2). Targets are compared octet for octet.
use Rattle.std.specs.Prelude.{◌≡◌, ℕ, ◌<◌, List, length, codes}
use Rattle.ilp_accounts.specs.Configuration.{Configuration, peer_at}
use Rattle.ilp_settlement.specs.Targets.{account_target, settlements_target, messages_target}
use Rattle.ilp_server.specs.declared.target.Side.{Side}
use Rattle.ilp_server.specs.declared.target.Side.TheVariants.{Ilp, Engine}
use Rattle.ilp_server.specs.declared.target.Target.{Target}
use Rattle.ilp_server.specs.declared.target.Target.TheVariants.{Packet, Settlement, Correction, Message, Report, Close, Reload, Pause, Resume}

-- where corrections of the balance of an account are posted, by its name
abbrev pub corrections_target : List ℕ → List ℕ
corrections_target name = account_target (codes "/corrections") name

-- where the payouts to an account are paused, by its name
abbrev pub pause_target : List ℕ → List ℕ
pause_target name = account_target (codes "/pause") name

-- and where they go on
abbrev pub resume_target : List ℕ → List ℕ
resume_target name = account_target (codes "/resume") name

-- a path is that of one of the peers, by its name
pub record IsOfPeer (C : Configuration) (target : List ℕ → List ℕ) (path : List ℕ) (peer : ℕ) : Type 0 where
  pub known : peer < length C.peers
  pub named : path ≡ target (peer_at C peer).name

-- a path asks for this at a side
abbrev pub AsksFor : Configuration → Side → List ℕ → Target → Type 0
AsksFor C Ilp path Packet = path ≡ C.settings.path
AsksFor C Ilp path (Settlement peer) = ⊥
AsksFor C Ilp path (Correction peer) = ⊥
AsksFor C Ilp path (Message peer) = ⊥
AsksFor C Ilp path Report = ⊥
AsksFor C Ilp path Close = ⊥
AsksFor C Ilp path Reload = ⊥
AsksFor C Ilp path (Pause peer) = ⊥
AsksFor C Ilp path (Resume peer) = ⊥
AsksFor C Engine path Packet = ⊥
AsksFor C Engine path (Settlement peer) = IsOfPeer C settlements_target path peer
AsksFor C Engine path (Correction peer) = IsOfPeer C corrections_target path peer
AsksFor C Engine path (Message peer) = IsOfPeer C messages_target path peer
AsksFor C Engine path Report = path ≡ codes "/report"
AsksFor C Engine path Close = path ≡ codes "/close"
AsksFor C Engine path Reload = path ≡ codes "/reload"
AsksFor C Engine path (Pause peer) = IsOfPeer C pause_target path peer
AsksFor C Engine path (Resume peer) = IsOfPeer C resume_target path peer
