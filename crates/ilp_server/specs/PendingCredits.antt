-- A settlement or a correction that is booked, and is to be answered behind the journal that has its entry, as contracts see it.
use Rattle.std.specs.Prelude.{ℕ, Result, Ok, Err}
use Rattle.ilp_oer.specs.Octets.{OctetsWithRoom}
use Rattle.ilp_keeping.specs.declared.keeper.NotKept.{NotKept}
use Rattle.ilp_workers.specs.declared.crediting.NotCredited.TheVariants as not_credited
use Rattle.ilp_workers.specs.Crediting.{PlainBookedCredit}
use Rattle.ilp_server.specs.declared.handled.ToldChange.{ToldChange}
use Rattle.ilp_server.specs.declared.unserved.NotServed.{NotServed}
use Rattle.ilp_server.specs.declared.unserved.NotServed.TheVariants as unserved
use Rattle.ilp_server.specs.declared.served.Served.{Served}
use Rattle.ilp_server.specs.declared.served.Served.TheVariants.{Booked}

-- a credit that is booked, of which peer, as what it was told, and what is answered where it is kept
pub record PlainPendingCredit : Type 0 where
  pub booked : PlainBookedCredit
  pub peer : ℕ
  pub told : ToldChange
  pub text : OctetsWithRoom

abbrev pub pending_credit : PlainBookedCredit → ℕ → ToldChange → OctetsWithRoom → PlainPendingCredit
pending_credit booked peer told text = record { booked = booked; peer = peer; told = told; text = text }

-- what becomes of it where the keeper says that it keeps the journal which has it, and where it doesn't
abbrev pub kept_outcome : PlainPendingCredit → Result Served NotServed
kept_outcome c = Ok (Booked c.peer c.booked.credit c.text)

abbrev pub unkept_outcome : PlainPendingCredit → Result Served NotServed
unkept_outcome c = Err (unserved.Credit c.peer c.told (not_credited.NotKept c.booked.credit))

-- by what the keeper says
abbrev pub outcome_of : PlainPendingCredit → Result (Unit {0}) NotKept → Result Served NotServed
outcome_of c (Ok x) = kept_outcome c
outcome_of c (Err fault) = unkept_outcome c
