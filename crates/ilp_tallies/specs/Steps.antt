-- What each kind of entry adds: to the rows of two peers and of the assets that they have, and to the counts.
use Rattle.std.specs.Prelude.{ℕ, ℤ, ◌≤◌, nat_le, length, Option, unwrap_or, option_map, if◌then◌else◌}
use Rattle.ilp_journal.specs.declared.entry.What.{What}
use Rattle.ilp_journal.specs.declared.entry.What.TheVariants as what
use Rattle.ilp_journal.specs.declared.entry.Hold.{Hold}
use Rattle.ilp_journal.specs.declared.entry.Ask.{Ask}
use Rattle.ilp_journal.specs.declared.entry.Credited.{Credited}
use Rattle.ilp_journal.specs.Journal.{Entries, hold_at, ask_at}
use Rattle.ilp_journal.specs.Credits.{raising, lowering}
use Rattle.ilp_journal.specs.Balance.{above, below}
use Rattle.ilp_tallies.specs.declared.step.Step.{Step}
use Rattle.ilp_tallies.specs.Rows.{zero_peer, zero_asset, peer_plus, asset_plus, FitsPeer, FitsAsset}

-- nothing, for a peer
abbrev pub no_step : ℕ → Step
no_step peer = record {
  from = peer;
  to = peer;
  from_row = zero_peer;
  to_row = zero_peer;
  from_sums = zero_asset;
  to_sums = zero_asset;
  opened = 0;
  closed = 0;
  fulfilled = 0;
}

-- the amount, if the number is base or greater; else 0
abbrev pub counted : ℕ → ℕ → ℕ → ℕ
counted base n amount = if nat_le base n then amount else 0

-- the hold n lowers the balance of its sender
abbrev pub hold_step : ℕ → ℕ → Hold → Step
hold_step base n h = record (no_step h.from) {
  to = h.to;
  from_row = record zero_peer { lowered = h.amount; sent = 1 };
  from_sums = record zero_asset { begun = h.amount; in_begun = counted base n h.amount };
  to_sums = record zero_asset { out_begun = counted base n h.out };
  opened = 1;
}

-- a hold that is fulfilled raises the balance of its receiver by the amount out
abbrev pub fulfill_step : Hold → Step
fulfill_step h = record (no_step h.from) {
  to = h.to;
  from_row = record zero_peer { answered = 1 };
  to_row = record zero_peer { raised = h.out };
  from_sums = record zero_asset { ended = h.amount; taken = h.amount; fees = h.fee };
  to_sums = record zero_asset { sold = h.out };
  closed = 1;
  fulfilled = 1;
}

-- the hold n, where it is released, raises the balance of its sender by the amount that it took
abbrev pub release_step : ℕ → ℕ → Hold → Step
release_step base n h = record (no_step h.from) {
  to = h.to;
  from_row = record zero_peer { raised = h.amount; answered = 1 };
  from_sums = record zero_asset { ended = h.amount; in_released = counted base n h.amount };
  to_sums = record zero_asset { out_released = counted base n h.out };
  closed = 1;
}

-- an amount that is paid in raises the balance of its peer
abbrev pub paid_in : ℕ → ℕ → Step
paid_in peer amount = record (no_step peer) {
  from_row = record zero_peer { raised = amount };
  from_sums = record zero_asset { paid_in = amount };
}

-- a credit raises the balance of its peer, and a correction raises or lowers it
abbrev pub credit_step : Credited → Step
credit_step c = record (no_step c.peer) {
  from_row = record zero_peer { raised = raising c.kind c.credited; lowered = lowering c.kind c.credited };
  from_sums = record zero_asset { paid_in = raising c.kind c.credited; paid_out = lowering c.kind c.credited };
}

-- a settlement that is asked for lowers the balance of its peer
abbrev pub ask_step : Ask → Step
ask_step a = record (no_step a.peer) {
  from_row = record zero_peer { lowered = a.amount };
  from_sums = record zero_asset { paid_out = a.amount };
  opened = 1;
}

-- a settlement that is confirmed changes no balance
abbrev pub confirm_step : Ask → Step
confirm_step a = record (no_step a.peer) { closed = 1 }

-- a settlement that is undone raises the balance of its peer by the amount that it took
abbrev pub undo_step : Ask → Step
undo_step a = record (paid_in a.peer a.amount) { closed = 1 }

-- a balance that is brought forward raises or lowers the balance of its peer
abbrev pub open_step : ℕ → ℤ → Step
open_step peer balance = record (no_step peer) {
  from_row = record zero_peer { raised = above balance; lowered = below balance };
  from_sums = record zero_asset { paid_in = above balance; paid_out = below balance };
}

-- a settlement that is still open changes no balance
abbrev pub pending_step : ℕ → Step
pending_step peer = record (no_step peer) { opened = 1 }

-- the step that was found; where there is none, a step that adds nothing
abbrev pub or_nothing : Option Step → Step
or_nothing o = unwrap_or o (no_step 0)

-- what an entry adds that comes next in the journal
abbrev pub step_of : ℕ → Entries → What → Step
step_of base j (what.Hold h) = hold_step base (length j) h
step_of base j (what.Fulfilled hold preimage) = or_nothing (option_map fulfill_step (hold_at j hold))
step_of base j (what.Released hold cause) = or_nothing (option_map (release_step base hold) (hold_at j hold))
step_of base j (what.Credited c) = credit_step c
step_of base j (what.Asked a) = ask_step a
step_of base j (what.Confirmed ask) = or_nothing (option_map confirm_step (ask_at j ask))
step_of base j (what.Undone ask) = or_nothing (option_map undo_step (ask_at j ask))
step_of base j (what.Opened peer balance) = open_step peer balance
step_of base j (what.Known c) = no_step c.peer
step_of base j (what.Pending peer amount key) = pending_step peer

-- the step of one entry adds to each number at most an amount of 64 bits, and to each count at most 1
pub record FitsStep (s : Step) : Type 0 where
  pub peers : FitsPeer 1 (peer_plus s.from_row s.to_row)
  pub sums : FitsAsset 1 (asset_plus s.from_sums s.to_sums)
  pub opened : s.opened ≤ 1
  pub closed : s.closed ≤ 1
  pub fulfilled : s.fulfilled ≤ 1
