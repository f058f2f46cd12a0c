use Rattle.std.proofs.Common.{◌≡◌, ◌∙◌, ℕ, length, sym, true, IfSome, subst, Option}
use Rattle.ilp_journal_file.specs.declared.given.GivenFile.{GivenFile}
use Rattle.ilp_journal_file.proofs.Growing.{length_behind}
use Rattle.ilp_journal_file.proofs.log_device.LogDevice.add_anew.Goals as goal

-- the new file is whole again, with so many octets more
pub invariant_of-self-2 : goal.invariant_of-self-2
invariant_of-self-2 g c = record {
  sound = c.args.self.now.sound;
  whole = λ claims.
      let files = g.R.PlacesFiles in
      let was = subst (λ (o : Option (GivenFile g.row.F.Denot)). IfSome o (λ (a : GivenFile g.row.F.Denot). (files.is_sound a.file ≡ true) × (length (files.seen a.file) ≡ a.len)))
      (sym c.in-Some.ensures.value) (c.args.self.now.whole claims) in (
        c.in_ok-put.ensures.sound claims ∙ was.0,
        length_behind c.in-Some.file.len c.args.octets.now (files.seen c.in-Some.file.file) (files.seen c.put.new.self.file) was.1 (c.in_ok-put.ensures.written claims)
            ∙ sym c.in_ok-put.ensures.len,
      );
}
