use Rattle.ilp_journal_file.proofs.Lasting.{lasts_as}
use Rattle.ilp_journal_file.proofs.log_device.LogDeviceDevice.take_place.Goals as goal

pub returns-in-Ok-clause-time : goal.returns-in-Ok-clause-time
returns-in-Ok-clause-time g c claims =
    let files = g.R.PlacesFiles in
    lasts_as files.may_leave files.moment files.left_since c.args.self.now.place.sync c.take_name.new.self.place.sync c.args.self.now.file.file c.take_name.new.self.file.file
    (c.take_name.ensures.time claims) c.take_name.ensures.sync

pub returns-in-Err-clause-time : goal.returns-in-Err-clause-time
returns-in-Err-clause-time g c claims =
    let files = g.R.PlacesFiles in
    lasts_as files.may_leave files.moment files.left_since c.args.self.now.place.sync c.take_name.new.self.place.sync c.args.self.now.file.file c.take_name.new.self.file.file
    (c.take_name.ensures.time claims) c.take_name.ensures.sync
