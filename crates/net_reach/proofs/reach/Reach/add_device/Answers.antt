use Rattle.net_rows.proofs.WordLemmas.{on_ok_then}
use Rattle.net_reach.proofs.DeviceLemmas.{device_comes, devices_stay, on_err_then}
use Rattle.net_reach.proofs.reach.Reach.add_device.Goals as goal

pub returns-clause-ok : goal.returns-clause-ok
returns-clause-ok c = λ inputs device is at. on_ok_then c.note_device.result (device_comes inputs c.args.self.now c.note_device.new.devices c.args.name.now device c.args.place is at) c.note_device.ensures.ok

pub returns-clause-err : goal.returns-clause-err
returns-clause-err c = λ inputs is. on_err_then c.note_device.result (devices_stay inputs c.args.self.now c.note_device.new.devices is) c.note_device.ensures.err
